-- The bytes of a range lie in its pages.
use Rattle.std.proofs.Common.{◌≡◌, ℕ, ◌+◌, ◌-◌, ◌*◌, ◌/◌, ◌<◌, ◌≤◌, Bool, true, false, List, length, get_or, refl, sym, ap, ◌∙◌, ⊎_elim, arith}
use Rattle.std.proofs.lemmas.Bool.{cases_lt}
use Rattle.std.proofs.lemmas.List.{get_or_past}
use Rattle.units.specs.declared.TheConstants.{PAGE}
use Rattle.machine.specs.History.{History, is_held}
use Rattle.machine.specs.Answers.{is_plain, bytes_held}
use Rattle.machine.specs.KeptSegment.{KeptSegment}
use Rattle.machine.specs.Segments.{Shows}
use Rattle.units.proofs.Ranges.{all_pass, one_fails}

-- a range whose last byte lies past the end of the segment
pub bytes_past : (h : History) (s place count : ℕ) (kept : KeptSegment) → Shows h s kept → is_plain h s ≡ true → 0 < count → length kept.held ≤ (place + (count - 1)) / PAGE → bytes_held h s place count ≡ false
bytes_past h s place count kept w plain some far =
    one_fails (λ byte. is_held h s (byte / PAGE)) place count (place + (count - 1)) (omega arith) (omega arith)
    (sym (w.held plain ((place + (count - 1)) / PAGE)) ∙ get_or_past kept.held ((place + (count - 1)) / PAGE) false far)

-- a byte of a page of the range
byte_of : (place last page : ℕ) → place / PAGE ≤ page → page < last / PAGE + 1 → place ≤ last → (byte : ℕ) × (place ≤ byte) × (byte < last + 1) × (byte / PAGE ≡ page)
byte_of place last page low high some =
    ⊎_elim (λ inner. (page * PAGE, omega arith, omega arith, omega arith)) (λ outer. (place, omega arith, omega arith, omega arith)) (cases_lt place (page * PAGE))

-- what the flags tell of the pages holds of the bytes
pub bytes_told : (h : History) (s place count last : ℕ) (flags : List Bool) (r : Bool) → ((page : ℕ) → get_or flags page false ≡ is_held h s page) → 0 < count → last ≡ place + (count - 1)
    → (r ≡ true → (page : ℕ) → place / PAGE ≤ page → page < last / PAGE + 1 → get_or flags page false ≡ true)
    → (r ≡ false → (page : ℕ) × (place / PAGE ≤ page) × (page < last / PAGE + 1) × (get_or flags page false ≡ false))
    → r ≡ bytes_held h s place count
bytes_told h s place count last flags true told some is all other =
    sym (all_pass (λ byte. is_held h s (byte / PAGE)) place count (λ byte low high. sym (told (byte / PAGE)) ∙ all refl (byte / PAGE) (omega arith) (omega arith)))
bytes_told h s place count last flags false told some is all other =
    let found = other refl in
    let byte = byte_of place last found.0 found.1 found.2 (omega arith) in
    sym (one_fails (λ b. is_held h s (b / PAGE)) place count byte.0 byte.1 (omega (arith, byte.2)) (ap (λ p. is_held h s p) byte.3 ∙ sym (told found.0) ∙ found.3))
