-- The numbers of the lines that are kept rise.
use Rattle.std.proofs.Common.{◌≡◌, ℕ, zero, suc, ◌+◌, ◌<◌, ◌≤◌, Bool, true, false, List, [], ◌∷◌, map, get_or, refl, sym, ap, subst, ◌∙◌, arith}
use Rattle.std.specs.List.Sorted.{IsStrictlyIncreasing}
use Rattle.line_text.specs.Lines.{words_of, lines_of, is_kept, kept_from, kept_lines}
use Rattle.script_text.specs.Script.{Commands}
use Rattle.script_text.specs.Grammar.{Spells}

-- numbers from n on, each above the one before it
abbrev RiseFrom : ℕ → List ℕ → Type 0
RiseFrom n [] = Unit {0}
RiseFrom n (x ∷ xs) = (n ≤ x) × RiseFrom (x + 1) xs

lower : (n m : ℕ) (xs : List ℕ) → n ≤ m → RiseFrom m xs → RiseFrom n xs
lower n m [] h r = tt
lower n m (x ∷ xs) h r = (omega (arith, r.0), r.1)

abbrev numbers : List (ℕ × List (List ℕ)) → List ℕ
numbers lines = map (λ line. line.0) lines

one_kept : (t : Bool) (n : ℕ) (line : List ℕ) (lines : List (List ℕ)) → is_kept (words_of line) ≡ t → RiseFrom (n + 1) (numbers (kept_from (n + 1) lines)) → RiseFrom n (numbers (kept_from n (line ∷ lines)))
one_kept true n line lines e r = rw e (omega arith, r)
one_kept false n line lines e r = rw e (lower n (n + 1) (numbers (kept_from (n + 1) lines)) (omega arith) r)

kept_rise : (n : ℕ) (lines : List (List ℕ)) → RiseFrom n (numbers (kept_from n lines))
kept_rise n [] = tt
kept_rise n (line ∷ lines) = one_kept (is_kept (words_of line)) n line lines refl (kept_rise (n + 1) lines)

same_numbers : (lines : List (ℕ × List (List ℕ))) (commands : Commands) → Spells lines commands → map (λ c. c.0) commands ≡ numbers lines
same_numbers [] [] s = refl
same_numbers [] (c ∷ commands) s = absurd s
same_numbers (line ∷ lines) [] s = absurd s
same_numbers (line ∷ lines) (c ∷ commands) s =
    ap (λ (n : ℕ). n ∷ map (λ d. d.0) commands) (sym s.0) ∙ ap (λ (ns : List ℕ). line.0 ∷ ns) (same_numbers lines commands s.2)

increasing : (n : ℕ) (xs : List ℕ) → RiseFrom n xs → IsStrictlyIncreasing xs
increasing n [] r k h = absurd (omega arith)
increasing n (x ∷ []) r k h = absurd (omega arith)
increasing n (x ∷ y ∷ ys) r zero h = omega (arith, r.1.0)
increasing n (x ∷ y ∷ ys) r (suc k) h =
    let next : suc k + 1 ≡ suc (k + 1) = omega arith in
    subst (λ (m : ℕ). get_or (x ∷ y ∷ ys) (suc k) 0 < get_or (x ∷ y ∷ ys) m 0) (sym next) (increasing (x + 1) (y ∷ ys) r.1 k (omega arith))

pub numbers_rise : (text : List ℕ) (commands : Commands) → Spells (kept_lines text) commands → IsStrictlyIncreasing (0 ∷ map (λ c. c.0) commands)
numbers_rise text commands s =
    let rise : RiseFrom 1 (map (λ c. c.0) commands) = subst (RiseFrom 1) (sym (same_numbers (kept_lines text) commands s)) (kept_rise 1 (lines_of text)) in
    increasing 0 (0 ∷ map (λ c. c.0) commands) (omega arith, rise)
