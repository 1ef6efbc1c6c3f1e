-- The room for a grant.
use Rattle.std.proofs.Common.{◌≡◌, ℕ, ◌+◌, ◌-◌, ◌<◌, ◌==◌, nat_lt, nat_le, Bool, true, false, ◌||◌, List, [], ◌∷◌, ◌++◌, length, map, Option, Some, refl, sym, ap, subst, ◌∙◌, arith, length-append, Result, Ok, Err}
use Rattle.std.specs.List.{slice_get}
use Rattle.std.specs.Result.{OnErr}
use Rattle.std.proofs.Math.Seq.{get_or-append_seam}
use Rattle.std.proofs.lemmas.Bool.Decides.{nat_tests}
use Rattle.std.proofs.lemmas.Option.{slice_get-get_or}
use Rattle.machine.specs.Reduction.{purged_by, tries}
use Rattle.discard_book.specs.Live.{granted}
use Rattle.discard_book.specs.Legal.{room, has_room, last, is_reduced_to}
use Rattle.discard_book.specs.declared.entry.Entry.{Entry}
use Rattle.discard_book.specs.declared.entry.Entry.TheVariants as entry
use Rattle.lru_reduce.specs.Wards.{candidates_of, total_pages}
use Rattle.lru_reduce.specs.Reducing.{purge_of}
use Rattle.lru_reduce.specs.declared.reduction.Reduced.{Reduced}
use Rattle.manager_state.specs.Managed.{Managed}
use Rattle.manager_state.specs.Calls.{Reduces, MakesRoom}

last_is : (entries : List Entry) (e : Entry) → last (entries ++ e ∷ []) ≡ Some e
last_is entries e =
    let long : length (entries ++ e ∷ []) ≡ length entries + 1 = length-append entries (e ∷ []) in
    let place : length (entries ++ e ∷ []) - 1 ≡ length entries = omega (arith, long) in
    ap (λ (n : ℕ). slice_get (entries ++ e ∷ []) n) place ∙ slice_get-get_or (entries ++ e ∷ []) (length entries) e (omega (arith, long)) ∙ ap (λ (x : Entry). Some x) (get_or-append_seam entries e [] e)

or_yes : (a b : Bool) → b ≡ true → (a || b) ≡ true
or_yes true b e = refl
or_yes false b e = e

-- where a reduction to the room was made
pub made : (limit pages now to : ℕ) (told : Reduced) (old new : Managed) → old.limit ≡ limit → to ≡ room limit pages → to < granted old.entries → Reduces to now told old new → MakesRoom pages now old new
made limit pages now to told old new is same above reduces =
    let same_room : to ≡ room old.limit pages = same ∙ ap (λ (l : ℕ). room l pages) (sym is) in
    let yes : nat_lt (room old.limit pages) (granted old.entries) ≡ true = grind (arith, nat_tests, above, same_room) in
    rw yes (told, subst (λ (n : ℕ). Reduces n now told old new) same_room reduces)

-- a reduction to the room was made directly before
pub has_room_after : (limit pages now to : ℕ) (told : Reduced) (old new : Managed) → to ≡ room limit pages → Reduces to now told old new → has_room new.entries (room limit pages) ≡ true
has_room_after limit pages now to told old new same reduces =
    let gone = purged_by (tries now (candidates_of old.sides) reduces.reduces.words) in
    let end : Entry = entry.Reduced to now (total_pages new.sides) told.least in
    let split : new.entries ≡ (old.entries ++ map purge_of gone) ++ end ∷ [] = reduces.reduces.entries in
    let at : last new.entries ≡ Some end = ap last split ∙ last_is (old.entries ++ map purge_of gone) end in
    let yes : (to == room limit pages) ≡ true = grind (arith, nat_tests, same) in
    or_yes (nat_le (granted new.entries) (room limit pages)) (is_reduced_to (room limit pages) (last new.entries)) (ap (λ (o : Option Entry). is_reduced_to (room limit pages) o) at ∙ yes)

-- a fact where there is an error
pub on_err : {T E P : Type 0} (r : Result T E) → P → OnErr r P
on_err (Ok x) p = tt
on_err (Err e) p = p
