-- What a reduction tells of its end.
use Rattle.std.proofs.Common.{◌≡◌, ℕ, List, Bool, ◌||◌, nat_le, Option, Some, None, Result, Ok, Err, refl, sym, ap, subst, ◌∙◌}
use Rattle.std.specs.Prelude.{IfOk, option_map}
use Rattle.machine.specs.Reduction.{Candidate, use_of, is_late, least}
use Rattle.segment.specs.Warded.{Warded}
use Rattle.lru_reduce.specs.Wards.{candidates_of, total_pages}
use Rattle.lru_reduce.specs.Reducing.{TellsEnd}
use Rattle.lru_reduce.specs.declared.reduction.Reduced.{Reduced}
use Rattle.manager_state.specs.Managed.{Managed}
use Rattle.manager_state.specs.Calls.{Reduces}
use Rattle.manager.specs.Ends.{is_late_use, HasEnded}

late_same : (now : ℕ) (o : Option Candidate) → is_late now o ≡ is_late_use now (option_map use_of o)
late_same now None = refl
late_same now (Some c) = refl

ended : (limit now : ℕ) (told : Reduced) (sides : List Warded) → TellsEnd limit now told.after told.least sides → HasEnded limit now told
ended limit now told sides e =
    ap (λ (n : ℕ). nat_le n limit || is_late_use now told.least) e.pages
    ∙ ap (λ (o : Option ℕ). nat_le (total_pages sides) limit || is_late_use now o) e.known
    ∙ ap (λ (b : Bool). nat_le (total_pages sides) limit || b) (sym (late_same now (least (candidates_of sides)))) ∙ e.ended

pub told_ended : (to limit now : ℕ) (told : Reduced) (old new : Managed) → to ≡ limit → Reduces to now told old new → HasEnded limit now told
told_ended to limit now told old new e r = ap (λ (n : ℕ). nat_le told.after n || is_late_use now told.least) (sym e) ∙ ended to now told new.sides r.ends

pub result_ended : {E : Type 0} (to limit now : ℕ) (result : Result Reduced E) (old new : Managed) → to ≡ limit → IfOk result (λ told. Reduces to now told old new) → IfOk result (λ told. HasEnded limit now told)
result_ended to limit now (Ok told) old new e r = told_ended to limit now told old new e r
result_ended to limit now (Err error) old new e r = tt

-- a reduction to the state's limit is one to the manager's
pub result_reduces : {E : Type 0} (to limit now : ℕ) (result : Result Reduced E) (old new : Managed) → to ≡ limit → IfOk result (λ told. Reduces to now told old new)
    → IfOk result (λ told. Reduces limit now told old new)
result_reduces to limit now result old new e h = subst (λ (n : ℕ). IfOk result (λ told. Reduces n now told old new)) e h
