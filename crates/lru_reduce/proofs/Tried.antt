-- What a try of a slot answers, by its outcome.
use Rattle.std.proofs.Common.{◌≡◌, ℕ, List, Result, Ok, Err, IfOk, IfErr, subst}
use Rattle.segment.specs.Warded.{Warded}
use Rattle.lru_reduce.specs.Turns.{Wins, Loses}
use Rattle.lru_reduce.specs.Slots.{SlotWins, SlotLoses}
use Rattle.lru_reduce.specs.declared.slots.Slot.{Slot}
use Rattle.lru_reduce.specs.declared.slots.Won.{Won}

pub tried_won : (r : Result Won ℕ) (w : Won) (old new : Slot) → r ≡ Ok w → IfOk r (λ (o : Won). SlotWins o.pages o.known o.block old new) → SlotWins w.pages w.known w.block old new
tried_won r w old new is wins = subst (λ (o : Result Won ℕ). IfOk o (λ (v : Won). SlotWins v.pages v.known v.block old new)) is wins

pub tried_lost : (now : ℕ) (r : Result Won ℕ) (known : ℕ) (old new : Slot) → r ≡ Err known → IfErr r (λ (k : ℕ). SlotLoses now k old new) → SlotLoses now known old new
tried_lost now r known old new is loses = subst (λ (o : Result Won ℕ). IfErr o (λ (k : ℕ). SlotLoses now k old new)) is loses

pub number_won : (id now : ℕ) (r : Result Won ℕ) (w : Won) (old new : List Warded) → r ≡ Ok w → IfOk r (λ (o : Won). Wins id now o.pages o.known o.block old new) → Wins id now w.pages w.known w.block old new
number_won id now r w old new is wins = subst (λ (o : Result Won ℕ). IfOk o (λ (v : Won). Wins id now v.pages v.known v.block old new)) is wins

pub number_lost : (id now : ℕ) (r : Result Won ℕ) (known : ℕ) (old new : List Warded) → r ≡ Err known → IfErr r (λ (k : ℕ). Loses id now k old new) → Loses id now known old new
number_lost id now r known old new is loses = subst (λ (o : Result Won ℕ). IfErr o (λ (k : ℕ). Loses id now k old new)) is loses
