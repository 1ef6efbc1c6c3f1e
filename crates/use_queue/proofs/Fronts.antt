-- What keeps a queue to its live entries.
use Rattle.std.proofs.Common.{◌≡◌, ◌≢◌, ℕ, ◌<◌, List, ◌∷◌, length, inl, inr, sym, ap, ap₂, ◌∙◌, subst, arith}
use Rattle.std.specs.List.{Contains}
use Rattle.std.specs.List.Sorted.{IsPermutation}
use Rattle.std.proofs.lemmas.Bool.{cases_eq}
use Rattle.std.proofs.lemmas.List.Sorted.{Contains-permutation, length_permutation}
use Rattle.std.proofs.lemmas.Map.Made.{Contains-tail}
use Rattle.use_queue.specs.Entries.{IsFirst, DropsFirst, HoldsEach, HoldsOthers, HasDeadFront, IsOnlyUse}
use Rattle.use_queue.proofs.Firsts.{head_in, later_in}

-- a dead entry leaves
pub each_dropped : (Live : ℕ × ℕ → Type 0) (old new : List (ℕ × ℕ)) → HasDeadFront Live old → DropsFirst old new → HoldsEach Live old → HoldsEach Live new
each_dropped Live old new dead drops each k live =
    Contains-tail drops.entry new k
    (λ same. dead.dead drops.entry drops.first (subst Live (sym same) live))
    (Contains-permutation old (drops.entry ∷ new) k drops.rest (each k live))

pub shorter : (old new : List (ℕ × ℕ)) → DropsFirst old new → length new < length old
shorter old new drops = let long : length (drops.entry ∷ new) ≡ length old = length_permutation old (drops.entry ∷ new) drops.rest in omega (arith, long)

-- an entry of this number leaves
pub others_dropped : (id : ℕ) (old new : List (ℕ × ℕ)) → ((k : ℕ × ℕ) → IsFirst k old → k.1 ≡ id) → DropsFirst old new → (k : ℕ × ℕ) → Contains old k → k.1 ≢ id → Contains new k
others_dropped id old new first drops k there other =
    Contains-tail drops.entry new k
    (λ same. other (ap (λ (o : ℕ × ℕ). o.1) (sym same) ∙ first drops.entry drops.first))
    (Contains-permutation old (drops.entry ∷ new) k drops.rest there)

-- the entry of this number comes
pub each_entered : (id known : ℕ) (Live : ℕ × ℕ → Type 0) (old new : List (ℕ × ℕ)) → HoldsOthers id Live old → IsOnlyUse id known Live → IsPermutation ((known, id) ∷ old) new → HoldsEach Live new
each_entered id known Live old new others only moved k live =
    Contains-permutation ((known, id) ∷ old) new k moved (elim (cases_eq k.1 id) [
      | inl number ↦ subst (λ (o : ℕ × ℕ). Contains ((known, id) ∷ old) o) (sym (ap₂ (λ (a b : ℕ). (a, b)) (only k live number) number)) (head_in (known, id) old)
      | inr other ↦ later_in (known, id) k old (others k live other)
    ])
