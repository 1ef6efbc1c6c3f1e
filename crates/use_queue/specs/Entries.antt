-- The entries of a queue of known uses: what they are, and how they stand for the live ones.
use Rattle.std.specs.Prelude.{◌≡◌, ◌≢◌, ◌⊎◌, ℕ, ◌<◌, ◌≤◌, List, ◌∷◌, length, map, All}
use Rattle.std.specs.List.{Contains}
use Rattle.std.specs.List.Sorted.{IsPermutation}
use Rattle.std.specs.Ordering.{nat_cmp, ordering_then}
use Rattle.std.specs.declared.cmp.Ordering.{Ordering}
use Rattle.std.specs.declared.cmp.Reverse.{Reverse}
use Rattle.machine.specs.Reduction.{Candidate, use_of}

-- what is seen of a queue: its entries, each a known use and a number, in any order, and how many it has room for
pub record Queued : Type 0 where
  pub entries : List (ℕ × ℕ)
  pub room : ℕ

-- the order of std's heap, which gives the greatest first, turned round
abbrev pub cmp_entries : Reverse (ℕ × ℕ) → Reverse (ℕ × ℕ) → Ordering
cmp_entries x y = ordering_then (nat_cmp y.0.0 x.0.0) (nat_cmp y.0.1 x.0.1)

-- the entries in std's heap
abbrev pub pairs : List (Reverse (ℕ × ℕ)) → List (ℕ × ℕ)
pairs items = map (λ (r : Reverse (ℕ × ℕ)). r.0) items

-- an entry is the other one or comes before it: by known use, and then by number
abbrev pub GoesFirst : ℕ × ℕ → ℕ × ℕ → Type 0
GoesFirst a b = (a.0 < b.0) ⊎ ((a.0 ≡ b.0) × (a.1 ≤ b.1))

-- this entry stands at the front
abbrev pub IsFirst : ℕ × ℕ → List (ℕ × ℕ) → Type 0
IsFirst k entries = Contains entries k × All (GoesFirst k) entries

-- the entry of a segment as a reduction sees it: its known use, where none counts as 0, and its number
abbrev pub entry_of : Candidate → ℕ × ℕ
entry_of c = (use_of c, c.id)

-- the entry at the front leaves
pub record DropsFirst (old new : List (ℕ × ℕ)) : Type 0 where
  pub entry : ℕ × ℕ
  pub first : IsFirst entry old
  pub rest : IsPermutation old (entry ∷ new)

-- each live entry is there
abbrev pub HoldsEach : (ℕ × ℕ → Type 0) → List (ℕ × ℕ) → Type 0
HoldsEach Live entries = (k : ℕ × ℕ) → Live k → Contains entries k

-- each live entry is there, maybe but for that of this number
abbrev pub HoldsOthers : ℕ → (ℕ × ℕ → Type 0) → List (ℕ × ℕ) → Type 0
HoldsOthers id Live entries = (k : ℕ × ℕ) → Live k → k.1 ≢ id → Contains entries k

-- a live entry of this number has this known use
abbrev pub IsOnlyUse : ℕ → ℕ → (ℕ × ℕ → Type 0) → Type 0
IsOnlyUse id known Live = (k : ℕ × ℕ) → Live k → k.1 ≡ id → k.0 ≡ known

-- what stands at the front is live
abbrev pub HasLiveFront : (ℕ × ℕ → Type 0) → List (ℕ × ℕ) → Type 0
HasLiveFront Live entries = (k : ℕ × ℕ) → IsFirst k entries → Live k

-- something stands at the front, and it is dead
pub record HasDeadFront (Live : ℕ × ℕ → Type 0) (entries : List (ℕ × ℕ)) : Type 0 where
  pub some : 0 < length entries
  pub dead : (k : ℕ × ℕ) → IsFirst k entries → Live k → ⊥

-- each live entry is there, and what stands at the front is one of them
pub record IsSoundQueue (Live : ℕ × ℕ → Type 0) (entries : List (ℕ × ℕ)) : Type 0 where
  pub each : HoldsEach Live entries
  pub front : HasLiveFront Live entries
