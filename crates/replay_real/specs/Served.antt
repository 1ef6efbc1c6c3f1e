-- What is seen of a client of a script, and what holds of its pieces.
use Rattle.std.specs.Prelude.{◌≡◌, ◌≢◌, ℕ, List, Option, Some, None, IfSome, slice_index_or}
use Rattle.client.specs.Seen.{Seen}
use Rattle.client.specs.Pieces.{Part, Owns}

-- the client, its pieces by place, and how many came before these, all of which went with a removal
pub record ServedClient : Type 0 where
  pub client : Seen
  pub parts : List (Option Part)
  pub before : ℕ

-- the client owns the piece, if it is there
abbrev pub OwnsSlot : Seen → Option Part → Type 0
OwnsSlot client slot = IfSome slot (λ part. Owns client part)

-- the piece at a place, or none
abbrev pub part_at : List (Option Part) → ℕ → Option Part
part_at parts place = slice_index_or parts place None

-- the client owns each piece, and no two have the same pages
pub record IsServed (client : Seen) (parts : List (Option Part)) : Type 0 where
  pub owned : (place : ℕ) → OwnsSlot client (part_at parts place)
  pub once : (one other : ℕ) (a b : Part) → part_at parts one ≡ Some a → part_at parts other ≡ Some b → a.run ≡ b.run → one ≡ other

-- One piece changed, or was given up. It is owned, and has the pages that it had; each piece of other pages that was owned still is.
pub record KeepsSlot (old new : Seen) (was now : Option Part) : Type 0 where
  pub owned : OwnsSlot new now
  pub pages : (part : Part) → now ≡ Some part → (before : Part) × (was ≡ Some before) × (part.run ≡ before.run)
  pub others : (part : Part) → Owns old part → ((before : Part) → was ≡ Some before → part.run ≢ before.run) → Owns new part
