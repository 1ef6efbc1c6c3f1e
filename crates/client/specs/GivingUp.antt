-- Segments that are given up: which of them are found gone.
use Rattle.std.specs.Prelude.{◌≡◌, ◌⊎◌, ℕ, ◌+◌, List, length, All, Any, Contains}
use Rattle.segment.specs.Owned.{Owned}
use Rattle.segment.specs.Ends.{GivesUp}
use Rattle.segment.specs.Found.{GivingFinds}
use Rattle.segment.specs.declared.giving.GiveUp.TheVariants as end
use Rattle.client.specs.Gone.{kept_sides, AreOnce}
use Rattle.client.specs.Lease.{Lease}
use Rattle.client.specs.Seen.{Seen}

-- the side was given up, and gave its block: where it was idle, its lock step found the word of its last unlock
abbrev pub GaveBlock : Owned → Type 0
GaveBlock side = (block : List ℕ) × GivesUp side.phase side (end.Whole block) × GivingFinds side.phase side (end.Whole block)

-- the side was given up, and is gone as this one: where it was idle, its lock step found the purged word
abbrev pub GoesGone : Owned → Owned → Type 0
GoesGone side gone = GivesUp side.phase side (end.Gone gone) × GivingFinds side.phase side (end.Gone gone)

-- the side was given up, and gave its block, or is gone as one of these sides
abbrev pub CameBack : List Owned → Owned → Type 0
CameBack found side = GaveBlock side ⊎ ((gone : Owned) × GoesGone side gone × Contains found gone)

-- each of these segments was given up: it gave its block, or is gone as one of these sides
abbrev pub AreGivenUp : List Lease → List Owned → Type 0
AreGivenUp leases found = All (λ (lease : Lease). CameBack found lease.side) leases

-- each of these sides is gone as one of these segments was given up
abbrev pub AreFrom : List Lease → List Owned → Type 0
AreFrom leases found = All (λ side. Any (λ (lease : Lease). GoesGone lease.side side) leases) found

-- The gone sides of a client once these segments were given up: those that it had, and those that were found gone now, which are told;
-- each once, and no other.
pub record FindsGone (left : List Lease) (old : Seen) (gone : List Owned) : Type 0 where
  pub found : List Owned
  pub sides : gone ≡ kept_sides found old.told old.gone
  pub given : AreGivenUp left found
  pub from : AreFrom left found
  pub once : AreOnce gone

-- each side that is gone now and was not before is told, and the others are as they were; as many sides are out
pub record KeepsUntold (old new : Seen) : Type 0 where
  pub told : new.told + length old.gone ≡ old.told + length new.gone
  pub taken : new.taken ≡ old.taken
