-- What a side that is given up becomes.
use Rattle.std.specs.Prelude.{◌≡◌, ◌+◌}
use Rattle.segment.specs.Owned.{Owned}
use Rattle.segment.specs.declared.owner.Phase.{Phase}
use Rattle.segment.specs.declared.owner.Phase.TheVariants.{Held, Idle, Gone}
use Rattle.segment.specs.declared.giving.GiveUp.{GiveUp}
use Rattle.segment.specs.declared.giving.GiveUp.TheVariants as end

-- A side that holds gives its block with its bytes. An idle one makes one lock step: it gives the block with the bytes left, or it
-- found the segment purged and is gone. A side that is gone is as before.
abbrev pub GivesUp : Phase → Owned → GiveUp → Type 0
GivesUp Held old (end.Whole b) = b ≡ old.bytes
GivesUp Held old (end.Gone side) = ⊥
GivesUp Idle old (end.Whole b) = b ≡ old.left
GivesUp Idle old (end.Gone side) = side ≡ record old { phase = Gone; steps = old.steps + 1 }
GivesUp Gone old (end.Whole b) = ⊥
GivesUp Gone old (end.Gone side) = side ≡ old
