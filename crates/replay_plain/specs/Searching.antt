-- What a search for pages makes of a run.
use Rattle.std.specs.Prelude.{◌≡◌, ℕ, true, Option, Some, None}
use Rattle.span_heap.specs.declared.run.Run.{Run}
use Rattle.span_heap.specs.Runs.{front_of}
use Rattle.script_heaps.specs.Holding.{has}
use Rattle.replay_plain.specs.declared.run.PlainRun.{PlainRun}
use Rattle.replay_plain.specs.State.{ReplayState}
use Rattle.replay_plain.specs.Pieces.{holding_of, picked, find, with_found, after_pick}
use Rattle.replay_plain.specs.Run.{RunStandsFor}

-- No run was picked, and nothing changed; or the first n pages of the run that was picked, which lies in a
-- segment of the client's, are the next piece.
abbrev pub Picks : PlainRun → ReplayState → ℕ → ℕ → Option Run → Option Run → Type 0
Picks run state client n None found = (found ≡ None) × RunStandsFor run state
Picks run state client n (Some r) found =
    (found ≡ Some (front_of r n)) × RunStandsFor run (after_pick state client r n)
    × (has (holding_of state client) r.segment ≡ true)

-- the same, by what a search for n pages picks
abbrev pub PicksNext : PlainRun → ReplayState → ℕ → ℕ → Option Run → Type 0
PicksNext run state client n found = Picks run state client n (picked state client n) found

-- a search came to these pages, which are the next piece, or to none
pub record Finds (plain : PlainRun) (state : ReplayState) (client n : ℕ) (found : Option Run) : Type 0 where
  pub is : found ≡ (find state client n).run
  pub stands : RunStandsFor plain (with_found (find state client n).run (find state client n).state client)
