use Rattle.std.proofs.Common.{◌≡◌, ℕ, not, filter, take}
use Rattle.machine.specs.Answers.{live}
use Rattle.script_heaps.specs.Holding.{numbers}
use Rattle.replay_plain.specs.State.{ReplayState}
use Rattle.replay_plain.specs.Pieces.{holding_of}
use Rattle.replay_plain.specs.Run.{RunStandsFor}
use Rattle.replay_plain.proofs.run.PlainRun.purged.Given as goal

abbrev pub invariant-loop-id : goal.invariant-loop-id
invariant-loop-id l =
    (state : ReplayState) → RunStandsFor l.fn.self state
    → l.ids.items ≡ filter (λ (id : ℕ). not (live state.events id)) (take l.id-index (numbers (holding_of state l.client)))
