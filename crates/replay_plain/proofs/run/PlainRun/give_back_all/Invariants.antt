use Rattle.std.proofs.Common.{◌≤◌, vec_len}
use Rattle.replay_plain.specs.State.{ReplayState}
use Rattle.replay_plain.specs.Run.{RunStandsFor}
use Rattle.replay_plain.proofs.Returns.{ReturnsLeft}
use Rattle.replay_plain.proofs.run.PlainRun.give_back_all.Given as goal

abbrev pub invariant-loop-id : goal.invariant-loop-id
invariant-loop-id l =
    ((first : ReplayState) → RunStandsFor l.fn.self first → ReturnsLeft l.client first l.self l.id)
    × (vec_len l.fn.self.entries ≤ vec_len l.self.entries)
