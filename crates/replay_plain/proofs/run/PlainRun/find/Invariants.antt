use Rattle.std.proofs.Common.{◌≡◌, ◌+◌, ◌≤◌, ℕ, vec_len}
use Rattle.replay_plain.specs.State.{ReplayState}
use Rattle.replay_plain.specs.Run.{RunStandsFor}
use Rattle.replay_plain.proofs.Allocating.{FindLeft}
use Rattle.replay_plain.proofs.run.PlainRun.find.Given as goal

abbrev pub invariant-loop : goal.invariant-loop
invariant-loop l =
    ((first : ReplayState) (left : ℕ) → RunStandsFor l.fn.self first → left + l.counter ≡ l.end → FindLeft l.client l.pages first l.self left)
    × (vec_len l.fn.self.entries ≤ vec_len l.self.entries)
