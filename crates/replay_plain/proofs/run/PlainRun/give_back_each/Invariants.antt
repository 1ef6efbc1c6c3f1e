use Rattle.std.proofs.Common.{◌≤◌, ℕ, vec_len, map, take}
use Rattle.machine.specs.declared.event.Event.TheVariants as event
use Rattle.replay_plain.specs.State.{ReplayState, after_events}
use Rattle.replay_plain.specs.Run.{RunStandsFor}
use Rattle.replay_plain.proofs.run.PlainRun.give_back_each.Given as goal

abbrev pub invariant-loop-id : goal.invariant-loop-id
invariant-loop-id l =
    ((first : ReplayState) → RunStandsFor l.fn.self first
    → RunStandsFor l.self (after_events first (map (λ (id : ℕ). event.Back id) (take l.id-index l.ids))))
    × (vec_len l.fn.self.entries ≤ vec_len l.self.entries)
