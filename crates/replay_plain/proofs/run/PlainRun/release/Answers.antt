use Rattle.std.proofs.Common.{◌∙◌}
use Rattle.replay_plain.proofs.Allocating.{on_ok}
use Rattle.replay_plain.proofs.run.PlainRun.release.Goals as goal

pub returns-clause-state : goal.returns-clause-state
returns-clause-state c =
    on_ok c.push_released.result
    (λ state w. c.in_ok-release_each.ensures.state state w (c.deref.ensures.value ∙ c.in_ok-ids.ensures state.heaps w.heaps))
