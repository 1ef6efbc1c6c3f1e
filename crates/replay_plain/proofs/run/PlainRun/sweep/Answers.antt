use Rattle.std.proofs.Common.{◌∙◌}
use Rattle.replay_plain.proofs.Allocating.{sweep_stands}
use Rattle.replay_plain.proofs.run.PlainRun.sweep.Goals as goal

pub returns-clause-state : goal.returns-clause-state
returns-clause-state c = λ state w. sweep_stands _ _ state c.args.client _ (c.deref.ensures.value ∙ c.in_ok-ids.ensures state w) w c.in_ok-lose_all.ensures
