use Rattle.std.proofs.Common.{◌∙◌}
use Rattle.manager_state.proofs.Rooms.{on_err}
use Rattle.manager_state.proofs.state.State.set_limit.Goals as goal

pub returns-in_err-reduced-clause-err : goal.returns-in_err-reduced-clause-err
returns-in_err-reduced-clause-err c = on_err c.from_residual.result (c.in_err-reduced.ensures.err c.self.inside.limit ∙ c.self.view_is)

pub returns-clause-ok : goal.returns-clause-ok
returns-clause-ok c = rw (← c.self.view_is) (c.in_ok-reduced.ensures.ok c.args.limit)
