use Rattle.std.proofs.lemmas.Result.{IfOk-weaker, on_err_weaker}
use Rattle.manager_state.proofs.state.State.enforce.Goals as goal

pub returns-clause-ok : goal.returns-clause-ok
returns-clause-ok c = rw (← c.self.view_is) (IfOk-weaker c.reduce_to.result _ _ (λ reduced told. told c.self.inside.limit) c.reduce_to.ensures.ok)

pub returns-clause-err : goal.returns-clause-err
returns-clause-err c = rw (← c.self.view_is) (on_err_weaker c.reduce_to.result (λ same. same c.self.inside.limit) c.reduce_to.ensures.err)
