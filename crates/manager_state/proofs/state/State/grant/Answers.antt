use Rattle.std.proofs.Common.{◌∙◌, sym, inl, inr, subst}
use Rattle.std.proofs.lemmas.Result.{IfOk-weaker, on_err_weaker}
use Rattle.manager_state.specs.Managed.{Managed, managed}
use Rattle.manager_state.specs.Calls.{MakesRoom}
use Rattle.manager_state.proofs.Rooms.{on_err}
use Rattle.manager_state.proofs.state.State.grant.Goals as goal

pub returns-in_err-grow-clause-err : goal.returns-in_err-grow-clause-err
returns-in_err-grow-clause-err c =
    on_err c.from_residual.result (inl (c.in_err-grow.ensures.same c.self.inside.limit ∙ c.self.view_is))

pub returns-clause-ok : goal.returns-clause-ok
returns-clause-ok c =
    let between : Managed = managed c.self.inside.limit c.fit.new.self.book c.fit.new.self.order c.fit.new.self.pool in
    let start = c.in_ok-grow.ensures.same c.self.inside.limit ∙ c.self.view_is in
    let room = subst (λ (m : Managed). MakesRoom c.args.pages c.args.now m between) start c.fit.ensures.makes in
    IfOk-weaker c.enter_from_pool.result _ _ (λ side entered. record { between = between; room = room; enters = entered }) c.enter_from_pool.ensures.ok

pub returns-clause-err : goal.returns-clause-err
returns-clause-err c =
    let between : Managed = managed c.self.inside.limit c.fit.new.self.book c.fit.new.self.order c.fit.new.self.pool in
    let start = c.in_ok-grow.ensures.same c.self.inside.limit ∙ c.self.view_is in
    let room = subst (λ (m : Managed). MakesRoom c.args.pages c.args.now m between) start c.fit.ensures.makes in
    on_err_weaker c.enter_from_pool.result (λ same. inr (subst (λ (m : Managed). MakesRoom c.args.pages c.args.now c.args.self.now m) (sym same) room)) c.enter_from_pool.ensures.err
