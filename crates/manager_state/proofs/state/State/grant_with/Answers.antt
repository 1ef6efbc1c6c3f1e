use Rattle.std.proofs.Common.{◌∙◌, sym, inl, inr, subst}
use Rattle.block_pool.specs.Block.{page_count}
use Rattle.manager_state.specs.Managed.{Managed, managed}
use Rattle.manager_state.specs.Calls.{MakesRoom}
use Rattle.manager_state.proofs.Rooms.{on_err}
use Rattle.manager_state.proofs.state.State.grant_with.Goals as goal

pub returns-in_err-grow-clause-err : goal.returns-in_err-grow-clause-err
returns-in_err-grow-clause-err c = on_err c.from_residual.result (inl (c.in_err-grow.ensures.same c.self.inside.limit ∙ c.self.view_is))

pub returns-clause-ok : goal.returns-clause-ok
returns-clause-ok c =
    let between : Managed = managed c.self.inside.limit c.fit.new.self.book c.fit.new.self.order c.fit.new.self.pool in
    let start = c.in_ok-grow.ensures.same c.self.inside.limit ∙ c.self.view_is in
    let room = subst (λ (m : Managed). MakesRoom c.pages.result c.args.now m between) start c.fit.ensures.makes in
    record { between = between; room = rw c.pages.ensures.value at room; enters = c.enter.ensures }

pub returns-in_err-prepared-clause-err : goal.returns-in_err-prepared-clause-err
returns-in_err-prepared-clause-err c =
    let between : Managed = managed c.self.inside.limit c.fit.new.self.book c.fit.new.self.order c.fit.new.self.pool in
    let start = c.in_ok-grow.ensures.same c.self.inside.limit ∙ c.self.view_is in
    let room = subst (λ (m : Managed). MakesRoom c.pages.result c.args.now m between) start c.fit.ensures.makes in
    on_err c.from_residual-in_err-prepared.result (inr (rw c.pages.ensures.value at room))
