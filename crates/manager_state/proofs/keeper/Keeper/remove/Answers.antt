use Rattle.std.proofs.Common.{arith}
use Rattle.manager_state.specs.Managed.{managed}
use Rattle.manager_state.proofs.Removing.{removing_first, removing_at, removing_end}
use Rattle.manager_state.proofs.keeper.Keeper.remove.Goals as goal

pub loop-id-init : goal.loop-id-init
loop-id-init c = removing_first c.args.client c.args.self.now.book c.args.self.now.order c.args.self.now.pool c.args.self.now.agrees.live c.entries-entries.ensures.live

pub loop-id-preserved : goal.loop-id-preserved
loop-id-preserved c =
    rw c.from-removed.ensures
    (removing_at c.args.client c.loop-id.last c.in-Some.id c.loop-id.removed c.let_go.result (managed 0 c.args.self.now.book c.args.self.now.order c.args.self.now.pool) c.loop-id.self.book c.let_go.new.self.book
    c.loop-id.self.order c.let_go.new.self.order c.loop-id.self.pool c.let_go.new.self.pool c.loop-id.self.numbers c.loop-id.invariant c.loop-id.self.agrees.live c.loop-id.self.kept
    c.in-Some.ensures.later c.in-Some.ensures.least (c.let_go.ensures.told 0))

pub returns : goal.returns
returns c limit =
    let drawn = c.grants-drawn.ensures.grants in let few = c.grants-drawn.ensures.few in
    removing_end c.args.client c.loop-id.last c.loop-id.removed limit c.args.self.now.book c.loop-id.self.book c.args.self.now.order c.loop-id.self.order c.args.self.now.pool c.loop-id.self.pool c.loop-id.self.numbers
    c.args.self.now.agrees.live c.entries-entries.ensures.live (omega (arith, drawn, few)) c.loop-id.invariant c.loop-id.self.agrees.live c.loop-id.self.kept c.in_default.ensures.none
