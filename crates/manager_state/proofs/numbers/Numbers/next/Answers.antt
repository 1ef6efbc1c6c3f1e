use Rattle.manager_state.proofs.ClientNumbers.{next_none, next_there, next_else, next_least, on_none}
use Rattle.manager_state.proofs.numbers.Numbers.next.Goals as goal

pub returns-in_err-owner-clause-none : goal.returns-in_err-owner-clause-none
returns-in_err-owner-clause-none c = rw (← c.self.view_is)
    (on_none c.from_residual-in_err-owner.result
    (λ id low few. next_none c.self.inside.pairs c.args.client c.in_ok-from.from c.args.after _ (c.range.ensures.in_range tt) c.in_err-owner.ensures.steps.0 c.in_ok-from.ensures.1 id low))

pub returns-then-owner-client-clause-there : goal.returns-then-owner-client-clause-there
returns-then-owner-client-clause-there c = rw (← c.self.view_is)
    (next_there c.self.inside.pairs c.args.client c.in_ok-from.from _ _ c.in_ok-owner.field-0.now (c.range.ensures.in_range tt) c.in_ok-owner.ensures.steps c.if-owner-client.true)

pub returns-then-owner-client-clause-least : goal.returns-then-owner-client-clause-least
returns-then-owner-client-clause-least c = rw (← c.self.view_is)
    (λ id low high. next_least c.self.inside.pairs c.args.client c.in_ok-from.from c.args.after _ _ c.in_ok-owner.field-0.now (c.range.ensures.in_range tt) c.in_ok-owner.ensures.steps c.if-owner-client.true c.in_ok-from.ensures.1 id low high)

pub returns-else-owner-client-clause-none : goal.returns-else-owner-client-clause-none
returns-else-owner-client-clause-none c = rw (← c.self.view_is)
    (λ id low few. next_else c.self.inside.pairs c.args.client c.in_ok-from.from c.args.after _ _ c.in_ok-owner.field-0.now (c.range.ensures.in_range tt) c.in_ok-owner.ensures.steps c.if-owner-client.false c.in_ok-from.ensures.1 id low)
