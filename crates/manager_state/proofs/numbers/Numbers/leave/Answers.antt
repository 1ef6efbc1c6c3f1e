use Rattle.manager_state.proofs.ClientNumbers.{other}
use Rattle.manager_state.proofs.numbers.Numbers.leave.Goals as goal

pub returns-clause-gone : goal.returns-clause-gone
returns-clause-gone c = c.remove.ensures.updates.1

pub returns-clause-others : goal.returns-clause-others
returns-clause-others c = rw (← c.self.view_is) (λ who number apart. c.remove.ensures.updates.2 (who, number) (other c.args.client c.args.id (who, number) apart))
