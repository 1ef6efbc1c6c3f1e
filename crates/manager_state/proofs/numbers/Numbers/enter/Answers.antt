use Rattle.manager_state.proofs.ClientNumbers.{enters}
use Rattle.manager_state.specs.Keeping.{has_pair}
use Rattle.manager_state.proofs.numbers.Numbers.enter.Goals as goal

pub returns-clause-ok : goal.returns-clause-ok
returns-clause-ok c = c.in_ok-insert.ensures.updates.1

pub returns-clause-others : goal.returns-clause-others
returns-clause-others c = rw (← c.self.view_is)
    (λ who number h. enters (c.args.client, c.args.id) (who, number) (has_pair c.insert.new.self.keys who number) (has_pair c.self.inside.pairs.keys who number) (c.in_ok-insert.ensures.updates.0 (who, number)) h)
