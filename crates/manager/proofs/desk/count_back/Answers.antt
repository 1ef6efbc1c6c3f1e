use Rattle.manager.proofs.Counting.{gave_back}
use Rattle.manager.proofs.desk.count_back.Goals as goal

pub returns-clause-state : goal.returns-clause-state
returns-clause-state c = gave_back c.args.note _ _ _ c.back.ensures
