use Rattle.replay_plain.proofs.RunsLieInSegments.{runs_lie}
use Rattle.replay_plain.proofs.SearchesEnd.{finds_none_rightly, ends_in_turn}
use Rattle.replay_plain.proofs.laws.law_searches_end.Goals as goal

pub returns-clause-none : goal.returns-clause-none
returns-clause-none c = finds_none_rightly

pub returns-clause-turns : goal.returns-clause-turns
returns-clause-turns c = ends_in_turn

pub returns-clause-lawful : goal.returns-clause-lawful
returns-clause-lawful c = runs_lie
