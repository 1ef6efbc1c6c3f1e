use Rattle.segment_rule.proofs.LawsOfSteps.{try_win}
use Rattle.segment_rule.proofs.laws.law_try_wins.Goals as goal

pub returns : goal.returns
returns c = try_win
