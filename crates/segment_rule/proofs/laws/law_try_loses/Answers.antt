use Rattle.segment_rule.proofs.LawsOfSteps.{try_loss}
use Rattle.segment_rule.proofs.laws.law_try_loses.Goals as goal

pub returns : goal.returns
returns c = try_loss
