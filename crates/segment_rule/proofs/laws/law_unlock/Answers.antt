use Rattle.segment_rule.proofs.LawsOfSteps.{unlock}
use Rattle.segment_rule.proofs.laws.law_unlock.Goals as goal

pub returns : goal.returns
returns c = unlock
