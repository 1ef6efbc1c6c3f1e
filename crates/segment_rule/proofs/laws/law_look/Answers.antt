use Rattle.segment_rule.proofs.LawsOfSteps.{look}
use Rattle.segment_rule.proofs.laws.law_look.Goals as goal

pub returns : goal.returns
returns c = look
