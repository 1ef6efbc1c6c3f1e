use Rattle.segment_rule.proofs.LawsOfSteps.{make}
use Rattle.segment_rule.proofs.laws.law_make.Goals as goal

pub returns : goal.returns
returns c = make c.law_unknown_before_grant.ensures
