use Rattle.segment_rule.proofs.LawsOfSteps.{lock_loss}
use Rattle.segment_rule.proofs.laws.law_lock_loses.Goals as goal

pub returns : goal.returns
returns c = lock_loss
