use Rattle.segment_rule.proofs.LawsOfSteps.{lock_win}
use Rattle.segment_rule.proofs.laws.law_lock_wins.Goals as goal

pub returns : goal.returns
returns c = lock_win
