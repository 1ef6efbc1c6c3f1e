use Rattle.replay_plain.proofs.Chances.{reduction_is}
use Rattle.replay_plain.proofs.laws.law_reductions_end.Goals as goal

pub returns : goal.returns
returns c = reduction_is
