use Rattle.machine.proofs.Reducing.{reduction_ends, reduction_leaves}
use Rattle.machine.proofs.laws.law_reduction_ends.Goals as goal

pub returns : goal.returns
returns c = record { ends = reduction_ends; leaves = reduction_leaves }
