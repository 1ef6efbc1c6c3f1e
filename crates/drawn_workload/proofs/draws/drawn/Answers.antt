use Rattle.std.proofs.Common.{refl}
use Rattle.drawn_workload.specs.Draws.{drawn}
use Rattle.drawn_workload.proofs.draws.drawn.Goals as goal

pub returns-clause-value : goal.returns-clause-value
unfolding drawn
returns-clause-value c = refl
