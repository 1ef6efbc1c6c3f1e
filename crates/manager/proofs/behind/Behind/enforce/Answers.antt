use Rattle.manager.proofs.Keeping.{kept_by}
use Rattle.manager.proofs.StateGrows.{reduced_kept}
use Rattle.manager.proofs.Ending.{result_ended, result_reduces}
use Rattle.manager.proofs.behind.Behind.enforce.Goals as goal

pub invariant_of-self : goal.invariant_of-self
invariant_of-self g c = (kept_by _ _ _ _ _ _ c.self.invariant.0 (reduced_kept _ _ _ _ _ c.enforce.ensures.ok c.enforce.ensures.err), c.self.invariant.1)

pub returns-clause-reduces : goal.returns-clause-reduces
returns-clause-reduces g c = rw (← c.self.view_is) (result_reduces _ _ _ _ _ _ c.self.invariant.0.same c.enforce.ensures.ok)

pub returns-clause-ended : goal.returns-clause-ended
returns-clause-ended g c = result_ended _ _ _ _ _ _ c.self.invariant.0.same c.enforce.ensures.ok
