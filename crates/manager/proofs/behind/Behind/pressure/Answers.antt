use Rattle.std.proofs.Common.{ap}
use Rattle.manager_state.specs.Calls.{limit_under}
use Rattle.manager.proofs.Keeping.{kept_by}
use Rattle.manager.proofs.StateGrows.{reduced_kept}
use Rattle.manager.proofs.Ending.{result_ended, result_reduces}
use Rattle.manager.proofs.behind.Behind.pressure.Goals as goal

pub invariant_of-self : goal.invariant_of-self
invariant_of-self g c = (kept_by _ _ _ _ _ _ c.self.invariant.0 (reduced_kept _ _ _ _ _ c.pressure.ensures.ok c.pressure.ensures.err), c.self.invariant.1)

pub returns-clause-reduces : goal.returns-clause-reduces
returns-clause-reduces g c = rw (← c.self.view_is) (result_reduces _ _ _ _ _ _ (ap (limit_under c.args.level) c.self.invariant.0.same) c.pressure.ensures.ok)

pub returns-clause-ended : goal.returns-clause-ended
returns-clause-ended g c = result_ended _ _ _ _ _ _ (ap (limit_under c.args.level) c.self.invariant.0.same) c.pressure.ensures.ok
