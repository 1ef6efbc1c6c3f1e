use Rattle.std.proofs.Common.{◌-◌, ◌^◌}
use Rattle.manager_state.specs.Managed.{managed}
use Rattle.manager_state.proofs.Removing.{Removing}
use Rattle.manager_state.proofs.keeper.Keeper.remove.Given as goal

abbrev pub invariant-loop-id : goal.invariant-loop-id
invariant-loop-id l = Removing l.client (managed 0 l.fn.self.book l.fn.self.order l.fn.self.pool) l.last l.removed l.self.book l.self.order l.self.pool

abbrev pub decreases-loop-id : goal.decreases-loop-id
decreases-loop-id l = 2 ^ 64 - l.last
