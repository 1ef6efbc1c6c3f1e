use Rattle.std.proofs.Common.{◌-◌, length}
use Rattle.client.proofs.Sweeping.{Sweeping}
use Rattle.client.proofs.client.Client.sweep.Given as goal

abbrev pub invariant-loop-place : goal.invariant-loop-place
invariant-loop-place l = Sweeping l.fn.self l.self l.place

abbrev pub decreases-loop-place : goal.decreases-loop-place
decreases-loop-place l = length l.self.leases - l.place
