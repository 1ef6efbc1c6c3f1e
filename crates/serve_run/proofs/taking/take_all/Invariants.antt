use Rattle.std.proofs.Common.{◌≡◌, ◌+◌, length}
use Rattle.serve_run.specs.Working.{HasTaken}
use Rattle.serve_run.proofs.taking.take_all.Given as goal

abbrev pub invariant-loop-worker : goal.invariant-loop-worker
invariant-loop-worker g l = HasTaken l.run (length l.yielded) l.fn.shares l.taken.shares l.taken.clients.items × (l.taken.drains ≡ l.fn.drains + length l.yielded)
