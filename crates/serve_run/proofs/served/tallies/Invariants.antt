use Rattle.std.proofs.Common.{◌≡◌, take}
use Rattle.serve_session.specs.Served.{tallies_of}
use Rattle.serve_run.proofs.served.tallies.Given as goal

abbrev pub invariant-loop-client : goal.invariant-loop-client
invariant-loop-client l = l.tallies.items ≡ tallies_of (take l.client-index l.client-items)
