use Rattle.std.proofs.Common.{◌≡◌, ◌≤◌, length}
use Rattle.serve_run.specs.Dealing.{numbers_for}
use Rattle.serve_run.proofs.dealing.count_of.Given as goal

abbrev pub invariant-loop-number : goal.invariant-loop-number
invariant-loop-number l = (l.count ≡ length (numbers_for l.requests l.client l.number)) × (l.count ≤ l.number)
