use Rattle.std.proofs.Common.{length}
use Rattle.client.proofs.Searching.{Searching}
use Rattle.client.proofs.client.Client.find.Given as goal

abbrev pub invariant-loop-span : goal.invariant-loop-span
invariant-loop-span l = Searching l.pages l.fn.self l.self

abbrev pub decreases-loop-span : goal.decreases-loop-span
decreases-loop-span l = length l.self.leases
