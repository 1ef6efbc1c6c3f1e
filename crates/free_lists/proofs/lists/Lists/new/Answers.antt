use Rattle.std.proofs.Common.{refl}
use Rattle.free_lists.proofs.Growing.{IsSoundLists-ends, lists_ends}
use Rattle.free_lists.proofs.lists.Lists.new.Goals as goal

pub invariant_of-result : goal.invariant_of-result
invariant_of-result c = rw c.in_ok-nodes.ensures (IsSoundLists-ends 256 refl)

pub returns : goal.returns
returns c = rw c.in_ok-nodes.ensures (record { places = refl; lists = λ class. lists_ends 256 class })
