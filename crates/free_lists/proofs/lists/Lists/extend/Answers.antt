use Rattle.std.proofs.Common.{arith}
use Rattle.free_lists.proofs.Growing.{IsSoundLists-extended, lists_extended, extended_length}
use Rattle.free_lists.proofs.lists.Lists.extend.Goals as goal

pub invariant_of-self-2 : goal.invariant_of-self-2
invariant_of-self-2 c =
    let nodes = c.self.inside.nodes.items in
    let small = rw (← c.self.view_is) at c.requires.small in
    rw c.in_ok-extend.ensures.ok (IsSoundLists-extended nodes c.args.places c.self.invariant (omega (arith, small, c.self.invariant.ends)))

pub returns-clause-more : goal.returns-clause-more
returns-clause-more c =
    let nodes = c.self.inside.nodes.items in
    rw (← c.self.view_is, c.in_ok-extend.ensures.ok)
    (record {
      places = omega (arith, extended_length nodes c.args.places, c.self.invariant.ends);
      list = λ class. lists_extended nodes c.args.places c.self.invariant class;
    })
