use Rattle.std.proofs.Common.{◌≡◌, ◌+◌, ◌-◌, min, ap, arith}
use Rattle.free_lists.proofs.Linking.{IsSoundLists-linked}
use Rattle.free_lists.proofs.Views.{linked_is, linked_length, free_class, lists_linked}
use Rattle.free_lists.proofs.lists.Lists.append.Goals as goal

pub invariant_of-self : goal.invariant_of-self
invariant_of-self c =
    let nodes = c.self.inside.nodes.items in
    let free = free_class nodes c.args.place c.self.invariant (rw (← c.self.view_is) at c.requires.free) in
    let within = rw (← c.self.view_is) at c.requires.place in
    rw c.link.ensures
    (IsSoundLists-linked nodes _ c.args.place (c.min.result - 1) c.self.invariant (omega (arith, c.min.ensures)) free
    (linked_is nodes c.args.place c.min.result c.self.invariant (omega (arith, c.min.ensures, c.requires.sized)) (omega (arith, c.min.ensures)) (omega (arith, within, c.self.invariant.ends)) free))

pub returns : goal.returns
returns c =
    let nodes = c.self.inside.nodes.items in
    let free = free_class nodes c.args.place c.self.invariant (rw (← c.self.view_is) at c.requires.free) in
    let within = rw (← c.self.view_is) at c.requires.place in
    let class : c.min.result - 1 + 1 ≡ min c.args.pages 256 = omega (arith, c.min.ensures, c.requires.sized) in
    let after = linked_is nodes c.args.place c.min.result c.self.invariant (omega (arith, c.min.ensures, c.requires.sized)) (omega (arith, c.min.ensures)) (omega (arith, within, c.self.invariant.ends)) free in
    rw (← c.self.view_is, c.link.ensures)
    (record {
      places = ap (λ n. n - 256) (linked_length nodes (c.args.place + 256) c.min.result);
      list = rw (← class) (lists_linked nodes _ c.args.place (c.min.result - 1) c.self.invariant (omega (arith, c.min.ensures)) free after);
    })
