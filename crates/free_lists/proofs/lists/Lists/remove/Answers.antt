use Rattle.std.proofs.Common.{◌+◌, ◌-◌, ap}
use Rattle.free_lists.proofs.Nodes.{next_within, prev_within}
use Rattle.free_lists.proofs.Unlinking.{IsSoundLists-unlinked}
use Rattle.free_lists.proofs.Views.{unlinked_is, unlinked_length, listed_within, lists_unlinked}
use Rattle.free_lists.proofs.lists.Lists.remove.Goals as goal

pub unlink-requires-clause-node : goal.unlink-requires-clause-node
unlink-requires-clause-node c = listed_within c.self.inside.nodes.items c.args.place c.self.invariant (rw (← c.self.view_is) at c.requires)

pub unlink-requires-clause-prev : goal.unlink-requires-clause-prev
unlink-requires-clause-prev c =
    let nodes = c.self.inside.nodes.items in
    let within = listed_within nodes c.args.place c.self.invariant (rw (← c.self.view_is) at c.requires) in
    (prev_within nodes c.self.invariant.forth (c.args.place + 256) within, next_within nodes c.self.invariant.back (c.args.place + 256) within)

pub invariant_of-self : goal.invariant_of-self
invariant_of-self c =
    let nodes = c.self.inside.nodes.items in
    let within = listed_within nodes c.args.place c.self.invariant (rw (← c.self.view_is) at c.requires) in
    rw c.unlink.ensures (IsSoundLists-unlinked nodes _ c.args.place c.self.invariant (unlinked_is nodes c.args.place c.self.invariant within))

pub returns : goal.returns
returns c =
    let nodes = c.self.inside.nodes.items in
    let within = listed_within nodes c.args.place c.self.invariant (rw (← c.self.view_is) at c.requires) in
    rw (← c.self.view_is, c.unlink.ensures)
    (record {
      places = ap (λ n. n - 256) (unlinked_length nodes (c.args.place + 256));
      list = lists_unlinked nodes _ c.args.place c.self.invariant (unlinked_is nodes c.args.place c.self.invariant within);
    })
