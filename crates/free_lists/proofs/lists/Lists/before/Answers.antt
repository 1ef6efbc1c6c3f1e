use Rattle.std.proofs.Common.{◌+◌, arith, ap, ◌∙◌}
use Rattle.free_lists.specs.Links.{place_of}
use Rattle.free_lists.proofs.Nodes.{prev_within}
use Rattle.free_lists.proofs.Views.{before_in_list, cut_list, listed_within, read_prev}
use Rattle.free_lists.proofs.lists.Lists.before.Goals as goal

pub index-requires : goal.index-requires
index-requires c = omega (arith, c.self.inside.nodes.ok.0, listed_within c.self.inside.nodes.items c.args.place c.self.invariant (rw (← c.self.view_is) at c.requires))

pub place_of-requires : goal.place_of-requires
place_of-requires c =
    let nodes = c.self.inside.nodes.items in
    let within = listed_within nodes c.args.place c.self.invariant (rw (← c.self.view_is) at c.requires) in
    omega (arith, read_prev nodes (c.args.place + 256) c.index.result.now within c.index.ensures, c.self.invariant.small, prev_within nodes c.self.invariant.forth (c.args.place + 256) within)

pub returns : goal.returns
returns c =
    let nodes = c.self.inside.nodes.items in
    let within = listed_within nodes c.args.place c.self.invariant (rw (← c.self.view_is) at c.requires) in
    let read = c.place_of.ensures ∙ ap place_of (read_prev nodes (c.args.place + 256) c.index.result.now within c.index.ensures) in
    rw (← c.self.view_is)
    (record {
      first = λ class there. read ∙ before_in_list nodes class c.args.place c.self.invariant there;
      each = λ class older newer is. read ∙ cut_list nodes class c.args.place older newer c.self.invariant is;
    })
