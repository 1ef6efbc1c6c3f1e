use Rattle.std.proofs.Common.{◌≡◌, ◌-◌, Some, sym, ◌∙◌, ap, arith}
use Rattle.std.proofs.lemmas.List.{get_or_default}
use Rattle.span_heap.specs.Placed.{run_at}
use Rattle.span_heap.proofs.ByClass.{picked_within}
use Rattle.free_lists.specs.Lists.{list_of}
use Rattle.span_heap.proofs.PlacedRunsKeepTheirPlaces.{class_within, class_distinct}
use Rattle.span_heap.proofs.placed.PlacedRuns.pick.Goals as goal

pub pick_place-requires-clause-within : goal.pick_place-requires-clause-within
pick_place-requires-clause-within c =
    let p = c.self.inside in
    rw c.as_slice.ensures.value (class_within p.lists p.order p.runs.items p.listed p.ordered 256 c.self.invariant)

pub pick_place-requires-clause-distinct : goal.pick_place-requires-clause-distinct
pick_place-requires-clause-distinct c =
    let p = c.self.inside in
    class_distinct p.lists p.order p.runs.items p.listed p.ordered 256 c.self.invariant

pub index-requires : goal.index-requires
index-requires c =
    let p = c.self.inside in
    let picked = rw c.as_slice.ensures.value at (c.in_ok-place.ensures (list_of p.order 1) (rw c.as_slice.ensures.value c.self.invariant.by_class)) in
    omega (arith, p.runs.ok.0, picked_within p.runs.items (list_of p.order 1) c.args.pages (c.args.most - c.args.pages) c.in_ok-place.place c.requires.sized picked)

pub returns : goal.returns
returns c =
    let p = c.self.inside in
    let runs = p.runs.items in
    let picked = rw c.as_slice.ensures.value at (c.in_ok-place.ensures (list_of p.order 1) (rw c.as_slice.ensures.value c.self.invariant.by_class)) in
    let low = picked_within runs (list_of p.order 1) c.args.pages (c.args.most - c.args.pages) c.in_ok-place.place c.requires.sized picked in
    let run : c.index.result.now ≡ run_at runs c.in_ok-place.place = c.index.ensures ∙ get_or_default runs c.in_ok-place.place c.index.result.now (record { segment = 0; first = 0; pages = 0 }) low in
    rw (← c.self.view_is) (ap Some run ∙ sym picked)
