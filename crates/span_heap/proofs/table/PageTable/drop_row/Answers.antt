use Rattle.std.proofs.Common.{not, refl, sym, ◌∙◌, ap, subst, arith}
use Rattle.std.specs.List.{Contains, filter}
use Rattle.span_heap.specs.Heap.{has_id}
use Rattle.span_heap.specs.Changes.{segment_of}
use Rattle.span_heap.specs.Runs.{dropped}
use Rattle.span_heap.proofs.SegmentsLeaveTheTable.{page_lies}
use Rattle.span_heap.proofs.table.PageTable.drop_row.Goals as goal

pub loop-page-init : goal.loop-page-init
loop-page-init c = (refl, refl, refl, λ k d within e. omega arith, λ k d within e. omega arith)

pub clear_free-requires-clause-within : goal.clear_free-requires-clause-within
clear_free-requires-clause-within c =
    let i = c.loop-page.invariant in
    rw i.0 (page_lies _ c.args.id c.width-page-end.result c.loop-page.page c.width-page-end.ensures (omega (arith, c.loop-page-test.true)))

pub clear_free-requires-clause-from : goal.clear_free-requires-clause-from
clear_free-requires-clause-from c = c.loop-page.invariant.3

pub clear_used-requires-clause-within : goal.clear_used-requires-clause-within
clear_used-requires-clause-within c =
    let i = c.loop-page.invariant in
    rw (c.clear_free.ensures.segments, i.0) (page_lies _ c.args.id c.width-page-end.result c.loop-page.page c.width-page-end.ensures (omega (arith, c.loop-page-test.true)))

pub clear_used-requires-clause-from : goal.clear_used-requires-clause-from
clear_used-requires-clause-from c = rw c.clear_free.ensures.used c.loop-page.invariant.4

pub loop-page-preserved : goal.loop-page-preserved
loop-page-preserved c =
    let i = c.loop-page.invariant in (
      c.clear_used.ensures.segments ∙ (c.clear_free.ensures.segments ∙ i.0),
      ap (λ f. dropped f c.args.id) c.clear_used.ensures.free ∙ (c.clear_free.ensures.others ∙ i.1),
      c.clear_used.ensures.others ∙ (ap (λ u. dropped u c.args.id) c.clear_free.ensures.used ∙ i.2),
      rw c.clear_used.ensures.free c.clear_free.ensures.from,
      c.clear_used.ensures.from,
    )

pub remove_row-requires : goal.remove_row-requires
remove_row-requires c =
    let i = c.loop-page.invariant in
    let there = subst (λ s. Contains s (segment_of c.args.id c.width-page-end.result)) (sym i.0) c.width-page-end.ensures in
    (c.width-page-end.result, there, λ k d within e. omega (arith, i.3 k d within e, c.loop-page-test.false), λ k d within e. omega (arith, i.4 k d within e, c.loop-page-test.false))

pub returns-clause-segments : goal.returns-clause-segments
returns-clause-segments c = c.remove_row.ensures.segments ∙ ap (filter (λ s. not (has_id c.args.id s))) c.loop-page.invariant.0

pub returns-clause-free : goal.returns-clause-free
returns-clause-free c = c.remove_row.ensures.free ∙ c.loop-page.invariant.1

pub returns-clause-used : goal.returns-clause-used
returns-clause-used c = c.remove_row.ensures.used ∙ c.loop-page.invariant.2
