use Rattle.std.proofs.Common.{length, sym, ◌∙◌, ap, arith}
use Rattle.span_heap.specs.Table.{Row}
use Rattle.span_heap.proofs.TableTellsEachRun.{any_row, row_is, row_small}
use Rattle.span_heap.proofs.SegmentsLeaveTheTable.{row_shown}
use Rattle.span_heap.proofs.table.PageTable.width.Goals as goal

pub row_of-at-requires : goal.row_of-at-requires
row_of-at-requires c =
    let there = rw (← c.self.view_is) at c.requires in
    rw c.as_slice.ensures.value (sym (any_row c.args.id c.self.inside.rows.items) ∙ there)

pub overflow_cast-result : goal.overflow_cast-result
overflow_cast-result c =
    let t = c.self.inside in
    let at = c.row_of-at.result in
    let stands = rw c.as_slice.ensures.value at c.row_of-at.ensures in
    let row = row_is t.rows.items at c.index.result.now stands.within c.index.ensures in
    omega (arith, c.len.ensures, ap {B = _} (λ (r : Row). length r.places) row, row_small t.rows.items t.spare.items (length t.runs.runs) at c.self.invariant.0 stands.within)

pub returns : goal.returns
returns c =
    let t = c.self.inside in
    let at = c.row_of-at.result in
    let stands = rw c.as_slice.ensures.value at c.row_of-at.ensures in
    let row = row_is t.rows.items at c.index.result.now stands.within c.index.ensures in
    rw (← c.self.view_is)
    (row_shown t.rows.items c.args.id at c.len.result stands (c.len.ensures ∙ ap {B = _} (λ (r : Row). length r.places) row))
