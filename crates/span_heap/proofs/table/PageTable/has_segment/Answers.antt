use Rattle.std.proofs.Common.{◌∙◌, sym}
use Rattle.span_heap.proofs.TableTellsEachRun.{any_row, row_any_found}
use Rattle.span_heap.proofs.table.PageTable.has_segment.Goals as goal

pub returns : goal.returns
returns c =
    let rows = c.self.inside.rows.items in
    rw (← c.self.view_is)
    (row_any_found rows c.args.id c.find_row.result c.is_some.result (rw c.as_slice-rows.ensures.value at c.find_row.ensures) c.is_some.ensures ∙ sym (any_row c.args.id rows))
