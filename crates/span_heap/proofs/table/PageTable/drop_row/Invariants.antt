use Rattle.std.proofs.Common.{◌≡◌}
use Rattle.span_heap.specs.Runs.{dropped}
use Rattle.span_heap.specs.Table.{BeginFrom}
use Rattle.span_heap.proofs.table.PageTable.drop_row.Given as goal

abbrev pub invariant-loop-page : goal.invariant-loop-page
invariant-loop-page l = (l.self.segments ≡ l.fn.self.segments) × (dropped l.self.free l.id ≡ dropped l.fn.self.free l.id) × (dropped l.self.used l.id ≡ dropped l.fn.self.used l.id)
    × BeginFrom l.id l.page l.self.free × BeginFrom l.id l.page l.self.used
