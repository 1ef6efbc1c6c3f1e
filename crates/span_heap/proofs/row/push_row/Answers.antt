use Rattle.std.proofs.Common.{◌∙◌, ap}
use Rattle.std.specs.List.{filter}
use Rattle.span_heap.specs.Table.{has_pages}
use Rattle.span_heap.proofs.SegmentsJoinTheTable.{AreDropped-grown}
use Rattle.span_heap.proofs.row.push_row.Goals as goal

pub take_out_dropped-requires : goal.take_out_dropped-requires
take_out_dropped-requires c =
    rw c.push_reserved.ensures.items (AreDropped-grown c.args.rows.now.items c.args.row c.args.dropped.now c.requires.live c.requires.counted)

pub returns-clause-living : goal.returns-clause-living
returns-clause-living c = c.take_out_dropped.ensures.living ∙ ap (filter has_pages) c.push_reserved.ensures.items
