use Rattle.std.proofs.Common.{rules, ◌≡◌}
use Rattle.std.specs.List.{filter}
use Rattle.std.proofs.lemmas.Fn.{filter_same}
use Rattle.span_heap.specs.Table.{has_pages}
use Rattle.span_heap.proofs.RowsTellAlike.{none_left, living_twice}
use Rattle.span_heap.proofs.row.take_out_dropped.Goals as goal

pub returns-then-dropped-len-clause-counted : goal.returns-then-dropped-len-clause-counted
returns-then-dropped-len-clause-counted c =
    let kept : c.retain.new.self.items ≡ filter has_pages c.args.rows.now.items = filter_same _ has_pages _ (λ x b f' k. search rules) _ _ c.retain.ensures.filtered in
    rw kept (none_left c.args.rows.now.items)

pub returns-then-dropped-len-clause-living : goal.returns-then-dropped-len-clause-living
returns-then-dropped-len-clause-living c =
    let kept : c.retain.new.self.items ≡ filter has_pages c.args.rows.now.items = filter_same _ has_pages _ (λ x b f' k. search rules) _ _ c.retain.ensures.filtered in
    rw kept (living_twice c.args.rows.now.items)
