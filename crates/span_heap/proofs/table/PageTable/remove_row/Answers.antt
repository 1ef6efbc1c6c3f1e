use Rattle.std.proofs.Common.{◌≡◌, [], length, sym, ◌∙◌, ap, arith}
use Rattle.span_heap.specs.Placed.{free_of, used_of}
use Rattle.span_heap.specs.Table.{Row, row_at}
use Rattle.span_heap.proofs.TableTellsEachRun.{any_row, row_is}
use Rattle.span_heap.proofs.SegmentsLeaveTheTable.{segment_there, emptied, none_dropped, row_fits, ArePlaces-dropped, AreDropped-dropped, CountsTell-dropped, HoldsRuns-dropped, shown_dropped}
use Rattle.span_heap.proofs.table.PageTable.remove_row.Goals as goal

pub row_of-at-requires : goal.row_of-at-requires
row_of-at-requires c =
    let empty = rw (← c.self.view_is) at c.requires in
    rw c.as_slice.ensures.value (sym (any_row c.args.id c.self.inside.rows.items) ∙ segment_there _ c.args.id empty.0 empty.1)

pub give_places-requires : goal.give_places-requires
give_places-requires c =
    let t = c.self.inside in
    let stands = rw c.as_slice.ensures.value at c.row_of-at.ensures in
    let row = row_is t.rows.items c.row_of-at.result c.index_mut.result.now stands.within c.index_mut.ensures.value in
    omega (arith, c.self.invariant.3, c.self.invariant.0.full, t.spare.ok.0, ap {B = _} (λ (r : Row). length r.places) row, row_fits t.rows.items c.row_of-at.result stands.within)

pub invariant_of-self : goal.invariant_of-self
invariant_of-self c =
    let t = c.self.inside in
    let rows = t.rows.items in
    let at = c.row_of-at.result in
    let empty = rw (← c.self.view_is) at c.requires in
    let places = c.self.invariant.0 in
    let holds = c.self.invariant.1 in
    let stands = rw c.as_slice.ensures.value at c.row_of-at.ensures in
    let row = row_is rows at c.index_mut.result.now stands.within c.index_mut.ensures.value in
    let left : c.give_places.new.self ≡ record { id = (row_at rows at).id; places = []; used = (row_at rows at).used } =
    c.give_places.ensures.left ∙ ap (λ (r : Row). record { id = r.id; places = []; used = r.used }) row in
    let none_free = emptied rows t.runs.runs t.runs.free c.args.id at empty.0 places.distinct stands holds.free_keys empty.1 empty.2 in
    let none_used = emptied rows t.runs.runs t.runs.used c.args.id at empty.0 places.distinct stands holds.used_keys empty.1 empty.3 in (
      rw (left, c.give_places.ensures.items, row) (ArePlaces-dropped rows t.spare.items (length t.runs.runs) at places stands.within),
      rw left (HoldsRuns-dropped rows t.runs t.free_from.items t.free_to.items t.used_from.items c.args.id at stands holds none_free none_used),
      rw left (CountsTell-dropped rows (used_of t.runs) at stands.within c.self.invariant.2),
      omega (arith, c.self.invariant.3, c.give_places.ensures.capacity),
      rw left (AreDropped-dropped rows t.dropped c.args.id at stands c.self.invariant.4),
    )

pub returns-clause-segments : goal.returns-clause-segments
returns-clause-segments c =
    let t = c.self.inside in
    let rows = t.rows.items in
    let at = c.row_of-at.result in
    let stands = rw c.as_slice.ensures.value at c.row_of-at.ensures in
    let row = row_is rows at c.index_mut.result.now stands.within c.index_mut.ensures.value in
    let left : c.give_places.new.self ≡ record { id = (row_at rows at).id; places = []; used = (row_at rows at).used } =
    c.give_places.ensures.left ∙ ap (λ (r : Row). record { id = r.id; places = []; used = r.used }) row in
    rw (← c.self.view_is, left) (shown_dropped rows c.args.id at c.self.invariant.0.distinct stands)

pub returns-clause-free : goal.returns-clause-free
returns-clause-free c =
    let t = c.self.inside in
    let rows = t.rows.items in
    let at = c.row_of-at.result in
    let empty = rw (← c.self.view_is) at c.requires in
    let places = c.self.invariant.0 in
    let holds = c.self.invariant.1 in
    let stands = rw c.as_slice.ensures.value at c.row_of-at.ensures in
    rw (← c.self.view_is)
    (sym (none_dropped c.args.id (free_of t.runs) (emptied rows t.runs.runs t.runs.free c.args.id at empty.0 places.distinct stands holds.free_keys empty.1 empty.2)))

pub returns-clause-used : goal.returns-clause-used
returns-clause-used c =
    let t = c.self.inside in
    let rows = t.rows.items in
    let at = c.row_of-at.result in
    let empty = rw (← c.self.view_is) at c.requires in
    let places = c.self.invariant.0 in
    let holds = c.self.invariant.1 in
    let stands = rw c.as_slice.ensures.value at c.row_of-at.ensures in
    rw (← c.self.view_is)
    (sym (none_dropped c.args.id (used_of t.runs) (emptied rows t.runs.runs t.runs.used c.args.id at empty.0 places.distinct stands holds.used_keys empty.1 empty.3)))
