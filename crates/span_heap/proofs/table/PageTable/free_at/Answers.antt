use Rattle.std.proofs.Common.{◌≡◌, ◌<◌, length, get_or, ◌∙◌, ap, arith}
use Rattle.std.specs.List.{filter}
use Rattle.span_heap.specs.Run.{begins_at, pages_of}
use Rattle.span_heap.specs.Placed.{free_of}
use Rattle.span_heap.specs.Table.{Row, width_at, place_at, page_of}
use Rattle.span_heap.proofs.TableTellsEachRun.{row_is, row_of_lies, lies_at, mark_is}
use Rattle.span_heap.proofs.SegmentsLeaveTheTable.{run_at_page}
use Rattle.span_heap.proofs.table.PageTable.free_at.Goals as goal

pub row_of-at-requires : goal.row_of-at-requires
row_of-at-requires c = rw c.as_slice.ensures.value (row_of_lies c.self.inside.rows.items (page_of c.args.id c.args.page) (rw (← c.self.view_is) at c.requires))

pub place-place-requires : goal.place-place-requires
place-place-requires c =
    let rows = c.self.inside.rows.items in
    let at = c.row_of-at.result in
    let stands = rw c.as_slice.ensures.value at c.row_of-at.ensures in
    let fits = lies_at rows (page_of c.args.id c.args.page) at c.self.invariant.0.distinct (rw (← c.self.view_is) at c.requires) stands in
    rw (row_is rows at c.index.result.now stands.within c.index.ensures) (omega (arith, fits))

pub index-requires-2 : goal.index-requires-2
index-requires-2 c =
    let t = c.self.inside in
    let rows = t.rows.items in
    let places = c.self.invariant.0 in
    let holds = c.self.invariant.1 in
    let page = c.args.page in
    let at = c.row_of-at.result in
    let stands = rw c.as_slice.ensures.value at c.row_of-at.ensures in
    let fits = lies_at rows (page_of c.args.id page) at places.distinct (rw (← c.self.view_is) at c.requires) stands in
    let place : c.place-place.result ≡ place_at rows at page =
    c.place-place.ensures ∙ ap (λ (r : Row). get_or r.places page 0) (row_is rows at c.index.result.now stands.within c.index.ensures) in
    omega (arith, place, places.within at page (omega (arith, fits)), holds.free_from_size, t.free_from.ok.0)

pub returns : goal.returns
returns c =
    let t = c.self.inside in
    let rows = t.rows.items in
    let places = c.self.invariant.0 in
    let holds = c.self.invariant.1 in
    let page = c.args.page in
    let at = c.row_of-at.result in
    let stands = rw c.as_slice.ensures.value at c.row_of-at.ensures in
    let fits = lies_at rows (page_of c.args.id page) at places.distinct (rw (← c.self.view_is) at c.requires) stands in
    let wide : page < width_at rows at = omega (arith, fits) in
    let place : c.place-place.result ≡ place_at rows at page =
    c.place-place.ensures ∙ ap (λ (r : Row). get_or r.places page 0) (row_is rows at c.index.result.now stands.within c.index.ensures) in
    let low : c.place-place.result < length t.free_from.items = omega (arith, place, places.within at page wide, holds.free_from_size) in
    let mark = mark_is t.free_from.items c.place-place.result c.index-2.result.now low c.index-2.ensures
    ∙ (ap (λ p. get_or t.free_from.items p 0) place ∙ (holds.begins at page wide ∙ ap (λ id. pages_of (filter (begins_at id page) (free_of t.runs))) stands.numbered)) in
    rw (← c.self.view_is)
    (run_at_page rows t.runs.runs t.runs.free c.args.id at page c.index-2.result.now c.marked.result places.distinct stands holds.free_keys (omega (arith, holds.once (place_at rows at page))) mark c.marked.ensures)
