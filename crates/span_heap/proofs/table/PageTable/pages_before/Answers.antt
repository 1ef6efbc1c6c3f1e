use Rattle.std.proofs.Common.{◌≡◌, ◌+◌, ◌-◌, ◌<◌, length, get_or, sym, ◌∙◌, ap, arith}
use Rattle.std.specs.List.{filter}
use Rattle.span_heap.specs.declared.run.Run.{Run}
use Rattle.span_heap.specs.Run.{ends_at, pages_of}
use Rattle.span_heap.specs.Placed.{free_of}
use Rattle.span_heap.specs.Table.{Row, width_at, place_at}
use Rattle.span_heap.proofs.TableTellsEachRun.{row_is, row_of_lies, lies_at, mark_is, none_ends_at_0}
use Rattle.span_heap.proofs.table.PageTable.pages_before.Goals as goal

pub row_of-at-requires : goal.row_of-at-requires
row_of-at-requires c =
    let t = c.self.inside in
    let rows = t.rows.items in
    let places = c.self.invariant.0 in
    let holds = c.self.invariant.1 in
    let span : Run = c.args.span.now in
    rw c.as_slice.ensures.value (row_of_lies rows span (rw (← c.self.view_is) at c.requires))

pub returns-then-span-eq0 : goal.returns-then-span-eq0
returns-then-span-eq0 c =
    let t = c.self.inside in
    let rows = t.rows.items in
    let places = c.self.invariant.0 in
    let holds = c.self.invariant.1 in
    let span : Run = c.args.span.now in
    let at = c.row_of-at.result in
    let stands = rw c.as_slice.ensures.value at c.row_of-at.ensures in
    let fits = lies_at rows span at places.distinct (rw (← c.self.view_is) at c.requires) stands in
    let first : span.first ≡ 0 = c.if-span-eq0.true in
    rw (← c.self.view_is)
    (sym (ap (λ page. pages_of (filter (ends_at span.segment page) (free_of t.runs))) first ∙ none_ends_at_0 rows t.runs.runs t.runs.free span.segment holds.free_keys))

pub place-place-requires : goal.place-place-requires
place-place-requires c =
    let t = c.self.inside in
    let rows = t.rows.items in
    let places = c.self.invariant.0 in
    let holds = c.self.invariant.1 in
    let span : Run = c.args.span.now in
    let at = c.row_of-at.result in
    let stands = rw c.as_slice.ensures.value at c.row_of-at.ensures in
    let fits = lies_at rows span at places.distinct (rw (← c.self.view_is) at c.requires) stands in
    rw (row_is rows at c.index.result.now stands.within c.index.ensures) (omega (arith, fits))

pub index-requires-2 : goal.index-requires-2
index-requires-2 c =
    let t = c.self.inside in
    let rows = t.rows.items in
    let places = c.self.invariant.0 in
    let holds = c.self.invariant.1 in
    let span : Run = c.args.span.now in
    let at = c.row_of-at.result in
    let stands = rw c.as_slice.ensures.value at c.row_of-at.ensures in
    let fits = lies_at rows span at places.distinct (rw (← c.self.view_is) at c.requires) stands in
    let place : c.place-place.result ≡ place_at rows at (span.first - 1) =
    c.place-place.ensures ∙ ap (λ (r : Row). get_or r.places (span.first - 1) 0) (row_is rows at c.index.result.now stands.within c.index.ensures) in
    omega (arith, place, places.within at (span.first - 1) (omega (arith, fits)), holds.free_to_size, t.free_to.ok.0)

pub returns : goal.returns
returns c =
    let t = c.self.inside in
    let rows = t.rows.items in
    let places = c.self.invariant.0 in
    let holds = c.self.invariant.1 in
    let span : Run = c.args.span.now in
    let at = c.row_of-at.result in
    let stands = rw c.as_slice.ensures.value at c.row_of-at.ensures in
    let fits = lies_at rows span at places.distinct (rw (← c.self.view_is) at c.requires) stands in
    let wide : span.first - 1 < width_at rows at = omega (arith, fits) in
    let page : span.first - 1 + 1 ≡ span.first = omega (arith, c.if-span-eq0.false) in
    let place : c.place-place.result ≡ place_at rows at (span.first - 1) =
    c.place-place.ensures ∙ ap (λ (r : Row). get_or r.places (span.first - 1) 0) (row_is rows at c.index.result.now stands.within c.index.ensures) in
    let low : c.place-place.result < length t.free_to.items = omega (arith, place, places.within at (span.first - 1) wide, holds.free_to_size) in
    let tell = holds.stops at (span.first - 1) wide in
    rw (← c.self.view_is)
    (mark_is t.free_to.items c.place-place.result c.index-2.result.now low c.index-2.ensures
    ∙ (ap (λ p. get_or t.free_to.items p 0) place ∙ (tell
    ∙ (ap (λ id. pages_of (filter (ends_at id (span.first - 1 + 1)) (free_of t.runs))) stands.numbered
    ∙ ap (λ p. pages_of (filter (ends_at span.segment p) (free_of t.runs))) page))))
