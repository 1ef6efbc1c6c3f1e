use Rattle.std.proofs.Common.{◌≡◌, ℕ, ◌+◌, ◌<◌, length, get_or, sym, ◌∙◌, ap, arith}
use Rattle.std.specs.List.{filter}
use Rattle.span_heap.specs.declared.run.Run.{Run}
use Rattle.span_heap.specs.Run.{begins_at, pages_of}
use Rattle.span_heap.specs.Placed.{free_of}
use Rattle.span_heap.specs.Table.{Row, width_at, place_at}
use Rattle.span_heap.proofs.TableTellsEachRun.{row_is, row_small, row_of_lies, lies_at, mark_is, none_begins_past}
use Rattle.span_heap.proofs.table.PageTable.pages_behind.Goals as goal

pub row_of-at-requires : goal.row_of-at-requires
row_of-at-requires c =
    let t = c.self.inside in
    let rows = t.rows.items in
    let places = c.self.invariant.0 in
    let holds = c.self.invariant.1 in
    let span : Run = c.args.span.now in
    rw c.as_slice.ensures.value (row_of_lies rows span (rw (← c.self.view_is) at c.requires))

pub returns-then-end-len : goal.returns-then-end-len
returns-then-end-len c =
    let t = c.self.inside in
    let rows = t.rows.items in
    let places = c.self.invariant.0 in
    let holds = c.self.invariant.1 in
    let span : Run = c.args.span.now in
    let at = c.row_of-at.result in
    let stands = rw c.as_slice.ensures.value at c.row_of-at.ensures in
    let fits = lies_at rows span at places.distinct (rw (← c.self.view_is) at c.requires) stands in
    let row = row_is rows at c.index.result.now stands.within c.index.ensures in
    let len : c.len.result ≡ width_at rows at = c.len.ensures ∙ ap {B = ℕ} (λ (r : Row). length r.places) row in
    rw (← c.self.view_is)
    (sym (none_begins_past rows t.runs.runs t.runs.free span.segment at (span.first + span.pages) places.distinct stands holds.free_keys
    (omega (arith, len, c.if-end-len.true, c.from.ensures, c.from-2.ensures))))

pub overflow_cast-end : goal.overflow_cast-end
overflow_cast-end c =
    let t = c.self.inside in
    let rows = t.rows.items in
    let places = c.self.invariant.0 in
    let holds = c.self.invariant.1 in
    let span : Run = c.args.span.now in
    let at = c.row_of-at.result in
    let stands = rw c.as_slice.ensures.value at c.row_of-at.ensures in
    let fits = lies_at rows span at places.distinct (rw (← c.self.view_is) at c.requires) stands in
    let row = row_is rows at c.index.result.now stands.within c.index.ensures in
    let len : c.len.result ≡ width_at rows at = c.len.ensures ∙ ap {B = ℕ} (λ (r : Row). length r.places) row in
    omega (arith, len, c.if-end-len.false, row_small rows t.spare.items (length t.runs.runs) at places stands.within)

pub place-place-requires : goal.place-place-requires
place-place-requires c =
    let t = c.self.inside in
    let rows = t.rows.items in
    let places = c.self.invariant.0 in
    let holds = c.self.invariant.1 in
    let span : Run = c.args.span.now in
    let at = c.row_of-at.result in
    let stands = rw c.as_slice.ensures.value at c.row_of-at.ensures in
    let fits = lies_at rows span at places.distinct (rw (← c.self.view_is) at c.requires) stands in
    let row = row_is rows at c.index.result.now stands.within c.index.ensures in
    let len : c.len.result ≡ width_at rows at = c.len.ensures ∙ ap {B = ℕ} (λ (r : Row). length r.places) row in
    rw (row_is rows at c.index-2.result.now stands.within c.index-2.ensures) (omega (arith, len, c.if-end-len.false))

pub index-requires-3 : goal.index-requires-3
index-requires-3 c =
    let t = c.self.inside in
    let rows = t.rows.items in
    let places = c.self.invariant.0 in
    let holds = c.self.invariant.1 in
    let span : Run = c.args.span.now in
    let at = c.row_of-at.result in
    let stands = rw c.as_slice.ensures.value at c.row_of-at.ensures in
    let fits = lies_at rows span at places.distinct (rw (← c.self.view_is) at c.requires) stands in
    let row = row_is rows at c.index.result.now stands.within c.index.ensures in
    let len : c.len.result ≡ width_at rows at = c.len.ensures ∙ ap {B = ℕ} (λ (r : Row). length r.places) row in
    let end : c.from.result + c.from-2.result ≡ span.first + span.pages = omega (arith, c.from.ensures, c.from-2.ensures) in
    let wide : span.first + span.pages < width_at rows at = omega (arith, len, end, c.if-end-len.false) in
    let place : c.place-place.result ≡ place_at rows at (span.first + span.pages) =
    c.place-place.ensures ∙ (ap (λ (r : Row). get_or r.places (c.from.result + c.from-2.result) 0) (row_is rows at c.index-2.result.now stands.within c.index-2.ensures) ∙ ap (place_at rows at) end) in
    let low : c.place-place.result < length t.free_from.items = omega (arith, place, places.within at (span.first + span.pages) wide, holds.free_from_size) in
    omega (arith, low, t.free_from.ok.0)

pub returns : goal.returns
returns c =
    let t = c.self.inside in
    let rows = t.rows.items in
    let places = c.self.invariant.0 in
    let holds = c.self.invariant.1 in
    let span : Run = c.args.span.now in
    let at = c.row_of-at.result in
    let stands = rw c.as_slice.ensures.value at c.row_of-at.ensures in
    let fits = lies_at rows span at places.distinct (rw (← c.self.view_is) at c.requires) stands in
    let row = row_is rows at c.index.result.now stands.within c.index.ensures in
    let len : c.len.result ≡ width_at rows at = c.len.ensures ∙ ap {B = ℕ} (λ (r : Row). length r.places) row in
    let end : c.from.result + c.from-2.result ≡ span.first + span.pages = omega (arith, c.from.ensures, c.from-2.ensures) in
    let wide : span.first + span.pages < width_at rows at = omega (arith, len, end, c.if-end-len.false) in
    let place : c.place-place.result ≡ place_at rows at (span.first + span.pages) =
    c.place-place.ensures ∙ (ap (λ (r : Row). get_or r.places (c.from.result + c.from-2.result) 0) (row_is rows at c.index-2.result.now stands.within c.index-2.ensures) ∙ ap (place_at rows at) end) in
    let low : c.place-place.result < length t.free_from.items = omega (arith, place, places.within at (span.first + span.pages) wide, holds.free_from_size) in
    let tell = holds.begins at (span.first + span.pages) wide in
    rw (← c.self.view_is)
    (mark_is t.free_from.items c.place-place.result c.index-3.result.now low c.index-3.ensures
    ∙ (ap (λ p. get_or t.free_from.items p 0) place ∙ (tell ∙ ap (λ id. pages_of (filter (begins_at id (span.first + span.pages)) (free_of t.runs))) stands.numbered)))
