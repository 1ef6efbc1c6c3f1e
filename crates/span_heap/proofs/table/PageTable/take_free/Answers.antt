use Rattle.std.proofs.Common.{◌≡◌, ◌+◌, ◌-◌, ◌<◌, length, get_or, refl, ◌∙◌, ap, arith}
use Rattle.span_heap.specs.Run.{begins_at}
use Rattle.span_heap.specs.Placed.{free_of}
use Rattle.span_heap.specs.Table.{Row, width_at, place_at, stops_at}
use Rattle.span_heap.proofs.TableTellsEachRun.{row_is, row_small, mark_is, row_of_run, found_run, mark_reaches, begins_only, stops_only, taken_out, left_out, HoldsRuns-free_taken}
use Rattle.span_heap.proofs.table.PageTable.take_free.Goals as goal

pub row_of-at-requires : goal.row_of-at-requires
row_of-at-requires c =
    let t = c.self.inside in
    let rows = t.rows.items in
    let places = c.self.invariant.0 in
    let holds = c.self.invariant.1 in
    rw c.as_slice.ensures.value (row_of_run rows t.runs.runs t.runs.free c.args.run holds.free_keys (rw (← c.self.view_is) at c.requires))

pub place-first-requires : goal.place-first-requires
place-first-requires c =
    let t = c.self.inside in
    let rows = t.rows.items in
    let places = c.self.invariant.0 in
    let holds = c.self.invariant.1 in
    let at = c.row_of-at.result in
    let stands = rw c.as_slice.ensures.value at c.row_of-at.ensures in
    let found = found_run rows t.runs.runs t.runs.free c.args.run at places.distinct holds.free_keys (rw (← c.self.view_is) at c.requires) stands in
    let wide : c.args.run.first < width_at rows at = omega (arith, found.sized, found.fits) in
    let wide_last : c.args.run.first + (c.args.run.pages - 1) < width_at rows at = omega (arith, found.sized, found.fits) in
    rw (row_is rows at c.index.result.now stands.within c.index.ensures) wide

pub overflow_sub-run : goal.overflow_sub-run
overflow_sub-run c =
    let t = c.self.inside in
    let rows = t.rows.items in
    let places = c.self.invariant.0 in
    let holds = c.self.invariant.1 in
    let at = c.row_of-at.result in
    let stands = rw c.as_slice.ensures.value at c.row_of-at.ensures in
    let found = found_run rows t.runs.runs t.runs.free c.args.run at places.distinct holds.free_keys (rw (← c.self.view_is) at c.requires) stands in
    let wide : c.args.run.first < width_at rows at = omega (arith, found.sized, found.fits) in
    let wide_last : c.args.run.first + (c.args.run.pages - 1) < width_at rows at = omega (arith, found.sized, found.fits) in
    omega (arith, found.sized)

pub overflow_add-run : goal.overflow_add-run
overflow_add-run c =
    let t = c.self.inside in
    let rows = t.rows.items in
    let places = c.self.invariant.0 in
    let holds = c.self.invariant.1 in
    let at = c.row_of-at.result in
    let stands = rw c.as_slice.ensures.value at c.row_of-at.ensures in
    let found = found_run rows t.runs.runs t.runs.free c.args.run at places.distinct holds.free_keys (rw (← c.self.view_is) at c.requires) stands in
    let wide : c.args.run.first < width_at rows at = omega (arith, found.sized, found.fits) in
    let wide_last : c.args.run.first + (c.args.run.pages - 1) < width_at rows at = omega (arith, found.sized, found.fits) in
    omega (arith, wide_last, row_small rows t.spare.items (length t.runs.runs) at places stands.within)

pub place-last-requires : goal.place-last-requires
place-last-requires c =
    let t = c.self.inside in
    let rows = t.rows.items in
    let places = c.self.invariant.0 in
    let holds = c.self.invariant.1 in
    let at = c.row_of-at.result in
    let stands = rw c.as_slice.ensures.value at c.row_of-at.ensures in
    let found = found_run rows t.runs.runs t.runs.free c.args.run at places.distinct holds.free_keys (rw (← c.self.view_is) at c.requires) stands in
    let wide : c.args.run.first < width_at rows at = omega (arith, found.sized, found.fits) in
    let wide_last : c.args.run.first + (c.args.run.pages - 1) < width_at rows at = omega (arith, found.sized, found.fits) in
    rw (row_is rows at c.index-2.result.now stands.within c.index-2.ensures) wide_last

pub take_free-requires : goal.take_free-requires
take_free-requires c =
    let t = c.self.inside in
    let rows = t.rows.items in
    let places = c.self.invariant.0 in
    let holds = c.self.invariant.1 in
    let at = c.row_of-at.result in
    let stands = rw c.as_slice.ensures.value at c.row_of-at.ensures in
    let found = found_run rows t.runs.runs t.runs.free c.args.run at places.distinct holds.free_keys (rw (← c.self.view_is) at c.requires) stands in
    let wide : c.args.run.first < width_at rows at = omega (arith, found.sized, found.fits) in
    let wide_last : c.args.run.first + (c.args.run.pages - 1) < width_at rows at = omega (arith, found.sized, found.fits) in
    let first : c.place-first.result ≡ place_at rows at c.args.run.first =
    c.place-first.ensures ∙ ap (λ (r : Row). get_or r.places c.args.run.first 0) (row_is rows at c.index.result.now stands.within c.index.ensures) in
    rw first found.there

pub index_mut-requires : goal.index_mut-requires
index_mut-requires c =
    let t = c.self.inside in
    let rows = t.rows.items in
    let places = c.self.invariant.0 in
    let holds = c.self.invariant.1 in
    let at = c.row_of-at.result in
    let stands = rw c.as_slice.ensures.value at c.row_of-at.ensures in
    let found = found_run rows t.runs.runs t.runs.free c.args.run at places.distinct holds.free_keys (rw (← c.self.view_is) at c.requires) stands in
    let wide : c.args.run.first < width_at rows at = omega (arith, found.sized, found.fits) in
    let wide_last : c.args.run.first + (c.args.run.pages - 1) < width_at rows at = omega (arith, found.sized, found.fits) in
    let first : c.place-first.result ≡ place_at rows at c.args.run.first =
    c.place-first.ensures ∙ ap (λ (r : Row). get_or r.places c.args.run.first 0) (row_is rows at c.index.result.now stands.within c.index.ensures) in
    let low : c.place-first.result < length t.free_from.items = omega (arith, first, places.within at c.args.run.first wide, holds.free_from_size) in
    omega (arith, low, t.free_from.ok.0)

pub overflow_sub-index_mut : goal.overflow_sub-index_mut
overflow_sub-index_mut c =
    let t = c.self.inside in
    let rows = t.rows.items in
    let places = c.self.invariant.0 in
    let holds = c.self.invariant.1 in
    let at = c.row_of-at.result in
    let stands = rw c.as_slice.ensures.value at c.row_of-at.ensures in
    let found = found_run rows t.runs.runs t.runs.free c.args.run at places.distinct holds.free_keys (rw (← c.self.view_is) at c.requires) stands in
    let wide : c.args.run.first < width_at rows at = omega (arith, found.sized, found.fits) in
    let wide_last : c.args.run.first + (c.args.run.pages - 1) < width_at rows at = omega (arith, found.sized, found.fits) in
    let first : c.place-first.result ≡ place_at rows at c.args.run.first =
    c.place-first.ensures ∙ ap (λ (r : Row). get_or r.places c.args.run.first 0) (row_is rows at c.index.result.now stands.within c.index.ensures) in
    let low : c.place-first.result < length t.free_from.items = omega (arith, first, places.within at c.args.run.first wide, holds.free_from_size) in
    let mark = mark_is t.free_from.items c.place-first.result c.index_mut.result.now low c.index_mut.ensures.value in
    let taken = taken_out rows t.runs.runs t.runs.free c.args.run at found (omega (arith, holds.once (place_at rows at c.args.run.first))) in
    omega (arith, rw first at mark, mark_reaches rows t.free_from.items begins_at (free_of t.runs) _ c.args.run at c.args.run.first holds.begins wide (begins_only rows c.args.run at places.distinct stands) taken)

pub index_mut-requires-2 : goal.index_mut-requires-2
index_mut-requires-2 c =
    let t = c.self.inside in
    let rows = t.rows.items in
    let places = c.self.invariant.0 in
    let holds = c.self.invariant.1 in
    let at = c.row_of-at.result in
    let stands = rw c.as_slice.ensures.value at c.row_of-at.ensures in
    let found = found_run rows t.runs.runs t.runs.free c.args.run at places.distinct holds.free_keys (rw (← c.self.view_is) at c.requires) stands in
    let wide : c.args.run.first < width_at rows at = omega (arith, found.sized, found.fits) in
    let wide_last : c.args.run.first + (c.args.run.pages - 1) < width_at rows at = omega (arith, found.sized, found.fits) in
    let first : c.place-first.result ≡ place_at rows at c.args.run.first =
    c.place-first.ensures ∙ ap (λ (r : Row). get_or r.places c.args.run.first 0) (row_is rows at c.index.result.now stands.within c.index.ensures) in
    let last : c.place-last.result ≡ place_at rows at (c.args.run.first + (c.args.run.pages - 1)) =
    c.place-last.ensures ∙ ap (λ (r : Row). get_or r.places (c.args.run.first + (c.args.run.pages - 1)) 0) (row_is rows at c.index-2.result.now stands.within c.index-2.ensures) in
    let low : c.place-first.result < length t.free_from.items = omega (arith, first, places.within at c.args.run.first wide, holds.free_from_size) in
    let low_last : c.place-last.result < length t.free_to.items = omega (arith, last, places.within at (c.args.run.first + (c.args.run.pages - 1)) wide_last, holds.free_to_size) in
    omega (arith, low_last, t.free_to.ok.0)

pub overflow_sub-index_mut-2 : goal.overflow_sub-index_mut-2
overflow_sub-index_mut-2 c =
    let t = c.self.inside in
    let rows = t.rows.items in
    let places = c.self.invariant.0 in
    let holds = c.self.invariant.1 in
    let at = c.row_of-at.result in
    let stands = rw c.as_slice.ensures.value at c.row_of-at.ensures in
    let found = found_run rows t.runs.runs t.runs.free c.args.run at places.distinct holds.free_keys (rw (← c.self.view_is) at c.requires) stands in
    let wide : c.args.run.first < width_at rows at = omega (arith, found.sized, found.fits) in
    let wide_last : c.args.run.first + (c.args.run.pages - 1) < width_at rows at = omega (arith, found.sized, found.fits) in
    let first : c.place-first.result ≡ place_at rows at c.args.run.first =
    c.place-first.ensures ∙ ap (λ (r : Row). get_or r.places c.args.run.first 0) (row_is rows at c.index.result.now stands.within c.index.ensures) in
    let last : c.place-last.result ≡ place_at rows at (c.args.run.first + (c.args.run.pages - 1)) =
    c.place-last.ensures ∙ ap (λ (r : Row). get_or r.places (c.args.run.first + (c.args.run.pages - 1)) 0) (row_is rows at c.index-2.result.now stands.within c.index-2.ensures) in
    let low : c.place-first.result < length t.free_from.items = omega (arith, first, places.within at c.args.run.first wide, holds.free_from_size) in
    let low_last : c.place-last.result < length t.free_to.items = omega (arith, last, places.within at (c.args.run.first + (c.args.run.pages - 1)) wide_last, holds.free_to_size) in
    let mark = mark_is t.free_from.items c.place-first.result c.index_mut.result.now low c.index_mut.ensures.value in
    let mark_2 = mark_is t.free_to.items c.place-last.result c.index_mut-2.result.now low_last c.index_mut-2.ensures.value in
    let taken = taken_out rows t.runs.runs t.runs.free c.args.run at found (omega (arith, holds.once (place_at rows at c.args.run.first))) in
    omega (arith, rw last at mark_2, mark_reaches rows t.free_to.items stops_at (free_of t.runs) _ c.args.run at (c.args.run.first + (c.args.run.pages - 1)) holds.stops wide_last (stops_only rows c.args.run at places.distinct stands found.sized) taken)

pub invariant_of-self : goal.invariant_of-self
invariant_of-self c =
    let t = c.self.inside in
    let rows = t.rows.items in
    let places = c.self.invariant.0 in
    let holds = c.self.invariant.1 in
    let at = c.row_of-at.result in
    let stands = rw c.as_slice.ensures.value at c.row_of-at.ensures in
    let found = found_run rows t.runs.runs t.runs.free c.args.run at places.distinct holds.free_keys (rw (← c.self.view_is) at c.requires) stands in
    let wide : c.args.run.first < width_at rows at = omega (arith, found.sized, found.fits) in
    let wide_last : c.args.run.first + (c.args.run.pages - 1) < width_at rows at = omega (arith, found.sized, found.fits) in
    let first : c.place-first.result ≡ place_at rows at c.args.run.first =
    c.place-first.ensures ∙ ap (λ (r : Row). get_or r.places c.args.run.first 0) (row_is rows at c.index.result.now stands.within c.index.ensures) in
    let last : c.place-last.result ≡ place_at rows at (c.args.run.first + (c.args.run.pages - 1)) =
    c.place-last.ensures ∙ ap (λ (r : Row). get_or r.places (c.args.run.first + (c.args.run.pages - 1)) 0) (row_is rows at c.index-2.result.now stands.within c.index-2.ensures) in
    let low : c.place-first.result < length t.free_from.items = omega (arith, first, places.within at c.args.run.first wide, holds.free_from_size) in
    let low_last : c.place-last.result < length t.free_to.items = omega (arith, last, places.within at (c.args.run.first + (c.args.run.pages - 1)) wide_last, holds.free_to_size) in
    let mark = mark_is t.free_from.items c.place-first.result c.index_mut.result.now low c.index_mut.ensures.value in
    let mark_2 = mark_is t.free_to.items c.place-last.result c.index_mut-2.result.now low_last c.index_mut-2.ensures.value in (
      rw c.take_free.ensures.runs places,
      rw (first, last)
          (HoldsRuns-free_taken rows t.spare.items (length t.runs.runs) t.runs c.take_free.new.self t.free_from.items t.free_to.items t.used_from.items c.args.run at _ _ places refl holds stands found
          (rw first at c.take_free.ensures.free) c.take_free.ensures.used c.take_free.ensures.runs (ap (λ x. x - c.args.run.pages) (rw first at mark)) (ap (λ x. x - c.args.run.pages) (rw last at mark_2))),
      rw (c.take_free.ensures.runs, c.take_free.ensures.used) c.self.invariant.2,
      rw c.take_free.ensures.runs c.self.invariant.3,
      c.self.invariant.4,
    )

pub returns-clause-free : goal.returns-clause-free
returns-clause-free c =
    let t = c.self.inside in
    let rows = t.rows.items in
    let places = c.self.invariant.0 in
    let holds = c.self.invariant.1 in
    let at = c.row_of-at.result in
    let stands = rw c.as_slice.ensures.value at c.row_of-at.ensures in
    let found = found_run rows t.runs.runs t.runs.free c.args.run at places.distinct holds.free_keys (rw (← c.self.view_is) at c.requires) stands in
    let wide : c.args.run.first < width_at rows at = omega (arith, found.sized, found.fits) in
    let wide_last : c.args.run.first + (c.args.run.pages - 1) < width_at rows at = omega (arith, found.sized, found.fits) in
    let first : c.place-first.result ≡ place_at rows at c.args.run.first =
    c.place-first.ensures ∙ ap (λ (r : Row). get_or r.places c.args.run.first 0) (row_is rows at c.index.result.now stands.within c.index.ensures) in
    rw (← c.self.view_is, c.take_free.ensures.runs, c.take_free.ensures.free, first) (left_out rows t.runs.runs t.runs.free c.args.run at places.distinct holds.free_keys stands found)
