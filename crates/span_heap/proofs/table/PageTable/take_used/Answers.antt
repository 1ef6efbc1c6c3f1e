use Rattle.std.proofs.Common.{◌≡◌, ℕ, ◌+◌, ◌-◌, ◌<◌, length, get_or, refl, ◌∙◌, ap, arith}
use Rattle.span_heap.specs.Run.{begins_at}
use Rattle.span_heap.specs.Placed.{used_of}
use Rattle.span_heap.specs.Table.{Row, row_at, width_at, place_at}
use Rattle.span_heap.proofs.TableTellsEachRun.{row_is, mark_is, row_of_run, found_run, mark_reaches, begins_only, taken_out, left_out, count_reaches, CountsTell-taken, HoldsRuns-used_taken}
use Rattle.span_heap.proofs.RowsTellAlike.{ArePlaces-recounted, HoldsRuns-recounted, AreDropped-recounted, shown_recounted}
use Rattle.span_heap.proofs.table.PageTable.take_used.Goals as goal

pub row_of-at-requires : goal.row_of-at-requires
row_of-at-requires c =
    let t = c.self.inside in
    let rows = t.rows.items in
    let places = c.self.invariant.0 in
    let holds = c.self.invariant.1 in
    rw c.as_slice.ensures.value (row_of_run rows t.runs.runs t.runs.used c.args.span holds.used_keys (rw (← c.self.view_is) at c.requires))

pub place-first-requires : goal.place-first-requires
place-first-requires c =
    let t = c.self.inside in
    let rows = t.rows.items in
    let places = c.self.invariant.0 in
    let holds = c.self.invariant.1 in
    let at = c.row_of-at.result in
    let stands = rw c.as_slice.ensures.value at c.row_of-at.ensures in
    let found = found_run rows t.runs.runs t.runs.used c.args.span at places.distinct holds.used_keys (rw (← c.self.view_is) at c.requires) stands in
    let wide : c.args.span.first < width_at rows at = omega (arith, found.sized, found.fits) in
    let wide_last : c.args.span.first + (c.args.span.pages - 1) < width_at rows at = omega (arith, found.sized, found.fits) in
    rw (row_is rows at c.index.result.now stands.within c.index.ensures) wide

pub take_used-requires : goal.take_used-requires
take_used-requires c =
    let t = c.self.inside in
    let rows = t.rows.items in
    let places = c.self.invariant.0 in
    let holds = c.self.invariant.1 in
    let at = c.row_of-at.result in
    let stands = rw c.as_slice.ensures.value at c.row_of-at.ensures in
    let found = found_run rows t.runs.runs t.runs.used c.args.span at places.distinct holds.used_keys (rw (← c.self.view_is) at c.requires) stands in
    let wide : c.args.span.first < width_at rows at = omega (arith, found.sized, found.fits) in
    let wide_last : c.args.span.first + (c.args.span.pages - 1) < width_at rows at = omega (arith, found.sized, found.fits) in
    let first : c.place-first.result ≡ place_at rows at c.args.span.first =
    c.place-first.ensures ∙ ap (λ (r : Row). get_or r.places c.args.span.first 0) (row_is rows at c.index.result.now stands.within c.index.ensures) in
    rw first found.there

pub index_mut-requires : goal.index_mut-requires
index_mut-requires c =
    let t = c.self.inside in
    let rows = t.rows.items in
    let places = c.self.invariant.0 in
    let holds = c.self.invariant.1 in
    let at = c.row_of-at.result in
    let stands = rw c.as_slice.ensures.value at c.row_of-at.ensures in
    let found = found_run rows t.runs.runs t.runs.used c.args.span at places.distinct holds.used_keys (rw (← c.self.view_is) at c.requires) stands in
    let wide : c.args.span.first < width_at rows at = omega (arith, found.sized, found.fits) in
    let wide_last : c.args.span.first + (c.args.span.pages - 1) < width_at rows at = omega (arith, found.sized, found.fits) in
    let first : c.place-first.result ≡ place_at rows at c.args.span.first =
    c.place-first.ensures ∙ ap (λ (r : Row). get_or r.places c.args.span.first 0) (row_is rows at c.index.result.now stands.within c.index.ensures) in
    let low : c.place-first.result < length t.used_from.items = omega (arith, first, places.within at c.args.span.first wide, holds.used_from_size) in
    omega (arith, low, t.used_from.ok.0)

pub overflow_sub-index_mut : goal.overflow_sub-index_mut
overflow_sub-index_mut c =
    let t = c.self.inside in
    let rows = t.rows.items in
    let places = c.self.invariant.0 in
    let holds = c.self.invariant.1 in
    let at = c.row_of-at.result in
    let stands = rw c.as_slice.ensures.value at c.row_of-at.ensures in
    let found = found_run rows t.runs.runs t.runs.used c.args.span at places.distinct holds.used_keys (rw (← c.self.view_is) at c.requires) stands in
    let wide : c.args.span.first < width_at rows at = omega (arith, found.sized, found.fits) in
    let wide_last : c.args.span.first + (c.args.span.pages - 1) < width_at rows at = omega (arith, found.sized, found.fits) in
    let first : c.place-first.result ≡ place_at rows at c.args.span.first =
    c.place-first.ensures ∙ ap (λ (r : Row). get_or r.places c.args.span.first 0) (row_is rows at c.index.result.now stands.within c.index.ensures) in
    let low : c.place-first.result < length t.used_from.items = omega (arith, first, places.within at c.args.span.first wide, holds.used_from_size) in
    let mark = mark_is t.used_from.items c.place-first.result c.index_mut.result.now low c.index_mut.ensures.value in
    let taken = taken_out rows t.runs.runs t.runs.used c.args.span at found (omega (arith, holds.once (place_at rows at c.args.span.first))) in
    omega (arith, rw first at mark, mark_reaches rows t.used_from.items begins_at (used_of t.runs) _ c.args.span at c.args.span.first holds.uses wide (begins_only rows c.args.span at places.distinct stands) taken)

pub less_used-requires : goal.less_used-requires
less_used-requires c =
    let t = c.self.inside in
    let rows = t.rows.items in
    let places = c.self.invariant.0 in
    let holds = c.self.invariant.1 in
    let at = c.row_of-at.result in
    let stands = rw c.as_slice.ensures.value at c.row_of-at.ensures in
    let found = found_run rows t.runs.runs t.runs.used c.args.span at places.distinct holds.used_keys (rw (← c.self.view_is) at c.requires) stands in
    let row = row_is rows at c.index_mut-2.result.now stands.within c.index_mut-2.ensures.value in
    let taken = taken_out rows t.runs.runs t.runs.used c.args.span at found (omega (arith, holds.once (place_at rows at c.args.span.first))) in
    omega (arith, ap {B = ℕ} (λ (r : Row). r.used) row, count_reaches rows (used_of t.runs) _ c.args.span at c.self.invariant.2 stands taken)

pub invariant_of-self : goal.invariant_of-self
invariant_of-self c =
    let t = c.self.inside in
    let rows = t.rows.items in
    let places = c.self.invariant.0 in
    let holds = c.self.invariant.1 in
    let at = c.row_of-at.result in
    let stands = rw c.as_slice.ensures.value at c.row_of-at.ensures in
    let found = found_run rows t.runs.runs t.runs.used c.args.span at places.distinct holds.used_keys (rw (← c.self.view_is) at c.requires) stands in
    let wide : c.args.span.first < width_at rows at = omega (arith, found.sized, found.fits) in
    let first : c.place-first.result ≡ place_at rows at c.args.span.first =
    c.place-first.ensures ∙ ap (λ (r : Row). get_or r.places c.args.span.first 0) (row_is rows at c.index.result.now stands.within c.index.ensures) in
    let low : c.place-first.result < length t.used_from.items = omega (arith, first, places.within at c.args.span.first wide, holds.used_from_size) in
    let mark = mark_is t.used_from.items c.place-first.result c.index_mut.result.now low c.index_mut.ensures.value in
    let taken = taken_out rows t.runs.runs t.runs.used c.args.span at found (omega (arith, holds.once (place_at rows at c.args.span.first))) in
    let row = row_is rows at c.index_mut-2.result.now stands.within c.index_mut-2.ensures.value in
    let n = (row_at rows at).used - c.args.span.pages in
    let now : c.less_used.new.self ≡ record { id = (row_at rows at).id; places = (row_at rows at).places; used = n } =
    c.less_used.ensures ∙ ap (λ (r : Row). record { id = r.id; places = r.places; used = r.used - c.args.span.pages }) row in (
      rw (now, c.take_used.ensures.runs) (ArePlaces-recounted rows t.spare.items (length t.runs.runs) at n stands.within places),
      rw (now, first)
          (HoldsRuns-recounted rows c.take_used.new.self t.free_from.items t.free_to.items _ at n stands.within
          (HoldsRuns-used_taken rows t.spare.items (length t.runs.runs) t.runs c.take_used.new.self t.free_from.items t.free_to.items t.used_from.items c.args.span at _ places refl holds stands found
          c.take_used.ensures.free (rw first at c.take_used.ensures.used) c.take_used.ensures.runs (ap (λ x. x - c.args.span.pages) (rw first at mark)))),
      rw (now, c.take_used.ensures.runs, c.take_used.ensures.used, first) (CountsTell-taken rows (used_of t.runs) _ c.args.span at n places.distinct c.self.invariant.2 stands taken refl),
      rw c.take_used.ensures.runs c.self.invariant.3,
      rw now (AreDropped-recounted rows t.dropped at n stands.within c.self.invariant.4),
    )

pub returns-clause-segments : goal.returns-clause-segments
returns-clause-segments c =
    let t = c.self.inside in
    let rows = t.rows.items in
    let at = c.row_of-at.result in
    let stands = rw c.as_slice.ensures.value at c.row_of-at.ensures in
    let row = row_is rows at c.index_mut-2.result.now stands.within c.index_mut-2.ensures.value in
    let n = (row_at rows at).used - c.args.span.pages in
    let now : c.less_used.new.self ≡ record { id = (row_at rows at).id; places = (row_at rows at).places; used = n } =
    c.less_used.ensures ∙ ap (λ (r : Row). record { id = r.id; places = r.places; used = r.used - c.args.span.pages }) row in
    rw (← c.self.view_is, now) (shown_recounted rows at n stands.within)

pub returns-clause-used : goal.returns-clause-used
returns-clause-used c =
    let t = c.self.inside in
    let rows = t.rows.items in
    let places = c.self.invariant.0 in
    let holds = c.self.invariant.1 in
    let at = c.row_of-at.result in
    let stands = rw c.as_slice.ensures.value at c.row_of-at.ensures in
    let found = found_run rows t.runs.runs t.runs.used c.args.span at places.distinct holds.used_keys (rw (← c.self.view_is) at c.requires) stands in
    let wide : c.args.span.first < width_at rows at = omega (arith, found.sized, found.fits) in
    let wide_last : c.args.span.first + (c.args.span.pages - 1) < width_at rows at = omega (arith, found.sized, found.fits) in
    let first : c.place-first.result ≡ place_at rows at c.args.span.first =
    c.place-first.ensures ∙ ap (λ (r : Row). get_or r.places c.args.span.first 0) (row_is rows at c.index.result.now stands.within c.index.ensures) in
    rw (← c.self.view_is, c.take_used.ensures.runs, c.take_used.ensures.used, first) (taken_out rows t.runs.runs t.runs.used c.args.span at found (omega (arith, holds.once (place_at rows at c.args.span.first))))

pub returns-clause-others : goal.returns-clause-others
returns-clause-others c =
    let t = c.self.inside in
    let rows = t.rows.items in
    let places = c.self.invariant.0 in
    let holds = c.self.invariant.1 in
    let at = c.row_of-at.result in
    let stands = rw c.as_slice.ensures.value at c.row_of-at.ensures in
    let found = found_run rows t.runs.runs t.runs.used c.args.span at places.distinct holds.used_keys (rw (← c.self.view_is) at c.requires) stands in
    let wide : c.args.span.first < width_at rows at = omega (arith, found.sized, found.fits) in
    let wide_last : c.args.span.first + (c.args.span.pages - 1) < width_at rows at = omega (arith, found.sized, found.fits) in
    let first : c.place-first.result ≡ place_at rows at c.args.span.first =
    c.place-first.ensures ∙ ap (λ (r : Row). get_or r.places c.args.span.first 0) (row_is rows at c.index.result.now stands.within c.index.ensures) in
    rw (← c.self.view_is, c.take_used.ensures.runs, c.take_used.ensures.used, first) (left_out rows t.runs.runs t.runs.used c.args.span at places.distinct holds.used_keys stands found)
