use Rattle.std.proofs.Common.{◌≡◌, ℕ, ◌+◌, ◌-◌, ◌<◌, length, get_or, refl, sym, ◌∙◌, ap, subst, arith, length-set}
use Rattle.span_heap.specs.Run.{begins_at}
use Rattle.span_heap.specs.Placed.{used_of}
use Rattle.span_heap.specs.Table.{Row, row_at, width_at, place_at, CountsTell}
use Rattle.span_heap.proofs.TableTellsEachRun.{row_is, mark_is, row_of_lies, lies_at, new_place, mark-le-pages, count-le-pages, recounted, CountsTell-added, run_added, runs_same, HoldsRuns-used_added}
use Rattle.span_heap.proofs.RowsTellAlike.{ArePlaces-recounted, HoldsRuns-recounted, AreDropped-recounted, shown_recounted}
use Rattle.span_heap.proofs.table.PageTable.add_used.Goals as goal

pub row_of-at-requires : goal.row_of-at-requires
row_of-at-requires c =
    let t = c.self.inside in
    let rows = t.rows.items in
    let places = c.self.invariant.0 in
    let holds = c.self.invariant.1 in
    rw c.as_slice.ensures.value (row_of_lies rows c.args.span (rw (← c.self.view_is) at c.requires.lies))

pub place-first-requires : goal.place-first-requires
place-first-requires c =
    let t = c.self.inside in
    let rows = t.rows.items in
    let places = c.self.invariant.0 in
    let holds = c.self.invariant.1 in
    let at = c.row_of-at.result in
    let stands = rw c.as_slice.ensures.value at c.row_of-at.ensures in
    let lies = rw (← c.self.view_is) at c.requires.lies in
    let fits = lies_at rows c.args.span at places.distinct lies stands in
    let wide : c.args.span.first < width_at rows at = omega (arith, fits) in
    let wide_last : c.args.span.first + (c.args.span.pages - 1) < width_at rows at = omega (arith, fits) in
    rw (row_is rows at c.index.result.now stands.within c.index.ensures) wide

pub add_used-requires-clause-not_free : goal.add_used-requires-clause-not_free
add_used-requires-clause-not_free c = λ there.
    let t = c.self.inside in
    let rows = t.rows.items in
    let places = c.self.invariant.0 in
    let holds = c.self.invariant.1 in
    let at = c.row_of-at.result in
    let stands = rw c.as_slice.ensures.value at c.row_of-at.ensures in
    let lies = rw (← c.self.view_is) at c.requires.lies in
    let fits = lies_at rows c.args.span at places.distinct lies stands in
    let wide : c.args.span.first < width_at rows at = omega (arith, fits) in
    let wide_last : c.args.span.first + (c.args.span.pages - 1) < width_at rows at = omega (arith, fits) in
    let first : c.place-first.result ≡ place_at rows at c.args.span.first =
    c.place-first.ensures ∙ ap (λ (r : Row). get_or r.places c.args.span.first 0) (row_is rows at c.index.result.now stands.within c.index.ensures) in
    new_place rows t.runs.runs t.runs.free c.args.span at places.apart holds.free_keys (rw (← c.self.view_is) at c.requires.not_free) stands wide (rw first at there)

pub add_used-requires-clause-not_used : goal.add_used-requires-clause-not_used
add_used-requires-clause-not_used c = λ there.
    let t = c.self.inside in
    let rows = t.rows.items in
    let places = c.self.invariant.0 in
    let holds = c.self.invariant.1 in
    let at = c.row_of-at.result in
    let stands = rw c.as_slice.ensures.value at c.row_of-at.ensures in
    let lies = rw (← c.self.view_is) at c.requires.lies in
    let fits = lies_at rows c.args.span at places.distinct lies stands in
    let wide : c.args.span.first < width_at rows at = omega (arith, fits) in
    let wide_last : c.args.span.first + (c.args.span.pages - 1) < width_at rows at = omega (arith, fits) in
    let first : c.place-first.result ≡ place_at rows at c.args.span.first =
    c.place-first.ensures ∙ ap (λ (r : Row). get_or r.places c.args.span.first 0) (row_is rows at c.index.result.now stands.within c.index.ensures) in
    new_place rows t.runs.runs t.runs.used c.args.span at places.apart holds.used_keys (rw (← c.self.view_is) at c.requires.not_used) stands wide (rw first at there)

pub overflow_add-index_mut : goal.overflow_add-index_mut
overflow_add-index_mut c =
    let t = c.self.inside in
    let rows = t.rows.items in
    let places = c.self.invariant.0 in
    let holds = c.self.invariant.1 in
    let at = c.row_of-at.result in
    let stands = rw c.as_slice.ensures.value at c.row_of-at.ensures in
    let lies = rw (← c.self.view_is) at c.requires.lies in
    let fits = lies_at rows c.args.span at places.distinct lies stands in
    let wide : c.args.span.first < width_at rows at = omega (arith, fits) in
    let wide_last : c.args.span.first + (c.args.span.pages - 1) < width_at rows at = omega (arith, fits) in
    let first : c.place-first.result ≡ place_at rows at c.args.span.first =
    c.place-first.ensures ∙ ap (λ (r : Row). get_or r.places c.args.span.first 0) (row_is rows at c.index.result.now stands.within c.index.ensures) in
    let low : c.place-first.result < length t.used_from.items = omega (arith, first, places.within at c.args.span.first wide, holds.used_from_size) in
    let mark = mark_is t.used_from.items c.place-first.result c.index_mut.result.now low c.index_mut.ensures.value in
    let small = rw (← c.self.view_is) at c.requires.small in
    omega (arith, small, rw first at mark, mark-le-pages rows t.used_from.items begins_at (used_of t.runs) at c.args.span.first holds.uses wide)

pub more_used-requires : goal.more_used-requires
more_used-requires c =
    let t = c.self.inside in
    let rows = t.rows.items in
    let at = c.row_of-at.result in
    let stands = rw c.as_slice.ensures.value at c.row_of-at.ensures in
    let row = row_is rows at c.index_mut-2.result.now stands.within c.index_mut-2.ensures.value in
    let small = rw (← c.self.view_is) at c.requires.small in
    omega (arith, small, ap {B = ℕ} (λ (r : Row). r.used) row, count-le-pages rows (used_of t.runs) at c.self.invariant.2 stands.live)

pub invariant_of-self : goal.invariant_of-self
invariant_of-self c =
    let t = c.self.inside in
    let rows = t.rows.items in
    let places = c.self.invariant.0 in
    let holds = c.self.invariant.1 in
    let at = c.row_of-at.result in
    let stands = rw c.as_slice.ensures.value at c.row_of-at.ensures in
    let lies = rw (← c.self.view_is) at c.requires.lies in
    let fits = lies_at rows c.args.span at places.distinct lies stands in
    let wide : c.args.span.first < width_at rows at = omega (arith, fits) in
    let first : c.place-first.result ≡ place_at rows at c.args.span.first =
    c.place-first.ensures ∙ ap (λ (r : Row). get_or r.places c.args.span.first 0) (row_is rows at c.index.result.now stands.within c.index.ensures) in
    let low : c.place-first.result < length t.used_from.items = omega (arith, first, places.within at c.args.span.first wide, holds.used_from_size) in
    let mark = mark_is t.used_from.items c.place-first.result c.index_mut.result.now low c.index_mut.ensures.value in
    let row = row_is rows at c.index_mut-2.result.now stands.within c.index_mut-2.ensures.value in
    let n = (row_at rows at).used + c.args.span.pages in
    let now : c.more_used.new.self ≡ record { id = (row_at rows at).id; places = (row_at rows at).places; used = n } =
    c.more_used.ensures ∙ ap (λ (r : Row). record { id = r.id; places = r.places; used = r.used + c.args.span.pages }) row in
    let not_used = new_place rows t.runs.runs t.runs.used c.args.span at places.apart holds.used_keys (rw (← c.self.view_is) at c.requires.not_used) stands wide in (
      rw (now, c.add_used.ensures.runs, length-set t.runs.runs c.place-first.result c.args.span) (ArePlaces-recounted rows t.spare.items (length t.runs.runs) at n stands.within places),
      rw (now, first)
          (HoldsRuns-recounted rows c.add_used.new.self t.free_from.items t.free_to.items _ at n stands.within
          (HoldsRuns-used_added rows t.spare.items (length t.runs.runs) t.runs c.add_used.new.self t.free_from.items t.free_to.items t.used_from.items c.args.span at _ places refl holds stands fits.0 fits.1
          (new_place rows t.runs.runs t.runs.free c.args.span at places.apart holds.free_keys (rw (← c.self.view_is) at c.requires.not_free) stands wide) not_used
          c.add_used.ensures.free (rw first at c.add_used.ensures.used) (rw first at c.add_used.ensures.runs) (ap (λ x. x + c.args.span.pages) (rw first at mark)))),
      rw (now, c.add_used.ensures.runs, c.add_used.ensures.used, first)
          (subst (CountsTell (recounted rows at n)) (sym (run_added t.runs.runs t.runs.used (place_at rows at c.args.span.first) c.args.span (places.within at c.args.span.first wide) not_used))
          (CountsTell-added rows (used_of t.runs) c.args.span at n places.distinct c.self.invariant.2 stands refl)),
      rw (c.add_used.ensures.runs, length-set t.runs.runs c.place-first.result c.args.span) c.self.invariant.3,
      rw now (AreDropped-recounted rows t.dropped at n stands.within c.self.invariant.4),
    )

pub returns-clause-segments : goal.returns-clause-segments
returns-clause-segments c =
    let t = c.self.inside in
    let rows = t.rows.items in
    let at = c.row_of-at.result in
    let stands = rw c.as_slice.ensures.value at c.row_of-at.ensures in
    let row = row_is rows at c.index_mut-2.result.now stands.within c.index_mut-2.ensures.value in
    let n = (row_at rows at).used + c.args.span.pages in
    let now : c.more_used.new.self ≡ record { id = (row_at rows at).id; places = (row_at rows at).places; used = n } =
    c.more_used.ensures ∙ ap (λ (r : Row). record { id = r.id; places = r.places; used = r.used + c.args.span.pages }) row in
    rw (← c.self.view_is, now) (shown_recounted rows at n stands.within)

pub returns-clause-free : goal.returns-clause-free
returns-clause-free c =
    let t = c.self.inside in
    let rows = t.rows.items in
    let places = c.self.invariant.0 in
    let holds = c.self.invariant.1 in
    let at = c.row_of-at.result in
    let stands = rw c.as_slice.ensures.value at c.row_of-at.ensures in
    let lies = rw (← c.self.view_is) at c.requires.lies in
    let fits = lies_at rows c.args.span at places.distinct lies stands in
    let wide : c.args.span.first < width_at rows at = omega (arith, fits) in
    let wide_last : c.args.span.first + (c.args.span.pages - 1) < width_at rows at = omega (arith, fits) in
    let first : c.place-first.result ≡ place_at rows at c.args.span.first =
    c.place-first.ensures ∙ ap (λ (r : Row). get_or r.places c.args.span.first 0) (row_is rows at c.index.result.now stands.within c.index.ensures) in
    rw (← c.self.view_is, c.add_used.ensures.runs, c.add_used.ensures.free, first) (runs_same t.runs.runs t.runs.free (place_at rows at c.args.span.first) c.args.span (λ there. new_place rows t.runs.runs t.runs.free c.args.span at places.apart holds.free_keys (rw (← c.self.view_is) at c.requires.not_free) stands wide there))

pub returns-clause-used : goal.returns-clause-used
returns-clause-used c =
    let t = c.self.inside in
    let rows = t.rows.items in
    let places = c.self.invariant.0 in
    let holds = c.self.invariant.1 in
    let at = c.row_of-at.result in
    let stands = rw c.as_slice.ensures.value at c.row_of-at.ensures in
    let lies = rw (← c.self.view_is) at c.requires.lies in
    let fits = lies_at rows c.args.span at places.distinct lies stands in
    let wide : c.args.span.first < width_at rows at = omega (arith, fits) in
    let wide_last : c.args.span.first + (c.args.span.pages - 1) < width_at rows at = omega (arith, fits) in
    let first : c.place-first.result ≡ place_at rows at c.args.span.first =
    c.place-first.ensures ∙ ap (λ (r : Row). get_or r.places c.args.span.first 0) (row_is rows at c.index.result.now stands.within c.index.ensures) in
    rw (← c.self.view_is, c.add_used.ensures.runs, c.add_used.ensures.used, first) (run_added t.runs.runs t.runs.used (place_at rows at c.args.span.first) c.args.span (places.within at c.args.span.first wide) (λ there. new_place rows t.runs.runs t.runs.used c.args.span at places.apart holds.used_keys (rw (← c.self.view_is) at c.requires.not_used) stands wide there))
