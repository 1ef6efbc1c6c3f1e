use Rattle.std.proofs.Common.{◌≡◌, ◌+◌, ◌-◌, ◌<◌, length, get_or, refl, ◌∙◌, ap, arith, length-set, sym, subst}
use Rattle.span_heap.specs.Run.{begins_at}
use Rattle.span_heap.specs.Placed.{free_of}
use Rattle.span_heap.specs.Table.{Row, width_at, place_at, stops_at, CountsTell}
use Rattle.span_heap.proofs.TableTellsEachRun.{row_is, row_small, mark_is, row_of_lies, lies_at, new_place, mark-le-pages, run_added, runs_same, HoldsRuns-free_added}
use Rattle.span_heap.proofs.table.PageTable.add_free.Goals as goal

pub row_of-at-requires : goal.row_of-at-requires
row_of-at-requires c =
    let t = c.self.inside in
    let rows = t.rows.items in
    let places = c.self.invariant.0 in
    let holds = c.self.invariant.1 in
    rw c.as_slice.ensures.value (row_of_lies rows c.args.run (rw (← c.self.view_is) at c.requires.lies))

pub place-first-requires : goal.place-first-requires
place-first-requires c =
    let t = c.self.inside in
    let rows = t.rows.items in
    let places = c.self.invariant.0 in
    let holds = c.self.invariant.1 in
    let at = c.row_of-at.result in
    let stands = rw c.as_slice.ensures.value at c.row_of-at.ensures in
    let lies = rw (← c.self.view_is) at c.requires.lies in
    let fits = lies_at rows c.args.run at places.distinct lies stands in
    let wide : c.args.run.first < width_at rows at = omega (arith, fits) in
    let wide_last : c.args.run.first + (c.args.run.pages - 1) < width_at rows at = omega (arith, fits) in
    rw (row_is rows at c.index.result.now stands.within c.index.ensures) wide

pub overflow_add-run : goal.overflow_add-run
overflow_add-run c =
    let t = c.self.inside in
    let rows = t.rows.items in
    let places = c.self.invariant.0 in
    let holds = c.self.invariant.1 in
    let at = c.row_of-at.result in
    let stands = rw c.as_slice.ensures.value at c.row_of-at.ensures in
    let lies = rw (← c.self.view_is) at c.requires.lies in
    let fits = lies_at rows c.args.run at places.distinct lies stands in
    let wide : c.args.run.first < width_at rows at = omega (arith, fits) in
    let wide_last : c.args.run.first + (c.args.run.pages - 1) < width_at rows at = omega (arith, fits) in
    omega (arith, wide_last, row_small rows t.spare.items (length t.runs.runs) at places stands.within)

pub place-last-requires : goal.place-last-requires
place-last-requires c =
    let t = c.self.inside in
    let rows = t.rows.items in
    let places = c.self.invariant.0 in
    let holds = c.self.invariant.1 in
    let at = c.row_of-at.result in
    let stands = rw c.as_slice.ensures.value at c.row_of-at.ensures in
    let lies = rw (← c.self.view_is) at c.requires.lies in
    let fits = lies_at rows c.args.run at places.distinct lies stands in
    let wide : c.args.run.first < width_at rows at = omega (arith, fits) in
    let wide_last : c.args.run.first + (c.args.run.pages - 1) < width_at rows at = omega (arith, fits) in
    rw (row_is rows at c.index-2.result.now stands.within c.index-2.ensures) wide_last

pub add_free-requires-clause-not_free : goal.add_free-requires-clause-not_free
add_free-requires-clause-not_free c = λ there.
    let t = c.self.inside in
    let rows = t.rows.items in
    let places = c.self.invariant.0 in
    let holds = c.self.invariant.1 in
    let at = c.row_of-at.result in
    let stands = rw c.as_slice.ensures.value at c.row_of-at.ensures in
    let lies = rw (← c.self.view_is) at c.requires.lies in
    let fits = lies_at rows c.args.run at places.distinct lies stands in
    let wide : c.args.run.first < width_at rows at = omega (arith, fits) in
    let wide_last : c.args.run.first + (c.args.run.pages - 1) < width_at rows at = omega (arith, fits) in
    let first : c.place-first.result ≡ place_at rows at c.args.run.first =
    c.place-first.ensures ∙ ap (λ (r : Row). get_or r.places c.args.run.first 0) (row_is rows at c.index.result.now stands.within c.index.ensures) in
    new_place rows t.runs.runs t.runs.free c.args.run at places.apart holds.free_keys (rw (← c.self.view_is) at c.requires.not_free) stands wide (rw first at there)

pub add_free-requires-clause-not_used : goal.add_free-requires-clause-not_used
add_free-requires-clause-not_used c = λ there.
    let t = c.self.inside in
    let rows = t.rows.items in
    let places = c.self.invariant.0 in
    let holds = c.self.invariant.1 in
    let at = c.row_of-at.result in
    let stands = rw c.as_slice.ensures.value at c.row_of-at.ensures in
    let lies = rw (← c.self.view_is) at c.requires.lies in
    let fits = lies_at rows c.args.run at places.distinct lies stands in
    let wide : c.args.run.first < width_at rows at = omega (arith, fits) in
    let wide_last : c.args.run.first + (c.args.run.pages - 1) < width_at rows at = omega (arith, fits) in
    let first : c.place-first.result ≡ place_at rows at c.args.run.first =
    c.place-first.ensures ∙ ap (λ (r : Row). get_or r.places c.args.run.first 0) (row_is rows at c.index.result.now stands.within c.index.ensures) in
    new_place rows t.runs.runs t.runs.used c.args.run at places.apart holds.used_keys (rw (← c.self.view_is) at c.requires.not_used) stands wide (rw first at there)

pub overflow_add-index_mut : goal.overflow_add-index_mut
overflow_add-index_mut c =
    let t = c.self.inside in
    let rows = t.rows.items in
    let places = c.self.invariant.0 in
    let holds = c.self.invariant.1 in
    let at = c.row_of-at.result in
    let stands = rw c.as_slice.ensures.value at c.row_of-at.ensures in
    let lies = rw (← c.self.view_is) at c.requires.lies in
    let fits = lies_at rows c.args.run at places.distinct lies stands in
    let wide : c.args.run.first < width_at rows at = omega (arith, fits) in
    let wide_last : c.args.run.first + (c.args.run.pages - 1) < width_at rows at = omega (arith, fits) in
    let first : c.place-first.result ≡ place_at rows at c.args.run.first =
    c.place-first.ensures ∙ ap (λ (r : Row). get_or r.places c.args.run.first 0) (row_is rows at c.index.result.now stands.within c.index.ensures) in
    let low : c.place-first.result < length t.free_from.items = omega (arith, first, places.within at c.args.run.first wide, holds.free_from_size) in
    let mark = mark_is t.free_from.items c.place-first.result c.index_mut.result.now low c.index_mut.ensures.value in
    let small = rw (← c.self.view_is) at c.requires.small in
    omega (arith, small, rw first at mark, mark-le-pages rows t.free_from.items begins_at (free_of t.runs) at c.args.run.first holds.begins wide)

pub overflow_add-index_mut-2 : goal.overflow_add-index_mut-2
overflow_add-index_mut-2 c =
    let t = c.self.inside in
    let rows = t.rows.items in
    let places = c.self.invariant.0 in
    let holds = c.self.invariant.1 in
    let at = c.row_of-at.result in
    let stands = rw c.as_slice.ensures.value at c.row_of-at.ensures in
    let lies = rw (← c.self.view_is) at c.requires.lies in
    let fits = lies_at rows c.args.run at places.distinct lies stands in
    let wide : c.args.run.first < width_at rows at = omega (arith, fits) in
    let wide_last : c.args.run.first + (c.args.run.pages - 1) < width_at rows at = omega (arith, fits) in
    let first : c.place-first.result ≡ place_at rows at c.args.run.first =
    c.place-first.ensures ∙ ap (λ (r : Row). get_or r.places c.args.run.first 0) (row_is rows at c.index.result.now stands.within c.index.ensures) in
    let last : c.place-last.result ≡ place_at rows at (c.args.run.first + (c.args.run.pages - 1)) =
    c.place-last.ensures ∙ ap (λ (r : Row). get_or r.places (c.args.run.first + (c.args.run.pages - 1)) 0) (row_is rows at c.index-2.result.now stands.within c.index-2.ensures) in
    let low : c.place-first.result < length t.free_from.items = omega (arith, first, places.within at c.args.run.first wide, holds.free_from_size) in
    let low_last : c.place-last.result < length t.free_to.items = omega (arith, last, places.within at (c.args.run.first + (c.args.run.pages - 1)) wide_last, holds.free_to_size) in
    let mark = mark_is t.free_from.items c.place-first.result c.index_mut.result.now low c.index_mut.ensures.value in
    let mark_2 = mark_is t.free_to.items c.place-last.result c.index_mut-2.result.now low_last c.index_mut-2.ensures.value in
    let small = rw (← c.self.view_is) at c.requires.small in
    omega (arith, small, rw last at mark_2, mark-le-pages rows t.free_to.items stops_at (free_of t.runs) at (c.args.run.first + (c.args.run.pages - 1)) holds.stops wide_last)

pub invariant_of-self : goal.invariant_of-self
invariant_of-self c =
    let t = c.self.inside in
    let rows = t.rows.items in
    let places = c.self.invariant.0 in
    let holds = c.self.invariant.1 in
    let at = c.row_of-at.result in
    let stands = rw c.as_slice.ensures.value at c.row_of-at.ensures in
    let lies = rw (← c.self.view_is) at c.requires.lies in
    let fits = lies_at rows c.args.run at places.distinct lies stands in
    let wide : c.args.run.first < width_at rows at = omega (arith, fits) in
    let wide_last : c.args.run.first + (c.args.run.pages - 1) < width_at rows at = omega (arith, fits) in
    let first : c.place-first.result ≡ place_at rows at c.args.run.first =
    c.place-first.ensures ∙ ap (λ (r : Row). get_or r.places c.args.run.first 0) (row_is rows at c.index.result.now stands.within c.index.ensures) in
    let last : c.place-last.result ≡ place_at rows at (c.args.run.first + (c.args.run.pages - 1)) =
    c.place-last.ensures ∙ ap (λ (r : Row). get_or r.places (c.args.run.first + (c.args.run.pages - 1)) 0) (row_is rows at c.index-2.result.now stands.within c.index-2.ensures) in
    let low : c.place-first.result < length t.free_from.items = omega (arith, first, places.within at c.args.run.first wide, holds.free_from_size) in
    let low_last : c.place-last.result < length t.free_to.items = omega (arith, last, places.within at (c.args.run.first + (c.args.run.pages - 1)) wide_last, holds.free_to_size) in
    let mark = mark_is t.free_from.items c.place-first.result c.index_mut.result.now low c.index_mut.ensures.value in
    let mark_2 = mark_is t.free_to.items c.place-last.result c.index_mut-2.result.now low_last c.index_mut-2.ensures.value in (
      rw (c.add_free.ensures.runs, length-set t.runs.runs c.place-first.result c.args.run) places,
      rw (first, last)
          (HoldsRuns-free_added rows t.spare.items (length t.runs.runs) t.runs c.add_free.new.self t.free_from.items t.free_to.items t.used_from.items c.args.run at _ _ places refl holds stands fits.0 fits.1
          (λ there. new_place rows t.runs.runs t.runs.free c.args.run at places.apart holds.free_keys (rw (← c.self.view_is) at c.requires.not_free) stands wide there)
          (λ there. new_place rows t.runs.runs t.runs.used c.args.run at places.apart holds.used_keys (rw (← c.self.view_is) at c.requires.not_used) stands wide there)
          (rw first at c.add_free.ensures.free) c.add_free.ensures.used (rw first at c.add_free.ensures.runs) (ap (λ x. x + c.args.run.pages) (rw first at mark)) (ap (λ x. x + c.args.run.pages) (rw last at mark_2))),
      rw (c.add_free.ensures.runs, c.add_free.ensures.used, first)
          (subst (CountsTell rows)
          (sym (runs_same t.runs.runs t.runs.used (place_at rows at c.args.run.first) c.args.run (λ there. new_place rows t.runs.runs t.runs.used c.args.run at places.apart holds.used_keys (rw (← c.self.view_is) at c.requires.not_used) stands wide there)))
          c.self.invariant.2),
      rw (c.add_free.ensures.runs, length-set t.runs.runs c.place-first.result c.args.run) c.self.invariant.3,
      c.self.invariant.4,
    )

pub returns-clause-free : goal.returns-clause-free
returns-clause-free c =
    let t = c.self.inside in
    let rows = t.rows.items in
    let places = c.self.invariant.0 in
    let holds = c.self.invariant.1 in
    let at = c.row_of-at.result in
    let stands = rw c.as_slice.ensures.value at c.row_of-at.ensures in
    let lies = rw (← c.self.view_is) at c.requires.lies in
    let fits = lies_at rows c.args.run at places.distinct lies stands in
    let wide : c.args.run.first < width_at rows at = omega (arith, fits) in
    let wide_last : c.args.run.first + (c.args.run.pages - 1) < width_at rows at = omega (arith, fits) in
    let first : c.place-first.result ≡ place_at rows at c.args.run.first =
    c.place-first.ensures ∙ ap (λ (r : Row). get_or r.places c.args.run.first 0) (row_is rows at c.index.result.now stands.within c.index.ensures) in
    rw (← c.self.view_is, c.add_free.ensures.runs, c.add_free.ensures.free, first) (run_added t.runs.runs t.runs.free (place_at rows at c.args.run.first) c.args.run (places.within at c.args.run.first wide) (λ there. new_place rows t.runs.runs t.runs.free c.args.run at places.apart holds.free_keys (rw (← c.self.view_is) at c.requires.not_free) stands wide there))

pub returns-clause-used : goal.returns-clause-used
returns-clause-used c =
    let t = c.self.inside in
    let rows = t.rows.items in
    let places = c.self.invariant.0 in
    let holds = c.self.invariant.1 in
    let at = c.row_of-at.result in
    let stands = rw c.as_slice.ensures.value at c.row_of-at.ensures in
    let lies = rw (← c.self.view_is) at c.requires.lies in
    let fits = lies_at rows c.args.run at places.distinct lies stands in
    let wide : c.args.run.first < width_at rows at = omega (arith, fits) in
    let wide_last : c.args.run.first + (c.args.run.pages - 1) < width_at rows at = omega (arith, fits) in
    let first : c.place-first.result ≡ place_at rows at c.args.run.first =
    c.place-first.ensures ∙ ap (λ (r : Row). get_or r.places c.args.run.first 0) (row_is rows at c.index.result.now stands.within c.index.ensures) in
    rw (← c.self.view_is, c.add_free.ensures.runs, c.add_free.ensures.used, first) (runs_same t.runs.runs t.runs.used (place_at rows at c.args.run.first) c.args.run (λ there. new_place rows t.runs.runs t.runs.used c.args.run at places.apart holds.used_keys (rw (← c.self.view_is) at c.requires.not_used) stands wide there))
