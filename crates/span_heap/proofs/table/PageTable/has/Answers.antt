use Rattle.std.proofs.Common.{◌≡◌, ℕ, ◌<◌, ◌≤◌, eqb, length, get_or, sym, ◌∙◌, ap, arith}
use Rattle.std.specs.List.{filter, count_by}
use Rattle.std.proofs.lemmas.Bool.{eqb-true, eq-eqb, false≢true, both_ways}
use Rattle.span_heap.specs.declared.run.Run.{Run}
use Rattle.span_heap.specs.Run.{begins_at, pages_of}
use Rattle.span_heap.specs.Placed.{used_of}
use Rattle.span_heap.specs.Table.{Row, width_at, place_at}
use Rattle.span_heap.proofs.TableTellsEachRun.{row_is, row_of_run, found_run, mark_is, run_of_mark, marked_of_run}
use Rattle.span_heap.proofs.table.PageTable.has.Goals as goal

pub returns-in_default : goal.returns-in_default
returns-in_default c =
    let t = c.self.inside in
    let rows = t.rows.items in
    let places = c.self.invariant.0 in
    let holds = c.self.invariant.1 in
    let span : Run = c.args.span.now in
    let none = rw c.as_slice.ensures.value at c.in_default.ensures in (
      λ e. absurd (false≢true e),
      λ there. absurd (both_ways _ none (row_of_run rows t.runs.runs t.runs.used span holds.used_keys (rw (← c.self.view_is) at there))),
    )

pub returns-then-span-eq0 : goal.returns-then-span-eq0
returns-then-span-eq0 c =
    let t = c.self.inside in
    let rows = t.rows.items in
    let places = c.self.invariant.0 in
    let holds = c.self.invariant.1 in
    let span : Run = c.args.span.now in
    let at = c.in-Some.at in
    let stands = rw c.as_slice.ensures.value at c.in-Some.ensures in (
      λ e. absurd (false≢true e),
      λ there. absurd (omega (arith, c.if-span-eq0.true, (found_run rows t.runs.runs t.runs.used span at places.distinct holds.used_keys (rw (← c.self.view_is) at there) stands).sized)),
    )

pub returns-then-span-len : goal.returns-then-span-len
returns-then-span-len c =
    let t = c.self.inside in
    let rows = t.rows.items in
    let places = c.self.invariant.0 in
    let holds = c.self.invariant.1 in
    let span : Run = c.args.span.now in
    let at = c.in-Some.at in
    let stands = rw c.as_slice.ensures.value at c.in-Some.ensures in
    let row = row_is rows at c.index.result.now stands.within c.index.ensures in
    let len : c.len.result ≡ width_at rows at = c.len.ensures ∙ ap {B = ℕ} (λ (r : Row). length r.places) row in (
      λ e. absurd (false≢true e),
      λ there.
          let found = found_run rows t.runs.runs t.runs.used span at places.distinct holds.used_keys (rw (← c.self.view_is) at there) stands in
          absurd (omega (arith, len, c.if-span-len.true, found.sized, found.fits)),
    )

pub index-requires-3 : goal.index-requires-3
index-requires-3 c =
    let t = c.self.inside in
    let rows = t.rows.items in
    let places = c.self.invariant.0 in
    let holds = c.self.invariant.1 in
    let span : Run = c.args.span.now in
    let at = c.in-Some.at in
    let stands = rw c.as_slice.ensures.value at c.in-Some.ensures in
    let row = row_is rows at c.index.result.now stands.within c.index.ensures in
    let len : c.len.result ≡ width_at rows at = c.len.ensures ∙ ap {B = ℕ} (λ (r : Row). length r.places) row in
    let wide : span.first < width_at rows at = omega (arith, len, c.if-span-len.false) in
    let place : c.place-place.result ≡ place_at rows at span.first =
    c.place-place.ensures ∙ ap (λ (r : Row). get_or r.places span.first 0) (row_is rows at c.index-2.result.now stands.within c.index-2.ensures) in
    let low : c.place-place.result < length t.used_from.items = omega (arith, place, places.within at span.first wide, holds.used_from_size) in
    omega (arith, low, t.used_from.ok.0)

pub returns : goal.returns
returns c =
    let t = c.self.inside in
    let rows = t.rows.items in
    let places = c.self.invariant.0 in
    let holds = c.self.invariant.1 in
    let span : Run = c.args.span.now in
    let at = c.in-Some.at in
    let stands = rw c.as_slice.ensures.value at c.in-Some.ensures in
    let row = row_is rows at c.index.result.now stands.within c.index.ensures in
    let len : c.len.result ≡ width_at rows at = c.len.ensures ∙ ap {B = ℕ} (λ (r : Row). length r.places) row in
    let wide : span.first < width_at rows at = omega (arith, len, c.if-span-len.false) in
    let place : c.place-place.result ≡ place_at rows at span.first =
    c.place-place.ensures ∙ ap (λ (r : Row). get_or r.places span.first 0) (row_is rows at c.index-2.result.now stands.within c.index-2.ensures) in
    let low : c.place-place.result < length t.used_from.items = omega (arith, place, places.within at span.first wide, holds.used_from_size) in
    let few : count_by (λ other. eqb other (place_at rows at span.first)) t.runs.used ≤ 1 = omega (arith, holds.once (place_at rows at span.first)) in
    let marked : c.index-3.result.now ≡ pages_of (filter (begins_at span.segment span.first) (used_of t.runs)) =
    mark_is t.used_from.items c.place-place.result c.index-3.result.now low c.index-3.ensures
    ∙ (ap (λ p. get_or t.used_from.items p 0) place ∙ (holds.uses at span.first wide ∙ ap (λ id. pages_of (filter (begins_at id span.first) (used_of t.runs))) stands.numbered)) in
    rw (← c.self.view_is) (
      λ e. run_of_mark rows t.runs.runs t.runs.used span at places.distinct stands holds.used_keys few (omega (arith, c.if-span-eq0.false)) (sym marked ∙ eqb-true c.index-3.result.now span.pages e),
      λ there. eq-eqb c.index-3.result.now span.pages (marked ∙ marked_of_run rows t.runs.runs t.runs.used span at places.distinct stands holds.used_keys few there),
    )
