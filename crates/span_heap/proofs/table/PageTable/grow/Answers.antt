use Rattle.std.proofs.Common.{◌≡◌, ℕ, ◌+◌, ◌-◌, ◌^◌, ◌<◌, List, [], ◌∷◌, ◌++◌, length, map, refl, sym, ◌∙◌, ap, subst, arith}
use Rattle.std.specs.List.{filter}
use Rattle.span_heap.specs.Placed.{used_of}
use Rattle.span_heap.specs.Table.{Row, has_pages, shown_row, CountsTell, row_places}
use Rattle.span_heap.proofs.TableTellsEachRun.{any_row}
use Rattle.span_heap.proofs.SegmentsJoinTheTable.{row_of_places, same_runs, ArePlaces-grown, CountsTell-grown, HoldsRuns-grown, HoldsRuns-widened, shown_grown, row_places_length}
use Rattle.span_heap.proofs.RowsTellAlike.{ArePlaces-living, HoldsRuns-living, CountsTell-living}
use Rattle.span_heap.proofs.table.PageTable.grow.Goals as goal

pub invariant_of-self-in_err-widen_all : goal.invariant_of-self-in_err-widen_all
invariant_of-self-in_err-widen_all c =
    let t = c.self.inside in
    let rows = t.rows.items in
    let places = c.self.invariant.0 in
    let holds = c.self.invariant.1 in
    let w = c.widen_all in (
      rw (c.reserve.ensures.items, c.reserve-2.ensures.items) places,
      rw c.reserve.ensures.items
          (HoldsRuns-widened rows t.runs t.runs t.free_from.items t.free_to.items t.used_from.items w.new.one.items w.new.two.items w.new.three.items holds
          refl refl (λ place. refl) refl w.ensures.one w.ensures.two w.ensures.three),
      rw c.reserve.ensures.items c.self.invariant.2,
      omega (arith, c.self.invariant.3, c.reserve-2.ensures.capacity),
      rw c.reserve.ensures.items c.self.invariant.4,
    )

pub invariant_of-self-in_err-extend : goal.invariant_of-self-in_err-extend
invariant_of-self-in_err-extend c =
    let t = c.self.inside in
    let rows = t.rows.items in
    let places = c.self.invariant.0 in
    let holds = c.self.invariant.1 in
    let w = c.widen_all in (
      rw (c.reserve.ensures.items, c.reserve-2.ensures.items, c.in_err-extend.ensures.same) places,
      rw c.reserve.ensures.items
          (HoldsRuns-widened rows t.runs c.extend.new.self t.free_from.items t.free_to.items t.used_from.items w.new.one.items w.new.two.items w.new.three.items holds
          c.extend.ensures.free c.extend.ensures.used c.extend.ensures.read c.in_err-extend.ensures.same w.ensures.one w.ensures.two w.ensures.three),
      rw c.reserve.ensures.items
          (subst (CountsTell rows) (sym (same_runs t.runs.used c.extend.new.self.used t.runs.runs c.extend.new.self.runs c.extend.ensures.used c.extend.ensures.read)) c.self.invariant.2),
      omega (arith, c.self.invariant.3, c.reserve-2.ensures.capacity, c.in_err-extend.ensures.same),
      rw c.reserve.ensures.items c.self.invariant.4,
    )

pub push_row-requires-clause-live : goal.push_row-requires-clause-live
push_row-requires-clause-live c =
    let t = c.self.inside in
    let rows = t.rows.items in
    let keep = c.len.result - c.min.result in
    let fresh = c.args.pages - (c.len-3.result - keep) in
    let spare = t.spare.items in
    let size = length t.runs.runs in
    let row : Row = row_of_places c.args.id (row_places spare keep size fresh) in
    let row_same : c.new.result ≡ row =
    c.new.ensures
    ∙ (ap (row_of_places c.args.id) (rw c.as_slice.ensures.value at c.in_ok-places.ensures) ∙ ap (λ n. row_of_places c.args.id (row_places spare keep n fresh)) c.len-size.ensures) in
    let wide : length row.places ≡ c.args.pages = omega (arith, row_places_length spare keep size fresh, c.len.ensures, c.len-3.ensures, c.min.ensures, t.spare.ok.0) in
    omega (arith, c.requires.sized, wide, ap {B = ℕ} (λ (r : Row). length r.places) row_same)

pub push_row-requires-clause-counted : goal.push_row-requires-clause-counted
push_row-requires-clause-counted c = rw c.reserve.ensures.items c.self.invariant.4

pub invariant_of-self-2 : goal.invariant_of-self-2
invariant_of-self-2 c =
    let t = c.self.inside in
    let rows = t.rows.items in
    let keep = c.len.result - c.min.result in
    let fresh = c.args.pages - (c.len-3.result - keep) in
    let spare = t.spare.items in
    let size = length t.runs.runs in
    let row : Row = row_of_places c.args.id (row_places spare keep size fresh) in
    let row_same : c.new.result ≡ row =
    c.new.ensures
    ∙ (ap (row_of_places c.args.id) (rw c.as_slice.ensures.value at c.in_ok-places.ensures) ∙ ap (λ n. row_of_places c.args.id (row_places spare keep n fresh)) c.len-size.ensures) in
    let wide : length row.places ≡ c.args.pages = omega (arith, row_places_length spare keep size fresh, c.len.ensures, c.len-3.ensures, c.min.ensures, t.spare.ok.0) in
    let same : filter has_pages c.push_row.new.rows.items ≡ filter has_pages (rows ++ row ∷ []) =
    c.push_row.ensures.living
    ∙ (ap (λ (xs : List Row). filter has_pages (xs ++ c.new.result ∷ [])) c.reserve.ensures.items ∙ ap (λ (r : Row). filter has_pages (rows ++ r ∷ [])) row_same) in
    let places = c.self.invariant.0 in
    let holds = c.self.invariant.1 in
    let w = c.widen_all in
    let after = c.push_row.new.rows.items in
    let none_used = rw (← c.self.view_is) at c.requires.none_used in
    let none = sym (any_row c.args.id rows) ∙ (rw (← c.self.view_is) at c.requires.fresh) in
    let room = rw (← c.self.view_is) at c.requires.small in
    let small : size + fresh < 2 ^ 32 = omega (arith, room, places.full, places.small, c.len.ensures, c.len-3.ensures, c.min.ensures, t.spare.ok.0) in
    let used_same = same_runs t.runs.used c.extend.new.self.used t.runs.runs c.extend.new.self.runs c.extend.ensures.used c.extend.ensures.read in (
      rw (c.truncate.ensures.items, c.reserve-2.ensures.items, c.in_ok-extend.ensures.runs)
          (ArePlaces-living (rows ++ row ∷ []) after _ _ same (ArePlaces-grown rows spare size c.args.id keep fresh places none small)),
      HoldsRuns-living (rows ++ row ∷ []) after c.extend.new.self _ _ _ same
          (HoldsRuns-grown rows spare size c.args.id keep fresh t.runs c.extend.new.self t.free_from.items t.free_to.items t.used_from.items w.new.one.items w.new.two.items w.new.three.items
          places holds c.extend.ensures.free c.extend.ensures.used c.extend.ensures.read w.ensures.one w.ensures.two w.ensures.three
          (omega (arith, c.in_ok-extend.ensures.runs, c.in_ok-widen_all.ensures.reach, c.len-size.ensures))
          (omega (arith, c.in_ok-extend.ensures.runs, c.in_ok-widen_all.ensures.reach_two, c.len-size.ensures))
          (omega (arith, c.in_ok-extend.ensures.runs, c.in_ok-widen_all.ensures.reach_three, c.len-size.ensures))
          (rw (← c.self.view_is) at c.requires.none_free) none_used
          (same_runs t.runs.free c.extend.new.self.free t.runs.runs c.extend.new.self.runs c.extend.ensures.free c.extend.ensures.read) used_same),
      CountsTell-living (rows ++ row ∷ []) after _ same (subst (CountsTell (rows ++ row ∷ [])) (sym used_same) (CountsTell-grown rows row (used_of t.runs) refl c.self.invariant.2 none_used)),
      omega (arith, c.in_ok-reserve-2.ensures.ok, c.truncate.ensures.capacity, c.in_ok-extend.ensures.runs, c.len-size.ensures, places.full, c.len-4.ensures, t.spare.ok.0),
      c.push_row.ensures.counted,
    )

pub returns-clause-grown : goal.returns-clause-grown
returns-clause-grown c =
    let t = c.self.inside in
    let rows = t.rows.items in
    let keep = c.len.result - c.min.result in
    let fresh = c.args.pages - (c.len-3.result - keep) in
    let spare = t.spare.items in
    let size = length t.runs.runs in
    let row : Row = row_of_places c.args.id (row_places spare keep size fresh) in
    let row_same : c.new.result ≡ row =
    c.new.ensures
    ∙ (ap (row_of_places c.args.id) (rw c.as_slice.ensures.value at c.in_ok-places.ensures) ∙ ap (λ n. row_of_places c.args.id (row_places spare keep n fresh)) c.len-size.ensures) in
    let wide : length row.places ≡ c.args.pages = omega (arith, row_places_length spare keep size fresh, c.len.ensures, c.len-3.ensures, c.min.ensures, t.spare.ok.0) in
    let same : filter has_pages c.push_row.new.rows.items ≡ filter has_pages (rows ++ row ∷ []) =
    c.push_row.ensures.living
    ∙ (ap (λ (xs : List Row). filter has_pages (xs ++ c.new.result ∷ [])) c.reserve.ensures.items ∙ ap (λ (r : Row). filter has_pages (rows ++ r ∷ [])) row_same) in
    rw (← c.self.view_is) (ap (map shown_row) same ∙ shown_grown rows row c.args.id c.args.pages c.requires.sized refl wide)
