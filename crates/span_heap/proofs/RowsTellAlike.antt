-- Rows that differ only in those without a page, or in a count, tell the same.
use Rattle.std.proofs.Common.{◌≡◌, ℕ, zero, suc, ◌+◌, ◌<◌, ◌≤◌, Bool, true, false, cond, eqb, List, [], ◌∷◌, length, map, get_or, refl, sym, ◌∙◌, ap, subst, arith, inl, inr, get_or-set_other, get_or-set_same, length-set}
use Rattle.std.specs.List.{sum_by, count_by, filter, Contains}
use Rattle.std.proofs.lemmas.List.{get_or_default}
use Rattle.std.proofs.lemmas.List.Sums.{sum_by-set, length-filter}
use Rattle.std.proofs.lemmas.List.Elements.{Contains-get_or}
use Rattle.std.proofs.lemmas.Bool.{and_right, cases_eq}
use Rattle.span_heap.specs.declared.run.Run.{Run}
use Rattle.span_heap.specs.Run.{lies_in, begins_at, pages_of}
use Rattle.span_heap.specs.Segment.{Segment}
use Rattle.span_heap.specs.Placed.{Placed, run_at, free_of, used_of}
use Rattle.span_heap.specs.Table.{Row, no_row, has_pages, shown_row, shown_rows, is_row, row_at, width_at, AreDropped, AreApart, ArePlaces, HasKey, stops_at, MarksTell, CountsTell, IsClear, HoldsRuns}
use Rattle.span_heap.proofs.Sums.{sum_by-filter, sum_by-same}
use Rattle.span_heap.proofs.TableTellsEachRun.{wide_passes, no_pages, rows_size, wide_within, stands_at, one_row, filtered_there, recounted}

-- each row with a page stands among the others too, with its number and its places
abbrev pub StandAmong : List Row → List Row → Type 0
StandAmong rows others =
    (at : ℕ) → 1 ≤ width_at rows at → (at' : ℕ) × ((row_at others at').id ≡ (row_at rows at).id) × ((row_at others at').places ≡ (row_at rows at).places)

wide_there : (there here : List ℕ) (page : ℕ) → there ≡ here → page < length here → page < length there
wide_there there here page same wide = subst (λ (ps : List ℕ). page < length ps) (sym same) wide

page_there : (there here : List ℕ) (page : ℕ) → there ≡ here → get_or there page 0 ≡ get_or here page 0
page_there there here page same = ap (λ (ps : List ℕ). get_or ps page 0) same

-- what holds of places and marks holds of rows that stand among others of which it holds

pub AreApart-among : (rows rows' : List Row) → ((id : ℕ) → count_by (is_row id) rows' ≤ 1) → StandAmong rows' rows → AreApart rows → AreApart rows'
AreApart-among rows rows' distinct among apart = λ at page at' page' wide wide' e.
    let (i, id, is) = among at (omega (arith, wide)) in
    let (i', id', is') = among at' (omega (arith, wide')) in
    let both = apart i page i' page' (wide_there (row_at rows i).places (row_at rows' at).places page is wide) (wide_there (row_at rows i').places (row_at rows' at').places page' is' wide')
    (page_there (row_at rows i).places (row_at rows' at).places page is ∙ (e ∙ sym (page_there (row_at rows i').places (row_at rows' at').places page' is'))) in
    let same : (row_at rows' at).id ≡ (row_at rows' at').id = sym id ∙ (ap (λ k. (row_at rows k).id) both.0 ∙ id') in
    (one_row rows' (row_at rows' at').id at' at distinct (stands_at rows' (row_at rows' at').id at' page' wide' refl) (stands_at rows' (row_at rows' at').id at page wide same), both.1)

pub ArePlaces-among : (rows rows' : List Row) (spare : List ℕ) (size : ℕ) → ((id : ℕ) → count_by (is_row id) rows' ≤ 1) → StandAmong rows' rows
    → sum_by (λ (r : Row). length r.places) rows' ≡ sum_by (λ (r : Row). length r.places) rows → ArePlaces rows spare size → ArePlaces rows' spare size
ArePlaces-among rows rows' spare size distinct among sums places =
    record {
      distinct = distinct;
      within = λ at page wide.
          let (i, id, is) = among at (omega (arith, wide)) in
          subst (λ p. p < size) (page_there (row_at rows i).places (row_at rows' at).places page is) (places.within i page (wide_there (row_at rows i).places (row_at rows' at).places page is wide));
      apart = AreApart-among rows rows' distinct among places.apart;
      spare_within = places.spare_within;
      spare_apart = λ at page wide there.
          let (i, id, is) = among at (omega (arith, wide)) in
          places.spare_apart i page (wide_there (row_at rows i).places (row_at rows' at).places page is wide)
          (subst (Contains spare) (sym (page_there (row_at rows i).places (row_at rows' at).places page is)) there);
      spare_once = places.spare_once;
      small = places.small;
      full = omega (arith, sums, places.full, rows_size rows, rows_size rows');
    }

pub MarksTell-among : (rows rows' : List Row) (marks : List ℕ) (test : ℕ → ℕ → Run → Bool) (runs : List Run) → StandAmong rows' rows → MarksTell rows marks test runs → MarksTell rows' marks test runs
MarksTell-among rows rows' marks test runs among tell = λ at page wide.
    let (i, id, is) = among at (omega (arith, wide)) in
    ap (λ p. get_or marks p 0) (sym (page_there (row_at rows i).places (row_at rows' at).places page is))
    ∙ (tell i page (wide_there (row_at rows i).places (row_at rows' at).places page is wide) ∙ ap (λ k. pages_of (filter (test k page) runs)) id)

IsClear-among : (rows rows' : List Row) (marks : List ℕ) → StandAmong rows rows' → IsClear rows marks → IsClear rows' marks
IsClear-among rows rows' marks among clear = λ place away.
    clear place (λ at page wide e.
    let (i, id, is) = among at (omega (arith, wide)) in
    away i page (wide_there (row_at rows' i).places (row_at rows at).places page is wide) (page_there (row_at rows' i).places (row_at rows at).places page is ∙ e))

key_among : (rows rows' : List Row) (run : Run) (place : ℕ) → StandAmong rows rows' → HasKey rows run place → HasKey rows' run place
key_among rows rows' run place among (at, stands, sized, fits, e) =
    let (i, id, is) = among at stands.live in (
      i,
      stands_at rows' run.segment i 0 (wide_there (row_at rows' i).places (row_at rows at).places 0 is (omega (arith, stands.live))) (id ∙ stands.numbered),
      sized,
      subst (λ (ps : List ℕ). run.first + run.pages ≤ length ps) (sym is) fits,
      page_there (row_at rows' i).places (row_at rows at).places run.first is ∙ e,
    )

pub HoldsRuns-among : (rows rows' : List Row) (placed : Placed) (free_from free_to used_from : List ℕ) → StandAmong rows rows' → StandAmong rows' rows
    → HoldsRuns rows placed free_from free_to used_from → HoldsRuns rows' placed free_from free_to used_from
HoldsRuns-among rows rows' placed free_from free_to used_from among back holds =
    record {
      free_from_size = holds.free_from_size;
      free_from_clear = IsClear-among rows rows' free_from among holds.free_from_clear;
      free_to_size = holds.free_to_size;
      free_to_clear = IsClear-among rows rows' free_to among holds.free_to_clear;
      used_from_size = holds.used_from_size;
      used_from_clear = IsClear-among rows rows' used_from among holds.used_from_clear;
      once = holds.once;
      free_keys = λ k d within. key_among rows rows' (run_at placed.runs (get_or placed.free k d)) (get_or placed.free k d) among (holds.free_keys k d within);
      used_keys = λ k d within. key_among rows rows' (run_at placed.runs (get_or placed.used k d)) (get_or placed.used k d) among (holds.used_keys k d within);
      begins = MarksTell-among rows rows' free_from begins_at (free_of placed) back holds.begins;
      stops = MarksTell-among rows rows' free_to stops_at (free_of placed) back holds.stops;
      uses = MarksTell-among rows rows' used_from begins_at (used_of placed) back holds.uses;
    }

-- rows with the same ones that have a page

pub kept_there : {X : Type 0} (test : X → Bool) (xs : List X) (x : X) → Contains xs x → test x ≡ true → Contains (filter test xs) x
kept_there test [] x (k, within, is) passes = absurd (omega (arith, within))
kept_there test (y ∷ xs) x (zero, within, is) passes =
    let same : test y ≡ true = ap test is ∙ passes in
    rw same (zero, omega arith, is)
kept_there test (y ∷ xs) x (suc k, within, is) passes = go (test y) (kept_there test xs x (k, omega (arith, within), is) passes)
  where
    go : (b : Bool) → Contains (filter test xs) x → Contains (cond b (y ∷ filter test xs) (filter test xs)) x
    go true (j, low, at) = (suc j, omega (arith, low), at)
    go false there = there

-- a row with a page stands among the others as it is
living_there : (rows rows' : List Row) → filter has_pages rows' ≡ filter has_pages rows → (at : ℕ) → 1 ≤ width_at rows at → (at' : ℕ) × (row_at rows' at' ≡ row_at rows at)
living_there rows rows' same at live =
    let row = row_at rows at in
    let there = kept_there has_pages rows row (Contains-get_or rows at no_row (wide_within rows at 0 (omega (arith, live)))) (wide_passes row live) in
    let (at', low, is) = filtered_there has_pages rows' row (subst (λ (xs : List Row). Contains xs row) (sym same) there) in
    (at', get_or_default rows' at' no_row row low ∙ is)

living_among : (rows rows' : List Row) → filter has_pages rows' ≡ filter has_pages rows → StandAmong rows rows'
living_among rows rows' same = λ at live.
    let (at', is) = living_there rows rows' same at live in
    (at', ap (λ (r : Row). r.id) is, ap (λ (r : Row). r.places) is)

-- what rows without a page add nothing to
sum_living : (f : Row → ℕ) → ((row : Row) → has_pages row ≡ false → f row ≡ 0) → (rows : List Row) → sum_by f (filter has_pages rows) ≡ sum_by f rows
sum_living f none rows = sum_by-filter f has_pages rows ∙ sum_by-same (λ row. cond (has_pages row) (f row) 0) f rows (λ row. here row (has_pages row) refl)
  where
    here : (row : Row) (b : Bool) → has_pages row ≡ b → cond b (f row) 0 ≡ f row
    here row true is = refl
    here row false is = sym (none row is)

same_sum : (f : Row → ℕ) → ((row : Row) → has_pages row ≡ false → f row ≡ 0) → (rows rows' : List Row) → filter has_pages rows' ≡ filter has_pages rows → sum_by f rows' ≡ sum_by f rows
same_sum f none rows rows' same = sym (sum_living f none rows') ∙ (ap (sum_by f) same ∙ sum_living f none rows)

not_counted : (id : ℕ) (row : Row) → has_pages row ≡ false → cond {A = ℕ} (is_row id row) 1 0 ≡ 0
not_counted id row fails = ap {B = ℕ} (λ b. cond b 1 0) (and_right (eqb row.id id) (has_pages row) fails)

pub ArePlaces-living : (rows rows' : List Row) (spare : List ℕ) (size : ℕ) → filter has_pages rows' ≡ filter has_pages rows → ArePlaces rows spare size → ArePlaces rows' spare size
ArePlaces-living rows rows' spare size same places =
    ArePlaces-among rows rows' spare size
    (λ id. omega (arith, places.distinct id, same_sum (λ row. cond {A = ℕ} (is_row id row) 1 0) (not_counted id) rows rows' same))
    (living_among rows' rows (sym same)) (same_sum (λ (r : Row). length r.places) no_pages rows rows' same) places

pub HoldsRuns-living : (rows rows' : List Row) (placed : Placed) (free_from free_to used_from : List ℕ) → filter has_pages rows' ≡ filter has_pages rows
    → HoldsRuns rows placed free_from free_to used_from → HoldsRuns rows' placed free_from free_to used_from
HoldsRuns-living rows rows' placed free_from free_to used_from same holds =
    HoldsRuns-among rows rows' placed free_from free_to used_from (living_among rows rows' same) (living_among rows' rows (sym same)) holds

pub CountsTell-living : (rows rows' : List Row) (used : List Run) → filter has_pages rows' ≡ filter has_pages rows → CountsTell rows used → CountsTell rows' used
CountsTell-living rows rows' used same tell = λ at live.
    let (i, is) = living_there rows' rows (sym same) at live in
    subst (λ (r : Row). r.used ≡ pages_of (filter (lies_in r.id) used)) is (tell i (subst (λ (r : Row). 1 ≤ length r.places) (sym is) live))

-- what has a page is taken once
pub living_twice : (rows : List Row) → filter has_pages (filter has_pages rows) ≡ filter has_pages rows
living_twice [] = refl
living_twice (row ∷ rows) = go (has_pages row) refl (living_twice rows)
  where
    go : (b : Bool) → has_pages row ≡ b → filter has_pages (filter has_pages rows) ≡ filter has_pages rows
        → filter has_pages (cond b (row ∷ filter has_pages rows) (filter has_pages rows)) ≡ cond b (row ∷ filter has_pages rows) (filter has_pages rows)
    go true is rest = rw is (ap (λ ys. row ∷ ys) rest)
    go false is rest = rest

-- none of them is without a page
pub none_left : (rows : List Row) → AreDropped (filter has_pages rows) 0
none_left rows = omega (arith, length-filter has_pages (filter has_pages rows), ap {B = ℕ} length (living_twice rows))

-- rows of which one has another count

recounted_same : (rows : List Row) (at n i : ℕ) → at < length rows → ((row_at (recounted rows at n) i).id ≡ (row_at rows i).id) × ((row_at (recounted rows at n) i).places ≡ (row_at rows i).places)
recounted_same rows at n i within =
    elim (cases_eq i at) [
      | inl same ↦
          let now : row_at (recounted rows at n) i ≡ row = ap (row_at (recounted rows at n)) same ∙ get_or-set_same rows at row no_row within in
          (ap (λ (r : Row). r.id) now ∙ ap (λ k. (row_at rows k).id) (sym same), ap (λ (r : Row). r.places) now ∙ ap (λ k. (row_at rows k).places) (sym same))
      | inr other ↦
          let now : row_at (recounted rows at n) i ≡ row_at rows i = get_or-set_other rows at i row no_row other in
          (ap (λ (r : Row). r.id) now, ap (λ (r : Row). r.places) now)
    ]
  where
    row : Row
    row = record { id = (row_at rows at).id; places = (row_at rows at).places; used = n }

recounted_among : (rows : List Row) (at n : ℕ) → at < length rows → StandAmong (recounted rows at n) rows
recounted_among rows at n within = λ i live.
    let same = recounted_same rows at n i within in
    (i, sym same.0, sym same.1)

among_recounted : (rows : List Row) (at n : ℕ) → at < length rows → StandAmong rows (recounted rows at n)
among_recounted rows at n within = λ i live.
    let same = recounted_same rows at n i within in
    (i, same.0, same.1)

recounted_sum : (f : Row → ℕ) (rows : List Row) (at n : ℕ) → at < length rows → f (record { id = (row_at rows at).id; places = (row_at rows at).places; used = n }) ≡ f (row_at rows at)
    → sum_by f (recounted rows at n) ≡ sum_by f rows
recounted_sum f rows at n within same = omega (arith, same, sum_by-set f rows at (record { id = (row_at rows at).id; places = (row_at rows at).places; used = n }) no_row within)

pub ArePlaces-recounted : (rows : List Row) (spare : List ℕ) (size at n : ℕ) → at < length rows → ArePlaces rows spare size → ArePlaces (recounted rows at n) spare size
ArePlaces-recounted rows spare size at n within places =
    ArePlaces-among rows (recounted rows at n) spare size
    (λ id. omega (arith, places.distinct id, recounted_sum (λ row. cond {A = ℕ} (is_row id row) 1 0) rows at n within refl))
    (recounted_among rows at n within) (recounted_sum (λ (r : Row). length r.places) rows at n within refl) places

pub HoldsRuns-recounted : (rows : List Row) (placed : Placed) (free_from free_to used_from : List ℕ) (at n : ℕ) → at < length rows
    → HoldsRuns rows placed free_from free_to used_from → HoldsRuns (recounted rows at n) placed free_from free_to used_from
HoldsRuns-recounted rows placed free_from free_to used_from at n within holds =
    HoldsRuns-among rows (recounted rows at n) placed free_from free_to used_from (among_recounted rows at n within) (recounted_among rows at n within) holds

pub AreDropped-recounted : (rows : List Row) (dropped at n : ℕ) → at < length rows → AreDropped rows dropped → AreDropped (recounted rows at n) dropped
AreDropped-recounted rows dropped at n within counted =
    omega (
      arith,
      counted,
      recounted_sum (λ row. cond {A = ℕ} (has_pages row) 1 0) rows at n within refl,
      length-set rows at (record { id = (row_at rows at).id; places = (row_at rows at).places; used = n }),
    )

-- what is seen of rows, one by one
shown_cons : (row : Row) (rows : List Row) → shown_rows (row ∷ rows) ≡ cond (has_pages row) (shown_row row ∷ shown_rows rows) (shown_rows rows)
shown_cons row rows = go (has_pages row)
  where
    go : (b : Bool) → map shown_row (cond b (row ∷ filter has_pages rows) (filter has_pages rows)) ≡ cond b (shown_row row ∷ shown_rows rows) (shown_rows rows)
    go true = refl
    go false = refl

pub shown_recounted : (rows : List Row) (at n : ℕ) → at < length rows → shown_rows (recounted rows at n) ≡ shown_rows rows
shown_recounted [] at n within = absurd (omega (arith, within))
shown_recounted (row ∷ rows) zero n within = shown_cons (record { id = row.id; places = row.places; used = n }) rows ∙ sym (shown_cons row rows)
shown_recounted (row ∷ rows) (suc at) n within =
    shown_cons row (recounted rows at n)
    ∙ (ap (λ (ys : List Segment). cond (has_pages row) (shown_row row ∷ ys) ys) (shown_recounted rows at n (omega (arith, within))) ∙ sym (shown_cons row rows))
