-- A segment leaves the table: its places become spare, and serve the next segments.
use Rattle.std.proofs.Common.{◌≡◌, ◌≢◌, ℕ, zero, suc, ◌+◌, ◌<◌, ◌≤◌, Bool, true, false, not, cond, eqb, List, [], ◌∷◌, ◌++◌, length, map, get_or, set, length-set, get_or-set_other, get_or-set_same, Option, Some, None, MatchOption, refl, sym, ◌∙◌, ap, subst, arith, inl, inr, ⊎_elim}
use Rattle.std.specs.List.{sum_by, count_by, filter, All, Contains}
use Rattle.std.proofs.Math.ListN.{get_or-map}
use Rattle.std.proofs.lemmas.List.{get_or_default, length-map, length-append}
use Rattle.std.proofs.lemmas.List.Folds.{list_any-from_Any}
use Rattle.std.proofs.lemmas.List.Sums.{sum_by-cons, sum_by-append, sum_by-set, get_or-le-sum_by}
use Rattle.std.proofs.lemmas.List.Elements.{All-append, Contains-get_or, Contains-append_cases}
use Rattle.std.proofs.lemmas.Bool.{and_parts, and_from, and_right, eqb-true, eq-eqb, ne_eqb, cases_eq, cases_lt, cases_Bool}
use Rattle.span_heap.specs.declared.run.Run.{Run}
use Rattle.span_heap.specs.Run.{lies_in, begins_at, pages_of}
use Rattle.span_heap.specs.Runs.{dropped}
use Rattle.span_heap.specs.Segment.{Segment}
use Rattle.span_heap.specs.Heap.{LiesWithin, has_id, has_segment, size_of}
use Rattle.span_heap.specs.Changes.{NoneIn, segment_of}
use Rattle.span_heap.specs.Placed.{Placed, run_at, free_of, used_of, IsDistinct}
use Rattle.span_heap.specs.Table.{Row, no_row, has_pages, shown_row, shown_rows, AreDropped, is_row, row_at, width_at, place_at, RowStands, ArePlaces, HasKey, stops_at, MarksTell, CountsTell, IsClear, HoldsRuns, IsRunAt, BeginFrom, page_of}
use Rattle.span_heap.proofs.Sums.{counted}
use Rattle.span_heap.proofs.FreeingKeepsThePartition.{filter_all}
use Rattle.span_heap.proofs.HeapOverTheTable.{nothing_marked, whole_fresh}
use Rattle.span_heap.proofs.PlacedRunsKeepTheirPlaces.{none_counted, one_counted, counted_there}
use Rattle.span_heap.proofs.TableTellsEachRun.{wide_passes, rows_size, is_row_there, stands_at, renumbered, row_of_shown, all_sized, all_false, run_of_mark, one_begins, one_row, key_place, looked_up}
use Rattle.span_heap.proofs.RowsTellAlike.{StandAmong, AreApart-among, MarksTell-among, kept_there}

-- the run at a page

pub run_at_page : (rows : List Row) (runs : List Run) (places : List ℕ) (id at page mark : ℕ) (found : Option Run) → ((i : ℕ) → count_by (is_row i) rows ≤ 1) → RowStands rows id at
    → All (λ p. HasKey rows (run_at runs p) p) places → count_by (λ other. eqb other (place_at rows at page)) places ≤ 1
    → mark ≡ pages_of (filter (begins_at id page) (map (run_at runs) places))
    → MatchOption found (mark ≡ 0) (λ run. (1 ≤ mark) × (run ≡ record { segment = id; first = page; pages = mark }))
    → IsRunAt (map (run_at runs) places) id page found
run_at_page rows runs places id at page mark None distinct stands keys few is none =
    nothing_marked (begins_at id page) (map (run_at runs) places) (all_sized rows runs places keys) (sym is ∙ none)
run_at_page rows runs places id at page mark (Some run) distinct stands keys few is (some, same) =
    let it : Run = record { segment = id; first = page; pages = mark } in
    subst (λ r. Contains (map (run_at runs) places) r × (begins_at id page r ≡ true) × (count_by (begins_at id page) (map (run_at runs) places) ≤ 1)) (sym same) (
      run_of_mark rows runs places it at distinct stands keys few some (sym is),
      and_from (eqb id id) (eqb page page) (eq-eqb id id refl) (eq-eqb page page refl),
      one_begins rows runs places id at page distinct stands keys few,
    )

-- what is seen of a row
pub row_shown : (rows : List Row) (id at pages : ℕ) → RowStands rows id at → pages ≡ width_at rows at → Contains (shown_rows rows) (segment_of id pages)
row_shown rows id at pages stands is =
    let kept = filter has_pages rows in
    let row = row_at rows at in
    let same : shown_row row ≡ segment_of id pages = ap (λ i. segment_of i (width_at rows at)) stands.numbered ∙ ap (segment_of id) (sym is) in
    let (k, low, there) = kept_there has_pages rows row (Contains-get_or rows at no_row stands.within) (wide_passes row stands.live) in
    let inside : k < length (shown_rows rows) = omega (arith, low, length-map kept shown_row) in
    (k, inside, get_or_default (shown_rows rows) k (segment_of id pages) (shown_row row) inside ∙ (get_or-map shown_row kept k row ∙ (ap shown_row there ∙ same)))

pub width_is : (rows : List Row) (id at pages : ℕ) → ((i : ℕ) → count_by (is_row i) rows ≤ 1) → RowStands rows id at → Contains (shown_rows rows) (segment_of id pages) → width_at rows at ≡ pages
width_is rows id at pages distinct stands there =
    let (k, stands', wide) = row_of_shown rows (segment_of id pages) there in
    ap (width_at rows) (sym (one_row rows id at k distinct stands stands')) ∙ wide

-- a segment in which no run begins has none
pub emptied : (rows : List Row) (runs : List Run) (places : List ℕ) (id at pages : ℕ) → ((i : ℕ) → count_by (is_row i) rows ≤ 1) → RowStands rows id at
    → All (λ p. HasKey rows (run_at runs p) p) places → Contains (shown_rows rows) (segment_of id pages) → BeginFrom id pages (map (run_at runs) places) → NoneIn id (map (run_at runs) places)
emptied rows runs places id at pages distinct stands keys there from = λ k d within e.
    let run = get_or (map (run_at runs) places) k d in
    let (place, stands_there, is, key) = looked_up rows runs places run keys (Contains-get_or (map (run_at runs) places) k d within) in
    let mine = key_place rows run place at distinct key (renumbered rows id run.segment at stands (sym e)) in
    omega (arith, from k d within e, mine.0, mine.1, width_is rows id at pages distinct stands there)

pub none_dropped : (id : ℕ) (runs : List Run) → NoneIn id runs → dropped runs id ≡ runs
none_dropped id runs none = filter_all (lies_in id) runs (λ k d within. ne_eqb (get_or runs k d).segment id (none k d within))

-- the rows, one of which has no page any more

abbrev pub without_pages : List Row → ℕ → List Row
without_pages rows at = set rows at (record { id = (row_at rows at).id; places = []; used = (row_at rows at).used })

left_same : (rows : List Row) (at i : ℕ) → i ≢ at → row_at (without_pages rows at) i ≡ row_at rows i
left_same rows at i other = get_or-set_other rows at i (record { id = (row_at rows at).id; places = []; used = (row_at rows at).used }) no_row other

-- a row with a page is another one
left_other : (rows : List Row) (at i page : ℕ) → at < length rows → page < width_at (without_pages rows at) i → i ≢ at
left_other rows at i page within wide same =
    let now : width_at (without_pages rows at) i ≡ 0 =
    ap (width_at (without_pages rows at)) same ∙ ap {B = ℕ} (λ (r : Row). length r.places) (get_or-set_same rows at (record { id = (row_at rows at).id; places = []; used = (row_at rows at).used }) no_row within) in
    omega (arith, now, wide)

left_among : (rows : List Row) (at : ℕ) → at < length rows → StandAmong (without_pages rows at) rows
left_among rows at within = λ i live.
    let same = left_same rows at i (left_other rows at i 0 within (omega (arith, live))) in
    (i, ap (λ (r : Row). r.id) (sym same), ap (λ (r : Row). r.places) (sym same))

wide_left : (rows : List Row) (at i page : ℕ) → at < length rows → page < width_at (without_pages rows at) i → page < width_at rows i
wide_left rows at i page within wide = subst (λ (r : Row). page < length r.places) (left_same rows at i (left_other rows at i page within wide)) wide

place_left : (rows : List Row) (at i page : ℕ) → at < length rows → page < width_at (without_pages rows at) i → place_at (without_pages rows at) i page ≡ place_at rows i page
place_left rows at i page within wide = ap (λ (r : Row). get_or r.places page 0) (left_same rows at i (left_other rows at i page within wide))

distinct_places : (xs : List ℕ) → ((i j : ℕ) → i < length xs → j < length xs → get_or xs i 0 ≡ get_or xs j 0 → i ≡ j) → IsDistinct xs
distinct_places [] apart p = omega arith
distinct_places (x ∷ xs) apart p =
    let rest = distinct_places xs (λ i j low low' e. omega (arith, apart (suc i) (suc j) (omega (arith, low)) (omega (arith, low')) e)) p in
    let sum = sum_by-cons (λ y. cond {A = ℕ} (eqb y p) 1 0) x xs in
    elim (cases_eq x p) [
      | inl same ↦
          let one : cond {A = ℕ} (eqb x p) 1 0 ≡ 1 = rw (eq-eqb x p same) refl in
          omega (arith, sum, one, none_counted xs p (λ (k, within, is). absurd (omega (arith, apart 0 (suc k) (omega arith) (omega (arith, within)) (same ∙ sym (get_or_default xs k 0 p within ∙ is))))))
      | inr other ↦
          let none : cond {A = ℕ} (eqb x p) 1 0 ≡ 0 = rw (ne_eqb x p other) refl in
          omega (arith, sum, none, rest)
    ]

-- a place of the row that leaves
given_place : (rows : List Row) (at p : ℕ) → Contains (row_at rows at).places p → (page : ℕ) × (page < width_at rows at) × (place_at rows at page ≡ p)
given_place rows at p (k, within, is) = (k, within, get_or_default (row_at rows at).places k 0 p within ∙ is)

left_sum : (f : Row → ℕ) (rows : List Row) (at : ℕ) → at < length rows → f (record { id = (row_at rows at).id; places = []; used = (row_at rows at).used }) ≡ 0
    → sum_by f (without_pages rows at) + f (row_at rows at) ≡ sum_by f rows
left_sum f rows at within none = omega (arith, none, sum_by-set f rows at (record { id = (row_at rows at).id; places = []; used = (row_at rows at).used }) no_row within)

left_distinct : (rows : List Row) (at : ℕ) → at < length rows → ((id : ℕ) → count_by (is_row id) rows ≤ 1) → (id : ℕ) → count_by (is_row id) (without_pages rows at) ≤ 1
left_distinct rows at within distinct id =
    omega (
      arith,
      distinct id,
      left_sum (λ r. cond {A = ℕ} (is_row id r) 1 0) rows at within (ap {B = ℕ} (λ b. cond b 1 0) (and_right (eqb (row_at rows at).id id) false refl)),
    )

pub ArePlaces-dropped : (rows : List Row) (spare : List ℕ) (size at : ℕ) → ArePlaces rows spare size → at < length rows → ArePlaces (without_pages rows at) (spare ++ (row_at rows at).places) size
ArePlaces-dropped rows spare size at places within =
    record {
      distinct = left_distinct rows at within places.distinct;
      within = λ i page wide. subst (λ p. p < size) (sym (place_left rows at i page within wide)) (places.within i page (wide_left rows at i page within wide));
      apart = AreApart-among rows (without_pages rows at) (left_distinct rows at within places.distinct) (left_among rows at within) places.apart;
      spare_within = All-append (λ p. p < size) spare given places.spare_within (λ k d low. subst (λ p. p < size) (get_or_default given k 0 d low) (places.within at k low));
      spare_apart = λ i page wide there.
          ⊎_elim
          (λ old. places.spare_apart i page (wide_left rows at i page within wide) (subst (Contains spare) (place_left rows at i page within wide) old))
          (λ new.
          let (page', wide', is) = given_place rows at (place_at (without_pages rows at) i page) new in
          left_other rows at i page within wide (sym (places.apart at page' i page wide' (wide_left rows at i page within wide) (is ∙ place_left rows at i page within wide)).0))
          (Contains-append_cases spare given (place_at (without_pages rows at) i page) there);
      spare_once = λ p.
          let sum = sum_by-append (λ other. cond {A = ℕ} (eqb other p) 1 0) spare given in
          let given_once = distinct_places given (λ i j low low' e. (places.apart at i at j low low' e).1) p in
          elim (cases_lt 0 (count_by (λ other. eqb other p) given)) [
            | inl some ↦
                let (page, wide, is) = given_place rows at p (counted_there given p (omega (arith, some))) in
                omega (arith, sum, given_once, none_counted spare p (λ there. places.spare_apart at page wide (subst (Contains spare) (sym is) there)))
            | inr none ↦ omega (arith, sum, none, places.spare_once p)
          ];
      small = places.small;
      full = omega (arith, places.full, rows_size rows, rows_size (without_pages rows at), left_sum (λ (r : Row). length r.places) rows at within refl, length-append spare given);
    }
  where
    given : List ℕ
    given = (row_at rows at).places

pub AreDropped-dropped : (rows : List Row) (dropped id at : ℕ) → RowStands rows id at → AreDropped rows dropped → AreDropped (without_pages rows at) (dropped + 1)
AreDropped-dropped rows dropped id at stands counted =
    omega (
      arith,
      counted,
      left_sum (λ r. cond {A = ℕ} (has_pages r) 1 0) rows at stands.within refl,
      ap {B = ℕ} (λ b. cond b 1 0) (wide_passes (row_at rows at) stands.live),
      length-set rows at (record { id = (row_at rows at).id; places = []; used = (row_at rows at).used }),
    )

IsClear-dropped : (rows : List Row) (marks : List ℕ) (test : ℕ → ℕ → Run → Bool) (runs : List Run) (id at : ℕ) → RowStands rows id at → MarksTell rows marks test runs → IsClear rows marks
    → ((page : ℕ) → All (λ run. test id page run ≡ false) runs) → IsClear (without_pages rows at) marks
IsClear-dropped rows marks test runs id at stands tell clear none = λ place away.
    elim (cases_lt 0 (count_by (λ other. eqb other place) (row_at rows at).places)) [
      | inl some ↦
          let (page, wide, is) = given_place rows at place (counted_there (row_at rows at).places place (omega (arith, some))) in
          ap (λ p. get_or marks p 0) (sym is) ∙ (tell at page wide ∙ (ap (λ i. pages_of (filter (test i page) runs)) stands.numbered ∙ all_false (test id page) runs (none page)))
      | inr nowhere ↦
          clear place (λ j page wide is.
          elim (cases_eq j at) [
            | inl same ↦
                let wide_at : page < width_at rows at = subst (λ k. page < width_at rows k) same wide in
                let there : Contains (row_at rows at).places place = subst (Contains (row_at rows at).places) (ap (λ k. place_at rows k page) (sym same) ∙ is) (Contains-get_or (row_at rows at).places page 0 wide_at) in
                omega (arith, nowhere, one_counted (row_at rows at).places place there)
            | inr other ↦
                let row = left_same rows at j other in
                away j page (subst (λ (r : Row). page < length r.places) (sym row) wide) (ap (λ (r : Row). get_or r.places page 0) row ∙ is)
          ])
    ]

key_left : (rows : List Row) (run : Run) (place id at : ℕ) → RowStands rows id at → run.segment ≢ id → HasKey rows run place → HasKey (without_pages rows at) run place
key_left rows run place id at stands away (j, stands', sized, fits, is) =
    let other : j ≢ at = λ e. away (sym stands'.numbered ∙ (ap (λ k. (row_at rows k).id) e ∙ stands.numbered)) in
    let row = left_same rows at j other in (
      j,
      stands_at (without_pages rows at) run.segment j 0 (subst (λ (r : Row). 0 < length r.places) (sym row) (omega (arith, stands'.live))) (ap (λ (r : Row). r.id) row ∙ stands'.numbered),
      sized,
      subst (λ (r : Row). run.first + run.pages ≤ length r.places) (sym row) fits,
      ap (λ (r : Row). get_or r.places run.first 0) row ∙ is,
    )

keys_left : (rows : List Row) (runs : List Run) (places : List ℕ) (id at : ℕ) → RowStands rows id at → NoneIn id (map (run_at runs) places) → All (λ p. HasKey rows (run_at runs p) p) places
    → All (λ p. HasKey (without_pages rows at) (run_at runs p) p) places
keys_left rows runs places id at stands none keys = λ k d within.
    let inside : k < length (map (run_at runs) places) = omega (arith, within, length-map places (run_at runs)) in
    let away : (run_at runs (get_or places k d)).segment ≢ id = subst (λ (r : Run). r.segment ≢ id) (get_or-map (run_at runs) places k d) (none k (run_at runs d) inside) in
    key_left rows (run_at runs (get_or places k d)) (get_or places k d) id at stands away (keys k d within)

pub CountsTell-dropped : (rows : List Row) (used : List Run) (at : ℕ) → at < length rows → CountsTell rows used → CountsTell (without_pages rows at) used
CountsTell-dropped rows used at within tell = λ i live.
    let same = left_same rows at i (left_other rows at i 0 within (omega (arith, live))) in
    subst (λ (r : Row). r.used ≡ pages_of (filter (lies_in r.id) used)) (sym same) (tell i (subst (λ (r : Row). 1 ≤ length r.places) same live))

stops_away : (id : ℕ) (runs : List Run) → NoneIn id runs → (page : ℕ) → All (λ run. stops_at id page run ≡ false) runs
stops_away id runs none page = λ k d within.
    elim (cases_Bool (stops_at id page (get_or runs k d))) [
      | inl stops ↦ absurd (none k d within (eqb-true _ id (and_parts (eqb (get_or runs k d).segment id) (eqb ((get_or runs k d).first + (get_or runs k d).pages) (page + 1)) stops).0))
      | inr fails ↦ fails
    ]

pub HoldsRuns-dropped : (rows : List Row) (placed : Placed) (free_from free_to used_from : List ℕ) (id at : ℕ) → RowStands rows id at → HoldsRuns rows placed free_from free_to used_from
    → NoneIn id (free_of placed) → NoneIn id (used_of placed) → HoldsRuns (without_pages rows at) placed free_from free_to used_from
HoldsRuns-dropped rows placed free_from free_to used_from id at stands holds none_free none_used =
    record {
      free_from_size = holds.free_from_size;
      free_from_clear = IsClear-dropped rows free_from begins_at (free_of placed) id at stands holds.begins holds.free_from_clear (λ page. whole_fresh id page (free_of placed) none_free);
      free_to_size = holds.free_to_size;
      free_to_clear = IsClear-dropped rows free_to stops_at (free_of placed) id at stands holds.stops holds.free_to_clear (stops_away id (free_of placed) none_free);
      used_from_size = holds.used_from_size;
      used_from_clear = IsClear-dropped rows used_from begins_at (used_of placed) id at stands holds.uses holds.used_from_clear (λ page. whole_fresh id page (used_of placed) none_used);
      once = holds.once;
      free_keys = keys_left rows placed.runs placed.free id at stands none_free holds.free_keys;
      used_keys = keys_left rows placed.runs placed.used id at stands none_used holds.used_keys;
      begins = MarksTell-among rows (without_pages rows at) free_from begins_at (free_of placed) (left_among rows at stands.within) holds.begins;
      stops = MarksTell-among rows (without_pages rows at) free_to stops_at (free_of placed) (left_among rows at stands.within) holds.stops;
      uses = MarksTell-among rows (without_pages rows at) used_from begins_at (used_of placed) (left_among rows at stands.within) holds.uses;
    }

-- and what is seen of the rows that stay
pub shown_dropped : (rows : List Row) (id at : ℕ) → ((i : ℕ) → count_by (is_row i) rows ≤ 1) → RowStands rows id at → shown_rows (without_pages rows at) ≡ filter (λ segment. not (has_id id segment)) (shown_rows rows)
shown_dropped rows id at distinct stands = go rows at (distinct id) stands.within (is_row_there rows id at stands)
  where
    others : (rows : List Row) → count_by (is_row id) rows ≡ 0 → filter (λ segment. not (has_id id segment)) (shown_rows rows) ≡ shown_rows rows
    others [] none = refl
    others (row ∷ rows) none =
        let sum = sum_by-cons (λ r. cond {A = ℕ} (is_row id r) 1 0) row rows in
        let rest = others rows (omega (arith, sum, none)) in
        elim (cases_Bool (has_pages row)) [
          | inl live ↦
              elim (cases_Bool (eqb row.id id)) [
                | inl it ↦ absurd (omega (arith, sum, none, ap {B = ℕ} (λ b. cond b 1 0) (and_from (eqb row.id id) (has_pages row) it live)))
                | inr not_it ↦ rw live (rw not_it (ap (λ ys. shown_row row ∷ ys) rest))
              ]
          | inr dead ↦ rw dead rest
        ]

    go : (rows : List Row) (at : ℕ) → count_by (is_row id) rows ≤ 1 → at < length rows → is_row id (row_at rows at) ≡ true
        → shown_rows (without_pages rows at) ≡ filter (λ segment. not (has_id id segment)) (shown_rows rows)
    go [] at few within is = absurd (omega (arith, within))
    go (row ∷ rows) zero few within is =
        let sum = sum_by-cons (λ r. cond {A = ℕ} (is_row id r) 1 0) row rows in
        let parts = and_parts (eqb row.id id) (has_pages row) is in
        rw parts.1 (rw parts.0 (sym (others rows (omega (arith, few, sum, ap {B = ℕ} (λ b. cond b 1 0) is)))))
    go (row ∷ rows) (suc at) few within is =
        let sum = sum_by-cons (λ r. cond {A = ℕ} (is_row id r) 1 0) row rows in
        let inside : at < length rows = omega (arith, within) in
        let one = counted (is_row id) rows (row_at rows at) (Contains-get_or rows at no_row inside) is in
        let rest = go rows at (omega (arith, few, sum)) inside is in
        elim (cases_Bool (has_pages row)) [
          | inl live ↦
              elim (cases_Bool (eqb row.id id)) [
                | inl it ↦ absurd (omega (arith, few, sum, one, ap {B = ℕ} (λ b. cond b 1 0) (and_from (eqb row.id id) (has_pages row) it live)))
                | inr not_it ↦ rw live (rw not_it (ap (λ ys. shown_row row ∷ ys) rest))
              ]
          | inr dead ↦ rw dead rest
        ]

-- a segment that stands in the list
pub segment_there : (segments : List Segment) (id pages : ℕ) → Contains segments (segment_of id pages) → has_segment segments id ≡ true
segment_there segments id pages (k, within, is) = list_any-from_Any (has_id id) segments (k, segment_of id pages, within, is, eq-eqb id id refl)

pub page_lies : (segments : List Segment) (id pages page : ℕ) → Contains segments (segment_of id pages) → page < pages → LiesWithin segments (page_of id page)
page_lies segments id pages page (k, within, is) low = (omega arith, (k, segment_of id pages, within, is, (refl, omega (arith, low))))

-- the places of a row fit beside the spare ones
pub row_fits : (rows : List Row) (at : ℕ) → at < length rows → width_at rows at ≤ size_of (shown_rows rows)
row_fits rows at within = omega (arith, rows_size rows, get_or-le-sum_by (λ (r : Row). length r.places) rows at no_row within)
