-- Each page tells which run begins or ends there, through each change.
use Rattle.std.proofs.Common.{◌≡◌, ◌≢◌, ℕ, zero, suc, ◌+◌, ◌-◌, ◌^◌, ◌<◌, ◌≤◌, Bool, true, false, not, ◌&&◌, ◌||◌, cond, eqb, List, [], ◌∷◌, ◌++◌, length, map, get_or, set, Option, Some, None, refl, sym, ◌∙◌, ap, subst, arith, inl, inr, get_or-set_other, get_or-set_same, length-set}
use Rattle.std.specs.List.{count_by, filter, list_any, All, Contains, sum_by}
use Rattle.std.specs.List.Sorted.{IsPermutation}
use Rattle.std.specs.Option.{is_some}
use Rattle.std.proofs.Math.ListN.{get_or-map}
use Rattle.std.proofs.lemmas.List.{get_or_default, get_or_past, map-append, length-map}
use Rattle.std.proofs.lemmas.List.Folds.{list_any-from_Any}
use Rattle.std.proofs.lemmas.List.Sums.{sum_by-cons, length-filter, sum_by_push, get_or-le-sum_by}
use Rattle.std.proofs.lemmas.List.Sorted.{IsPermutation-map, IsPermutation-filter_both, IsPermutation-append_comm}
use Rattle.std.proofs.lemmas.List.Elements.{All-filter, All-append, All-cons, All-nil, All-map, Contains-get_or, filter_passes}
use Rattle.std.proofs.lemmas.Bool.{and_parts, and_from, ltb-true, lt-ltb, ltb-false, eqb-true, eq-eqb, cases_eq, cases_lt, cases_Bool, both_ways, ne_eqb, and_right}
use Rattle.std.proofs.lemmas.Option.{slice_get_within, get_or_from_slice_get}
use Rattle.units.specs.RowSearch.{FindsRow}
use Rattle.free_lists.specs.Lists.{without}
use Rattle.span_heap.specs.declared.run.Run.{Run}
use Rattle.span_heap.specs.Run.{lies_in, begins_at, ends_at, is_run, pages_of}
use Rattle.span_heap.specs.Segment.{Segment}
use Rattle.span_heap.specs.Heap.{LiesWithin, has_segment, size_of}
use Rattle.span_heap.specs.Placed.{Placed, run_at, free_of, used_of}
use Rattle.span_heap.specs.Table.{Row, no_row, has_pages, shown_row, shown_rows, is_row, row_at, width_at, place_at, RowStands, IsRowOf, AreApart, ArePlaces, HasKey, stops_at, MarksTell, CountsTell, IsClear, HoldsRuns}
use Rattle.span_heap.proofs.Sums.{sum_by-filter, filter_at_most_one, counted, count_by-le-count_by}
use Rattle.span_heap.proofs.PartitionByCounts.{sum_by-with}
use Rattle.span_heap.proofs.SegmentsComeAndLeave.{sum_by-filter-le}
use Rattle.span_heap.proofs.FreeingKeepsThePartition.{filter_none}
use Rattle.span_heap.proofs.UsedPagesAreCounted.{one_place}
use Rattle.span_heap.proofs.PlacedRunsKeepTheirPlaces.{runs_removed, runs_stored, not_there, fewer, one_counted, once_more}

-- rows

-- a row that passes the test has a page, and the other way round
pub passes_wide : (row : Row) → has_pages row ≡ true → 1 ≤ length row.places
passes_wide row passes = omega (arith, ltb-true 0 (length row.places) passes)

pub wide_passes : (row : Row) → 1 ≤ length row.places → has_pages row ≡ true
wide_passes row wide = lt-ltb 0 (length row.places) (omega (arith, wide))

pub no_pages : (row : Row) → has_pages row ≡ false → length row.places ≡ 0
no_pages row fails = omega (arith, ltb-false 0 (length row.places) fails)

-- all pages that are seen
pub rows_size : (rows : List Row) → size_of (shown_rows rows) ≡ sum_by (λ (r : Row). length r.places) rows
rows_size [] = refl
rows_size (row ∷ rows) = go (has_pages row) refl (rows_size rows)
  where
    go : (b : Bool) → has_pages row ≡ b → size_of (shown_rows rows) ≡ sum_by (λ (r : Row). length r.places) rows
        → size_of (map shown_row (cond b (row ∷ filter has_pages rows) (filter has_pages rows))) ≡ sum_by (λ (r : Row). length r.places) (row ∷ rows)
    go true is rest = omega (arith, rest, sum_by-cons (λ (x : Segment). x.pages) (shown_row row) (shown_rows rows), sum_by-cons (λ (r : Row). length r.places) row rows)
    go false is rest = omega (arith, rest, no_pages row is, sum_by-cons (λ (r : Row). length r.places) row rows)

pub row_passes : (rows : List Row) (id at : ℕ) → at < length rows → is_row id (row_at rows at) ≡ true → RowStands rows id at
row_passes rows id at within passes =
    let parts = and_parts (eqb (row_at rows at).id id) (has_pages (row_at rows at)) passes in
    record { within = within; numbered = eqb-true (row_at rows at).id id parts.0; live = passes_wide (row_at rows at) parts.1 }

pub is_row_there : (rows : List Row) (id at : ℕ) → RowStands rows id at → is_row id (row_at rows at) ≡ true
is_row_there rows id at stands =
    and_from (eqb (row_at rows at).id id) (has_pages (row_at rows at)) (eq-eqb (row_at rows at).id id stands.numbered) (wide_passes (row_at rows at) stands.live)

pub row_found : (rows : List Row) (id : ℕ) (found : Option ℕ) → FindsRow (is_row id) rows found → IsRowOf rows id found
row_found rows id None absent = absent
row_found rows id (Some at) (row, stands, passes) =
    row_passes rows id at (slice_get_within rows at row stands) (ap (is_row id) (get_or_from_slice_get rows at row no_row stands) ∙ passes)

pub row_is : (rows : List Row) (at : ℕ) (row : Row) → at < length rows → row ≡ get_or rows at row → row ≡ row_at rows at
row_is rows at row within is = is ∙ get_or_default rows at row no_row within

pub wide_within : (rows : List Row) (at page : ℕ) → page < width_at rows at → at < length rows
wide_within rows at page wide =
    elim (cases_lt at (length rows)) [
      | inl low ↦ low
      | inr past ↦ absurd (omega (arith, wide, ap {B = ℕ} (λ (row : Row). length row.places) (get_or_past rows at no_row past)))
    ]

-- the row of a page
pub stands_at : (rows : List Row) (id at page : ℕ) → page < width_at rows at → (row_at rows at).id ≡ id → RowStands rows id at
stands_at rows id at page wide is = record { within = wide_within rows at page wide; numbered = is; live = omega (arith, wide) }

-- the same row, by an equal number
pub renumbered : (rows : List Row) (id id' at : ℕ) → RowStands rows id at → id ≡ id' → RowStands rows id' at
renumbered rows id id' at stands same = record { within = stands.within; numbered = stands.numbered ∙ same; live = stands.live }

-- one row has this number
pub one_row : (rows : List Row) (id at at' : ℕ) → ((i : ℕ) → count_by (is_row i) rows ≤ 1) → RowStands rows id at → RowStands rows id at' → at' ≡ at
one_row rows id at at' distinct stands stands' =
    one_place (is_row id) rows at' at no_row (distinct id) stands'.within stands.within (is_row_there rows id at' stands') (is_row_there rows id at stands)

row_any : (rows : List Row) (id at : ℕ) → RowStands rows id at → list_any (is_row id) rows ≡ true
row_any rows id at stands =
    list_any-from_Any (is_row id) rows (at, row_at rows at, stands.within, get_or_default rows at (row_at rows at) no_row stands.within, is_row_there rows id at stands)

pub row_any_found : (rows : List Row) (id : ℕ) (found : Option ℕ) (answer : Bool) → IsRowOf rows id found → answer ≡ is_some found → answer ≡ list_any (is_row id) rows
row_any_found rows id None answer absent is = is ∙ sym absent
row_any_found rows id (Some at) answer stands is = is ∙ sym (row_any rows id at stands)

-- keys

pub key_place : (rows : List Row) (run : Run) (place at : ℕ) → ((i : ℕ) → count_by (is_row i) rows ≤ 1) → HasKey rows run place → RowStands rows run.segment at
    → (1 ≤ run.pages) × (run.first + run.pages ≤ width_at rows at) × (place_at rows at run.first ≡ place)
key_place rows run place at distinct (at', stands', sized, fits, is) stands =
    let same : at' ≡ at = one_row rows run.segment at at' distinct stands stands' in
    (sized, subst (λ i. run.first + run.pages ≤ width_at rows i) same fits, subst (λ i. place_at rows i run.first ≡ place) same is)

pub same_key : (rows : List Row) (run other : Run) (place place' : ℕ) → ((i : ℕ) → count_by (is_row i) rows ≤ 1) → HasKey rows run place → HasKey rows other place'
    → run.segment ≡ other.segment → run.first ≡ other.first → place ≡ place'
same_key rows run other place place' distinct key (at', stands', sized', fits', is') segment first =
    let mine = key_place rows run place at' distinct key (renumbered rows other.segment run.segment at' stands' (sym segment)) in
    sym mine.2 ∙ (ap (place_at rows at') first ∙ is')

-- what a run in the list is kept under
pub record IsFound (rows : List Row) (runs : List Run) (places : List ℕ) (run : Run) (at : ℕ) : Type 0 where
  pub there : Contains places (place_at rows at run.first)
  pub is : run_at runs (place_at rows at run.first) ≡ run
  pub sized : 1 ≤ run.pages
  pub fits : run.first + run.pages ≤ width_at rows at

pub looked_up : (rows : List Row) (runs : List Run) (places : List ℕ) (run : Run) → All (λ p. HasKey rows (run_at runs p) p) places → Contains (map (run_at runs) places) run
    → (place : ℕ) × Contains places place × (run_at runs place ≡ run) × HasKey rows run place
looked_up rows runs places run keys (k, within, is) =
    let inside : k < length places = omega (arith, within, length-map places (run_at runs)) in
    let place = get_or places k 0 in
    let same : run_at runs place ≡ run = sym (get_or-map (run_at runs) places k 0) ∙ (get_or_default (map (run_at runs) places) k (run_at runs 0) run within ∙ is) in
    (place, Contains-get_or places k 0 inside, same, subst (λ r. HasKey rows r place) same (keys k 0 inside))

pub found_run : (rows : List Row) (runs : List Run) (places : List ℕ) (run : Run) (at : ℕ) → ((i : ℕ) → count_by (is_row i) rows ≤ 1)
    → All (λ p. HasKey rows (run_at runs p) p) places → Contains (map (run_at runs) places) run → RowStands rows run.segment at → IsFound rows runs places run at
found_run rows runs places run at distinct keys there stands =
    let (place, stands_there, is, key) = looked_up rows runs places run keys there in
    let mine = key_place rows run place at distinct key stands in
    record {
      there = subst (λ p. Contains places p) (sym mine.2) stands_there;
      is = subst (λ p. run_at runs p ≡ run) (sym mine.2) is;
      sized = mine.0;
      fits = mine.1;
    }

pub row_of_run : (rows : List Row) (runs : List Run) (places : List ℕ) (run : Run) → All (λ p. HasKey rows (run_at runs p) p) places → Contains (map (run_at runs) places) run
    → list_any (is_row run.segment) rows ≡ true
row_of_run rows runs places run keys there =
    let (place, stands_there, is, key) = looked_up rows runs places run keys there in
    row_any rows run.segment key.0 key.1

-- what passes a test stands in the list
pub filtered_there : {X : Type 0} (test : X → Bool) (xs : List X) (x : X) → Contains (filter test xs) x → Contains xs x
filtered_there test [] x there = there
filtered_there test (y ∷ xs) x there = go (test y) (filtered_there test xs x) there
  where
    behind : Contains xs x → Contains (y ∷ xs) x
    behind (k, within, is) = (suc k, omega (arith, within), is)

    go : (b : Bool) → (Contains (filter test xs) x → Contains xs x) → Contains (cond b (y ∷ filter test xs) (filter test xs)) x → Contains (y ∷ xs) x
    go true rest (zero, within, is) = (zero, omega arith, is)
    go true rest (suc k, within, is) = behind (rest (k, omega (arith, within), is))
    go false rest there = behind (rest there)

-- the row of a segment that is seen
pub row_of_shown : (rows : List Row) (segment : Segment) → Contains (shown_rows rows) segment → (at : ℕ) × RowStands rows segment.id at × (width_at rows at ≡ segment.pages)
row_of_shown rows segment (k, within, is) =
    let kept = filter has_pages rows in
    let inside : k < length kept = omega (arith, within, length-map kept shown_row) in
    let same : shown_row (row_at kept k) ≡ segment = sym (get_or-map shown_row kept k no_row) ∙ (get_or_default (map shown_row kept) k (shown_row no_row) segment within ∙ is) in
    let (at, low, there) = filtered_there has_pages rows (row_at kept k) (Contains-get_or kept k no_row inside) in
    let here : row_at rows at ≡ row_at kept k = get_or_default rows at no_row (row_at kept k) low ∙ there in
    let live : 1 ≤ width_at rows at = subst (λ (r : Row). 1 ≤ length r.places) (sym here) (passes_wide (row_at kept k) (filter_passes has_pages rows k no_row inside)) in (
      at,
      record { within = low; numbered = ap (λ (r : Row). r.id) here ∙ ap (λ (x : Segment). x.id) same; live = live },
      ap {B = ℕ} (λ (r : Row). length r.places) here ∙ ap (λ (x : Segment). x.pages) same,
    )

-- a run that lies within a segment lies in its row
lies_row : (rows : List Row) (run : Run) → LiesWithin (shown_rows rows) run
    → (at : ℕ) × RowStands rows run.segment at × (1 ≤ run.pages) × (run.first + run.pages ≤ width_at rows at)
lies_row rows run (sized, (k, segment, within, is, both)) =
    let (at, stands, wide) = row_of_shown rows segment (k, within, is) in
    (at, renumbered rows segment.id run.segment at stands both.0, sized, omega (arith, wide, both.1))

pub row_of_lies : (rows : List Row) (run : Run) → LiesWithin (shown_rows rows) run → list_any (is_row run.segment) rows ≡ true
row_of_lies rows run lies = let (at, stands, sized, fits) = lies_row rows run lies in row_any rows run.segment at stands

pub lies_at : (rows : List Row) (run : Run) (at : ℕ) → ((i : ℕ) → count_by (is_row i) rows ≤ 1) → LiesWithin (shown_rows rows) run → RowStands rows run.segment at
    → (1 ≤ run.pages) × (run.first + run.pages ≤ width_at rows at)
lies_at rows run at distinct lies stands =
    let (at', stands', sized, fits) = lies_row rows run lies in
    let same : at' ≡ at = one_row rows run.segment at at' distinct stands stands' in
    (sized, subst (λ i. run.first + run.pages ≤ width_at rows i) same fits)

-- where no run begins, no run is kept
pub new_place : (rows : List Row) (runs : List Run) (places : List ℕ) (run : Run) (at : ℕ) → AreApart rows → All (λ p. HasKey rows (run_at runs p) p) places
    → All (λ other. begins_at run.segment run.first other ≡ false) (map (run_at runs) places) → RowStands rows run.segment at → run.first < width_at rows at
    → Contains places (place_at rows at run.first) → ⊥
new_place rows runs places run at apart keys fresh stands wide (k, within, is) =
    let place = get_or places k (place_at rows at run.first) in
    let other : Run = run_at runs place in
    let (at', stands', sized, fits, kept) = keys k (place_at rows at run.first) within in
    let both = apart at' other.first at run.first (omega (arith, sized, fits)) wide (kept ∙ is) in
    let segment : other.segment ≡ run.segment = sym stands'.numbered ∙ (ap (λ i. (row_at rows i).id) both.0 ∙ stands.numbered) in
    let begins : begins_at run.segment run.first other ≡ true = and_from _ _ (eq-eqb other.segment run.segment segment) (eq-eqb other.first run.first both.1) in
    let inside : k < length (map (run_at runs) places) = omega (arith, within, length-map places (run_at runs)) in
    let not_here = fresh k (run_at runs (place_at rows at run.first)) inside in
    both_ways (begins_at run.segment run.first other) (subst (λ r. begins_at run.segment run.first r ≡ false) (get_or-map (run_at runs) places k (place_at rows at run.first)) not_here) begins

-- marks

-- the pages of those that pass a test, where one run more stands in the list
part_of : (test : Run → Bool) (more fewer : List Run) (run : Run) → IsPermutation more (run ∷ fewer) → cond {A = ℕ} (test run) run.pages 0 + pages_of (filter test fewer) ≡ pages_of (filter test more)
part_of test more fewer run taken =
    omega (arith, sum_by-filter (λ (x : Run). x.pages) test more, sum_by-filter (λ (x : Run). x.pages) test fewer, sum_by-with (λ x. cond {A = ℕ} (test x) x.pages 0) more fewer run taken)

-- the test holds of the run at one page alone
abbrev pub IsOnlyAt : List Row → (ℕ → ℕ → Run → Bool) → Run → ℕ → ℕ → Type 0
IsOnlyAt rows test run at page =
    (test (row_at rows at).id page run ≡ true) × ((other page' : ℕ) → page' < width_at rows other → test (row_at rows other).id page' run ≡ true → (other ≡ at) × (page' ≡ page))

pub MarksTell-set : (rows : List Row) (marks : List ℕ) (test : ℕ → ℕ → Run → Bool) (runs runs' : List Run) (run : Run) (at page n : ℕ) → AreApart rows → MarksTell rows marks test runs
    → page < width_at rows at → place_at rows at page < length marks → IsOnlyAt rows test run at page
    → n ≡ pages_of (filter (test (row_at rows at).id page) runs')
    → ((id page' : ℕ) → test id page' run ≡ false → pages_of (filter (test id page') runs') ≡ pages_of (filter (test id page') runs))
    → MarksTell rows (set marks (place_at rows at page) n) test runs'
MarksTell-set rows marks test runs runs' run at page n apart tell wide low only here stays = λ at' page' wide'.
    elim (cases_eq (place_at rows at' page') (place_at rows at page)) [
      | inl same ↦
          let both = apart at' page' at page wide' wide same in
          ap (λ i. get_or (set marks (place_at rows at page) n) i 0) same
          ∙ (get_or-set_same marks (place_at rows at page) n 0 low
          ∙ (here ∙ (ap (λ i. pages_of (filter (test (row_at rows i).id page) runs')) (sym both.0) ∙ ap (λ g. pages_of (filter (test (row_at rows at').id g) runs')) (sym both.1))))
      | inr other ↦
          get_or-set_other marks (place_at rows at page) (place_at rows at' page') n 0 other
          ∙ (tell at' page' wide' ∙ sym (stays (row_at rows at').id page' (elsewhere at' page' wide' other)))
    ]
  where
    elsewhere : (at' page' : ℕ) → page' < width_at rows at' → place_at rows at' page' ≢ place_at rows at page → test (row_at rows at').id page' run ≡ false
    elsewhere at' page' wide' other =
        elim (cases_Bool (test (row_at rows at').id page' run)) [
          | inl passes ↦
              let both = only.1 at' page' wide' passes in
              absurd (other (ap (λ i. place_at rows i page') both.0 ∙ ap (place_at rows at) both.1))
          | inr fails ↦ fails
        ]

pub MarksTell-taken : (rows : List Row) (marks : List ℕ) (test : ℕ → ℕ → Run → Bool) (runs runs' : List Run) (run : Run) (at page n : ℕ) → AreApart rows → MarksTell rows marks test runs
    → page < width_at rows at → place_at rows at page < length marks → IsOnlyAt rows test run at page → IsPermutation runs (run ∷ runs')
    → n ≡ get_or marks (place_at rows at page) 0 - run.pages → MarksTell rows (set marks (place_at rows at page) n) test runs'
MarksTell-taken rows marks test runs runs' run at page n apart tell wide low only taken is =
    MarksTell-set rows marks test runs runs' run at page n apart tell wide low only
    (omega (arith, is, tell at page wide, part_of (test (row_at rows at).id page) runs runs' run taken, ap (λ b. cond {A = ℕ} b run.pages 0) only.0))
    (λ id page' fails. omega (arith, part_of (test id page') runs runs' run taken, ap (λ b. cond {A = ℕ} b run.pages 0) fails))

pub MarksTell-added : (rows : List Row) (marks : List ℕ) (test : ℕ → ℕ → Run → Bool) (runs : List Run) (run : Run) (at page n : ℕ) → AreApart rows → MarksTell rows marks test runs
    → page < width_at rows at → place_at rows at page < length marks → IsOnlyAt rows test run at page
    → n ≡ get_or marks (place_at rows at page) 0 + run.pages → MarksTell rows (set marks (place_at rows at page) n) test (runs ++ run ∷ [])
MarksTell-added rows marks test runs run at page n apart tell wide low only is =
    let given : IsPermutation (runs ++ run ∷ []) (run ∷ runs) = IsPermutation-append_comm runs (run ∷ []) in
    MarksTell-set rows marks test runs (runs ++ run ∷ []) run at page n apart tell wide low only
    (omega (arith, is, tell at page wide, part_of (test (row_at rows at).id page) (runs ++ run ∷ []) runs run given, ap (λ b. cond {A = ℕ} b run.pages 0) only.0))
    (λ id page' fails. omega (arith, part_of (test id page') (runs ++ run ∷ []) runs run given, ap (λ b. cond {A = ℕ} b run.pages 0) fails))

-- a mark has at least the pages of a run that it tells of
pub mark_reaches : (rows : List Row) (marks : List ℕ) (test : ℕ → ℕ → Run → Bool) (runs runs' : List Run) (run : Run) (at page : ℕ) → MarksTell rows marks test runs → page < width_at rows at
    → IsOnlyAt rows test run at page → IsPermutation runs (run ∷ runs') → run.pages ≤ get_or marks (place_at rows at page) 0
mark_reaches rows marks test runs runs' run at page tell wide only taken =
    omega (arith, tell at page wide, part_of (test (row_at rows at).id page) runs runs' run taken, ap (λ b. cond {A = ℕ} b run.pages 0) only.0)

-- and no mark is above all pages
pub mark-le-pages : (rows : List Row) (marks : List ℕ) (test : ℕ → ℕ → Run → Bool) (runs : List Run) (at page : ℕ) → MarksTell rows marks test runs → page < width_at rows at
    → get_or marks (place_at rows at page) 0 ≤ pages_of runs
mark-le-pages rows marks test runs at page tell wide =
    omega (arith, tell at page wide, sum_by-filter-le (λ (x : Run). x.pages) (test (row_at rows at).id page) runs)

pub begins_only : (rows : List Row) (run : Run) (at : ℕ) → ((i : ℕ) → count_by (is_row i) rows ≤ 1) → RowStands rows run.segment at → IsOnlyAt rows begins_at run at run.first
begins_only rows run at distinct stands = (
  and_from _ _ (eq-eqb run.segment (row_at rows at).id (sym stands.numbered)) (eq-eqb run.first run.first refl),
  λ other page' wide' passes.
      let parts = and_parts (eqb run.segment (row_at rows other).id) (eqb run.first page') passes in
      let segment : run.segment ≡ (row_at rows other).id = eqb-true run.segment (row_at rows other).id parts.0 in
      (one_row rows run.segment at other distinct stands (stands_at rows run.segment other page' wide' (sym segment)), sym (eqb-true run.first page' parts.1)),
)

pub stops_only : (rows : List Row) (run : Run) (at : ℕ) → ((i : ℕ) → count_by (is_row i) rows ≤ 1) → RowStands rows run.segment at → 1 ≤ run.pages
    → IsOnlyAt rows stops_at run at (run.first + (run.pages - 1))
stops_only rows run at distinct stands sized = (
  and_from _ _ (eq-eqb run.segment (row_at rows at).id (sym stands.numbered)) (eq-eqb (run.first + run.pages) (run.first + (run.pages - 1) + 1) (omega (arith, sized))),
  λ other page' wide' passes.
      let parts = and_parts (eqb run.segment (row_at rows other).id) (eqb (run.first + run.pages) (page' + 1)) passes in
      let segment : run.segment ≡ (row_at rows other).id = eqb-true run.segment (row_at rows other).id parts.0 in
      let stop : run.first + run.pages ≡ page' + 1 = eqb-true (run.first + run.pages) (page' + 1) parts.1 in
      (one_row rows run.segment at other distinct stands (stands_at rows run.segment other page' wide' (sym segment)), omega (arith, stop, sized)),
)

-- counts

-- the rows, with the count of one set anew
abbrev pub recounted : List Row → ℕ → ℕ → List Row
recounted rows at n = set rows at (record { id = (row_at rows at).id; places = (row_at rows at).places; used = n })

CountsTell-set : (rows : List Row) (used used' : List Run) (run : Run) (at n : ℕ) → ((i : ℕ) → count_by (is_row i) rows ≤ 1) → CountsTell rows used
    → RowStands rows run.segment at → n ≡ pages_of (filter (lies_in (row_at rows at).id) used')
    → ((id : ℕ) → lies_in id run ≡ false → pages_of (filter (lies_in id) used') ≡ pages_of (filter (lies_in id) used))
    → CountsTell (recounted rows at n) used'
CountsTell-set rows used used' run at n distinct tell stands here stays = λ at' live.
    elim (cases_eq at' at) [
      | inl same ↦
          let now : row_at (recounted rows at n) at' ≡ row = ap (row_at (recounted rows at n)) same ∙ get_or-set_same rows at row no_row stands.within in
          ap (λ (r : Row). r.used) now ∙ (here ∙ ap (λ (r : Row). pages_of (filter (lies_in r.id) used')) (sym now))
      | inr other ↦
          let now : row_at (recounted rows at n) at' ≡ row_at rows at' = get_or-set_other rows at at' row no_row other in
          let live_old : 1 ≤ width_at rows at' = subst (λ (r : Row). 1 ≤ length r.places) now live in
          ap (λ (r : Row). r.used) now
          ∙ (tell at' live_old
          ∙ (sym (stays (row_at rows at').id (elsewhere at' live_old other)) ∙ ap (λ (r : Row). pages_of (filter (lies_in r.id) used')) (sym now)))
    ]
  where
    row : Row
    row = record { id = (row_at rows at).id; places = (row_at rows at).places; used = n }

    elsewhere : (at' : ℕ) → 1 ≤ width_at rows at' → at' ≢ at → lies_in (row_at rows at').id run ≡ false
    elsewhere at' live other =
        elim (cases_Bool (lies_in (row_at rows at').id run)) [
          | inl lies ↦
              absurd (other (one_row rows run.segment at at' distinct stands (stands_at rows run.segment at' 0 (omega (arith, live)) (sym (eqb-true run.segment (row_at rows at').id lies)))))
          | inr fails ↦ fails
        ]

lies_here : (rows : List Row) (run : Run) (at : ℕ) → RowStands rows run.segment at → lies_in (row_at rows at).id run ≡ true
lies_here rows run at stands = eq-eqb run.segment (row_at rows at).id (sym stands.numbered)

pub CountsTell-taken : (rows : List Row) (used used' : List Run) (run : Run) (at n : ℕ) → ((i : ℕ) → count_by (is_row i) rows ≤ 1) → CountsTell rows used
    → RowStands rows run.segment at → IsPermutation used (run ∷ used') → n ≡ (row_at rows at).used - run.pages → CountsTell (recounted rows at n) used'
CountsTell-taken rows used used' run at n distinct tell stands taken is =
    CountsTell-set rows used used' run at n distinct tell stands
    (omega (arith, is, tell at stands.live, part_of (lies_in (row_at rows at).id) used used' run taken, ap (λ b. cond {A = ℕ} b run.pages 0) (lies_here rows run at stands)))
    (λ id fails. omega (arith, part_of (lies_in id) used used' run taken, ap (λ b. cond {A = ℕ} b run.pages 0) fails))

pub CountsTell-added : (rows : List Row) (used : List Run) (run : Run) (at n : ℕ) → ((i : ℕ) → count_by (is_row i) rows ≤ 1) → CountsTell rows used
    → RowStands rows run.segment at → n ≡ (row_at rows at).used + run.pages → CountsTell (recounted rows at n) (used ++ run ∷ [])
CountsTell-added rows used run at n distinct tell stands is =
    let given : IsPermutation (used ++ run ∷ []) (run ∷ used) = IsPermutation-append_comm used (run ∷ []) in
    CountsTell-set rows used (used ++ run ∷ []) run at n distinct tell stands
    (omega (arith, is, tell at stands.live, part_of (lies_in (row_at rows at).id) (used ++ run ∷ []) used run given, ap (λ b. cond {A = ℕ} b run.pages 0) (lies_here rows run at stands)))
    (λ id fails. omega (arith, part_of (lies_in id) (used ++ run ∷ []) used run given, ap (λ b. cond {A = ℕ} b run.pages 0) fails))

pub count_reaches : (rows : List Row) (used used' : List Run) (run : Run) (at : ℕ) → CountsTell rows used → RowStands rows run.segment at
    → IsPermutation used (run ∷ used') → run.pages ≤ (row_at rows at).used
count_reaches rows used used' run at tell stands taken =
    omega (arith, tell at stands.live, part_of (lies_in (row_at rows at).id) used used' run taken, ap (λ b. cond {A = ℕ} b run.pages 0) (lies_here rows run at stands))

pub count-le-pages : (rows : List Row) (used : List Run) (at : ℕ) → CountsTell rows used → 1 ≤ width_at rows at → (row_at rows at).used ≤ pages_of used
count-le-pages rows used at tell live =
    omega (arith, tell at live, sum_by-filter-le (λ (x : Run). x.pages) (lies_in (row_at rows at).id) used)

-- a place leaves a list
pub perm_without : (xs : List ℕ) (place : ℕ) → Contains xs place → count_by (λ other. eqb other place) xs ≤ 1 → IsPermutation xs (place ∷ without xs place)
perm_without xs place there few =
    elim (filter_at_most_one (λ other. eqb other place) xs few) [
      | inl none ↦ absurd (omega (arith, one_counted xs place there, length-filter (λ other. eqb other place) xs, ap {B = ℕ} length none))
      | inr (x, one, is) ↦
          let same : filter (λ other. eqb other place) xs ≡ place ∷ [] = one ∙ ap (λ y. y ∷ []) (eqb-true x place is) in
          subst (λ ys. IsPermutation xs (ys ++ without xs place)) same (IsPermutation-filter_both (λ other. eqb other place) (λ other. not (eqb other place)) (λ y. refl) xs)
    ]

pub taken_out : (rows : List Row) (runs : List Run) (places : List ℕ) (run : Run) (at : ℕ) → IsFound rows runs places run at
    → count_by (λ other. eqb other (place_at rows at run.first)) places ≤ 1
    → IsPermutation (map (run_at runs) places) (run ∷ map (run_at runs) (without places (place_at rows at run.first)))
taken_out rows runs places run at found few =
    let place = place_at rows at run.first in
    subst (λ r. IsPermutation (map (run_at runs) places) (r ∷ map (run_at runs) (without places place))) found.is
    (IsPermutation-map (run_at runs) places (place ∷ without places place) (perm_without places place found.there few))

-- the run leaves the list, and no other
pub left_out : (rows : List Row) (runs : List Run) (places : List ℕ) (run : Run) (at : ℕ) → ((i : ℕ) → count_by (is_row i) rows ≤ 1) → All (λ p. HasKey rows (run_at runs p) p) places
    → RowStands rows run.segment at → IsFound rows runs places run at
    → map (run_at runs) (without places (place_at rows at run.first)) ≡ filter (λ other. not (is_run run other)) (map (run_at runs) places)
left_out rows runs places run at distinct keys stands found =
    let place = place_at rows at run.first in
    let key : HasKey rows (run_at runs place) place = subst (λ r. HasKey rows r place) (sym found.is) (at, stands, found.sized, found.fits, refl) in
    subst (λ r. map (run_at runs) (without places place) ≡ filter (λ other. not (is_run r other)) (map (run_at runs) places)) found.is
    (runs_removed runs places place (λ k d within e.
    same_key rows (run_at runs (get_or places k d)) (run_at runs place) (get_or places k d) place distinct (keys k d within) key (ap (λ (r : Run). r.segment) e) (ap (λ (r : Run). r.first) e)))

-- a run comes under a new place

pub run_added : (runs : List Run) (places : List ℕ) (place : ℕ) (run : Run) → place < length runs → (Contains places place → ⊥)
    → map (run_at (set runs place run)) (places ++ place ∷ []) ≡ map (run_at runs) places ++ run ∷ []
run_added runs places place run low new =
    map-append (run_at (set runs place run)) places (place ∷ [])
    ∙ (ap (λ ys. ys ++ run_at (set runs place run) place ∷ []) (runs_stored runs places place run (not_there places place new))
    ∙ ap (λ r. map (run_at runs) places ++ r ∷ []) (get_or-set_same runs place run (record { segment = 0; first = 0; pages = 0 }) low))

pub runs_same : (runs : List Run) (places : List ℕ) (place : ℕ) (run : Run) → (Contains places place → ⊥) → map (run_at (set runs place run)) places ≡ map (run_at runs) places
runs_same runs places place run new = runs_stored runs places place run (not_there places place new)

pub keys_same : (rows : List Row) (runs : List Run) (places : List ℕ) (place : ℕ) (run : Run) → (Contains places place → ⊥) → All (λ p. HasKey rows (run_at runs p) p) places
    → All (λ p. HasKey rows (run_at (set runs place run) p) p) places
keys_same rows runs places place run new keys = λ k d within.
    subst (λ r. HasKey rows r (get_or places k d))
    (sym (get_or-set_other runs place (get_or places k d) run (record { segment = 0; first = 0; pages = 0 }) (not_there places place new k d within))) (keys k d within)

pub key_added : (rows : List Row) (runs : List Run) (places : List ℕ) (place : ℕ) (run : Run) → place < length runs → (Contains places place → ⊥) → HasKey rows run place
    → All (λ p. HasKey rows (run_at runs p) p) places → All (λ p. HasKey rows (run_at (set runs place run) p) p) (places ++ place ∷ [])
key_added rows runs places place run low new key keys =
    let P : ℕ → Type 0 = λ p. HasKey rows (run_at (set runs place run) p) p in
    All-append P places (place ∷ []) (keys_same rows runs places place run new keys)
    (All-cons P place [] (subst (λ r. HasKey rows r place) (sym (get_or-set_same runs place run (record { segment = 0; first = 0; pages = 0 }) low)) key) (All-nil P))

-- only the mark of a page's place changes
IsClear-set : (rows : List Row) (marks : List ℕ) (at page n : ℕ) → page < width_at rows at → IsClear rows marks → IsClear rows (set marks (place_at rows at page) n)
IsClear-set rows marks at page n wide clear = λ place away.
    get_or-set_other marks (place_at rows at page) place n 0 (λ e. away at page wide (sym e)) ∙ clear place away

-- what holds of the runs, through each change

pub HoldsRuns-free_taken : (rows : List Row) (spare : List ℕ) (size : ℕ) (placed placed' : Placed) (free_from free_to used_from : List ℕ) (run : Run) (at n m : ℕ) → ArePlaces rows spare size
    → size ≡ length placed.runs → HoldsRuns rows placed free_from free_to used_from → RowStands rows run.segment at → IsFound rows placed.runs placed.free run at
    → placed'.free ≡ without placed.free (place_at rows at run.first) → placed'.used ≡ placed.used → placed'.runs ≡ placed.runs
    → n ≡ get_or free_from (place_at rows at run.first) 0 - run.pages → m ≡ get_or free_to (place_at rows at (run.first + (run.pages - 1))) 0 - run.pages
    → HoldsRuns rows placed' (set free_from (place_at rows at run.first) n) (set free_to (place_at rows at (run.first + (run.pages - 1))) m) used_from
HoldsRuns-free_taken rows spare size placed placed' free_from free_to used_from run at n m places sizes holds stands found free used runs is_n is_m =
    let first = place_at rows at run.first in
    let last = place_at rows at (run.first + (run.pages - 1)) in
    let Q : List ℕ → List ℕ → List Run → Type 0 = λ f u r. HoldsRuns rows (record { free = f; used = u; runs = r }) (set free_from first n) (set free_to last m) used_from in
    let few : count_by (λ other. eqb other first) placed.free ≤ 1 = omega (arith, holds.once first) in
    let taken = taken_out rows placed.runs placed.free run at found few in
    let wide : run.first < width_at rows at = omega (arith, found.sized, found.fits) in
    let wide_last : run.first + (run.pages - 1) < width_at rows at = omega (arith, found.sized, found.fits) in
    subst (λ f. Q f placed'.used placed'.runs) (sym free) (subst (λ u. Q (without placed.free first) u placed'.runs) (sym used) (subst (λ r. Q (without placed.free first) placed.used r) (sym runs)
    (record {
      free_from_size = omega (arith, length-set free_from first n, holds.free_from_size);
      free_from_clear = IsClear-set rows free_from at run.first n wide holds.free_from_clear;
      free_to_size = omega (arith, length-set free_to last m, holds.free_to_size);
      free_to_clear = IsClear-set rows free_to at (run.first + (run.pages - 1)) m wide_last holds.free_to_clear;
      used_from_size = holds.used_from_size;
      used_from_clear = holds.used_from_clear;
      once = λ p. omega (arith, fewer (λ other. not (eqb other first)) placed.free p, holds.once p);
      free_keys = All-filter (λ other. not (eqb other first)) (λ p. HasKey rows (run_at placed.runs p) p) placed.free holds.free_keys;
      used_keys = holds.used_keys;
      begins = MarksTell-taken rows free_from begins_at (free_of placed) _ run at run.first n places.apart holds.begins wide
          (omega (arith, places.within at run.first wide, holds.free_from_size, sizes)) (begins_only rows run at places.distinct stands) taken is_n;
      stops = MarksTell-taken rows free_to stops_at (free_of placed) _ run at (run.first + (run.pages - 1)) m places.apart holds.stops wide_last
          (omega (arith, places.within at (run.first + (run.pages - 1)) wide_last, holds.free_to_size, sizes)) (stops_only rows run at places.distinct stands found.sized) taken is_m;
      uses = holds.uses;
    })))

pub HoldsRuns-used_taken : (rows : List Row) (spare : List ℕ) (size : ℕ) (placed placed' : Placed) (free_from free_to used_from : List ℕ) (run : Run) (at n : ℕ) → ArePlaces rows spare size
    → size ≡ length placed.runs → HoldsRuns rows placed free_from free_to used_from → RowStands rows run.segment at → IsFound rows placed.runs placed.used run at
    → placed'.free ≡ placed.free → placed'.used ≡ without placed.used (place_at rows at run.first) → placed'.runs ≡ placed.runs
    → n ≡ get_or used_from (place_at rows at run.first) 0 - run.pages
    → HoldsRuns rows placed' free_from free_to (set used_from (place_at rows at run.first) n)
HoldsRuns-used_taken rows spare size placed placed' free_from free_to used_from run at n places sizes holds stands found free used runs is_n =
    let first = place_at rows at run.first in
    let Q : List ℕ → List ℕ → List Run → Type 0 = λ f u r. HoldsRuns rows (record { free = f; used = u; runs = r }) free_from free_to (set used_from first n) in
    let few : count_by (λ other. eqb other first) placed.used ≤ 1 = omega (arith, holds.once first) in
    let taken = taken_out rows placed.runs placed.used run at found few in
    let wide : run.first < width_at rows at = omega (arith, found.sized, found.fits) in
    subst (λ f. Q f placed'.used placed'.runs) (sym free) (subst (λ u. Q placed.free u placed'.runs) (sym used) (subst (λ r. Q placed.free (without placed.used first) r) (sym runs)
    (record {
      free_from_size = holds.free_from_size;
      free_from_clear = holds.free_from_clear;
      free_to_size = holds.free_to_size;
      free_to_clear = holds.free_to_clear;
      used_from_size = omega (arith, length-set used_from first n, holds.used_from_size);
      used_from_clear = IsClear-set rows used_from at run.first n wide holds.used_from_clear;
      once = λ p. omega (arith, fewer (λ other. not (eqb other first)) placed.used p, holds.once p);
      free_keys = holds.free_keys;
      used_keys = All-filter (λ other. not (eqb other first)) (λ p. HasKey rows (run_at placed.runs p) p) placed.used holds.used_keys;
      begins = holds.begins;
      stops = holds.stops;
      uses = MarksTell-taken rows used_from begins_at (used_of placed) _ run at run.first n places.apart holds.uses wide
          (omega (arith, places.within at run.first wide, holds.used_from_size, sizes)) (begins_only rows run at places.distinct stands) taken is_n;
    })))

pub HoldsRuns-free_added : (rows : List Row) (spare : List ℕ) (size : ℕ) (placed placed' : Placed) (free_from free_to used_from : List ℕ) (run : Run) (at n m : ℕ) → ArePlaces rows spare size
    → size ≡ length placed.runs → HoldsRuns rows placed free_from free_to used_from → RowStands rows run.segment at → 1 ≤ run.pages → run.first + run.pages ≤ width_at rows at
    → (Contains placed.free (place_at rows at run.first) → ⊥) → (Contains placed.used (place_at rows at run.first) → ⊥)
    → placed'.free ≡ placed.free ++ place_at rows at run.first ∷ [] → placed'.used ≡ placed.used → placed'.runs ≡ set placed.runs (place_at rows at run.first) run
    → n ≡ get_or free_from (place_at rows at run.first) 0 + run.pages → m ≡ get_or free_to (place_at rows at (run.first + (run.pages - 1))) 0 + run.pages
    → HoldsRuns rows placed' (set free_from (place_at rows at run.first) n) (set free_to (place_at rows at (run.first + (run.pages - 1))) m) used_from
HoldsRuns-free_added rows spare size placed placed' free_from free_to used_from run at n m places sizes holds stands sized fits not_free not_used free used runs is_n is_m =
    let first = place_at rows at run.first in
    let last = place_at rows at (run.first + (run.pages - 1)) in
    let Q : List ℕ → List ℕ → List Run → Type 0 = λ f u r. HoldsRuns rows (record { free = f; used = u; runs = r }) (set free_from first n) (set free_to last m) used_from in
    let wide : run.first < width_at rows at = omega (arith, sized, fits) in
    let wide_last : run.first + (run.pages - 1) < width_at rows at = omega (arith, sized, fits) in
    let low : first < length placed.runs = omega (arith, places.within at run.first wide, sizes) in
    let now : List Run = set placed.runs first run in
    let free_now : map (run_at now) (placed.free ++ first ∷ []) ≡ free_of placed ++ run ∷ [] = run_added placed.runs placed.free first run low not_free in
    let used_now : map (run_at now) placed.used ≡ used_of placed = runs_same placed.runs placed.used first run not_used in
    subst (λ f. Q f placed'.used placed'.runs) (sym free) (subst (λ u. Q (placed.free ++ first ∷ []) u placed'.runs) (sym used) (subst (λ r. Q (placed.free ++ first ∷ []) placed.used r) (sym runs)
    (record {
      free_from_size = omega (arith, length-set free_from first n, length-set placed.runs first run, holds.free_from_size);
      free_from_clear = IsClear-set rows free_from at run.first n wide holds.free_from_clear;
      free_to_size = omega (arith, length-set free_to last m, length-set placed.runs first run, holds.free_to_size);
      free_to_clear = IsClear-set rows free_to at (run.first + (run.pages - 1)) m wide_last holds.free_to_clear;
      used_from_size = omega (arith, length-set placed.runs first run, holds.used_from_size);
      used_from_clear = holds.used_from_clear;
      once = λ p. omega (arith, once_more placed.free placed.used first holds.once not_free not_used p, sum_by_push (λ other. cond {A = ℕ} (eqb other p) 1 0) placed.free first);
      free_keys = key_added rows placed.runs placed.free first run low not_free (at, stands, sized, fits, refl) holds.free_keys;
      used_keys = keys_same rows placed.runs placed.used first run not_used holds.used_keys;
      begins = subst (MarksTell rows (set free_from first n) begins_at) (sym free_now)
          (MarksTell-added rows free_from begins_at (free_of placed) run at run.first n places.apart holds.begins wide
          (omega (arith, places.within at run.first wide, holds.free_from_size, sizes)) (begins_only rows run at places.distinct stands) is_n);
      stops = subst (MarksTell rows (set free_to last m) stops_at) (sym free_now)
          (MarksTell-added rows free_to stops_at (free_of placed) run at (run.first + (run.pages - 1)) m places.apart holds.stops wide_last
          (omega (arith, places.within at (run.first + (run.pages - 1)) wide_last, holds.free_to_size, sizes)) (stops_only rows run at places.distinct stands sized) is_m);
      uses = subst (MarksTell rows used_from begins_at) (sym used_now) holds.uses;
    })))

pub HoldsRuns-used_added : (rows : List Row) (spare : List ℕ) (size : ℕ) (placed placed' : Placed) (free_from free_to used_from : List ℕ) (run : Run) (at n : ℕ) → ArePlaces rows spare size
    → size ≡ length placed.runs → HoldsRuns rows placed free_from free_to used_from → RowStands rows run.segment at → 1 ≤ run.pages → run.first + run.pages ≤ width_at rows at
    → (Contains placed.free (place_at rows at run.first) → ⊥) → (Contains placed.used (place_at rows at run.first) → ⊥)
    → placed'.free ≡ placed.free → placed'.used ≡ placed.used ++ place_at rows at run.first ∷ [] → placed'.runs ≡ set placed.runs (place_at rows at run.first) run
    → n ≡ get_or used_from (place_at rows at run.first) 0 + run.pages
    → HoldsRuns rows placed' free_from free_to (set used_from (place_at rows at run.first) n)
HoldsRuns-used_added rows spare size placed placed' free_from free_to used_from run at n places sizes holds stands sized fits not_free not_used free used runs is_n =
    let first = place_at rows at run.first in
    let Q : List ℕ → List ℕ → List Run → Type 0 = λ f u r. HoldsRuns rows (record { free = f; used = u; runs = r }) free_from free_to (set used_from first n) in
    let wide : run.first < width_at rows at = omega (arith, sized, fits) in
    let low : first < length placed.runs = omega (arith, places.within at run.first wide, sizes) in
    let now : List Run = set placed.runs first run in
    let free_now : map (run_at now) placed.free ≡ free_of placed = runs_same placed.runs placed.free first run not_free in
    let used_now : map (run_at now) (placed.used ++ first ∷ []) ≡ used_of placed ++ run ∷ [] = run_added placed.runs placed.used first run low not_used in
    subst (λ f. Q f placed'.used placed'.runs) (sym free) (subst (λ u. Q placed.free u placed'.runs) (sym used) (subst (λ r. Q placed.free (placed.used ++ first ∷ []) r) (sym runs)
    (record {
      free_from_size = omega (arith, length-set placed.runs first run, holds.free_from_size);
      free_from_clear = holds.free_from_clear;
      free_to_size = omega (arith, length-set placed.runs first run, holds.free_to_size);
      free_to_clear = holds.free_to_clear;
      used_from_size = omega (arith, length-set used_from first n, length-set placed.runs first run, holds.used_from_size);
      used_from_clear = IsClear-set rows used_from at run.first n wide holds.used_from_clear;
      once = λ p. omega (arith, once_more placed.free placed.used first holds.once not_free not_used p, sum_by_push (λ other. cond {A = ℕ} (eqb other p) 1 0) placed.used first);
      free_keys = keys_same rows placed.runs placed.free first run not_free holds.free_keys;
      used_keys = key_added rows placed.runs placed.used first run low not_used (at, stands, sized, fits, refl) holds.used_keys;
      begins = subst (MarksTell rows free_from begins_at) (sym free_now) holds.begins;
      stops = subst (MarksTell rows free_to stops_at) (sym free_now) holds.stops;
      uses = subst (MarksTell rows (set used_from first n) begins_at) (sym used_now)
          (MarksTell-added rows used_from begins_at (used_of placed) run at run.first n places.apart holds.uses wide
          (omega (arith, places.within at run.first wide, holds.used_from_size, sizes)) (begins_only rows run at places.distinct stands) is_n);
    })))

-- what a mark at a place was
pub mark_is : (marks : List ℕ) (place mark : ℕ) → place < length marks → mark ≡ get_or marks place mark → mark ≡ get_or marks place 0
mark_is marks place mark low is = is ∙ get_or_default marks place mark 0 low

-- the pages of a row have places, so they are fewer than 2^32
pub row_small : (rows : List Row) (spare : List ℕ) (size at : ℕ) → ArePlaces rows spare size → at < length rows → width_at rows at < 2 ^ 32
row_small rows spare size at places within =
    omega (arith, places.small, places.full, rows_size rows, get_or-le-sum_by (λ (r : Row). length r.places) rows at no_row within)

pub all_false : (test : Run → Bool) (runs : List Run) → All (λ run. test run ≡ false) runs → pages_of (filter test runs) ≡ 0
all_false test runs none = ap {B = ℕ} pages_of (filter_none test runs none)

-- no run ends where a segment begins
pub none_ends_at_0 : (rows : List Row) (runs : List Run) (places : List ℕ) (id : ℕ) → All (λ p. HasKey rows (run_at runs p) p) places → pages_of (filter (ends_at id 0) (map (run_at runs) places)) ≡ 0
none_ends_at_0 rows runs places id keys =
    all_false (ends_at id 0) (map (run_at runs) places)
    (All-map (λ run. ends_at id 0 run ≡ false) (run_at runs) places (λ k d within.
    let run : Run = run_at runs (get_or places k d) in
    let (at, stands, sized, fits, is) = keys k d within in
    and_right (lies_in id run) _ (ne_eqb (run.first + run.pages) 0 (λ e. omega (arith, e, sized)))))

-- and none begins where one ends
pub none_begins_past : (rows : List Row) (runs : List Run) (places : List ℕ) (id at page : ℕ) → ((i : ℕ) → count_by (is_row i) rows ≤ 1) → RowStands rows id at
    → All (λ p. HasKey rows (run_at runs p) p) places → width_at rows at ≤ page → pages_of (filter (begins_at id page) (map (run_at runs) places)) ≡ 0
none_begins_past rows runs places id at page distinct stands keys past =
    all_false (begins_at id page) (map (run_at runs) places)
    (All-map (λ run. begins_at id page run ≡ false) (run_at runs) places (λ k d within. no_begin (run_at runs (get_or places k d)) (get_or places k d) (keys k d within)))
  where
    no_begin : (run : Run) (place : ℕ) → HasKey rows run place → begins_at id page run ≡ false
    no_begin run place key =
        elim (cases_Bool (begins_at id page run)) [
          | inl passes ↦
              let parts = and_parts (eqb run.segment id) (eqb run.first page) passes in
              let segment : run.segment ≡ id = eqb-true run.segment id parts.0 in
              let mine = key_place rows run place at distinct key (renumbered rows id run.segment at stands (sym segment)) in
              absurd (omega (arith, past, mine.0, mine.1, eqb-true run.first page parts.1))
          | inr fails ↦ fails
        ]

-- what is seen of rows
pub any_row : (id : ℕ) (rows : List Row) → has_segment (shown_rows rows) id ≡ list_any (is_row id) rows
any_row id [] = refl
any_row id (row ∷ rows) = go (eqb row.id id) (has_pages row) refl (any_row id rows)
  where
    go : (a b : Bool) → eqb row.id id ≡ a → has_segment (shown_rows rows) id ≡ list_any (is_row id) rows
        → has_segment (map shown_row (cond b (row ∷ filter has_pages rows) (filter has_pages rows))) id ≡ (a && b || list_any (is_row id) rows)
    go true true is rest = rw is refl
    go false true is rest = rw is rest
    go true false is rest = rest
    go false false is rest = rest

pub all_sized : (rows : List Row) (runs : List Run) (places : List ℕ) → All (λ p. HasKey rows (run_at runs p) p) places → All (λ run. 1 ≤ run.pages) (map (run_at runs) places)
all_sized rows runs places keys = All-map (λ (run : Run). 1 ≤ run.pages) (run_at runs) places (λ k d within. (keys k d within).2)

-- single runs by their marks

count_by-map : {X Y : Type 0} (test : Y → Bool) (f : X → Y) (xs : List X) → count_by test (map f xs) ≡ count_by (λ x. test (f x)) xs
count_by-map test f [] = refl
count_by-map test f (x ∷ xs) =
    sum_by-cons (λ y. cond {A = ℕ} (test y) 1 0) (f x) (map f xs)
    ∙ (ap {B = ℕ} (λ n. cond (test (f x)) 1 0 + n) (count_by-map test f xs) ∙ sym (sum_by-cons (λ y. cond {A = ℕ} (test (f y)) 1 0) x xs))

-- at most one run begins at a page
pub one_begins : (rows : List Row) (runs : List Run) (places : List ℕ) (id at page : ℕ) → ((i : ℕ) → count_by (is_row i) rows ≤ 1) → RowStands rows id at
    → All (λ p. HasKey rows (run_at runs p) p) places → count_by (λ other. eqb other (place_at rows at page)) places ≤ 1 → count_by (begins_at id page) (map (run_at runs) places) ≤ 1
one_begins rows runs places id at page distinct stands keys few =
    omega (
      arith,
      few,
      count_by-map (begins_at id page) (run_at runs) places,
      count_by-le-count_by (λ p. HasKey rows (run_at runs p) p) (λ p. begins_at id page (run_at runs p)) (λ other. eqb other (place_at rows at page)) places keys (λ p key begins.
          let run : Run = run_at runs p in
          let parts = and_parts (eqb run.segment id) (eqb run.first page) begins in
          let segment : run.segment ≡ id = eqb-true run.segment id parts.0 in
          let mine = key_place rows run p at distinct key (renumbered rows id run.segment at stands (sym segment)) in
          eq-eqb p (place_at rows at page) (sym mine.2 ∙ ap (place_at rows at) (eqb-true run.first page parts.1))),
    )

-- a run that stands in the list has all pages that are marked where it begins
pub marked_of_run : (rows : List Row) (runs : List Run) (places : List ℕ) (run : Run) (at : ℕ) → ((i : ℕ) → count_by (is_row i) rows ≤ 1) → RowStands rows run.segment at
    → All (λ p. HasKey rows (run_at runs p) p) places → count_by (λ other. eqb other (place_at rows at run.first)) places ≤ 1 → Contains (map (run_at runs) places) run
    → pages_of (filter (begins_at run.segment run.first) (map (run_at runs) places)) ≡ run.pages
marked_of_run rows runs places run at distinct stands keys few there =
    elim (filter_at_most_one (begins_at run.segment run.first) (map (run_at runs) places) (one_begins rows runs places run.segment at run.first distinct stands keys few)) [
      | inl none ↦
          absurd (omega (
            arith,
            counted (begins_at run.segment run.first) (map (run_at runs) places) run there (and_from _ _ (eq-eqb run.segment run.segment refl) (eq-eqb run.first run.first refl)),
            length-filter (begins_at run.segment run.first) (map (run_at runs) places),
            ap {B = ℕ} length none,
          ))
      | inr (other, one, begins) ↦
          let found = found_run rows runs places run at distinct keys there stands in
          let taken = taken_out rows runs places run at found few in
          let rest = filter (begins_at run.segment run.first) (map (run_at runs) (without places (place_at rows at run.first))) in
          omega (
            arith,
            part_of (begins_at run.segment run.first) (map (run_at runs) places) _ run taken,
            ap {B = ℕ} (λ b. cond b run.pages 0) (and_from _ _ (eq-eqb run.segment run.segment refl) (eq-eqb run.first run.first refl)),
            no_more (begins_at run.segment run.first) (map (run_at runs) places) (map (run_at runs) (without places (place_at rows at run.first))) run taken
                (and_from _ _ (eq-eqb run.segment run.segment refl) (eq-eqb run.first run.first refl)) (one_begins rows runs places run.segment at run.first distinct stands keys few),
          )
    ]
  where
    no_more : (test : Run → Bool) (more fewer : List Run) (one : Run) → IsPermutation more (one ∷ fewer) → test one ≡ true → count_by test more ≤ 1 → pages_of (filter test fewer) ≡ 0
    no_more test more fewer one taken passes few =
        elim (filter_at_most_one test fewer (omega (arith, few, sum_by-with (λ x. cond {A = ℕ} (test x) 1 0) more fewer one taken))) [
          | inl none ↦ ap {B = ℕ} pages_of none
          | inr (x, two, also) ↦
              absurd (omega (
                arith,
                few,
                sum_by-with (λ x. cond {A = ℕ} (test x) 1 0) more fewer one taken,
                ap {B = ℕ} (λ b. cond b 1 0) passes,
                length-filter test fewer,
                ap {B = ℕ} length two,
              ))
        ]

-- and a mark tells of a run
pub run_of_mark : (rows : List Row) (runs : List Run) (places : List ℕ) (run : Run) (at : ℕ) → ((i : ℕ) → count_by (is_row i) rows ≤ 1) → RowStands rows run.segment at
    → All (λ p. HasKey rows (run_at runs p) p) places → count_by (λ other. eqb other (place_at rows at run.first)) places ≤ 1 → 1 ≤ run.pages
    → pages_of (filter (begins_at run.segment run.first) (map (run_at runs) places)) ≡ run.pages → Contains (map (run_at runs) places) run
run_of_mark rows runs places run at distinct stands keys few sized marked =
    elim (filter_at_most_one (begins_at run.segment run.first) (map (run_at runs) places) (one_begins rows runs places run.segment at run.first distinct stands keys few)) [
      | inl none ↦ absurd (omega (arith, sized, marked, ap {B = ℕ} pages_of none))
      | inr (other, one, begins) ↦
          let parts = and_parts (eqb other.segment run.segment) (eqb other.first run.first) begins in
          let pages : other.pages ≡ run.pages = omega (arith, marked, ap {B = ℕ} pages_of one) in
          let at_all : ℕ → ℕ → ℕ → Run = λ s f n. record { segment = s; first = f; pages = n } in
          let same : other ≡ run =
          ap (λ s. at_all s other.first other.pages) (eqb-true other.segment run.segment parts.0)
          ∙ (ap (λ f. at_all run.segment f other.pages) (eqb-true other.first run.first parts.1) ∙ ap (at_all run.segment run.first) pages) in
          filtered_there (begins_at run.segment run.first) (map (run_at runs) places) run
          (subst (λ xs. Contains xs run) (sym one) (zero, omega arith, same))
    ]
