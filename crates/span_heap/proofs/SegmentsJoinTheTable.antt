-- A segment joins the table: its pages get places of dropped segments first, and new ones behind.
use Rattle.std.proofs.Common.{◌≡◌, ◌≢◌, ℕ, zero, suc, ◌+◌, ◌-◌, ◌^◌, ◌<◌, ◌≤◌, Bool, true, false, cond, eqb, leb, List, [], ◌∷◌, ◌++◌, length, map, take, drop, get_or, refl, sym, ◌∙◌, ap, subst, arith, ◌⊎◌, inl, inr, ⊎_elim, append_assoc}
use Rattle.std.specs.List.{count_by, filter, list_any, range_with_len, All, Contains}
use Rattle.std.proofs.Math.ListN.{get_or-append}
use Rattle.std.proofs.Math.Seq.{get_or-append_seam}
use Rattle.std.proofs.lemmas.List.{map-append, length-append, length-drop, take-append-drop}
use Rattle.std.proofs.lemmas.List.FromFn.{length-range_with_len, get_or-range_with_len}
use Rattle.std.proofs.lemmas.List.Sums.{sum_by-cons, sum_by-append, sum_by_push}
use Rattle.std.proofs.lemmas.List.Elements.{filter-append, All-contains, Contains-get_or, Contains-append_left, Contains-append_right, Contains-append_cases}
use Rattle.std.proofs.lemmas.Bool.{and_parts, and_left, eqb-true, eq-eqb, ne_eqb, cases_eq, cases_lt, cases_Bool}
use Rattle.std.proofs.lemmas.Bool.Decides.{nat_tests}
use Rattle.span_heap.specs.declared.run.Run.{Run}
use Rattle.span_heap.specs.Run.{lies_in, begins_at, pages_of}
use Rattle.span_heap.specs.Heap.{size_of}
use Rattle.span_heap.specs.Changes.{NoneIn, segment_of}
use Rattle.span_heap.specs.Placed.{Placed, run_at, free_of, used_of, IsDistinct}
use Rattle.span_heap.specs.Table.{Row, no_row, has_pages, shown_row, shown_rows, AreDropped, is_row, row_at, width_at, place_at, AreApart, ArePlaces, HasKey, stops_at, MarksTell, CountsTell, IsClear, Widens, HoldsRuns, row_places}
use Rattle.span_heap.proofs.PartitionByCounts.{count_of_absent}
use Rattle.span_heap.proofs.UsedPagesAreCounted.{one_place}
use Rattle.span_heap.proofs.PlacedRunsKeepTheirPlaces.{none_counted, one_counted}
use Rattle.span_heap.proofs.TableTellsEachRun.{wide_passes, rows_size, wide_within, stands_at, all_false}

-- the rows with one more

pub old_row : (rows : List Row) (row : Row) (at : ℕ) → at < length rows → row_at (rows ++ row ∷ []) at ≡ row_at rows at
old_row rows row at low = get_or-append rows (row ∷ []) no_row at low

pub new_row : (rows : List Row) (row : Row) → row_at (rows ++ row ∷ []) (length rows) ≡ row
new_row rows row = get_or-append_seam rows row [] no_row

-- a page of the rows lies in an old row or in the new one
page_cases : (rows : List Row) (row : Row) (at page : ℕ) → page < width_at (rows ++ row ∷ []) at
    → ((at < length rows) × (row_at (rows ++ row ∷ []) at ≡ row_at rows at)) ⊎ ((at ≡ length rows) × (row_at (rows ++ row ∷ []) at ≡ row))
page_cases rows row at page wide =
    let within = wide_within (rows ++ row ∷ []) at page wide in
    elim (cases_lt at (length rows)) [
      | inl low ↦ inl (low, old_row rows row at low)
      | inr past ↦
          let here : at ≡ length rows = omega (arith, past, within, length-append rows (row ∷ [])) in
          inr (here, ap (row_at (rows ++ row ∷ [])) here ∙ new_row rows row)
    ]

-- ranges of places

range_counts : (a n p : ℕ) → count_by (λ other. eqb other p) (range_with_len a n) ≤ cond {A = ℕ} (leb a p) 1 0
range_counts a zero p = omega arith
range_counts a (suc n) p =
    let rest = range_counts (a + 1) n p in
    let one : cond {A = ℕ} (eqb a p) 1 0 + cond {A = ℕ} (leb (a + 1) p) 1 0 ≤ cond {A = ℕ} (leb a p) 1 0 = step a p in
    omega (arith, rest, one, sum_by-cons (λ other. cond {A = ℕ} (eqb other p) 1 0) a (range_with_len (a + 1) n))
  where
    step : (a p : ℕ) → cond {A = ℕ} (eqb a p) 1 0 + cond {A = ℕ} (leb (a + 1) p) 1 0 ≤ cond {A = ℕ} (leb a p) 1 0
    step a p = grind (arith, nat_tests)

in_range : (a n p : ℕ) → Contains (range_with_len a n) p → (a ≤ p) × (p < a + n)
in_range a n p (k, within, is) =
    let low : k < n = omega (arith, within, length-range_with_len a n) in
    let at : a + k ≡ p = sym (get_or-range_with_len a n k p low) ∙ is in
    (omega (arith, at), omega (arith, at, low))

-- a row of these places, of which none is used
abbrev pub row_of_places : ℕ → List ℕ → Row
row_of_places id places = record { id = id; places = places; used = 0 }

spare_there : (spare : List ℕ) (keep p : ℕ) → Contains (drop keep spare) p → Contains spare p
spare_there spare keep p there = subst (λ xs. Contains xs p) (take-append-drop keep spare) (Contains-append_right (take keep spare) (drop keep spare) p there)

kept_there : (spare : List ℕ) (keep p : ℕ) → Contains (take keep spare) p → Contains spare p
kept_there spare keep p there = subst (λ xs. Contains xs p) (take-append-drop keep spare) (Contains-append_left (take keep spare) (drop keep spare) p there)

spare_counts : (spare : List ℕ) (keep p : ℕ) → count_by (λ other. eqb other p) (take keep spare) + count_by (λ other. eqb other p) (drop keep spare) ≡ count_by (λ other. eqb other p) spare
spare_counts spare keep p =
    sym (sum_by-append (λ other. cond {A = ℕ} (eqb other p) 1 0) (take keep spare) (drop keep spare)) ∙ ap (count_by (λ other. eqb other p)) (take-append-drop keep spare)

spare_low : (spare : List ℕ) (size p : ℕ) → All (λ place. place < size) spare → Contains spare p → p < size
spare_low spare size p within there = All-contains (λ place. place < size) spare p within there

-- a place of the new row
row_place_cases : (spare : List ℕ) (keep size fresh p : ℕ) → Contains (row_places spare keep size fresh) p → Contains (drop keep spare) p ⊎ ((size ≤ p) × (p < size + fresh))
row_place_cases spare keep size fresh p there =
    ⊎_elim inl (λ new. inr (in_range size fresh p new)) (Contains-append_cases (drop keep spare) (range_with_len size fresh) p there)

row_places_once : (spare : List ℕ) (keep size fresh : ℕ) → All (λ place. place < size) spare → IsDistinct spare → IsDistinct (row_places spare keep size fresh)
row_places_once spare keep size fresh within once = λ p.
    let sum = sum_by-append (λ other. cond {A = ℕ} (eqb other p) 1 0) (drop keep spare) (range_with_len size fresh) in
    elim (cases_lt p size) [
      | inl low ↦ omega (arith, sum, once p, spare_counts spare keep p, range_counts size fresh p, past size p low)
      | inr high ↦
          omega (
            arith,
            sum,
            range_counts size fresh p,
            at_most (leb size p),
            none_counted (drop keep spare) p (λ there. absurd (omega (arith, high, spare_low spare size p within (spare_there spare keep p there)))),
          )
    ]
  where
    past : (size p : ℕ) → p < size → cond {A = ℕ} (leb size p) 1 0 ≡ 0
    past size p low = grind (arith, nat_tests)

    at_most : (b : Bool) → cond {A = ℕ} b 1 0 ≤ 1
    at_most true = omega arith
    at_most false = omega arith

-- no place of the new row is a place of an old one
new_place_apart : (rows : List Row) (spare : List ℕ) (size keep fresh at page p : ℕ) → ArePlaces rows spare size → page < width_at rows at → place_at rows at page ≡ p
    → Contains (row_places spare keep size fresh) p → ⊥
new_place_apart rows spare size keep fresh at page p places wide is there =
    ⊎_elim
    (λ again. places.spare_apart at page wide (subst (Contains spare) (sym is) (spare_there spare keep p again)))
    (λ new. omega (arith, new.0, is, places.within at page wide))
    (row_place_cases spare keep size fresh p there)

pub ArePlaces-grown : (rows : List Row) (spare : List ℕ) (size id keep fresh : ℕ) → ArePlaces rows spare size → list_any (is_row id) rows ≡ false → size + fresh < 2 ^ 32
    → ArePlaces (rows ++ row_of_places id (row_places spare keep size fresh) ∷ []) (take keep spare) (size + fresh)
ArePlaces-grown rows spare size id keep fresh places absent small =
    record {
      distinct = λ other. go other (cases_eq id other);
      within = λ at page wide.
          elim (page_cases rows row at page wide) [
            | inl old ↦ below (row_at (rows ++ row ∷ []) at) (row_at rows at) page old.1 (omega (arith, places.within at page (subst (λ (r : Row). page < length r.places) old.1 wide)))
            | inr new ↦ below (row_at (rows ++ row ∷ []) at) row page new.1 (row_low page (subst (λ (r : Row). page < length r.places) new.1 wide))
          ];
      apart = apart;
      spare_within = λ k d inside. omega (arith, spare_low spare size (get_or (take keep spare) k d) places.spare_within (kept_there spare keep (get_or (take keep spare) k d) (Contains-get_or (take keep spare) k d inside)));
      spare_apart = λ at page wide there.
          elim (page_cases rows row at page wide) [
            | inl old ↦
                let wide_old : page < width_at rows at = subst (λ (r : Row). page < length r.places) old.1 wide in
                places.spare_apart at page wide_old (kept_there spare keep (place_at rows at page) (subst (λ (r : Row). Contains (take keep spare) (get_or r.places page 0)) old.1 there))
            | inr new ↦
                kept_or_new (get_or row.places page 0) (subst (λ (r : Row). Contains (take keep spare) (get_or r.places page 0)) new.1 there)
                (Contains-get_or row.places page 0 (subst (λ (r : Row). page < length r.places) new.1 wide))
          ];
      spare_once = λ p. omega (arith, places.spare_once p, spare_counts spare keep p);
      small = small;
      full = full;
    }
  where
    row : Row
    row = row_of_places id (row_places spare keep size fresh)

    go : (other : ℕ) → (id ≡ other) ⊎ (id ≢ other) → count_by (is_row other) (rows ++ row ∷ []) ≤ 1
    go other (inl same) =
        let none : count_by (is_row other) rows ≡ 0 = subst (λ i. count_by (is_row i) rows ≡ 0) same (count_of_absent (is_row id) rows absent) in
        omega (arith, none, sum_by_push (λ r. cond {A = ℕ} (is_row other r) 1 0) rows row, at_most (is_row other row))
      where
        at_most : (b : Bool) → cond {A = ℕ} b 1 0 ≤ 1
        at_most true = omega arith
        at_most false = omega arith
    go other (inr apart_from) =
        omega (arith, places.distinct other, sum_by_push (λ r. cond {A = ℕ} (is_row other r) 1 0) rows row, ap {B = ℕ} (λ b. cond b 1 0) (and_left (eqb id other) (has_pages row) (ne_eqb id other apart_from)))

    below : (here is : Row) (page : ℕ) → here ≡ is → get_or is.places page 0 < size + fresh → get_or here.places page 0 < size + fresh
    below here is page same low = subst (λ (r : Row). get_or r.places page 0 < size + fresh) (sym same) low

    row_low : (page : ℕ) → page < length row.places → get_or row.places page 0 < size + fresh
    row_low page inside =
        ⊎_elim
        (λ again. omega (arith, spare_low spare size (get_or row.places page 0) places.spare_within (spare_there spare keep (get_or row.places page 0) again)))
        (λ new. new.1)
        (row_place_cases spare keep size fresh (get_or row.places page 0) (Contains-get_or row.places page 0 inside))

    kept_or_new : (p : ℕ) → Contains (take keep spare) p → Contains row.places p → ⊥
    kept_or_new p kept new =
        ⊎_elim
        (λ again. omega (arith, places.spare_once p, spare_counts spare keep p, one_counted (take keep spare) p kept, one_counted (drop keep spare) p again))
        (λ past. omega (arith, past.0, spare_low spare size p places.spare_within (kept_there spare keep p kept)))
        (row_place_cases spare keep size fresh p new)

    apart : AreApart (rows ++ row ∷ [])
    apart at page at' page' wide wide' same =
        elim (page_cases rows row at page wide) [
          | inl old ↦
              elim (page_cases rows row at' page' wide') [
                | inl old' ↦
                    places.apart at page at' page' (subst (λ (r : Row). page < length r.places) old.1 wide) (subst (λ (r : Row). page' < length r.places) old'.1 wide')
                    (ap (λ (r : Row). get_or r.places page 0) (sym old.1) ∙ (same ∙ ap (λ (r : Row). get_or r.places page' 0) old'.1))
                | inr new' ↦
                    absurd (new_place_apart rows spare size keep fresh at page (get_or row.places page' 0) places (subst (λ (r : Row). page < length r.places) old.1 wide)
                    (ap (λ (r : Row). get_or r.places page 0) (sym old.1) ∙ (same ∙ ap (λ (r : Row). get_or r.places page' 0) new'.1))
                    (Contains-get_or row.places page' 0 (subst (λ (r : Row). page' < length r.places) new'.1 wide')))
              ]
          | inr new ↦
              elim (page_cases rows row at' page' wide') [
                | inl old' ↦
                    absurd (new_place_apart rows spare size keep fresh at' page' (get_or row.places page 0) places (subst (λ (r : Row). page' < length r.places) old'.1 wide')
                    (ap (λ (r : Row). get_or r.places page' 0) (sym old'.1) ∙ (sym same ∙ ap (λ (r : Row). get_or r.places page 0) new.1))
                    (Contains-get_or row.places page 0 (subst (λ (r : Row). page < length r.places) new.1 wide)))
                | inr new' ↦
                    let value : get_or row.places page 0 ≡ get_or row.places page' 0 = ap (λ (r : Row). get_or r.places page 0) (sym new.1) ∙ (same ∙ ap (λ (r : Row). get_or r.places page' 0) new'.1) in (
                      new.0 ∙ sym new'.0,
                      one_place (λ other. eqb other (get_or row.places page' 0)) row.places page page' 0 (row_places_once spare keep size fresh places.spare_within places.spare_once (get_or row.places page' 0))
                          (subst (λ (r : Row). page < length r.places) new.1 wide) (subst (λ (r : Row). page' < length r.places) new'.1 wide')
                          (eq-eqb (get_or row.places page 0) (get_or row.places page' 0) value) (eq-eqb (get_or row.places page' 0) (get_or row.places page' 0) refl),
                    )
              ]
        ]

    full : size_of (shown_rows (rows ++ row ∷ [])) + length (take keep spare) ≡ size + fresh
    full =
        omega (
          arith,
          places.full,
          rows_size rows,
          rows_size (rows ++ row ∷ []),
          sum_by_push (λ (r : Row). length r.places) rows row,
          length-append (drop keep spare) (range_with_len size fresh),
          length-range_with_len size fresh,
          length-append (take keep spare) (drop keep spare),
          ap {B = ℕ} length (take-append-drop keep spare),
        )

pub range_more : (a n j : ℕ) → a + n ≡ j → range_with_len a (suc n) ≡ range_with_len a n ++ j ∷ []
range_more a zero j at = ap (λ i. i ∷ []) (omega (arith, at))
range_more a (suc n) j at = ap (λ xs. a ∷ xs) (range_more (a + 1) n j (omega (arith, at)))

pub row_places_more : (spare : List ℕ) (keep size n j : ℕ) → size + n ≡ j → row_places spare keep size n ++ j ∷ [] ≡ row_places spare keep size (n + 1)
row_places_more spare keep size n j at =
    let one : suc n ≡ n + 1 = omega arith in
    append_assoc (drop keep spare) (range_with_len size n) (j ∷ [])
    ∙ (ap (λ xs. drop keep spare ++ xs) (sym (range_more size n j at)) ∙ ap (row_places spare keep size) one)

-- what holds of the runs, over more places and one more row

key_grown : (rows : List Row) (row : Row) (run : Run) (place : ℕ) → HasKey rows run place → HasKey (rows ++ row ∷ []) run place
key_grown rows row run place (at, stands, sized, fits, is) =
    let same : row_at (rows ++ row ∷ []) at ≡ row_at rows at = old_row rows row at stands.within in (
      at,
      stands_at (rows ++ row ∷ []) run.segment at 0 (subst (λ (r : Row). 0 < length r.places) (sym same) (omega (arith, stands.live))) (ap (λ (r : Row). r.id) same ∙ stands.numbered),
      sized,
      subst (λ (r : Row). run.first + run.pages ≤ length r.places) (sym same) fits,
      ap (λ (r : Row). get_or r.places run.first 0) same ∙ is,
    )

IsClear-grown : (rows : List Row) (row : Row) (marks marks' : List ℕ) → ((place : ℕ) → get_or marks' place 0 ≡ get_or marks place 0) → IsClear rows marks → IsClear (rows ++ row ∷ []) marks'
IsClear-grown rows row marks marks' read clear = λ place away.
    read place ∙ clear place (λ at page wide e.
    let same : row_at (rows ++ row ∷ []) at ≡ row_at rows at = old_row rows row at (wide_within rows at page wide) in
    away at page (subst (λ (r : Row). page < length r.places) (sym same) wide) (ap (λ (r : Row). get_or r.places page 0) same ∙ e))

MarksTell-grown : (rows : List Row) (spare : List ℕ) (size id keep fresh : ℕ) (marks marks' : List ℕ) (test : ℕ → ℕ → Run → Bool) (runs : List Run) → ArePlaces rows spare size
    → ((place : ℕ) → get_or marks' place 0 ≡ get_or marks place 0) → IsClear rows marks → MarksTell rows marks test runs
    → ((page : ℕ) (run : Run) → test id page run ≡ true → run.segment ≡ id) → NoneIn id runs
    → MarksTell (rows ++ row_of_places id (row_places spare keep size fresh) ∷ []) marks' test runs
MarksTell-grown rows spare size id keep fresh marks marks' test runs places read clear tell lies none = λ at page wide.
    let row : Row = row_of_places id (row_places spare keep size fresh) in
    elim (page_cases rows row at page wide) [
      | inl old ↦
          let wide_old : page < width_at rows at = subst (λ (r : Row). page < length r.places) old.1 wide in
          read (place_at (rows ++ row ∷ []) at page)
          ∙ (ap (λ (r : Row). get_or marks (get_or r.places page 0) 0) old.1
          ∙ (tell at page wide_old ∙ ap (λ (r : Row). pages_of (filter (test r.id page) runs)) (sym old.1)))
      | inr new ↦
          let inside : page < length row.places = subst (λ (r : Row). page < length r.places) new.1 wide in
          read (place_at (rows ++ row ∷ []) at page)
          ∙ (ap (λ (r : Row). get_or marks (get_or r.places page 0) 0) new.1
          ∙ (clear (get_or row.places page 0) (λ at' page' wide' e. new_place_apart rows spare size keep fresh at' page' (get_or row.places page 0) places wide' e (Contains-get_or row.places page 0 inside))
          ∙ (sym (all_false (test id page) runs (λ k d within. fails page (get_or runs k d) (none k d within)))
          ∙ ap (λ (r : Row). pages_of (filter (test r.id page) runs)) (sym new.1))))
    ]
  where
    fails : (page : ℕ) (run : Run) → run.segment ≢ id → test id page run ≡ false
    fails page run other =
        elim (cases_Bool (test id page run)) [ inl passes ↦ absurd (other (lies page run passes)) | inr no_pass ↦ no_pass ]

begins_lies : (id page : ℕ) (run : Run) → begins_at id page run ≡ true → run.segment ≡ id
begins_lies id page run passes = eqb-true run.segment id (and_parts (eqb run.segment id) (eqb run.first page) passes).0

stops_lies : (id page : ℕ) (run : Run) → stops_at id page run ≡ true → run.segment ≡ id
stops_lies id page run passes = eqb-true run.segment id (and_parts (eqb run.segment id) (eqb (run.first + run.pages) (page + 1)) passes).0

pub CountsTell-grown : (rows : List Row) (row : Row) (used : List Run) → row.used ≡ 0 → CountsTell rows used → NoneIn row.id used → CountsTell (rows ++ row ∷ []) used
CountsTell-grown rows row used unused tell none = λ at live.
    elim (page_cases rows row at 0 (omega (arith, live))) [
      | inl old ↦ subst tells (sym old.1) (tell at (subst (λ (r : Row). 1 ≤ length r.places) old.1 live))
      | inr new ↦ subst tells (sym new.1) (unused ∙ sym (all_false (lies_in row.id) used (λ k d inside. ne_eqb (get_or used k d).segment row.id (none k d inside))))
    ]
  where
    tells : Row → Type 0
    tells r = r.used ≡ pages_of (filter (lies_in r.id) used)

pub AreDropped-grown : (rows : List Row) (row : Row) (dropped : ℕ) → 1 ≤ length row.places → AreDropped rows dropped → AreDropped (rows ++ row ∷ []) dropped
AreDropped-grown rows row dropped live counted =
    omega (arith, counted, sum_by_push (λ r. cond {A = ℕ} (has_pages r) 1 0) rows row, ap {B = ℕ} (λ b. cond b 1 0) (wide_passes row live), length-append rows (row ∷ []))

pub HoldsRuns-grown : (rows : List Row) (spare : List ℕ) (size id keep fresh : ℕ) (placed placed' : Placed) (free_from free_to used_from free_from' free_to' used_from' : List ℕ)
    → ArePlaces rows spare size → HoldsRuns rows placed free_from free_to used_from
    → placed'.free ≡ placed.free → placed'.used ≡ placed.used → ((place : ℕ) → run_at placed'.runs place ≡ run_at placed.runs place)
    → Widens free_from free_from' → Widens free_to free_to' → Widens used_from used_from'
    → length placed'.runs ≤ length free_from' → length placed'.runs ≤ length free_to' → length placed'.runs ≤ length used_from'
    → NoneIn id (free_of placed) → NoneIn id (used_of placed) → free_of placed' ≡ free_of placed → used_of placed' ≡ used_of placed
    → HoldsRuns (rows ++ row_of_places id (row_places spare keep size fresh) ∷ []) placed' free_from' free_to' used_from'
HoldsRuns-grown rows spare size id keep fresh placed placed' free_from free_to used_from free_from' free_to' used_from' places holds free used runs from to uses reach_from reach_to reach_used none_free none_used same_free same_used =
    let row : Row = row_of_places id (row_places spare keep size fresh) in
    record {
      free_from_size = reach_from;
      free_from_clear = IsClear-grown rows row free_from free_from' from.read holds.free_from_clear;
      free_to_size = reach_to;
      free_to_clear = IsClear-grown rows row free_to free_to' to.read holds.free_to_clear;
      used_from_size = reach_used;
      used_from_clear = IsClear-grown rows row used_from used_from' uses.read holds.used_from_clear;
      once = λ p. omega (arith, holds.once p, ap (count_by (λ other. eqb other p)) free, ap (count_by (λ other. eqb other p)) used);
      free_keys = subst (All (λ p. HasKey (rows ++ row ∷ []) (run_at placed'.runs p) p)) (sym free)
          (λ k d within. subst (λ r. HasKey (rows ++ row ∷ []) r (get_or placed.free k d)) (sym (runs (get_or placed.free k d))) (key_grown rows row _ _ (holds.free_keys k d within)));
      used_keys = subst (All (λ p. HasKey (rows ++ row ∷ []) (run_at placed'.runs p) p)) (sym used)
          (λ k d within. subst (λ r. HasKey (rows ++ row ∷ []) r (get_or placed.used k d)) (sym (runs (get_or placed.used k d))) (key_grown rows row _ _ (holds.used_keys k d within)));
      begins = subst (MarksTell (rows ++ row ∷ []) free_from' begins_at) (sym same_free)
          (MarksTell-grown rows spare size id keep fresh free_from free_from' begins_at (free_of placed) places from.read holds.free_from_clear holds.begins (begins_lies id) none_free);
      stops = subst (MarksTell (rows ++ row ∷ []) free_to' stops_at) (sym same_free)
          (MarksTell-grown rows spare size id keep fresh free_to free_to' stops_at (free_of placed) places to.read holds.free_to_clear holds.stops (stops_lies id) none_free);
      uses = subst (MarksTell (rows ++ row ∷ []) used_from' begins_at) (sym same_used)
          (MarksTell-grown rows spare size id keep fresh used_from used_from' begins_at (used_of placed) places uses.read holds.used_from_clear holds.uses (begins_lies id) none_used);
    }

-- runs that read as before
pub map_read : (runs runs' : List Run) (places : List ℕ) → ((place : ℕ) → run_at runs' place ≡ run_at runs place) → map (run_at runs') places ≡ map (run_at runs) places
map_read runs runs' [] read = refl
map_read runs runs' (place ∷ places) read = rw (read place, map_read runs runs' places read) refl

pub same_runs : (places places' : List ℕ) (runs runs' : List Run) → places' ≡ places → ((place : ℕ) → run_at runs' place ≡ run_at runs place) → map (run_at runs') places' ≡ map (run_at runs) places
same_runs places places' runs runs' same read = ap (map (run_at runs')) same ∙ map_read runs runs' places read

MarksTell-widened : (rows : List Row) (marks marks' : List ℕ) (test : ℕ → ℕ → Run → Bool) (runs : List Run) → ((place : ℕ) → get_or marks' place 0 ≡ get_or marks place 0) → MarksTell rows marks test runs → MarksTell rows marks' test runs
MarksTell-widened rows marks marks' test runs read tell = λ at page wide. read (place_at rows at page) ∙ tell at page wide

IsClear-widened : (rows : List Row) (marks marks' : List ℕ) → ((place : ℕ) → get_or marks' place 0 ≡ get_or marks place 0) → IsClear rows marks → IsClear rows marks'
IsClear-widened rows marks marks' read clear = λ place away. read place ∙ clear place away

-- more room for marks alone changes nothing
pub HoldsRuns-widened : (rows : List Row) (placed placed' : Placed) (free_from free_to used_from free_from' free_to' used_from' : List ℕ) → HoldsRuns rows placed free_from free_to used_from
    → placed'.free ≡ placed.free → placed'.used ≡ placed.used → ((place : ℕ) → run_at placed'.runs place ≡ run_at placed.runs place) → length placed'.runs ≡ length placed.runs
    → Widens free_from free_from' → Widens free_to free_to' → Widens used_from used_from' → HoldsRuns rows placed' free_from' free_to' used_from'
HoldsRuns-widened rows placed placed' free_from free_to used_from free_from' free_to' used_from' holds free used runs sizes from to uses =
    let same_free : free_of placed' ≡ free_of placed = same_runs placed.free placed'.free placed.runs placed'.runs free runs in
    let same_used : used_of placed' ≡ used_of placed = same_runs placed.used placed'.used placed.runs placed'.runs used runs in
    record {
      free_from_size = omega (arith, holds.free_from_size, from.reach, sizes);
      free_from_clear = IsClear-widened rows free_from free_from' from.read holds.free_from_clear;
      free_to_size = omega (arith, holds.free_to_size, to.reach, sizes);
      free_to_clear = IsClear-widened rows free_to free_to' to.read holds.free_to_clear;
      used_from_size = omega (arith, holds.used_from_size, uses.reach, sizes);
      used_from_clear = IsClear-widened rows used_from used_from' uses.read holds.used_from_clear;
      once = λ p. omega (arith, holds.once p, ap (count_by (λ other. eqb other p)) free, ap (count_by (λ other. eqb other p)) used);
      free_keys = subst (All (λ p. HasKey rows (run_at placed'.runs p) p)) (sym free)
          (λ k d within. subst (λ r. HasKey rows r (get_or placed.free k d)) (sym (runs (get_or placed.free k d))) (holds.free_keys k d within));
      used_keys = subst (All (λ p. HasKey rows (run_at placed'.runs p) p)) (sym used)
          (λ k d within. subst (λ r. HasKey rows r (get_or placed.used k d)) (sym (runs (get_or placed.used k d))) (holds.used_keys k d within));
      begins = subst (MarksTell rows free_from' begins_at) (sym same_free) (MarksTell-widened rows free_from free_from' begins_at (free_of placed) from.read holds.begins);
      stops = subst (MarksTell rows free_to' stops_at) (sym same_free) (MarksTell-widened rows free_to free_to' stops_at (free_of placed) to.read holds.stops);
      uses = subst (MarksTell rows used_from' begins_at) (sym same_used) (MarksTell-widened rows used_from used_from' begins_at (used_of placed) uses.read holds.uses);
    }

-- what is seen of the new row
pub shown_grown : (rows : List Row) (row : Row) (id pages : ℕ) → 1 ≤ pages → row.id ≡ id → length row.places ≡ pages → shown_rows (rows ++ row ∷ []) ≡ shown_rows rows ++ segment_of id pages ∷ []
shown_grown rows row id pages sized same_id same_pages =
    ap (map shown_row) (filter-append has_pages rows (row ∷ []))
    ∙ (map-append shown_row (filter has_pages rows) (filter has_pages (row ∷ []))
    ∙ (ap (λ (b : Bool). shown_rows rows ++ map shown_row (cond b (row ∷ []) [])) (wide_passes row (omega (arith, sized, same_pages)))
    ∙ ap (λ s. shown_rows rows ++ s ∷ []) (ap (λ i. segment_of i (length row.places)) same_id ∙ ap (segment_of id) same_pages)))

pub row_places_length : (spare : List ℕ) (keep size fresh : ℕ) → length (row_places spare keep size fresh) ≡ length spare - keep + fresh
row_places_length spare keep size fresh =
    omega (arith, length-append (drop keep spare) (range_with_len size fresh), length-range_with_len size fresh, length-drop keep spare)
