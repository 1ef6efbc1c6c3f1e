-- The table of a heap's pages: each page has a place, and the place tells which run begins or ends there.
use Rattle.std.specs.Prelude.{◌≡◌, ◌≢◌, ℕ, ◌+◌, ◌^◌, ◌<◌, ◌≤◌, Bool, not, ◌&&◌, IsTrue, IsFalse, ◌==◌, nat_lt, List, [], ◌∷◌, ◌++◌, drop, length, slice_index_or, map, All, Contains, Option, MatchOption, filter, count_by}
use Rattle.std.specs.List.{list_any, range_with_len}
use Rattle.span_heap.specs.declared.run.Run.{Run}
use Rattle.span_heap.specs.Run.{lies_in, begins_at, ends_at, pages_of}
use Rattle.span_heap.specs.Segment.{Segment}
use Rattle.span_heap.specs.Heap.{Contents, LiesWithin, size_of}
use Rattle.span_heap.specs.Placed.{Placed, run_at, free_of, used_of, IsDistinct}

-- a segment in the table: its number, the place of each of its pages, and how many of them are used; one without a page is a segment that was dropped
pub record Row : Type 0 where
  pub id : ℕ
  pub places : List ℕ
  pub used : ℕ

-- what stands past the last row
abbrev pub no_row : Row
no_row = record { id = 0; places = []; used = 0 }

-- the row has a page
abbrev pub has_pages : Row → Bool
has_pages row = nat_lt 0 (length row.places)

-- what is seen of a row
abbrev pub shown_row : Row → Segment
shown_row row = record { id = row.id; pages = length row.places }

-- what is seen of the rows: those with a page, in their order
abbrev pub shown_rows : List Row → List Segment
shown_rows rows = map shown_row (filter has_pages rows)

-- so many rows have no page
abbrev pub AreDropped : List Row → ℕ → Type 0
AreDropped rows dropped = dropped + count_by has_pages rows ≡ length rows

-- the row has this number and a page
abbrev pub is_row : ℕ → Row → Bool
is_row id row = (row.id == id) && has_pages row

-- the row at an index
abbrev pub row_at : List Row → ℕ → Row
row_at rows at = slice_index_or rows at no_row

-- the number of pages of the row at an index
abbrev pub width_at : List Row → ℕ → ℕ
width_at rows at = length (row_at rows at).places

-- the place of a page of the row at an index
abbrev pub place_at : List Row → ℕ → ℕ → ℕ
place_at rows at page = slice_index_or (row_at rows at).places page 0

-- the row of this number stands at this index, and has a page
pub record RowStands (rows : List Row) (id at : ℕ) : Type 0 where
  pub within : at < length rows
  pub numbered : (row_at rows at).id ≡ id
  pub live : 1 ≤ width_at rows at

-- the place of the row of this number, or none where no row has it
abbrev pub IsRowOf : List Row → ℕ → Option ℕ → Type 0
IsRowOf rows id found = MatchOption found (IsFalse (list_any (is_row id) rows)) (RowStands rows id)

-- two pages with one place are one page
abbrev pub AreApart : List Row → Type 0
AreApart rows =
    (at page at' page' : ℕ) → page < width_at rows at → page' < width_at rows at' → place_at rows at page ≡ place_at rows at' page' → (at ≡ at') × (page ≡ page')

-- Each page has a place of its own below `size`, and so has each spare place; there are no more places than that, and fewer than 2^32.
pub record ArePlaces (rows : List Row) (spare : List ℕ) (size : ℕ) : Type 0 where
  pub distinct : (id : ℕ) → count_by (is_row id) rows ≤ 1
  pub within : (at page : ℕ) → page < width_at rows at → place_at rows at page < size
  pub apart : AreApart rows
  pub spare_within : All (λ place. place < size) spare
  pub spare_apart : (at page : ℕ) → page < width_at rows at → Contains spare (place_at rows at page) → ⊥
  pub spare_once : IsDistinct spare
  pub small : size < 2 ^ 32
  pub full : size_of (shown_rows rows) + length spare ≡ size

-- the run lies in the row of its segment, has a page, and is kept under the place of its first page
abbrev pub HasKey : List Row → Run → ℕ → Type 0
HasKey rows run place =
    (at : ℕ) × RowStands rows run.segment at × (1 ≤ run.pages) × (run.first + run.pages ≤ width_at rows at) × (place_at rows at run.first ≡ place)

-- the run's last page is this one
abbrev pub stops_at : ℕ → ℕ → Run → Bool
stops_at segment page run = ends_at segment (page + 1) run

-- at the place of each page, the mark is how many pages those runs have that pass the test for this page
abbrev pub MarksTell : List Row → List ℕ → (ℕ → ℕ → Run → Bool) → List Run → Type 0
MarksTell rows marks test runs =
    (at page : ℕ) → page < width_at rows at → slice_index_or marks (place_at rows at page) 0 ≡ pages_of (filter (test (row_at rows at).id page) runs)

-- the count of each row with a page is how many pages of its segment are used
abbrev pub CountsTell : List Row → List Run → Type 0
CountsTell rows used = (at : ℕ) → 1 ≤ width_at rows at → (row_at rows at).used ≡ pages_of (filter (lies_in (row_at rows at).id) used)

-- the mark of a place that no page has is 0
abbrev pub IsClear : List Row → List ℕ → Type 0
IsClear rows marks =
    (place : ℕ) → ((at page : ℕ) → page < width_at rows at → place_at rows at page ≢ place) → slice_index_or marks place 0 ≡ 0

-- the marks are as before, over at least as many places
pub record Widens (old new : List ℕ) : Type 0 where
  pub reach : length old ≤ length new
  pub read : (place : ℕ) → slice_index_or new place 0 ≡ slice_index_or old place 0

-- Each run is kept under the place of its first page, no place has two, and the marks tell of the runs. A place that no
-- page has is unmarked.
pub record HoldsRuns (rows : List Row) (placed : Placed) (free_from free_to used_from : List ℕ) : Type 0 where
  pub free_from_size : length placed.runs ≤ length free_from
  pub free_from_clear : IsClear rows free_from
  pub free_to_size : length placed.runs ≤ length free_to
  pub free_to_clear : IsClear rows free_to
  pub used_from_size : length placed.runs ≤ length used_from
  pub used_from_clear : IsClear rows used_from
  pub once : (place : ℕ) → count_by (λ other. other == place) placed.free + count_by (λ other. other == place) placed.used ≤ 1
  pub free_keys : All (λ place. HasKey rows (run_at placed.runs place) place) placed.free
  pub used_keys : All (λ place. HasKey rows (run_at placed.runs place) place) placed.used
  pub begins : MarksTell rows free_from begins_at (free_of placed)
  pub stops : MarksTell rows free_to stops_at (free_of placed)
  pub uses : MarksTell rows used_from begins_at (used_of placed)

-- the places of a new segment: the spare ones from `keep` on, and new ones from `size` on
abbrev pub row_places : List ℕ → ℕ → ℕ → ℕ → List ℕ
row_places spare keep size fresh = drop keep spare ++ range_with_len size fresh

-- one page of a segment
abbrev pub page_of : ℕ → ℕ → Run
page_of id page = record { segment = id; first = page; pages = 1 }

-- no run begins at this page of the segment
abbrev pub NoneBegins : ℕ → ℕ → List Run → Type 0
NoneBegins id page runs = All (λ other. IsFalse (begins_at id page other)) runs

-- the runs without the one that ends where the span begins
abbrev pub without_before : List Run → Run → List Run
without_before runs span = filter (λ run. not (ends_at span.segment span.first run)) runs

-- the runs without the one that begins where the span ends
abbrev pub without_behind : List Run → Run → List Run
without_behind runs span = filter (λ run. not (begins_at span.segment (span.first + span.pages) run)) runs

-- at most one of the runs ends where the span begins
abbrev pub OneBefore : List Run → Run → Type 0
OneBefore runs span = count_by (ends_at span.segment span.first) runs ≤ 1

-- at most one of the runs begins where the span ends
abbrev pub OneBehind : List Run → Run → Type 0
OneBehind runs span = count_by (begins_at span.segment (span.first + span.pages)) runs ≤ 1

-- each run has a page
abbrev pub AreSized : List Run → Type 0
AreSized runs = All (λ run. 1 ≤ run.pages) runs

-- the one run that begins at this page of the segment, or none where none does
abbrev pub IsRunAt : List Run → ℕ → ℕ → Option Run → Type 0
IsRunAt runs id page found =
    MatchOption found (NoneBegins id page runs)
    (λ run. Contains runs run × IsTrue (begins_at id page run) × (count_by (begins_at id page) runs ≤ 1))

-- no run of this segment begins before this page
abbrev pub BeginFrom : ℕ → ℕ → List Run → Type 0
BeginFrom id page runs = All (λ run. run.segment ≡ id → page ≤ run.first) runs

-- no run of this segment begins within it
abbrev pub IsEmptied : Contents → ℕ → Type 0
IsEmptied heap id =
    (pages : ℕ) × Contains heap.segments (record { id = id; pages = pages }) × BeginFrom id pages heap.free × BeginFrom id pages heap.used

-- the run lies within a segment, no run begins where it begins, and it does not make the free pages too many
pub record CanCome (heap : Contents) (run : Run) : Type 0 where
  pub lies : LiesWithin heap.segments run
  pub not_free : NoneBegins run.segment run.first heap.free
  pub not_used : NoneBegins run.segment run.first heap.used
  pub small : pages_of heap.free + run.pages < 2 ^ 32

-- a segment of n pages came last
abbrev pub Joins : List Segment → List Segment → ℕ → ℕ → Type 0
Joins old new id n = new ≡ old ++ record { id = id; pages = n } ∷ []
