-- Runs that are each kept under a place: the free ones in lists by class, and all of them in an order.
use Rattle.std.specs.Prelude.{◌≡◌, ℕ, suc, ◌+◌, ◌<◌, ◌≤◌, ◌==◌, List, [], ◌∷◌, ◌++◌, Option, Some, None, MatchOption, reverse, All, IsTrue, IsFalse, slice_index_or, filter, if◌then◌else◌, count_by, length, map, ◌≢◌}
use Rattle.std.specs.List.{last_or}
use Rattle.free_lists.specs.Lists.{Classes, list_of, class_of_run}
use Rattle.span_heap.specs.declared.run.Run.{Run}
use Rattle.span_heap.specs.Pick.{fits, pick}

-- the run that is kept under a place
abbrev pub run_at : List Run → ℕ → Run
run_at runs place = slice_index_or runs place (record { segment = 0; first = 0; pages = 0 })

-- each list of a class from `low` to before `high`, and below 256, is empty
abbrev pub AreEmpty : Classes → ℕ → ℕ → Type 0
AreEmpty lists low high = (class : ℕ) → low ≤ class → class < high → class < 256 → list_of lists class ≡ []

-- the place is the latest of the least class below 256 that fits
abbrev pub IsShortest : Classes → ℕ → ℕ → ℕ → Type 0
IsShortest lists pages most place =
    (class : ℕ) × (pages ≤ class) × (class ≤ most) × (class < 256) × AreEmpty lists pages class × (last_or None (list_of lists class) ≡ Some place)

-- the place's run is the latest of class 256 that fits
abbrev pub IsLatestLong : Classes → List Run → ℕ → ℕ → ℕ → Type 0
IsLatestLong lists runs pages slack place =
    (older : List ℕ) × (newer : List ℕ) × (list_of lists 256 ≡ older ++ place ∷ newer) × IsTrue (fits pages slack (run_at runs place))
    × All (λ other. IsFalse (fits pages slack (run_at runs other))) newer

-- no place stands twice
abbrev pub IsDistinct : List ℕ → Type 0
IsDistinct places = (place : ℕ) → count_by (λ other. other == place) places ≤ 1

-- each list has the places of its class, in their order
abbrev pub IsByClass : Classes → List Run → List ℕ → Type 0
IsByClass lists runs order = (class : ℕ) → list_of lists class ≡ filter (λ place. class_of_run (run_at runs place).pages == class) order

-- how many places stand before this one in the list, and one more
abbrev pub rank : List ℕ → Option ℕ → ℕ
rank list None = 0
rank [] (Some place) = 0
rank (other ∷ list) (Some place) = if other == place then 1 else suc (rank list (Some place))

-- the places of the free runs, the oldest first, and of the used spans, and the run that is kept under each place
pub record Placed : Type 0 where
  pub free : List ℕ
  pub used : List ℕ
  pub runs : List Run

-- the free runs, the oldest first
abbrev pub free_of : Placed → List Run
free_of placed = map (run_at placed.runs) placed.free

-- the used spans
abbrev pub used_of : Placed → List Run
used_of placed = map (run_at placed.runs) placed.used

-- The order has the free runs by age as its class 1 and the used spans as its class 2. Each place stands once, a free one
-- in the list of its class too. Both sets of lists have at least as many places as runs are kept.
pub record IsPlaced (lists order : Classes) (runs : List Run) (listed ordered : ℕ) : Type 0 where
  pub lists_places : lists.places ≡ listed
  pub order_places : order.places ≡ ordered
  pub lists_reach : length runs ≤ listed
  pub order_reach : length runs ≤ ordered
  pub by_class : IsByClass lists runs (list_of order 1)
  pub two_lists : (class : ℕ) → class ≢ 1 → class ≢ 2 → list_of order class ≡ []
  pub free_within : All (λ place. place < length runs) (list_of order 1)
  pub used_within : All (λ place. place < length runs) (list_of order 2)
  pub once : (place : ℕ) → count_by (λ other. other == place) (list_of order 1) + count_by (λ other. other == place) (list_of order 2) ≤ 1

-- the run that a search takes
abbrev pub IsPickOf : Placed → ℕ → ℕ → Option Run → Type 0
IsPickOf placed n slack found = found ≡ pick (free_of placed) n slack

-- what the search of the classes below 256 finds
abbrev pub FindsShort : Classes → ℕ → ℕ → Option ℕ → Type 0
FindsShort lists pages most found = MatchOption found (AreEmpty lists pages (most + 1)) (IsShortest lists pages most)

-- what the search of class 256 finds
abbrev pub FindsLong : Classes → List Run → ℕ → ℕ → Option ℕ → Type 0
FindsLong lists runs pages slack found =
    MatchOption found (All (λ place. IsFalse (fits pages slack (run_at runs place))) (list_of lists 256)) (IsLatestLong lists runs pages slack)

-- what the search finds: the place of the run that is picked, in each order of the places that the lists tell of
abbrev pub FindsPick : Classes → List Run → ℕ → ℕ → Option ℕ → Type 0
FindsPick lists runs pages slack found =
    (order : List ℕ) → IsByClass lists runs order
    → MatchOption found (pick (map (run_at runs) order) pages slack ≡ None) (λ place. pick (map (run_at runs) order) pages slack ≡ Some (run_at runs place))

-- each place of the list is below the number of runs
abbrev pub AreWithin : List Run → List ℕ → Type 0
AreWithin runs places = All (λ place. place < length runs) places

-- the runs, the latest first
abbrev pub latest_first : List Run → List ℕ → List Run
latest_first runs places = reverse (map (run_at runs) places)
