-- The locked pages of a segment: how many pages it has, which of them are locked, and how lock and unlock change that.
use Rattle.std.specs.Prelude.{◌≡◌, ℕ, ◌+◌, ◌<◌, ◌≤◌, nat_lt, Bool, true, false, if◌then◌else◌, List, length, slice_index_or, count_by}
use Rattle.units.specs.Range.{is_within}

-- the page is locked; no page past the end is
abbrev pub is_page_locked : List Bool → ℕ → Bool
is_page_locked locks page = slice_index_or locks page false

-- how many pages the segment has
abbrev pub page_count : List Bool → ℕ
page_count locks = length locks

-- how many pages are locked
abbrev pub locked_count : List Bool → ℕ
locked_count locks = count_by (λ locked. locked) locks

-- the segment has this many pages, and each of them is locked
pub record IsAllLocked (locks : List Bool) (pages : ℕ) : Type 0 where
  pub size : page_count locks ≡ pages
  pub counted : locked_count locks ≡ pages
  pub each : (page : ℕ) → is_page_locked locks page ≡ nat_lt page pages

-- there is a page in the range, it lies in the segment, and each of its pages is locked, or none is
pub record IsRange (locked : Bool) (locks : List Bool) (first count : ℕ) : Type 0 where
  pub some : 0 < count
  pub inside : first + count ≤ page_count locks
  pub each : (page : ℕ) → first ≤ page → page < first + count → is_page_locked locks page ≡ locked

-- each page of the range is free
abbrev pub AreFree : List Bool → ℕ → ℕ → Type 0
AreFree = IsRange false

-- each page of the range is locked
abbrev pub AreLocked : List Bool → ℕ → ℕ → Type 0
AreLocked = IsRange true

-- the pages of the range became locked: each other page is as before, and the count rose by the range's pages
pub record LocksRange (old new : List Bool) (first count : ℕ) : Type 0 where
  pub size : page_count new ≡ page_count old
  pub counted : locked_count new ≡ locked_count old + count
  pub each : (page : ℕ) → is_page_locked new page ≡ (if is_within first count page then true else is_page_locked old page)

-- the pages of the range became free: each other page is as before, and the count fell by the range's pages
pub record UnlocksRange (old new : List Bool) (first count : ℕ) : Type 0 where
  pub size : page_count new ≡ page_count old
  pub counted : locked_count new + count ≡ locked_count old
  pub each : (page : ℕ) → is_page_locked new page ≡ (if is_within first count page then false else is_page_locked old page)
