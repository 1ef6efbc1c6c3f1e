-- The locks of a segment that comes: its front is locked.
use Rattle.std.specs.Prelude.{◌≡◌, ℕ, nat_lt, Bool, List}
use Rattle.page_locks.specs.Locks.{page_count, is_page_locked, locked_count}

-- the first pages of a segment are locked, and no other
pub record IsFrontLocked (whole pages : ℕ) (locks : List Bool) : Type 0 where
  pub size : page_count locks ≡ whole
  pub counted : locked_count locks ≡ pages
  pub each : (page : ℕ) → is_page_locked locks page ≡ nat_lt page pages
