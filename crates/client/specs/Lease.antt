-- A segment that a client has: its owner's side with the locks of its pages, and what a lock, an unlock and a look do to both.
use Rattle.std.specs.Prelude.{◌≡◌, ◌≢◌, ℕ, ◌*◌, ◌<◌, nat_lt, Bool, List, take, drop, MatchBool, if◌then◌else◌}
use Rattle.units.specs.declared.TheConstants.{PAGE}
use Rattle.page_locks.specs.Locks.{page_count, locked_count, LocksRange, UnlocksRange}
use Rattle.segment.specs.Owned.{Owned, AfterLock, AfterLook, after_unlock}
use Rattle.segment.specs.Lending.{with_written}
use Rattle.segment.specs.declared.owner.Phase.TheVariants as phase
use Rattle.segment.specs.declared.owner.Lock.{Lock}
use Rattle.segment.specs.declared.owner.Lock.TheVariants.{Held, Gone}
use Rattle.client.specs.declared.answers.Unlocked.{Unlocked}
use Rattle.client.specs.declared.answers.Unlocked.TheVariants as answer

-- the side of its owner, and for each of its pages whether it is locked
pub record Lease : Type 0 where
  pub side : Owned
  pub locks : List Bool

-- how many of its pages are locked
abbrev pub locked_pages : Lease → ℕ
locked_pages lease = locked_count lease.locks

-- some page of it is locked
abbrev pub is_in_use : Lease → Bool
is_in_use lease = nat_lt 0 (locked_pages lease)

-- the segment has a lock for each page, and its side is held exactly while some page is locked
pub record IsLease (lease : Lease) : Type 0 where
  pub sized : page_count lease.locks ≡ lease.side.pages
  pub held : 0 < locked_pages lease → lease.side.phase ≡ phase.Held
  pub free : locked_pages lease ≡ 0 → lease.side.phase ≢ phase.Held

-- the locks after a lock of a range: Gone changes none
abbrev pub LocksAfter : Lock → ℕ → ℕ → List Bool → List Bool → Type 0
LocksAfter Held first count old new = LocksRange old new first count
LocksAfter Gone first count old new = new ≡ old

-- A range of free pages was locked, or the segment was found gone. Where some page was locked already, the side made no step and
-- the answer is Held; else the side was locked, and its answer is the answer.
pub record LocksPages (first count : ℕ) (told : Lock) (old new : Lease) : Type 0 where
  pub side : MatchBool (is_in_use old) ((told ≡ Held) × (new.side ≡ old.side)) (AfterLock old.side.phase told old.side new.side)
  pub locks : LocksAfter told first count old.locks new.locks

-- What an unlock answers. Where no page stays locked the side was unlocked at the moment, and the answer has its new stamp. Else
-- the side made no step, and the answer is how many pages stay locked.
abbrev pub TellsUnlock : ℕ → Lease → Lease → Unlocked → Type 0
TellsUnlock now old new (answer.Idle at) = (locked_pages new ≡ 0) × (new.side ≡ after_unlock now old.side) × (at ≡ new.side.last)
TellsUnlock now old new (answer.Held pages) = (0 < pages) × (locked_pages new ≡ pages) × (new.side ≡ old.side)

-- a range of locked pages was unlocked at a moment
pub record UnlocksPages (first count now : ℕ) (told : Unlocked) (old new : Lease) : Type 0 where
  pub side : TellsUnlock now old new told
  pub locks : UnlocksRange old.locks new.locks first count

-- the segment was looked at: a side that is held, or known to be gone, made no step
pub record LooksAt (there : Bool) (old new : Lease) : Type 0 where
  pub side : AfterLook old.side.phase there old.side new.side
  pub locks : new.locks ≡ old.locks

-- the bytes of some pages among others
abbrev pub pages_at : ℕ → ℕ → List ℕ → List ℕ
pages_at first count bytes = take (PAGE * count) (drop (PAGE * first) bytes)

-- the segment with bytes written over those in its hand, from a page on
abbrev pub with_bytes : ℕ → List ℕ → Lease → Lease
with_bytes first w lease = record lease { side = with_written lease.side (PAGE * first) w }

-- what the segment has in its pages: the bytes in its hand while some page is locked, and else those left at the last unlock
abbrev pub content_of : Lease → List ℕ
content_of lease = if is_in_use lease then lease.side.bytes else lease.side.left
