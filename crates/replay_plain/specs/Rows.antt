-- What is kept of the numbers, and their live known uses.
use Rattle.std.specs.Prelude.{◌≡◌, ℕ, if◌then◌else◌, List, Option, Some, None, slice_get}
use Rattle.replay_plain.specs.declared.segment.KnownSegment.{KnownSegment}

-- what is kept of the numbers, by number
pub record KnownRows : Type 0 where
  pub items : List KnownSegment

-- what is kept of the numbers, by number, and the pages of the live segments
pub record KnownView : Type 0 where
  pub items : List KnownSegment
  pub pages : ℕ

-- the known use that is kept of a segment that is live
abbrev pub live_use_of : Option KnownSegment → Option ℕ
live_use_of None = None
live_use_of (Some segment) = if segment.live then Some segment.known else None

-- the known use of this number, where it is live
abbrev pub live_use : List KnownSegment → ℕ → Option ℕ
live_use rows id = live_use_of (slice_get rows id)

-- this is a known use and the number of a live segment that has it
abbrev pub IsLiveUse : List KnownSegment → ℕ × ℕ → Type 0
IsLiveUse rows k = live_use rows k.1 ≡ Some k.0
