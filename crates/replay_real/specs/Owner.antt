-- What is seen of the owner of a plain segment: its side and the locks of its pages together.
use Rattle.std.specs.Prelude.{◌≡◌, ◌≢◌, ℕ, ◌<◌, Bool, true, false, List, length, None}
use Rattle.machine.specs.KeptSegment.{KeptSegment}
use Rattle.segment.specs.Owned.{Owned}
use Rattle.segment.specs.declared.owner.Phase.{Phase}
use Rattle.segment.specs.declared.owner.Phase.TheVariants.{Held, Idle, Gone}
use Rattle.segment.specs.declared.owner.Lock.{Lock}
use Rattle.segment.specs.declared.owner.Lock.TheVariants as lock
use Rattle.page_locks.specs.Locks.{locked_count}

-- the bytes that its owner left in a segment: those in its hand while it holds
abbrev pub left_in : Phase → Owned → List ℕ
left_in Held side = side.bytes
left_in Idle side = side.left
left_in Gone side = side.left

-- the owner has found its segment purged
abbrev pub is_lost : Phase → Bool
is_lost Held = false
is_lost Idle = false
is_lost Gone = true

-- What an owner keeps of its segment: the locked pages are the held ones, and the last stamp is
-- its side's. It knows nothing of purge tries, and it has not given the segment back.
abbrev pub kept_by : Owned → List Bool → KeptSegment
kept_by side locks =
    record {
      held = locks;
      stamp = side.last;
      known = None;
      bytes = left_in side.phase side;
      gone = is_lost side.phase;
      ended = false;
    }

-- so many pages are locked in this phase: some exactly while the side holds
abbrev pub LocksIn : Phase → ℕ → Type 0
LocksIn Held count = 0 < count
LocksIn Idle count = count ≡ 0
LocksIn Gone count = count ≡ 0

-- the side holds exactly while some page is locked, and there is a lock for each of its pages
pub record IsOwner (side : Owned) (locks : List Bool) : Type 0 where
  pub holds : LocksIn side.phase (locked_count locks)
  pub sized : length locks ≡ side.pages

-- A side was made to hold. It holds the bytes left in it, and had not found its segment purged; or
-- it did not hold and is gone. Only its steps may have changed besides.
abbrev pub AfterHold : Lock → Owned → Owned → Type 0
AfterHold lock.Held old new =
    (is_lost old.phase ≡ false)
    × (new ≡ record old { phase = Held; bytes = left_in old.phase old; steps = new.steps })
AfterHold lock.Gone old new =
    (old.phase ≢ Held) × (new ≡ record old { phase = Gone; steps = new.steps })
