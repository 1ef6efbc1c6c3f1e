-- The pieces of a client.
use Rattle.std.specs.Prelude.{◌≡◌, ◌≢◌, ◌⊎◌, ℕ, ◌+◌, ◌≤◌, Bool, true, false, ◌&&◌, List, [], ◌∷◌, map, length, All, Contains, ◌*◌, if◌then◌else◌}
use Rattle.segment.specs.Owned.{Owned}
use Rattle.page_locks.specs.Locks.{IsRange}
use Rattle.segment.specs.declared.owner.Lock.{Lock}
use Rattle.segment.specs.declared.owner.Lock.TheVariants.{Held, Gone}
use Rattle.span_heap.specs.declared.run.Run.{Run}
use Rattle.span_heap.specs.Run.{has_page}
use Rattle.units.specs.declared.TheConstants.{PAGE}
use Rattle.client.specs.Lease.{Lease, content_of, pages_at, with_bytes}
use Rattle.client.specs.Seen.{Seen, is_lease, is_gone}
use Rattle.client.specs.Places.{StandsAt}

-- what is seen of a piece: the number of its client, its pages, and whether it is locked
pub record Part : Type 0 where
  pub client : ℕ
  pub run : Run
  pub locked : Bool

-- the run is a used span in a segment of the client, and its pages are all locked, or all free
pub record IsUsed (seen : Seen) (run : Run) (locked : Bool) : Type 0 where
  pub used : Contains seen.heap.used run
  pub stands : StandsAt seen.leases run.segment
  pub pages : IsRange locked stands.lease.locks run.first run.pages

-- the piece is a used span of one of the client's segments, and its pages are all locked, or all free, as it says
abbrev pub IsLive : Seen → Part → Type 0
IsLive seen part = IsUsed seen part.run part.locked

-- the piece is not locked, and its segment is known to be gone
pub record IsDead (seen : Seen) (part : Part) : Type 0 where
  pub gone : is_gone seen part.run.segment ≡ true
  pub free : part.locked ≡ false

-- the client owns the piece, which is live or dead
pub record Owns (seen : Seen) (part : Part) : Type 0 where
  pub mine : part.client ≡ seen.number
  pub there : IsLive seen part ⊎ IsDead seen part

-- no page is in both
abbrev pub AreApart : Run → Run → Type 0
AreApart one other = (id page : ℕ) → (has_page id page one && has_page id page other) ≡ false

-- what the segment of a number has in its pages
abbrev pub content_at : List Lease → ℕ → List ℕ
content_at [] id = []
content_at (lease ∷ leases) id = if is_lease id lease then content_of lease else content_at leases id

-- what a piece has in its pages: while it is locked the bytes that it shows, and else those that it will show if it is locked again
abbrev pub bytes_of : Seen → Run → List ℕ
bytes_of seen run = pages_at run.first run.pages (content_at seen.leases run.segment)

-- where its segment is not known to be gone, the run has the bytes that it had
abbrev pub SameBytes : Run → Seen → Seen → Type 0
SameBytes run old new = is_gone new run.segment ≡ false → bytes_of new run ≡ bytes_of old run

-- A piece is owned as before. Where its segment was known to be gone it is, and where it is not the piece has the bytes that it had.
pub record Stays (old new : Seen) (part : Part) : Type 0 where
  pub owned : Owns new part
  pub gone : is_gone old part.run.segment ≡ true → is_gone new part.run.segment ≡ true
  pub bytes : SameBytes part.run old new

-- each piece stays
abbrev pub AllStay : Seen → Seen → Type 0
AllStay old new = (part : Part) → Owns old part → Stays old new part

-- each piece of other pages stays
abbrev pub OthersStay : Run → Seen → Seen → Type 0
OthersStay run old new = (part : Part) → Owns old part → part.run ≢ run → Stays old new part

-- the run lies within the segment of its number, one of the client's or one that is known to be gone
pub record FitsIn (seen : Seen) (run : Run) : Type 0 where
  pub leases : All (λ (lease : Lease). lease.side.id ≡ run.segment → run.first + run.pages ≤ lease.side.pages) seen.leases
  pub gone : All (λ (side : Owned). side.id ≡ run.segment → run.first + run.pages ≤ side.pages) seen.gone

-- a new piece: it is the client's, live and locked, has this many pages, which lie within its segment, and shares none with a piece that was
-- owned before
pub record IsNew (pages : ℕ) (old new : Seen) (part : Part) : Type 0 where
  pub owned : Owns new part
  pub locked : part.locked ≡ true
  pub sized : part.run.pages ≡ pages
  pub fits : FitsIn new part.run
  pub apart : (other : Part) → Owns old other → AreApart part.run other.run

-- each piece of another segment stays
abbrev pub StayElsewhere : ℕ → Seen → Seen → Type 0
StayElsewhere id old new = (part : Part) → Owns old part → part.run.segment ≢ id → Stays old new part

-- a used span whose pages are free, and lie within its segment, and which shares no page with a piece that was owned before
pub record IsFresh (run : Run) (old new : Seen) : Type 0 where
  pub used : IsUsed new run false
  pub fits : FitsIn new run
  pub apart : (other : Part) → Owns old other → AreApart run other.run

-- the piece after a lock with this answer
abbrev pub part_after_lock : Lock → Part → Part
part_after_lock Held part = record part { locked = true }
part_after_lock Gone part = part

-- A lock of the free pages of a used span. Held: they are locked, with the bytes that they had, and the segment was not known to be
-- gone. Gone: now it is. Each other piece stays.
pub record LocksSo (told : Lock) (run : Run) (old new : Seen) : Type 0 where
  pub held : told ≡ Held → IsUsed new run true × (bytes_of new run ≡ bytes_of old run) × (is_gone new run.segment ≡ false)
  pub gone : told ≡ Gone → is_gone new run.segment ≡ true
  pub stay : OthersStay run old new

-- an unlock of the locked pages of a used span: they are free, with the bytes that they had, and each other piece stays
pub record UnlocksSo (run : Run) (old new : Seen) : Type 0 where
  pub free : IsUsed new run false
  pub bytes : bytes_of new run ≡ bytes_of old run
  pub there : is_gone new run.segment ≡ false
  pub stay : OthersStay run old new

-- A lock of a piece, which stays owned. Held: it has the bytes that it had, and its segment is not known to be gone. Gone: now it is.
-- Each other piece stays.
pub record LocksPiece (told : Lock) (part : Part) (old new : Seen) : Type 0 where
  pub owned : Owns new (part_after_lock told part)
  pub held : told ≡ Held → (bytes_of new part.run ≡ bytes_of old part.run) × (is_gone new part.run.segment ≡ false)
  pub gone : told ≡ Gone → is_gone new part.run.segment ≡ true
  pub stay : OthersStay part.run old new

-- an unlock of a piece, which stays owned with the bytes that it had; each other piece stays
pub record UnlocksPiece (part : Part) (old new : Seen) : Type 0 where
  pub owned : Owns new (record part { locked = false })
  pub bytes : bytes_of new part.run ≡ bytes_of old part.run
  pub there : is_gone new part.run.segment ≡ false
  pub stay : OthersStay part.run old new

-- the client with bytes written over those that the run's segment has in its hand, from the run's first page on
abbrev pub written_run : Seen → Run → List ℕ → Seen
written_run seen run w =
    record seen { leases = map (λ (lease : Lease). if is_lease run.segment lease then with_bytes run.first w lease else lease) seen.leases }

-- A write to a locked piece, which stays owned and has what was written. Each other piece stays: it has the bytes that it had.
pub record WritesPiece (part : Part) (w : List ℕ) (old new : Seen) : Type 0 where
  pub owned : Owns new part
  pub bytes : bytes_of new part.run ≡ w
  pub stay : OthersStay part.run old new

-- so it is for each write of as many bytes as the piece has
abbrev pub WritesOnly : Part → Seen → Type 0
WritesOnly part seen = (w : List ℕ) → length w ≡ PAGE * part.run.pages → WritesPiece part w seen (written_run seen part.run w)
