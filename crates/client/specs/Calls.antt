-- What the calls of a client change.
use Rattle.std.specs.Prelude.{◌≡◌, ◌⊎◌, ℕ, ◌+◌, ◌-◌, Bool, true, List, [], ◌∷◌, ◌++◌, length, slice_set, slice_get, Some, MatchBool}
use Rattle.std.specs.List.{remove}
use Rattle.segment.specs.Owned.{Owned}
use Rattle.segment.specs.declared.owner.Phase.TheVariants as phase
use Rattle.segment.specs.declared.owner.Lock.{Lock}
use Rattle.segment.specs.declared.owner.Lock.TheVariants.{Held, Gone}
use Rattle.span_heap.specs.declared.run.Run.{Run}
use Rattle.span_heap.specs.Heap.{Contents, has_segment}
use Rattle.span_heap.specs.Changes.{Drops, Frees}
use Rattle.client.specs.Lease.{Lease, LocksPages, UnlocksPages, LooksAt}
use Rattle.client.specs.Seen.{Seen}
use Rattle.client.specs.Pieces.{Part, IsLive, IsDead}
use Rattle.client.specs.Places.{IsFirstFree}
use Rattle.client.specs.declared.answers.Unlocked.{Unlocked}

-- no side was found gone, told, taken out or kept
pub record KeepsGone (old new : Seen) : Type 0 where
  pub gone : new.gone ≡ old.gone
  pub told : new.told ≡ old.told
  pub taken : new.taken ≡ old.taken

-- the client is the one that it was
pub record KeepsName (old new : Seen) : Type 0 where
  pub number : new.number ≡ old.number
  pub standard : new.standard ≡ old.standard

-- The segment at a place left: it is no more among the client's, and its used spans and free runs left the heap.
pub record Leaves (place id : ℕ) (old new : Seen) : Type 0 where
  pub leases : new.leases ≡ remove old.leases place
  pub fewer : length new.leases + 1 ≡ length old.leases
  pub heap : Drops old.heap new.heap id
  pub name : KeepsName old new

-- A segment left since its side was found gone: the side is the last of the gone ones, and not told yet.
pub record Loses (place : ℕ) (side : Owned) (old new : Seen) : Type 0 where
  pub leaves : Leaves place side.id old new
  pub is_gone : side.phase ≡ phase.Gone
  pub gone : new.gone ≡ old.gone ++ side ∷ []
  pub told : new.told ≡ old.told
  pub taken : new.taken ≡ old.taken

-- the segment at a place became this one, and no other changed
pub record Turns (place : ℕ) (turned : Lease) (old new : Seen) : Type 0 where
  pub leases : new.leases ≡ slice_set old.leases place turned
  pub heap : new.heap ≡ old.heap
  pub name : KeepsName old new
  pub gone : KeepsGone old new

-- what a lock of some pages leaves: they are locked, or their segment was found gone and left
abbrev pub AfterPagesLock : Lock → ℕ → Lease → Seen → Seen → Type 0
AfterPagesLock Held place turned old new = Turns place turned old new
AfterPagesLock Gone place turned old new = Loses place turned.side old new

-- Some free pages of a segment were locked, or the segment was found gone.
pub record LocksRun (run : Run) (told : Lock) (old new : Seen) : Type 0 where
  pub place : ℕ
  pub lease : Lease
  pub turned : Lease
  pub stood : slice_get old.leases place ≡ Some lease
  pub number : lease.side.id ≡ run.segment
  pub same : turned.side.id ≡ run.segment
  pub locks : LocksPages run.first run.pages told lease turned
  pub after : AfterPagesLock told place turned old new

-- A lock of a piece. Where its segment is known to be gone, the answer is Gone and nothing changed.
abbrev pub LocksPart : Part → Lock → Seen → Seen → Type 0
LocksPart part told old new = (IsLive old part × LocksRun part.run told old new) ⊎ (IsDead old part × (told ≡ Gone) × (new ≡ old))

-- some locked pages of a segment were unlocked at a moment
pub record UnlocksRun (run : Run) (now : ℕ) (told : Unlocked) (old new : Seen) : Type 0 where
  pub place : ℕ
  pub lease : Lease
  pub turned : Lease
  pub stood : slice_get old.leases place ≡ Some lease
  pub number : lease.side.id ≡ run.segment
  pub same : turned.side.id ≡ run.segment
  pub locks : UnlocksPages run.first run.pages now told lease turned
  pub turns : Turns place turned old new

-- a used span became free, and joined the free runs beside it
pub record FreesRun (run : Run) (old new : Seen) : Type 0 where
  pub heap : Frees old.heap new.heap run
  pub same : new ≡ record old { heap = new.heap }

-- a live piece was unlocked at a moment, where it was locked
abbrev pub Unlocks : Part → ℕ → Seen → Seen → Type 0
Unlocks part now old new = MatchBool part.locked ((told : Unlocked) × UnlocksRun part.run now told old new) (new ≡ old)

-- A live piece was freed: where it was locked it was unlocked at the moment first.
pub record FreesPart (part : Part) (now : ℕ) (old new : Seen) : Type 0 where
  pub between : Seen
  pub unlocks : Unlocks part now old between
  pub frees : FreesRun part.run between new

-- what a free of a piece answers: false exactly where its segment was known to be gone, and then nothing changed
abbrev pub AfterFree : Bool → Part → ℕ → Seen → Seen → Type 0
AfterFree told part now old new = MatchBool told (IsLive old part × FreesPart part now old new) (IsDead old part × (new ≡ old))

-- the segment at a place was taken out, with its side
pub record TakesOut (place : ℕ) (side : Owned) (old new : Seen) : Type 0 where
  pub lease : Lease
  pub stood : slice_get old.leases place ≡ Some lease
  pub side_is : side ≡ lease.side
  pub leaves : Leaves place side.id old new
  pub gone : new.gone ≡ old.gone
  pub told : new.told ≡ old.told
  pub taken : new.taken ≡ old.taken + 1

-- the oldest segment that is all free was taken out, with its side
abbrev pub TakesFirstFree : Owned → Seen → Seen → Type 0
TakesFirstFree side old new = (place : ℕ) × (IsFirstFree place old) × TakesOut place side old new

-- the segment that came last was taken out, with its side
abbrev pub TakesLast : Owned → Seen → Seen → Type 0
TakesLast side old new = TakesOut (length old.leases - 1) side old new

-- the heap has the segment at a place
abbrev pub HasSegment : ℕ → List Lease → Contents → Type 0
HasSegment place leases heap = (lease : Lease) → slice_get leases place ≡ Some lease → has_segment heap.segments lease.side.id ≡ true

-- The segment at a place was looked at. It turned, where it is there; else it was found gone and left.
pub record LooksInto (place : ℕ) (there : Bool) (old new : Seen) : Type 0 where
  pub lease : Lease
  pub looked : Lease
  pub stood : slice_get old.leases place ≡ Some lease
  pub same : looked.side.id ≡ lease.side.id
  pub looks : LooksAt there lease looked
  pub after : MatchBool there (Turns place looked old new) (Loses place looked.side old new)
