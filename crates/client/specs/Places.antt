-- Where a segment stands among those of a client.
use Rattle.std.specs.Prelude.{◌≡◌, ◌<◌, ℕ, Bool, false, not, List, length, map, Option, Some, MatchOption, slice_get, slice_index_or, filter}
use Rattle.std.specs.List.{list_any, AllPairs}
use Rattle.std.specs.List.Sorted.{IsPermutation}
use Rattle.segment.specs.Owned.{Owned}
use Rattle.span_heap.specs.declared.run.Run.{Run}
use Rattle.span_heap.specs.Run.{lies_in}
use Rattle.span_heap.specs.Changes.{NoneIn}
use Rattle.client.specs.Lease.{Lease}
use Rattle.client.specs.Seen.{Seen, has_lease, segment_of}

-- a segment of this number stands among those of the client
pub record StandsAt (leases : List Lease) (id : ℕ) : Type 0 where
  pub place : ℕ
  pub lease : Lease
  pub stands : slice_get leases place ≡ Some lease
  pub number : lease.side.id ≡ id

-- the segment of this number stands at the place
abbrev pub IsThere : ℕ → ℕ → List Lease → Type 0
IsThere place id leases = (lease : Lease) × (slice_get leases place ≡ Some lease) × (lease.side.id ≡ id)

-- the side is that of the segment at the place
abbrev pub IsSideAt : ℕ → List Lease → Owned → Type 0
IsSideAt place leases side = (lease : Lease) → slice_get leases place ≡ Some lease → side ≡ lease.side

-- the numbers of the segments rise
abbrev pub Rises : List Lease → Type 0
Rises leases = AllPairs (λ (one later : Lease). one.side.id < later.side.id) leases

-- each of their numbers is below this one
abbrev pub AreBelow : ℕ → List Lease → Type 0
AreBelow id leases = (k : ℕ) (other : Lease) → k < length leases → (slice_index_or leases k other).side.id < id

-- the place of the segment of this number, or none where no segment has it
abbrev pub IsPlaceOf : List Lease → ℕ → Option ℕ → Type 0
IsPlaceOf leases id found = MatchOption found (has_lease leases id ≡ false) (λ place. IsThere place id leases)

-- each segment before this place has a used span
abbrev pub AreUsedBefore : ℕ → Seen → Type 0
AreUsedBefore place seen = (earlier : ℕ) (lease : Lease) → earlier < place → slice_get seen.leases earlier ≡ Some lease → NoneIn lease.side.id seen.heap.used → ⊥

-- the segment at this place is the first that has no used span
pub record IsFirstFree (place : ℕ) (seen : Seen) : Type 0 where
  pub lease : Lease
  pub stands : slice_get seen.leases place ≡ Some lease
  pub free : NoneIn lease.side.id seen.heap.used
  pub first : AreUsedBefore place seen

-- each segment has a used span
abbrev pub NoneAllFree : Seen → Type 0
NoneAllFree seen = AreUsedBefore (length seen.leases) seen

-- the segment has one of these used spans
abbrev pub has_used : List Run → Lease → Bool
has_used used lease = list_any (lies_in lease.side.id) used

-- the segment has none of these used spans
abbrev pub is_all_free : List Run → Lease → Bool
is_all_free used lease = not (has_used used lease)

-- the segment of the free run has one of these used spans
abbrev pub is_with_used : List Run → Run → Bool
is_with_used used run = list_any (lies_in run.segment) used

-- Each segment that was all free left, and no other: those with a used span are left, in their order, with all used spans, and with
-- their free runs, in their order. The client is the one that it was.
pub record LeavesUsed (old new : Seen) : Type 0 where
  pub leases : new.leases ≡ filter (has_used old.heap.used) old.leases
  pub used : IsPermutation old.heap.used new.heap.used
  pub free : new.heap.free ≡ filter (is_with_used old.heap.used) old.heap.free
  pub segments : new.heap.segments ≡ map segment_of new.leases
  pub number : new.number ≡ old.number
  pub standard : new.standard ≡ old.standard
