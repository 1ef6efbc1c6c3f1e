-- What holds of a client at every moment.
use Rattle.std.specs.Prelude.{◌≡◌, ◌≢◌, ◌==◌, ℕ, ◌+◌, ◌^◌, ◌<◌, ◌≤◌, Bool, true, List, length, map, All, count_by}
use Rattle.units.specs.declared.TheConstants.{MOST_PAGES}
use Rattle.page_locks.specs.Locks.{is_page_locked}
use Rattle.segment.specs.declared.owner.Phase.TheVariants.{Gone}
use Rattle.span_heap.specs.declared.run.Run.{Run}
use Rattle.span_heap.specs.Run.{has_page}
use Rattle.span_heap.specs.Heap.{IsPartition, size_of}
use Rattle.client.specs.Lease.{Lease, IsLease}
use Rattle.client.specs.Places.{Rises}
use Rattle.client.specs.Seen.{Seen, known, segment_of}

-- each locked page of the segment lies in a used span
abbrev pub LockedAreUsed : List Run → Lease → Type 0
LockedAreUsed used lease = (page : ℕ) → is_page_locked lease.locks page ≡ true → 1 ≤ count_by (has_page lease.side.id page) used

-- The heap has the client's segments, each page once. A page is locked only in a used span. A segment of the client is not known
-- to be gone, and no number stands twice.
pub record IsSoundSeen (seen : Seen) : Type 0 where
  pub numbered : 1 ≤ seen.number
  pub sized : (1 ≤ seen.standard) × (seen.standard ≤ MOST_PAGES)
  pub segments : seen.heap.segments ≡ map segment_of seen.leases
  pub partition : IsPartition seen.heap
  pub leases : All IsLease seen.leases
  pub locked : All (LockedAreUsed seen.heap.used) seen.leases
  pub live : All (λ (lease : Lease). lease.side.phase ≢ Gone) seen.leases
  pub once : (id : ℕ) → count_by (λ n. n == id) (known seen.leases seen.gone) ≤ 1
  pub told : seen.told ≤ length seen.gone

-- what a client keeps beside: the pages of its segments, room for the sides that may be found gone, or be kept, later, and whether the
-- numbers of its segments rise
pub record IsSoundClient (seen : Seen) (pages room : ℕ) (rising : Bool) : Type 0 where
  pub sound : IsSoundSeen seen
  pub counted : pages ≡ size_of seen.heap.segments
  pub small : pages < 2 ^ 32
  pub roomy : length seen.leases + seen.taken ≤ room
  pub full : room < 2 ^ 64
  pub rises : rising ≡ true → Rises seen.leases
