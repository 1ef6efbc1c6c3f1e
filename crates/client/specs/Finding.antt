-- A search for pages, the coming of a segment, and a look at all segments.
use Rattle.std.specs.Prelude.{◌≡◌, ℕ, ◌-◌, ◌≤◌, nat_lt, Bool, true, List, [], ◌∷◌, ◌++◌, Option, Some, None, MatchBool, MatchOption, length, sum_by}
use Rattle.segment.specs.Owned.{Owned}
use Rattle.segment.specs.declared.owner.Lock.TheVariants.{Held, Gone}
use Rattle.page_locks.specs.Locks.{page_count, is_page_locked}
use Rattle.span_heap.specs.declared.run.Run.{Run}
use Rattle.span_heap.specs.Runs.{front_of, rest_of, carved, dropped}
use Rattle.span_heap.specs.Heap.{size_of}
use Rattle.span_heap.specs.Pick.{pick}
use Rattle.span_heap.specs.Changes.{Uses, whole_of}
use Rattle.client.specs.Lease.{Lease, LooksAt}
use Rattle.client.specs.Seen.{Seen, segment_of}
use Rattle.client.specs.Pieces.{Part}
use Rattle.client.specs.Calls.{LocksRun, KeepsName}

-- how many pages more than those wanted a run may have: the standard size without them
abbrev pub slack_of : Seen → ℕ → ℕ
slack_of seen pages = seen.standard - pages

-- the first pages of the free run became a used span, and what is left of the run was appended to the free runs
pub record Carves (run : Run) (pages : ℕ) (old new : Seen) : Type 0 where
  pub uses : Uses old.heap new.heap (front_of run pages)
  pub free : new.heap.free ≡ carved old.heap.free run pages
  pub same : new ≡ record old { heap = new.heap }

-- a search carved the run that it picked; or it picked none, and nothing changed
abbrev pub CarvesPick : ℕ → Option Run → Seen → Seen → Type 0
CarvesPick pages span old new =
    MatchOption (pick old.heap.free pages (slack_of old pages))
    ((span ≡ None) × (new ≡ old))
    (λ run. (span ≡ Some (front_of run pages)) × Carves run pages old new)

-- the piece of the first pages of a run, locked
abbrev pub part_of : Seen → Run → ℕ → Part
part_of seen run pages = record { client = seen.number; run = front_of run pages; locked = true }

-- what a search answers where no further segment is found gone: the first pages of the run that is picked, locked, or none
abbrev pub Serves : Option Run → ℕ → Option Part → Seen → Seen → Type 0
Serves None pages found old new = (found ≡ None) × (new ≡ old)
Serves (Some run) pages found old new =
    (found ≡ Some (part_of old run pages)) × (between : Seen) × Carves run pages old between × LocksRun (front_of run pages) Held between new

-- A search for pages. The lock of the run that is picked finds its segment gone, so that it leaves, for each of these segments in
-- turn; then the run that is picked serves, or none is left.
abbrev pub Finds : ℕ → List ℕ → Option Part → Seen → Seen → Type 0
Finds pages [] found old new = Serves (pick old.heap.free pages (slack_of old pages)) pages found old new
Finds pages (id ∷ lost) found old new =
    (run : Run) × (carved between : Seen) × (pick old.heap.free pages (slack_of old pages) ≡ Some run) × (run.segment ≡ id)
    × Carves run pages old carved × LocksRun (front_of run pages) Gone carved between × Finds pages lost found between new

-- A segment came last, as it was held. Its first pages are locked, as a piece, and the rest, if there is any, is the latest free run.
pub record Adopts (side : Owned) (pages : ℕ) (part : Part) (old new : Seen) : Type 0 where
  pub lease : Lease
  pub leases : new.leases ≡ old.leases ++ lease ∷ []
  pub side_is : lease.side ≡ side
  pub size : page_count lease.locks ≡ side.pages
  pub locks : (page : ℕ) → is_page_locked lease.locks page ≡ nat_lt page pages
  pub part_is : part ≡ part_of old (whole_of side.id side.pages) pages
  pub segments : new.heap.segments ≡ old.heap.segments ++ segment_of lease ∷ []
  pub free : new.heap.free ≡ old.heap.free ++ rest_of (whole_of side.id side.pages) pages
  pub name : KeepsName old new
  pub gone : new.gone ≡ old.gone
  pub told : new.told ≡ old.told
  pub taken : new.taken ≡ old.taken

-- Each of these segments was looked at, in order. One that was found gone left with its side, and the others stayed.
abbrev pub Sweeps : List Lease → List Lease → List Owned → Type 0
Sweeps [] kept lost = (kept ≡ []) × (lost ≡ [])
Sweeps (lease ∷ leases) kept lost =
    (there : Bool) × (looked : Lease) × LooksAt there lease looked
    × MatchBool there
    ((later : List Lease) × (kept ≡ looked ∷ later) × Sweeps leases later lost)
    ((later : List Owned) × (lost ≡ looked.side ∷ later) × Sweeps leases kept later)

-- the runs after the segments of these sides were dropped
abbrev pub dropped_all : List Owned → List Run → List Run
dropped_all [] runs = runs
dropped_all (side ∷ sides) runs = dropped_all sides (dropped runs side.id)

-- the same runs, each as often, in some order: whatever is summed over both comes to the same
abbrev pub SameRuns : List Run → List Run → Type 0
SameRuns runs others = (weight : Run → ℕ) → sum_by weight runs ≡ sum_by weight others

-- Each segment was looked at, and those of these sides were found gone and left with their used spans and free runs; no page came.
pub record SweepsAll (lost : List Owned) (old new : Seen) : Type 0 where
  pub leases : Sweeps old.leases new.leases lost
  pub used : SameRuns new.heap.used (dropped_all lost old.heap.used)
  pub free : new.heap.free ≡ dropped_all lost old.heap.free
  pub gone : new.gone ≡ old.gone ++ lost
  pub told : new.told ≡ old.told
  pub taken : new.taken ≡ old.taken
  pub name : KeepsName old new
  pub size : size_of new.heap.segments ≤ size_of old.heap.segments

-- each segment was looked at, and so many were found gone and left
abbrev pub SweepsSome : ℕ → Seen → Seen → Type 0
SweepsSome count old new = (lost : List Owned) × (count ≡ length lost) × SweepsAll lost old new
