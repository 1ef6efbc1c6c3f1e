-- What is seen of a client.
use Rattle.std.specs.Prelude.{◌≡◌, ℕ, ◌==◌, Bool, false, List, [], ◌++◌, map, Option}
use Rattle.std.specs.List.{list_any}
use Rattle.segment.specs.Owned.{Owned}
use Rattle.span_heap.specs.Heap.{Contents, contents}
use Rattle.span_heap.specs.Segment.{Segment}
use Rattle.client.specs.Gone.{GoneOnes, has_side, next_of}
use Rattle.client.specs.Lease.{Lease}

-- Its number and its standard size in pages; its segments, in the order in which they came; its heap, with the used spans and
-- the free runs of these; the sides of its segments that were found gone, and how many of these, from the first on, are told; and
-- how many sides were taken out, and neither kept again nor known to have given their blocks.
pub record Seen : Type 0 where
  pub number : ℕ
  pub standard : ℕ
  pub leases : List Lease
  pub heap : Contents
  pub gone : List Owned
  pub told : ℕ
  pub taken : ℕ

-- a client that has no segment
abbrev pub new_client : ℕ → ℕ → Seen
new_client number standard = record { number = number; standard = standard; leases = []; heap = contents [] [] []; gone = []; told = 0; taken = 0 }

-- what is seen of a client, from its parts
abbrev pub seen_of : ℕ → ℕ → List Lease → Contents → GoneOnes → ℕ → Seen
seen_of number standard leases heap gone taken =
    record { number = number; standard = standard; leases = leases; heap = heap; gone = gone.sides; told = gone.told; taken = taken }

-- the segment has this number
abbrev pub is_lease : ℕ → Lease → Bool
is_lease id lease = lease.side.id == id

-- one of these segments has this number
abbrev pub has_lease : List Lease → ℕ → Bool
has_lease leases id = list_any (is_lease id) leases

-- the segment of this number is known to be gone
abbrev pub is_gone : Seen → ℕ → Bool
is_gone seen id = has_side seen.gone id

-- the numbers of these segments
abbrev pub numbers_of : List Lease → List ℕ
numbers_of leases = map (λ (lease : Lease). lease.side.id) leases

-- the numbers that a client knows: those of its segments, and those of its gone sides
abbrev pub known : List Lease → List Owned → List ℕ
known leases gone = numbers_of leases ++ map (λ (side : Owned). side.id) gone

-- a segment of this number is with the client, or is known to be gone
abbrev pub is_known : Seen → ℕ → Bool
is_known seen id = list_any (λ n. n == id) (known seen.leases seen.gone)

-- no segment of this number is with the client, and none is known to be gone
abbrev pub IsUnknown : ℕ → Seen → Type 0
IsUnknown id seen = list_any (λ n. n == id) (known seen.leases seen.gone) ≡ false

-- the number of the next gone side that was not told yet
abbrev pub next_untold : Seen → Option ℕ
next_untold seen = next_of seen.gone seen.told

-- a segment as the heap shows it
abbrev pub segment_of : Lease → Segment
segment_of lease = record { id = lease.side.id; pages = lease.side.pages }
