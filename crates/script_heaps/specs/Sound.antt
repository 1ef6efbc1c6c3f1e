-- What holds of a client's heap at every moment.
use Rattle.std.specs.Prelude.{◌≡◌, ℕ, ◌≤◌, true, List, map, All, Contains, slice_index_or, Option, Some, None}
use Rattle.units.specs.declared.TheConstants.{MOST_PAGES}
use Rattle.span_heap.specs.declared.run.Run.{Run}
use Rattle.span_heap.specs.Segment.{Segment}
use Rattle.span_heap.specs.Heap.{Contents, IsPartition, has_segment}
use Rattle.script_heaps.specs.Holding.{Holding}

-- what is seen of a client's heap, of the segments to tell and of the pieces
abbrev pub seen_of : Contents → List ℕ → List (Option Run) → Holding
seen_of heap untold pieces =
    record { segments = heap.segments; runs = heap.free; untold = untold; pieces = pieces }

-- a piece is there at a place, and has these pages
abbrev pub IsPiece : List (Option Run) → ℕ → Run → Type 0
IsPiece pieces place run = slice_index_or pieces place None ≡ Some run

-- a segment came up to this number, and has no more pages than a segment can have
abbrev pub IsSmall : ℕ → Segment → Type 0
IsSmall last segment = (segment.id ≤ last) × (segment.pages ≤ MOST_PAGES)

-- Each page is in one used span or free run. The numbers are those of the segments, none of which is
-- past the last that came. A piece that is there is a used span where its segment is, and no two
-- pieces have the same pages there.
pub record IsSoundClientHeap (heap : Contents) (ids : List ℕ) (pieces : List (Option Run)) (last : ℕ) : Type 0 where
  pub partition : IsPartition heap
  pub numbers : ids ≡ map (λ segment. segment.id) heap.segments
  pub small : All (IsSmall last) heap.segments
  pub drawn : (place : ℕ) (run : Run) → IsPiece pieces place run → run.segment ≤ last
  pub used : (place : ℕ) (run : Run) → IsPiece pieces place run → has_segment heap.segments run.segment ≡ true
      → Contains heap.used run
  pub once : (place other : ℕ) (run : Run) → IsPiece pieces place run → IsPiece pieces other run
      → has_segment heap.segments run.segment ≡ true → place ≡ other
