-- What a client has of memory, and what its calls make of it.
use Rattle.std.specs.Prelude.{ℕ, ◌++◌, Bool, not, List, [], ◌∷◌, map, filter, slice_set, slice_index_or, Option, Some, None, if◌then◌else◌}
use Rattle.std.specs.List.{range_with_len, list_all, list_any}
use Rattle.span_heap.specs.declared.run.Run.{Run}
use Rattle.span_heap.specs.Run.{has_page}
use Rattle.span_heap.specs.Runs.{rest_of, carved, freed, dropped}
use Rattle.span_heap.specs.Segment.{Segment}
use Rattle.span_heap.specs.Heap.{has_id, has_segment}
use Rattle.span_heap.specs.Changes.{whole_of, segment_of}

-- What a client has: its segments in the order in which they came, its free runs, the oldest first,
-- the segments that left since they were purged and that are not told yet, and the pages of each
-- piece that it ever had, in the order in which they came, or none where the piece is gone.
pub record Holding : Type 0 where
  pub segments : List Segment
  pub runs : List Run
  pub untold : List ℕ
  pub pieces : List (Option Run)

-- a client that has nothing
abbrev pub nothing : Holding
nothing = record { segments = []; runs = []; untold = []; pieces = [] }

-- whether a segment is among the client's
abbrev pub has : Holding → ℕ → Bool
has holding id = has_segment holding.segments id

-- the numbers of the client's segments, in the order in which they came
abbrev pub numbers : Holding → List ℕ
numbers holding = map (λ segment. segment.id) holding.segments

-- a segment leaves with its free runs, if it is among the client's
abbrev pub without : Holding → ℕ → Holding
without holding id =
    if has holding id
    then record holding {
      segments = filter (λ segment. not (has_id id segment)) holding.segments;
      runs = dropped holding.runs id;
    }
    else holding

-- these segments leave
abbrev pub without_all : Holding → List ℕ → Holding
without_all holding [] = holding
without_all holding (id ∷ ids) = without_all (without holding id) ids

-- a segment that was purged leaves, if it had not left yet, and is to be told
abbrev pub lost : Holding → ℕ → Holding
lost holding id =
    if has holding id
    then record holding {
      segments = filter (λ segment. not (has_id id segment)) holding.segments;
      runs = dropped holding.runs id;
      untold = holding.untold ++ id ∷ [];
    }
    else holding

-- these segments were purged, and leave
abbrev pub lost_all : Holding → List ℕ → Holding
lost_all holding [] = holding
lost_all holding (id ∷ ids) = lost_all (lost holding id) ids

-- the client's segments that are live no more, in the order in which they came
abbrev pub purged : (ℕ → Bool) → Holding → List ℕ
purged live holding = filter (λ id. not (live id)) (numbers holding)

-- all that left are told
abbrev pub told : Holding → Holding
told holding = record holding { untold = [] }

-- the first n pages of a free run were taken
abbrev pub taken : Holding → Run → ℕ → Holding
taken holding run n = record holding { runs = carved holding.runs run n }

-- a segment of so many pages came: its first n pages are taken, and the rest is free, if there is any
abbrev pub adopted : Holding → ℕ → ℕ → ℕ → Holding
adopted holding id pages n =
    record holding {
      segments = holding.segments ++ segment_of id pages ∷ [];
      runs = holding.runs ++ rest_of (whole_of id pages) n;
    }

-- the pages of the piece at this place, or none where it is gone or never came
abbrev pub piece_at : Holding → ℕ → Option Run
piece_at holding place = slice_index_or holding.pieces place None

-- a piece of these pages came last
abbrev pub with_piece : Holding → Run → Holding
with_piece holding run = record holding { pieces = holding.pieces ++ Some run ∷ [] }

-- the piece at this place, which has these pages, is freed: it is gone, and its pages are free where
-- its segment is among the client's
abbrev pub after_free : Holding → ℕ → Run → Holding
after_free holding place run =
    record holding {
      runs = if has holding run.segment then freed holding.runs run else holding.runs;
      pieces = slice_set holding.pieces place None;
    }

-- the client has nothing more, and its pieces are gone
abbrev pub emptied : Holding → Holding
emptied holding =
    record { segments = []; runs = []; untold = []; pieces = map (λ piece. None) holding.pieces }

-- whether each page of a segment lies in one of the free runs
abbrev pub is_all_free : List Run → Segment → Bool
is_all_free runs segment =
    list_all (λ page. list_any (has_page segment.id page) runs) (range_with_len 0 segment.pages)

-- the client's segments that are all free, in the order in which they came
abbrev pub all_free : Holding → List ℕ
all_free holding = map (λ segment. segment.id) (filter (is_all_free holding.runs) holding.segments)
