-- What a heap is seen as, and what holds of it at every moment.
use Rattle.std.specs.Prelude.{◌≡◌, ℕ, ◌+◌, ◌^◌, ◌<◌, ◌≤◌, Bool, ◌&&◌, ◌==◌, nat_lt, if◌then◌else◌, List, All, Any, count_by, sum_by, filter}
use Rattle.std.specs.List.{list_any}
use Rattle.span_heap.specs.declared.run.Run.{Run}
use Rattle.span_heap.specs.Segment.{Segment, pages_in}
use Rattle.span_heap.specs.Run.{has_page, begins_at, ends_at, pages_of}

-- the segments of a heap, its used spans in some order, and its free runs, oldest first
pub record Contents : Type 0 where
  pub segments : List Segment
  pub used : List Run
  pub free : List Run

-- what a heap is seen as, from its three lists
abbrev pub contents : List Segment → List Run → List Run → Contents
contents segments used free = record { segments = segments; used = used; free = free }

-- the segment has this number
abbrev pub has_id : ℕ → Segment → Bool
has_id id segment = segment.id == id

-- the segment has this number and this page
abbrev pub holds_page : ℕ → ℕ → Segment → Bool
holds_page id page segment = has_id id segment && nat_lt page segment.pages

-- one of the segments has this number
abbrev pub has_segment : List Segment → ℕ → Bool
has_segment segments id = list_any (has_id id) segments

-- all pages of the segments
abbrev pub size_of : List Segment → ℕ
size_of segments = sum_by (λ segment. segment.pages) segments

-- the run has a page, and lies within one of the segments
abbrev pub LiesWithin : List Segment → Run → Type 0
LiesWithin segments run =
    (1 ≤ run.pages) × Any (λ segment. (segment.id ≡ run.segment) × (run.first + run.pages ≤ segment.pages)) segments

-- Each page of each segment lies in exactly one used span or free run, and each of these lies within a segment.
-- No two segments have one number. No two free runs touch: at no page does one begin or end where another begins or ends.
pub record IsPartition (heap : Contents) : Type 0 where
  pub once : (id page : ℕ) → count_by (has_page id page) heap.used + count_by (has_page id page) heap.free ≡ (if list_any (holds_page id page) heap.segments then 1 else 0)
  pub distinct : (id : ℕ) → count_by (has_id id) heap.segments ≤ 1
  pub used_within : All (LiesWithin heap.segments) heap.used
  pub free_within : All (LiesWithin heap.segments) heap.free
  pub apart : (id page : ℕ) → count_by (begins_at id page) heap.free + count_by (ends_at id page) heap.free ≤ 1

-- what a heap keeps beside the partition: its two counts of pages, and that they add up in each segment and in all
pub record IsSoundHeap (heap : Contents) (pages free_pages : ℕ) : Type 0 where
  pub partition : IsPartition heap
  pub small : pages < 2 ^ 32
  pub size : pages ≡ size_of heap.segments
  pub free_count : free_pages ≡ pages_of heap.free
  pub whole : pages_of heap.used + pages_of heap.free ≡ pages
  pub by_segment : (id : ℕ) → pages_in id heap.used + pages_in id heap.free ≡ size_of (filter (has_id id) heap.segments)
