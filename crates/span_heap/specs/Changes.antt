-- What each call does to the lists of a heap.
use Rattle.std.specs.Prelude.{◌≡◌, ◌≢◌, ℕ, ◌+◌, not, if◌then◌else◌, IsFalse, IfSome, List, [], ◌∷◌, ◌++◌, All, Contains, Option, filter, count_by}
use Rattle.std.specs.List.Sorted.{IsPermutation}
use Rattle.std.specs.Option.{option_map}
use Rattle.span_heap.specs.declared.run.Run.{Run}
use Rattle.span_heap.specs.Run.{has_page}
use Rattle.span_heap.specs.Runs.{front_of, rest_of, carved, freed, dropped}
use Rattle.span_heap.specs.Pick.{fits, pick}
use Rattle.span_heap.specs.Segment.{Segment}
use Rattle.span_heap.specs.Heap.{Contents, has_id}

-- none of these runs lies in the segment
abbrev pub NoneIn : ℕ → List Run → Type 0
NoneIn id runs = All (λ run. run.segment ≢ id) runs

-- the run of a whole segment
abbrev pub whole_of : ℕ → ℕ → Run
whole_of id pages = record { segment = id; first = 0; pages = pages }

-- the segment, as it is seen
abbrev pub segment_of : ℕ → ℕ → Segment
segment_of id pages = record { id = id; pages = pages }

-- a segment of n pages came last, whole as one used span, and no free run changed
pub record Grows (old new : Contents) (id n : ℕ) (span : Run) : Type 0 where
  pub whole : span ≡ whole_of id n
  pub segments : new.segments ≡ old.segments ++ segment_of id n ∷ []
  pub used : IsPermutation (span ∷ old.used) new.used
  pub has : Contains new.used span
  pub free : new.free ≡ old.free
  pub none_free : NoneIn id new.free

-- A segment came last. Its first pages are a used span, the rest, if there is any, is the latest free run, and the used spans of other
-- segments stay.
pub record GrowsFront (old new : Contents) (id whole pages : ℕ) (span : Run) : Type 0 where
  pub front : span ≡ front_of (whole_of id whole) pages
  pub segments : new.segments ≡ old.segments ++ segment_of id whole ∷ []
  pub has : Contains new.used span
  pub keeps : (run : Run) → Contains old.used run → run.segment ≢ id → Contains new.used run
  pub covers : (other page : ℕ) → count_by (has_page other page) new.used ≡ (if has_page other page span then 1 else 0) + count_by (has_page other page) old.used
  pub free : new.free ≡ old.free ++ rest_of (whole_of id whole) pages

-- what a search answers: the first n pages of the run that it picks
abbrev pub found_span : List Run → ℕ → ℕ → Option Run
found_span runs n slack = option_map (λ run. front_of run n) (pick runs n slack)

-- the run that the search picks left the free runs, and what is left of it was appended
abbrev pub IsCarved : List Run → List Run → ℕ → ℕ → Type 0
IsCarved old new n slack = IfSome (pick old n slack) (λ run. new ≡ carved old run n)

-- no free run has at least n pages and at most n + slack
abbrev pub NoneFits : List Run → ℕ → ℕ → Type 0
NoneFits runs n slack = All (λ run. IsFalse (fits n slack run)) runs

-- a span joined the used ones, and no segment changed
pub record Uses (old new : Contents) (span : Run) : Type 0 where
  pub used : IsPermutation (span ∷ old.used) new.used
  pub has : Contains new.used span
  pub segments : new.segments ≡ old.segments

-- a used span became two, its front and its back, and nothing else changed
pub record Splits (old new : Contents) (span front back : Run) : Type 0 where
  pub used : IsPermutation (front ∷ back ∷ old.used) (span ∷ new.used)
  pub has_front : Contains new.used front
  pub has_back : Contains new.used back
  pub free : new.free ≡ old.free
  pub segments : new.segments ≡ old.segments

-- a used span became free, joined with the free runs beside it; where its segment had none, it was appended as it is
pub record Frees (old new : Contents) (span : Run) : Type 0 where
  pub free : new.free ≡ freed old.free span
  pub alone : NoneIn span.segment old.free → new.free ≡ old.free ++ span ∷ []
  pub used : IsPermutation old.used (span ∷ new.used)
  pub segments : new.segments ≡ old.segments

-- a segment left with all its used spans and free runs, and the others stayed
pub record Drops (old new : Contents) (id : ℕ) : Type 0 where
  pub segments : new.segments ≡ filter (λ segment. not (has_id id segment)) old.segments
  pub used : IsPermutation (dropped old.used id) new.used
  pub free : new.free ≡ dropped old.free id
