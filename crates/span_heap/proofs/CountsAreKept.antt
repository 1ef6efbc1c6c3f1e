-- The counts of a heap through each change, and the room in its lists.
use Rattle.std.proofs.Common.{◌≡◌, ℕ, ◌+◌, ◌-◌, ◌^◌, ◌<◌, ◌≤◌, Bool, true, false, not, cond, eqb, List, [], ◌∷◌, ◌++◌, arith, ◌∙◌, refl, sym, ap, subst, inl, inr, length, slice_get, Some}
use Rattle.std.specs.List.{sum_by, filter, Contains}
use Rattle.std.specs.List.Sorted.{IsPermutation}
use Rattle.std.proofs.lemmas.List.Sums.{sum_by-append, sum_by_push}
use Rattle.std.proofs.lemmas.List.Sorted.{sum_by-IsPermutation, All-permutation, IsPermutation-append_comm, IsPermutation-cons, IsPermutation-trans}
use Rattle.std.proofs.lemmas.List.Elements.{All-head}
use Rattle.std.proofs.lemmas.List.Filters.{sum_by-filter_both}
use Rattle.std.proofs.lemmas.Bool.{and_parts, eqb-true, ne_eqb}
use Rattle.span_heap.specs.declared.run.Run.{Run}
use Rattle.span_heap.specs.Segment.{Segment, pages_in}
use Rattle.span_heap.specs.Run.{lies_in, pages_of}
use Rattle.span_heap.specs.Runs.{front_of, back_of, rest_of, pages_before, pages_behind, freed, dropped}
use Rattle.span_heap.specs.Changes.{whole_of}
use Rattle.span_heap.specs.Heap.{Contents, contents, IsPartition, IsSoundHeap, has_id, has_segment, size_of}
use Rattle.span_heap.proofs.Sums.{sum_by-filter, cond-sum}
use Rattle.span_heap.proofs.PartitionByCounts.{partition_from, counts_of, sum_by-with, sum_by-given, length-le-pages_of, used_end-le-size}
use Rattle.span_heap.proofs.CarvingKeepsThePartition.{IsCounted-carved, carved_sum, rest_sum, cut_length, IsCounted-cut, cut_sum}
use Rattle.span_heap.proofs.FreeingKeepsThePartition.{IsCounted-freed, freed_sum, before, behind, before_cases, behind_cases}
use Rattle.span_heap.proofs.SegmentsComeAndLeave.{IsCounted-grown, IsCounted-dropped, sum_kept, both_kept}
use Rattle.std.proofs.lemmas.List.{append_assoc}
use Rattle.span_heap.specs.Pick.{pick}

-- how many pages a run has in a segment
abbrev pub pages_there : ℕ → Run → ℕ
pages_there id run = cond (lies_in id run) run.pages 0

pub pages_in-is : (id : ℕ) (runs : List Run) → pages_in id runs ≡ sum_by (pages_there id) runs
pages_in-is id runs = sum_by-filter (λ run. run.pages) (lies_in id) runs

same_in_segment : (id : ℕ) (used free used' free' : List Run) → sum_by (pages_there id) used' + sum_by (pages_there id) free' ≡ sum_by (pages_there id) used + sum_by (pages_there id) free
    → pages_in id used' + pages_in id free' ≡ pages_in id used + pages_in id free
same_in_segment id used free used' free' same =
    omega (arith, same, pages_in-is id used, pages_in-is id free, pages_in-is id used', pages_in-is id free')

pub IsSoundHeap-carved : (segments : List Segment) (used free others used' : List Run) (run : Run) (n pages free_pages : ℕ) → IsSoundHeap (contents segments used free) pages free_pages
    → IsPermutation free (run ∷ others) → IsPermutation (front_of run n ∷ used) used' → 1 ≤ n → n ≤ run.pages
    → (n ≤ free_pages) × IsSoundHeap (contents segments used' (others ++ rest_of run n)) pages (free_pages - n)
IsSoundHeap-carved segments used free others used' run n pages free_pages kept taken given low high =
    let length = rest_sum (λ x. x.pages) run n high (λ more. cut_length run n high) in
    let all = carved_sum (λ x. x.pages) used free others used' run n taken given length in
    let here = sum_by-with (λ x. x.pages) free others run taken in
    let left = sum_by-append (λ (x : Run). x.pages) others (rest_of run n) in (
      omega (arith, here, kept.free_count),
      record {
        partition = partition_from _ (IsCounted-carved segments used free others used' run n (counts_of _ kept.partition) taken given low high);
        small = kept.small;
        size = kept.size;
        free_count = omega (arith, here, left, length, kept.free_count);
        whole = omega (arith, all, kept.whole);
        by_segment = λ id.
            same_in_segment id used free used' (others ++ rest_of run n)
            (carved_sum (pages_there id) used free others used' run n taken given
            (rest_sum (pages_there id) run n high (λ more. cond-sum (lies_in id run) run.pages n (run.pages - n) (cut_length run n high))))
            ∙ kept.by_segment id;
      },
    )

-- one run that lies in a segment, among none others
one_there : (id segment : ℕ) (run : Run) → run.segment ≡ segment → 0 + pages_there id run ≡ cond {A = ℕ} (eqb segment id) (0 + run.pages) 0
one_there id segment run same =
    let number = ap (λ s. cond {A = ℕ} (eqb s id) run.pages 0) same in
    let plus : run.pages ≡ 0 + run.pages = omega arith in
    omega (arith, number, ap (λ n. cond {A = ℕ} (eqb segment id) n 0) plus)

none_there : (b : Bool) → 0 ≡ cond {A = ℕ} b 0 0
none_there true = refl
none_there false = refl

before_there : (heap : Contents) (span : Run) → IsPartition heap → (id : ℕ)
    → sum_by (pages_there id) (before heap.free span) ≡ cond {A = ℕ} (lies_in id span) (pages_before heap.free span) 0
before_there heap span whole id =
    let P : List Run → Type 0 = λ runs. sum_by (pages_there id) runs ≡ cond {A = ℕ} (lies_in id span) (pages_of runs) 0 in
    elim (before_cases heap span (counts_of heap whole)) [
      | inl none ↦ subst P (sym none) (none_there (lies_in id span))
      | inr (run, one, ends) ↦ subst P (sym one) (one_there id span.segment run (eqb-true run.segment span.segment (and_parts (eqb run.segment span.segment) _ ends).0))
    ]

behind_there : (heap : Contents) (span : Run) → IsPartition heap → (id : ℕ)
    → sum_by (pages_there id) (behind heap.free span) ≡ cond {A = ℕ} (lies_in id span) (pages_behind heap.free span) 0
behind_there heap span whole id =
    let P : List Run → Type 0 = λ runs. sum_by (pages_there id) runs ≡ cond {A = ℕ} (lies_in id span) (pages_of runs) 0 in
    elim (behind_cases heap span (counts_of heap whole)) [
      | inl none ↦ subst P (sym none) (none_there (lies_in id span))
      | inr (run, one, begins) ↦ subst P (sym one) (one_there id span.segment run (eqb-true run.segment span.segment (and_parts (eqb run.segment span.segment) _ begins).0))
    ]

joined_there : (b : Bool) (early here late : ℕ) → cond {A = ℕ} b (early + here + late) 0 ≡ cond {A = ℕ} b here 0 + (cond {A = ℕ} b early 0 + cond {A = ℕ} b late 0)
joined_there true early here late = omega arith
joined_there false early here late = omega arith

pub IsSoundHeap-freed : (segments : List Segment) (used free used' : List Run) (span : Run) (pages free_pages : ℕ) → IsSoundHeap (contents segments used free) pages free_pages
    → IsPermutation used (span ∷ used') → IsSoundHeap (contents segments used' (freed free span)) pages (free_pages + span.pages)
IsSoundHeap-freed segments used free used' span pages free_pages kept taken =
    record {
      partition = partition_from _ (IsCounted-freed segments used free used' span (counts_of _ kept.partition) taken);
      small = kept.small;
      size = kept.size;
      free_count = omega (arith, all, sum_by-with (λ x. x.pages) used used' span taken, kept.free_count);
      whole = omega (arith, all, kept.whole);
      by_segment = λ id.
          same_in_segment id used free used' (freed free span)
          (freed_sum (pages_there id) used free used' span taken sized
          (omega (
            arith,
            joined_there (lies_in id span) (pages_before free span) span.pages (pages_behind free span),
            before_there (contents segments used free) span kept.partition id,
            behind_there (contents segments used free) span kept.partition id,
          )))
          ∙ kept.by_segment id;
    }
  where
    sized : 1 ≤ span.pages
    sized = All-head (λ (x : Run). 1 ≤ x.pages) span used' (All-permutation (λ (x : Run). 1 ≤ x.pages) used (span ∷ used') taken (counts_of _ kept.partition).used_sized)

    all : pages_of used' + pages_of (freed free span) ≡ pages_of used + pages_of free
    all = freed_sum (λ x. x.pages) used free used' span taken sized (omega arith)

pub IsSoundHeap-cut : (segments : List Segment) (used free used' : List Run) (span : Run) (n pages free_pages : ℕ) → IsSoundHeap (contents segments used free) pages free_pages
    → IsPermutation (front_of span n ∷ back_of span n ∷ used) (span ∷ used') → 1 ≤ n → n < span.pages
    → IsSoundHeap (contents segments used' free) pages free_pages
IsSoundHeap-cut segments used free used' span n pages free_pages kept swapped low high =
    record {
      partition = partition_from _ (IsCounted-cut segments used free used' span n (counts_of _ kept.partition) swapped low high);
      small = kept.small;
      size = kept.size;
      free_count = kept.free_count;
      whole = omega (arith, kept.whole, cut_sum (λ x. x.pages) used used' span n swapped (cut_length span n (omega arith)));
      by_segment = λ id. omega (
        arith,
        kept.by_segment id,
        pages_in-is id used,
        pages_in-is id used',
        cut_sum (pages_there id) used used' span n swapped (cond-sum (lies_in id span) span.pages n (span.pages - n) (cut_length span n (omega arith))),
      );
    }

-- how many pages a segment has under a number
abbrev pub size_there : ℕ → Segment → ℕ
size_there id segment = cond (has_id id segment) segment.pages 0

pub size_there-is : (id : ℕ) (segments : List Segment) → size_of (filter (has_id id) segments) ≡ sum_by (size_there id) segments
size_there-is id segments = sum_by-filter (λ segment. segment.pages) (has_id id) segments

pub IsSoundHeap-grown : (segments : List Segment) (used free used' : List Run) (segment more pages free_pages : ℕ) → IsSoundHeap (contents segments used free) pages free_pages
    → has_segment segments segment ≡ false → IsPermutation (whole_of segment more ∷ used) used' → 1 ≤ more → pages + more < 2 ^ 32
    → IsSoundHeap (contents (segments ++ record { id = segment; pages = more } ∷ []) used' free) (pages + more) free_pages
IsSoundHeap-grown segments used free used' segment more pages free_pages kept absent given sized small =
    record {
      partition = partition_from _ (IsCounted-grown segments used free used' segment more (counts_of _ kept.partition) absent given sized);
      small = small;
      size = omega (arith, kept.size, sum_by_push (λ (x : Segment). x.pages) segments (record { id = segment; pages = more }));
      free_count = kept.free_count;
      whole = omega (arith, kept.whole, sum_by-given (λ x. x.pages) used used' (whole_of segment more) given);
      by_segment = λ id. omega (
        arith,
        kept.by_segment id,
        pages_in-is id used,
        pages_in-is id used',
        size_there-is id segments,
        size_there-is id (segments ++ record { id = segment; pages = more } ∷ []),
        sum_by_push (size_there id) segments (record { id = segment; pages = more }),
        sum_by-given (pages_there id) used used' (whole_of segment more) given,
      );
    }

pub IsSoundHeap-dropped : (segments : List Segment) (used free used' : List Run) (segment pages free_pages : ℕ) → IsSoundHeap (contents segments used free) pages free_pages
    → IsPermutation (dropped used segment) used'
    → IsSoundHeap (contents (filter (λ other. not (has_id segment other)) segments) used' (dropped free segment)) (pages - (pages_in segment used + pages_in segment free)) (free_pages - pages_in segment free)
IsSoundHeap-dropped segments used free used' segment pages free_pages kept left =
    record {
      partition = partition_from _ (IsCounted-dropped segments used free used' segment (counts_of _ kept.partition) left);
      small = omega (arith, kept.small);
      size = omega (arith, kept.size, kept.by_segment segment, of_segments);
      free_count = omega (arith, kept.free_count, of_free);
      whole = omega (arith, kept.whole, of_used, of_free, sum_by-IsPermutation (λ x. x.pages) (dropped used segment) used' left);
      by_segment = λ id. omega (
        arith,
        both_kept (not (eqb id segment)) (sum_by (pages_there id) used) (sum_by (pages_there id) free) (sum_by (size_there id) segments)
            (omega (arith, kept.by_segment id, pages_in-is id used, pages_in-is id free, size_there-is id segments)),
        pages_in-is id used',
        pages_in-is id (dropped free segment),
        size_there-is id (filter (λ other. not (has_id segment other)) segments),
        sum_by-IsPermutation (pages_there id) (dropped used segment) used' left,
        sum_kept (pages_there id) (λ x. x.segment) segment id (λ x other. ap (λ b. cond {A = ℕ} b x.pages 0) (ne_eqb x.segment id other)) used,
        sum_kept (pages_there id) (λ x. x.segment) segment id (λ x other. ap (λ b. cond {A = ℕ} b x.pages 0) (ne_eqb x.segment id other)) free,
        sum_kept (size_there id) (λ x. x.id) segment id (λ x other. ap (λ b. cond {A = ℕ} b x.pages 0) (ne_eqb x.id id other)) segments,
      );
    }
  where
    of_used : pages_in segment used + pages_of (dropped used segment) ≡ pages_of used
    of_used = sum_by-filter_both (lies_in segment) (λ run. not (lies_in segment run)) (λ run. refl) (λ run. run.pages) used

    of_free : pages_in segment free + pages_of (dropped free segment) ≡ pages_of free
    of_free = sum_by-filter_both (lies_in segment) (λ run. not (lies_in segment run)) (λ run. refl) (λ run. run.pages) free

    of_segments : size_of (filter (has_id segment) segments) + size_of (filter (λ other. not (has_id segment other)) segments) ≡ size_of segments
    of_segments = sum_by-filter_both (has_id segment) (λ other. not (has_id segment other)) (λ other. refl) (λ other. other.pages) segments

-- no more used spans than pages, and no more free runs
pub room : (heap : Contents) (pages free_pages : ℕ) → IsSoundHeap heap pages free_pages → length heap.used + length heap.free ≤ pages
room heap pages free_pages kept =
    omega (arith, kept.whole, length-le-pages_of heap.used (counts_of _ kept.partition).used_sized, length-le-pages_of heap.free (counts_of _ kept.partition).free_sized)

-- the end of a span is below 2^32
pub end_fits : (heap : Contents) (span : Run) (pages free_pages : ℕ) → IsSoundHeap heap pages free_pages → Contains heap.used span → span.first + span.pages < 2 ^ 32
end_fits heap span pages free_pages kept there = omega (arith, kept.small, kept.size, used_end-le-size heap (counts_of heap kept.partition) span there)

-- a list that one more was pushed to, in another order
pub pushed : (runs : List Run) (run : Run) → IsPermutation (run ∷ runs) (runs ++ run ∷ [])
pushed runs run = IsPermutation-append_comm (run ∷ []) runs

-- a span taken out and its two parts pushed
pub cut_in_two : (used used' : List Run) (span front back : Run) → IsPermutation used (span ∷ used')
    → IsPermutation (front ∷ back ∷ used) (span ∷ (used' ++ front ∷ [] ++ back ∷ []))
cut_in_two used used' span front back taken =
    rw append_assoc
    (IsPermutation-trans (front ∷ back ∷ used) (front ∷ back ∷ span ∷ used') (span ∷ (used' ++ (front ∷ back ∷ [])))
    (IsPermutation-cons front (back ∷ used) (back ∷ span ∷ used') (IsPermutation-cons back used (span ∷ used') taken))
    (IsPermutation-append_comm (front ∷ back ∷ []) (span ∷ used')))

-- the place that a search found, and the run that stands there
pub record HasFound (free : List Run) (n slack place : ℕ) (run : Run) : Type 0 where
  pub within : place < length free
  pub there : slice_get free place ≡ Some run
  pub picked : pick free n slack ≡ Some run

pub found : (free : List Run) (n slack place : ℕ) (run : Run) → (place < length free) × (slice_get free place ≡ pick free n (n + slack - n)) → slice_get free place ≡ Some run
    → HasFound free n slack place run
found free n slack place run at there =
    let same : n + slack - n ≡ slack = omega arith in
    record { within = at.0; there = there; picked = ap (pick free n) (sym same) ∙ (sym at.1 ∙ there) }
