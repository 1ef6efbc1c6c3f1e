-- What the calls of a heap need of its table: where a run comes, no other begins there.
use Rattle.std.proofs.Common.{◌≡◌, ℕ, zero, suc, ◌+◌, ◌-◌, ◌^◌, ◌<◌, ◌≤◌, Bool, true, false, not, ◌&&◌, ◌||◌, cond, eqb, ltb, List, [], ◌∷◌, ◌++◌, length, get_or, reverse, Some, None, refl, sym, ◌∙◌, ap, subst, arith, inl, inr}
use Rattle.std.specs.List.{count_by, filter, find, All, Contains}
use Rattle.std.specs.List.Sorted.{IsPermutation}
use Rattle.std.proofs.lemmas.List.Sums.{sum_by-cons, sum_by-append, sum_by_push, length-filter}
use Rattle.std.proofs.lemmas.List.Sorted.{IsPermutation-filter_both, IsPermutation-reverse, IsPermutation-sym, Contains-permutation, All-permutation}
use Rattle.std.proofs.lemmas.List.Elements.{All-head, All-tail, All-cons, All-nil, filter_passes, All-contains, All-filter, Contains-get_or, Contains-push, Contains-append_left}
use Rattle.std.proofs.lemmas.Bool.{and_parts, and_from, eqb-true, eq-eqb, cases_Bool, cases_eq, both_ways}
use Rattle.span_heap.specs.declared.run.Run.{Run}
use Rattle.span_heap.specs.Segment.{Segment}
use Rattle.span_heap.specs.Run.{lies_in, has_page, begins_at, ends_at, is_beside, is_run, pages_of}
use Rattle.span_heap.specs.Runs.{front_of, back_of, rest_of, pages_before, pages_behind, joined, freed, dropped}
use Rattle.span_heap.specs.Pick.{fits, is_long, exact_length, latest, pick}
use Rattle.span_heap.specs.Heap.{Contents, contents, LiesWithin, IsPartition, IsSoundHeap, has_id, has_segment, size_of}
use Rattle.span_heap.specs.Changes.{NoneIn, whole_of, segment_of}
use Rattle.span_heap.specs.Table.{BeginFrom}
use Rattle.span_heap.proofs.Sums.{counted, filter_at_most_one}
use Rattle.span_heap.proofs.PartitionByCounts.{counts_of, count_of_absent, at_most_once, begins-le-pages, has_page-within, is_run-true, is_run-once, one_if, sum_by-with, free_end-le-size, used_end-le-size}
use Rattle.span_heap.proofs.CarvingKeepsThePartition.{rest_cases}
use Rattle.span_heap.proofs.FreeingKeepsThePartition.{pages_before-le, beside_fit, ends_before_it}
use Rattle.span_heap.proofs.CountsAreKept.{IsSoundHeap-carved, IsSoundHeap-cut, IsSoundHeap-freed, pushed, cut_in_two}
use Rattle.span_heap.proofs.SegmentsComeAndLeave.{sum_by-filter-le}
use Rattle.span_heap.proofs.PlacedRunsKeepTheirPlaces.{filter_same}
use Rattle.span_heap.proofs.SearchTakesThePick.{pick_has_pages}

-- what is counted nowhere passes nowhere
pub none_passes : {X : Type 0} (p : X → Bool) (xs : List X) → count_by p xs ≡ 0 → All (λ x. p x ≡ false) xs
none_passes p xs none = λ k d within.
    elim (cases_Bool (p (get_or xs k d))) [
      | inl passes ↦ absurd (omega (arith, none, counted p xs (get_or xs k d) (Contains-get_or xs k d within) passes))
      | inr fails ↦ fails
    ]

-- where a run of the partition begins, no other run does
fresh_begins : (heap : Contents) (used free : List Run) (run : Run) → IsPartition heap → 1 ≤ run.pages
    → All (λ x. 1 ≤ x.pages) used → All (λ x. 1 ≤ x.pages) free
    → ((test : Run → Bool) → test run ≡ true → count_by test used + count_by test free + 1 ≤ count_by test heap.used + count_by test heap.free)
    → All (λ x. begins_at run.segment run.first x ≡ false) used × All (λ x. begins_at run.segment run.first x ≡ false) free
fresh_begins heap used free run whole sized sized_used sized_free more =
    let once = at_most_once heap (counts_of heap whole) run.segment run.first in
    let here = more (has_page run.segment run.first) (has_page-within run run.first (omega arith) (omega (arith, sized))) in (
      none_passes (begins_at run.segment run.first) used (omega (arith, once, here, begins-le-pages run.segment run.first used sized_used)),
      none_passes (begins_at run.segment run.first) free (omega (arith, once, here, begins-le-pages run.segment run.first free sized_free)),
    )

-- a run leaves its list
pub run_taken : (runs : List Run) (run : Run) → count_by (is_run run) runs ≤ 1 → Contains runs run → is_run run run ≡ true
    → IsPermutation runs (run ∷ filter (λ other. not (is_run run other)) runs)
run_taken runs run few there itself =
    elim (filter_at_most_one (is_run run) runs few) [
      | inl none ↦ absurd (omega (arith, counted (is_run run) runs run there itself, length-filter (is_run run) runs, ap {B = ℕ} length none))
      | inr (x, one, is) ↦
          let same : filter (is_run run) runs ≡ run ∷ [] = one ∙ ap (λ y. y ∷ []) (is_run-true run x is) in
          subst (λ ys. IsPermutation runs (ys ++ filter (λ other. not (is_run run other)) runs)) same
          (IsPermutation-filter_both (is_run run) (λ other. not (is_run run other)) (λ y. refl) runs)
    ]

-- a heap by its three lists
pub kept_as : (heap : Contents) (segments : List Segment) (used free : List Run) (pages free_pages : ℕ) → heap.segments ≡ segments → heap.used ≡ used → heap.free ≡ free
    → IsSoundHeap (contents segments used free) pages free_pages → IsSoundHeap heap pages free_pages
kept_as heap segments used free pages free_pages same_segments same_used same_free kept =
    subst (λ s. IsSoundHeap (contents s heap.used heap.free) pages free_pages) (sym same_segments)
    (subst (λ u. IsSoundHeap (contents segments u heap.free) pages free_pages) (sym same_used)
    (subst (λ f. IsSoundHeap (contents segments used f) pages free_pages) (sym same_free) kept))

-- a picked run is free
find_there : (test : Run → Bool) (runs : List Run) (run : Run) → find test runs ≡ Some run → Contains runs run
find_there test [] run is = absurd (nothing is)
  where
    nothing : None ≡ Some run → ⊥
    nothing e = cc
find_there test (x ∷ runs) run is = go (test x) (find_there test runs run) is
  where
    go : (b : Bool) → (find test runs ≡ Some run → Contains runs run) → cond b (Some x) (find test runs) ≡ Some run → Contains (x ∷ runs) run
    go true rest e =
        let same : x ≡ run = cc in
        (zero, omega arith, same)
    go false rest e = let (k, within, at) = rest e in (suc k, omega (arith, within), at)

latest_there : (test : Run → Bool) (runs : List Run) (run : Run) → latest test runs ≡ Some run → Contains runs run
latest_there test runs run is =
    Contains-permutation (reverse runs) runs run (IsPermutation-sym runs (reverse runs) (IsPermutation-reverse runs)) (find_there test (reverse runs) run is)

pub pick_there : (runs : List Run) (n slack : ℕ) (run : Run) → pick runs n slack ≡ Some run → Contains runs run
pick_there runs n slack run is = go (ltb (exact_length runs n slack) 256) is
  where
    go : (b : Bool) → cond b (latest (λ x. fits n slack x && (eqb x.pages (exact_length runs n slack))) runs) (latest (λ x. fits n slack x && is_long x) runs) ≡ Some run → Contains runs run
    go true e = latest_there (λ x. fits n slack x && (eqb x.pages (exact_length runs n slack))) runs run e
    go false e = latest_there (λ x. fits n slack x && is_long x) runs run e

-- a run that a search carves

pub record CanCarve (heap : Contents) (run : Run) (n pages free_pages : ℕ) : Type 0 where
  pub there : Contains heap.free run
  pub lies : LiesWithin heap.segments (front_of run n)
  pub not_free : All (λ x. begins_at run.segment run.first x ≡ false) (filter (λ x. not (is_run run x)) heap.free)
  pub not_used : All (λ x. begins_at run.segment run.first x ≡ false) heap.used
  pub small : pages_of heap.used + n < 2 ^ 32
  pub end : run.first + run.pages < 2 ^ 32
  pub low : n ≤ free_pages
  pub kept : IsSoundHeap (contents heap.segments (heap.used ++ front_of run n ∷ []) (filter (λ x. not (is_run run x)) heap.free ++ rest_of run n)) pages (free_pages - n)
  pub back_lies : n < run.pages → LiesWithin heap.segments (back_of run n)
  pub back_not_free : n < run.pages → All (λ x. begins_at run.segment (run.first + n) x ≡ false) (filter (λ x. not (is_run run x)) heap.free)
  pub back_not_used : n < run.pages → All (λ x. begins_at run.segment (run.first + n) x ≡ false) (heap.used ++ front_of run n ∷ [])
  pub back_small : n < run.pages → pages_of (filter (λ x. not (is_run run x)) heap.free) + (run.pages - n) < 2 ^ 32

pub can_carve : (heap : Contents) (n slack pages free_pages : ℕ) (run : Run) → IsSoundHeap heap pages free_pages → pick heap.free n slack ≡ Some run → 1 ≤ n → CanCarve heap run n pages free_pages
can_carve heap n slack pages free_pages run kept picked some =
    let there = pick_there heap.free n slack run picked in
    let fits_in : n ≤ run.pages = pick_has_pages heap.free n slack run picked in
    let others = filter (λ x. not (is_run run x)) heap.free in
    let front = front_of run n in
    let once = is_run-once heap (counts_of heap kept.partition) run (omega (arith, some, fits_in)) in
    let itself : is_run run run ≡ true = and_from _ _ (eq-eqb run.segment run.segment refl) (and_from _ _ (eq-eqb run.first run.first refl) (eq-eqb run.pages run.pages refl)) in
    let new = IsSoundHeap-carved heap.segments heap.used heap.free others (heap.used ++ front ∷ []) run n pages free_pages kept (run_taken heap.free run once there itself) (pushed heap.used front) some fits_in in
    let whole = new.1.partition in
    let sized_used : All (λ (x : Run). 1 ≤ x.pages) heap.used = (counts_of heap kept.partition).used_sized in
    let sized_front : All (λ (x : Run). 1 ≤ x.pages) (heap.used ++ front ∷ []) = (counts_of _ whole).used_sized in
    let sized_free : All (λ (x : Run). 1 ≤ x.pages) others = All-filter (λ x. not (is_run run x)) (λ (x : Run). 1 ≤ x.pages) heap.free (counts_of heap kept.partition).free_sized in
    let H = contents heap.segments (heap.used ++ front ∷ []) (others ++ rest_of run n) in
    let begins = fresh_begins H heap.used others front whole some sized_used sized_free
    (λ test e. omega (arith, sum_by_push (λ x. cond {A = ℕ} (test x) 1 0) heap.used front, one_if (test front) e, sum_by-append (λ x. cond {A = ℕ} (test x) 1 0) others (rest_of run n))) in
    record {
      there = there;
      lies = All-contains (LiesWithin heap.segments) (heap.used ++ front ∷ []) front whole.used_within (Contains-push heap.used front);
      not_free = begins.1;
      not_used = begins.0;
      small = omega (arith, new.1.whole, new.1.small, sum_by_push (λ (x : Run). x.pages) heap.used front);
      end = omega (arith, kept.small, kept.size, free_end-le-size heap (counts_of heap kept.partition) run there);
      low = new.0;
      kept = new.1;
      back_lies = λ more.
          All-contains (LiesWithin heap.segments) (others ++ back_of run n ∷ []) (back_of run n) (subst (λ ys. All (LiesWithin heap.segments) (others ++ ys)) (rest_is more) whole.free_within) (Contains-push others (back_of run n));
      back_not_free = λ more. (back_begins more).1;
      back_not_used = λ more. (back_begins more).0;
      back_small = λ more.
          omega (
            arith,
            new.1.whole,
            new.1.small,
            sum_by-append (λ (x : Run). x.pages) others (rest_of run n),
            ap {B = ℕ} pages_of (rest_is more),
          );
    }
  where
    rest_is : n < run.pages → rest_of run n ≡ back_of run n ∷ []
    rest_is more =
        elim (rest_cases run n (omega (arith, more))) [
          | inl (low, is) ↦ is
          | inr (same, none) ↦ absurd (omega (arith, more, ap {B = ℕ} (λ (x : Run). x.pages) same))
        ]

    back_begins : n < run.pages
        → All (λ x. begins_at run.segment (run.first + n) x ≡ false) (heap.used ++ front_of run n ∷ [])
        × All (λ x. begins_at run.segment (run.first + n) x ≡ false) (filter (λ x. not (is_run run x)) heap.free)
    back_begins more =
        let there = pick_there heap.free n slack run picked in
        let fits_in : n ≤ run.pages = pick_has_pages heap.free n slack run picked in
        let others = filter (λ x. not (is_run run x)) heap.free in
        let front = front_of run n in
        let back = back_of run n in
        let once = is_run-once heap (counts_of heap kept.partition) run (omega (arith, some, fits_in)) in
        let itself : is_run run run ≡ true = and_from _ _ (eq-eqb run.segment run.segment refl) (and_from _ _ (eq-eqb run.first run.first refl) (eq-eqb run.pages run.pages refl)) in
        let new = IsSoundHeap-carved heap.segments heap.used heap.free others (heap.used ++ front ∷ []) run n pages free_pages kept (run_taken heap.free run once there itself) (pushed heap.used front) some fits_in in
        let whole : IsPartition (contents heap.segments (heap.used ++ front ∷ []) (others ++ back ∷ [])) = subst (λ ys. IsPartition (contents heap.segments (heap.used ++ front ∷ []) (others ++ ys))) (rest_is more) new.1.partition in
        let sized_free : All (λ (x : Run). 1 ≤ x.pages) others = All-filter (λ x. not (is_run run x)) (λ (x : Run). 1 ≤ x.pages) heap.free (counts_of heap kept.partition).free_sized in
        fresh_begins (contents heap.segments (heap.used ++ front ∷ []) (others ++ back ∷ [])) (heap.used ++ front ∷ []) others back whole (omega (arith, more)) (counts_of _ whole).used_sized sized_free
        (λ test e. omega (arith, sum_by_push (λ x. cond {A = ℕ} (test x) 1 0) others back, one_if (test back) e))

-- a span that is cut in two

pub record CanCut (heap : Contents) (others : List Run) (span : Run) (n pages free_pages : ℕ) : Type 0 where
  pub kept : IsSoundHeap (contents heap.segments (others ++ front_of span n ∷ [] ++ back_of span n ∷ []) heap.free) pages free_pages
  pub lies : LiesWithin heap.segments (front_of span n)
  pub not_free : All (λ x. begins_at span.segment span.first x ≡ false) heap.free
  pub not_used : All (λ x. begins_at span.segment span.first x ≡ false) others
  pub small : pages_of others + n < 2 ^ 32
  pub back_lies : LiesWithin heap.segments (back_of span n)
  pub back_not_free : All (λ x. begins_at span.segment (span.first + n) x ≡ false) heap.free
  pub back_not_used : All (λ x. begins_at span.segment (span.first + n) x ≡ false) (others ++ front_of span n ∷ [])
  pub back_small : pages_of (others ++ front_of span n ∷ []) + (span.pages - n) < 2 ^ 32
  pub end : span.first + span.pages < 2 ^ 32

pub can_cut : (heap : Contents) (others : List Run) (span : Run) (n pages free_pages : ℕ) → IsSoundHeap heap pages free_pages → Contains heap.used span → IsPermutation heap.used (span ∷ others)
    → 1 ≤ n → n < span.pages → CanCut heap others span n pages free_pages
can_cut heap others span n pages free_pages kept there taken some more =
    let front = front_of span n in
    let back = back_of span n in
    let new = IsSoundHeap-cut heap.segments heap.used heap.free (others ++ front ∷ [] ++ back ∷ []) span n pages free_pages kept (cut_in_two heap.used others span front back taken) some more in
    let H = contents heap.segments (others ++ front ∷ [] ++ back ∷ []) heap.free in
    let whole = new.partition in
    let sized : All (λ (x : Run). 1 ≤ x.pages) others = All-tail (λ (x : Run). 1 ≤ x.pages) span others (All-permutation (λ (x : Run). 1 ≤ x.pages) heap.used (span ∷ others) taken (counts_of heap kept.partition).used_sized) in
    let sized_free : All (λ (x : Run). 1 ≤ x.pages) heap.free = (counts_of heap kept.partition).free_sized in
    let begins = fresh_begins H others heap.free front whole some sized sized_free
    (λ test e. omega (arith, one_if (test front) e, sum_by_push (λ x. cond {A = ℕ} (test x) 1 0) others front, sum_by_push (λ x. cond {A = ℕ} (test x) 1 0) (others ++ front ∷ []) back)) in
    let back_begins = fresh_begins H (others ++ front ∷ []) heap.free back whole (omega (arith, more)) (sized_push others front sized some) sized_free
    (λ test e. omega (arith, one_if (test back) e, sum_by_push (λ x. cond {A = ℕ} (test x) 1 0) (others ++ front ∷ []) back)) in
    record {
      kept = new;
      lies = All-contains (LiesWithin heap.segments) (others ++ front ∷ [] ++ back ∷ []) front whole.used_within (Contains-append_left (others ++ front ∷ []) (back ∷ []) front (Contains-push others front));
      not_free = begins.1;
      not_used = begins.0;
      small = omega (arith, new.whole, new.small, sum_by_push (λ (x : Run). x.pages) others front, sum_by_push (λ (x : Run). x.pages) (others ++ front ∷ []) back);
      back_lies = All-contains (LiesWithin heap.segments) (others ++ front ∷ [] ++ back ∷ []) back whole.used_within (Contains-push (others ++ front ∷ []) back);
      back_not_free = back_begins.1;
      back_not_used = back_begins.0;
      back_small = omega (arith, new.whole, new.small, sum_by_push (λ (x : Run). x.pages) (others ++ front ∷ []) back);
      end = omega (arith, kept.small, kept.size, used_end-le-size heap (counts_of heap kept.partition) span there);
    }
  where
    sized_push : (runs : List Run) (run : Run) → All (λ (x : Run). 1 ≤ x.pages) runs → 1 ≤ run.pages → All (λ (x : Run). 1 ≤ x.pages) (runs ++ run ∷ [])
    sized_push runs run all one = All-permutation (λ (x : Run). 1 ≤ x.pages) (run ∷ runs) (runs ++ run ∷ []) (pushed runs run) (All-cons (λ (x : Run). 1 ≤ x.pages) run runs one all)

-- a span that is freed

pub beside_one : (heap : Contents) (span : Run) → IsPartition heap
    → (count_by (ends_at span.segment span.first) heap.free ≤ 1) × (count_by (begins_at span.segment (span.first + span.pages)) heap.free ≤ 1)
beside_one heap span whole = (omega (arith, whole.apart span.segment span.first), omega (arith, whole.apart span.segment (span.first + span.pages)))

-- taking one run out leaves at most one of another kind
pub one_left : (p q : Run → Bool) (runs : List Run) → count_by p runs ≤ 1 → count_by p (filter q runs) ≤ 1
one_left p q runs few = omega (arith, few, sum_by-filter-le' p q runs)
  where
    sum_by-filter-le' : (p q : Run → Bool) (runs : List Run) → count_by p (filter q runs) ≤ count_by p runs
    sum_by-filter-le' p q runs = sum_by-filter-le (λ x. cond {A = ℕ} (p x) 1 0) q runs

-- no run that ends where a span begins begins where the span ends
pub filter_past : (p q : Run → Bool) (runs : List Run) → ((run : Run) → p run ≡ true → q run ≡ true) → filter p (filter q runs) ≡ filter p runs
filter_past p q [] passes = refl
filter_past p q (run ∷ runs) passes = go (p run) (q run) refl refl (filter_past p q runs passes)
  where
    go : (a b : Bool) → p run ≡ a → q run ≡ b → filter p (filter q runs) ≡ filter p runs
        → filter p (cond b (run ∷ filter q runs) (filter q runs)) ≡ cond a (run ∷ filter p runs) (filter p runs)
    go true true is also rest = rw is (ap (λ ys. run ∷ ys) rest)
    go true false is also rest = absurd (both_ways (q run) also (passes run is))
    go false true is also rest = rw is rest
    go false false is also rest = rest

pub filter_both_out : (p q : Run → Bool) (runs : List Run) → filter (λ x. not (q x)) (filter (λ x. not (p x)) runs) ≡ filter (λ x. not (p x || q x)) runs
filter_both_out p q [] = refl
filter_both_out p q (run ∷ runs) = go (p run) (q run) refl refl (filter_both_out p q runs)
  where
    go : (a b : Bool) → p run ≡ a → q run ≡ b → filter (λ x. not (q x)) (filter (λ x. not (p x)) runs) ≡ filter (λ x. not (p x || q x)) runs
        → filter (λ x. not (q x)) (cond (not a) (run ∷ filter (λ x. not (p x)) runs) (filter (λ x. not (p x)) runs)) ≡ cond (not (a || b)) (run ∷ filter (λ x. not (p x || q x)) runs) (filter (λ x. not (p x || q x)) runs)
    go true b is also rest = rest
    go false true is also rest = rw also rest
    go false false is also rest = rw also (ap (λ ys. run ∷ ys) rest)

pub behind_same : (runs : List Run) (span : Run) → 1 ≤ span.pages → pages_behind (filter (λ x. not (ends_at span.segment span.first x)) runs) span ≡ pages_behind runs span
behind_same runs span sized =
    ap {B = ℕ} pages_of
    (filter_past (begins_at span.segment (span.first + span.pages)) (λ x. not (ends_at span.segment span.first x)) runs
    (λ run begins. elim (cases_Bool (ends_at span.segment span.first run)) [
      | inl ends ↦ absurd (both_ways _ (ends_before_it span sized run ends) begins)
      | inr not_ends ↦ ap not not_ends
    ]))

pub record CanFree (heap : Contents) (others : List Run) (span : Run) (pages free_pages : ℕ) : Type 0 where
  pub begins : pages_before heap.free span ≤ span.first
  pub sized : 1 ≤ span.pages
  pub fits : pages_before heap.free span + span.pages + pages_behind heap.free span < 2 ^ 32
  pub kept : IsSoundHeap (contents heap.segments others (freed heap.free span)) pages (free_pages + span.pages)
  pub lies : LiesWithin heap.segments (joined heap.free span)
  pub not_free : All (λ x. begins_at span.segment (span.first - pages_before heap.free span) x ≡ false) (filter (λ x. not (is_beside span x)) heap.free)
  pub not_used : All (λ x. begins_at span.segment (span.first - pages_before heap.free span) x ≡ false) others
  pub small : pages_of (filter (λ x. not (is_beside span x)) heap.free) + (pages_before heap.free span + span.pages + pages_behind heap.free span) < 2 ^ 32
  pub count : free_pages + span.pages < 2 ^ 32

pub can_free : (heap : Contents) (others : List Run) (span : Run) (pages free_pages : ℕ) → IsSoundHeap heap pages free_pages → IsPermutation heap.used (span ∷ others)
    → CanFree heap others span pages free_pages
can_free heap others span pages free_pages kept taken =
    let sized_all : All (λ (x : Run). 1 ≤ x.pages) (span ∷ others) = All-permutation (λ (x : Run). 1 ≤ x.pages) heap.used (span ∷ others) taken (counts_of heap kept.partition).used_sized in
    let sized : 1 ≤ span.pages = All-head (λ (x : Run). 1 ≤ x.pages) span others sized_all in
    let new = IsSoundHeap-freed heap.segments heap.used heap.free others span pages free_pages kept taken in
    let rest = filter (λ x. not (is_beside span x)) heap.free in
    let run = joined heap.free span in
    let H = contents heap.segments others (rest ++ run ∷ []) in
    let taken_pages = sum_by-with (λ (x : Run). x.pages) heap.used others span taken in
    let free_sum = sum_by_push (λ (x : Run). x.pages) rest run in
    let begins = fresh_begins H others rest run new.partition (omega (arith, sized)) (All-tail (λ (x : Run). 1 ≤ x.pages) span others sized_all)
    (All-filter (λ x. not (is_beside span x)) (λ (x : Run). 1 ≤ x.pages) heap.free (counts_of heap kept.partition).free_sized)
    (λ test e. omega (arith, one_if (test run) e, sum_by_push (λ x. cond {A = ℕ} (test x) 1 0) rest run)) in
    record {
      begins = pages_before-le heap span (counts_of heap kept.partition);
      sized = sized;
      fits = omega (arith, kept.whole, kept.small, taken_pages, beside_fit heap.free span sized);
      kept = new;
      lies = All-contains (LiesWithin heap.segments) (rest ++ run ∷ []) run new.partition.free_within (Contains-push rest run);
      not_free = begins.1;
      not_used = begins.0;
      small = omega (arith, new.whole, new.small, free_sum);
      count = omega (arith, new.whole, new.small, new.free_count);
    }

-- what passes stays
pub passed_there : {X : Type 0} (test : X → Bool) (xs : List X) (x : X) → test x ≡ true → Contains xs x → Contains (filter test xs) x
passed_there test [] x passes (k, within, is) = absurd (omega (arith, within))
passed_there test (y ∷ xs) x passes (zero, within, is) = rw (ap test is ∙ passes) (zero, omega arith, is)
passed_there test (y ∷ xs) x passes (suc k, within, is) = go (test y) (passed_there test xs x passes (k, omega (arith, within), is))
  where
    go : (b : Bool) → Contains (filter test xs) x → Contains (cond b (y ∷ filter test xs) (filter test xs)) x
    go true (j, low, same) = (suc j, omega (arith, low), same)
    go false there = there

-- the pages of a segment
pub segment_pages : (segments : List Segment) (id pages : ℕ) → count_by (has_id id) segments ≤ 1 → Contains segments (record { id = id; pages = pages }) → size_of (filter (has_id id) segments) ≡ pages
segment_pages segments id pages few there =
    elim (filter_at_most_one (has_id id) segments few) [
      | inl none ↦ absurd (omega (arith, counted (has_id id) segments (record { id = id; pages = pages }) there (eq-eqb id id refl), length-filter (has_id id) segments, ap {B = ℕ} length none))
      | inr (x, one, is) ↦
          let (k, within, at) = passed_there (has_id id) segments (record { id = id; pages = pages }) (eq-eqb id id refl) there in
          let same = only x (record { id = id; pages = pages }) (subst (λ xs. Contains xs (record { id = id; pages = pages })) one (k, within, at)) in
          omega (arith, ap {B = ℕ} size_of one, ap {B = ℕ} (λ (s : Segment). s.pages) same)
    ]
  where
    only : (x y : Segment) → Contains (x ∷ []) y → x ≡ y
    only x y (zero, within, is) = is
    only x y (suc k, within, is) = absurd (omega (arith, within))

-- a segment that joins

pub none_there : (heap : Contents) (id : ℕ) → IsPartition heap → has_segment heap.segments id ≡ false → NoneIn id heap.used × NoneIn id heap.free
none_there heap id whole fresh = (λ k d within e. away _ (whole.used_within k d within) e, λ k d within e. away _ (whole.free_within k d within) e)
  where
    away : (run : Run) → LiesWithin heap.segments run → run.segment ≡ id → ⊥
    away run (sized, (k, segment, within, is, both)) same =
        omega (arith, count_of_absent (has_id id) heap.segments fresh, counted (has_id id) heap.segments segment (k, within, is) (eq-eqb segment.id id (both.0 ∙ same)))

pub whole_lies : (segments : List Segment) (id pages : ℕ) → 1 ≤ pages → LiesWithin (segments ++ segment_of id pages ∷ []) (whole_of id pages)
whole_lies segments id pages some =
    let (k, within, is) = Contains-push segments (segment_of id pages) in
    (some, (k, segment_of id pages, within, is, (refl, omega arith)))

pub whole_fresh : (id page : ℕ) (runs : List Run) → NoneIn id runs → All (λ x. begins_at id page x ≡ false) runs
whole_fresh id page runs none = λ k d within.
    elim (cases_Bool (begins_at id page (get_or runs k d))) [
      | inl begins ↦ absurd (none k d within (eqb-true _ id (and_parts (eqb (get_or runs k d).segment id) (eqb (get_or runs k d).first page) begins).0))
      | inr fails ↦ fails
    ]

-- the one run that passes a test

pub only_one : (p : Run → Bool) (runs : List Run) (run other : Run) → count_by p runs ≤ 1 → Contains runs run → p run ≡ true → Contains runs other → p other ≡ true → other ≡ run
only_one p runs run other few there passes there' passes' =
    elim (filter_at_most_one p runs few) [
      | inl none ↦ absurd (omega (arith, counted p runs run there passes, length-filter p runs, ap {B = ℕ} length none))
      | inr (x, one, is) ↦
          sym (alone x other (subst (λ xs. Contains xs other) one (passed_there p runs other passes' there')))
          ∙ alone x run (subst (λ xs. Contains xs run) one (passed_there p runs run passes there))
    ]
  where
    alone : (x y : Run) → Contains (x ∷ []) y → x ≡ y
    alone x y (zero, within, is) = is
    alone x y (suc k, within, is) = absurd (omega (arith, within))

pub is_run_itself : (run : Run) → is_run run run ≡ true
is_run_itself run = and_from _ _ (eq-eqb run.segment run.segment refl) (and_from _ _ (eq-eqb run.first run.first refl) (eq-eqb run.pages run.pages refl))

pub out_by_test : (p : Run → Bool) (runs : List Run) (run : Run) → count_by p runs ≤ 1 → Contains runs run → p run ≡ true
    → filter (λ x. not (is_run run x)) runs ≡ filter (λ x. not (p x)) runs
out_by_test p runs run few there passes =
    filter_same (λ x. not (is_run run x)) (λ x. not (p x)) runs (λ k d within. ap not (same (get_or runs k d) (Contains-get_or runs k d within)))
  where
    same : (x : Run) → Contains runs x → is_run run x ≡ p x
    same x there' =
        elim (cases_Bool (p x)) [
          | inl also ↦ subst (λ y. is_run run y ≡ p x) (sym (only_one p runs run x few there passes there' also)) (is_run_itself run ∙ sym also)
          | inr fails ↦
              elim (cases_Bool (is_run run x)) [
                | inl it ↦ absurd (both_ways (p x) fails (subst (λ y. p y ≡ true) (sym (is_run-true run x it)) passes))
                | inr not_it ↦ not_it ∙ sym fails
              ]
        ]

-- what is marked, and what is not

pub stays_there : (test : Run → Bool) (runs : List Run) (run : Run) → Contains (filter test runs) run → Contains runs run
stays_there test [] run there = there
stays_there test (x ∷ runs) run there = go (test x) (stays_there test runs run) there
  where
    behind : Contains runs run → Contains (x ∷ runs) run
    behind (k, within, is) = (suc k, omega (arith, within), is)

    go : (b : Bool) → (Contains (filter test runs) run → Contains runs run) → Contains (cond b (x ∷ filter test runs) (filter test runs)) run → Contains (x ∷ runs) run
    go true rest (zero, within, is) = (zero, omega arith, is)
    go true rest (suc k, within, is) = behind (rest (k, omega (arith, within), is))
    go false rest there = behind (rest there)

pub marked_run : (p : Run → Bool) (runs : List Run) (n : ℕ) → count_by p runs ≤ 1 → 1 ≤ n → n ≡ pages_of (filter p runs) → (run : Run) × Contains runs run × (p run ≡ true) × (run.pages ≡ n)
marked_run p runs n few some is =
    elim (filter_at_most_one p runs few) [
      | inl none ↦ absurd (omega (arith, some, is, ap {B = ℕ} pages_of none))
      | inr (x, one, passes) ↦
          (x, stays_there p runs x (subst (λ xs. Contains xs x) (sym one) (zero, omega arith, refl)), passes, omega (arith, is, ap {B = ℕ} pages_of one))
    ]

pub nothing_marked : (p : Run → Bool) (runs : List Run) → All (λ run. 1 ≤ run.pages) runs → pages_of (filter p runs) ≡ 0 → All (λ run. p run ≡ false) runs
nothing_marked p [] sized none = All-nil (λ run. p run ≡ false)
nothing_marked p (x ∷ runs) sized none = go (p x) refl none (nothing_marked p runs (All-tail (λ (run : Run). 1 ≤ run.pages) x runs sized))
  where
    go : (b : Bool) → p x ≡ b → pages_of (cond b (x ∷ filter p runs) (filter p runs)) ≡ 0 → (pages_of (filter p runs) ≡ 0 → All (λ run. p run ≡ false) runs) → All (λ run. p run ≡ false) (x ∷ runs)
    go true is zero_here rest = absurd (omega (arith, zero_here, All-head (λ (run : Run). 1 ≤ run.pages) x runs sized, sum_by-cons (λ (run : Run). run.pages) x (filter p runs)))
    go false is zero_here rest = All-cons (λ run. p run ≡ false) x runs is (rest zero_here)

run_by_parts : (run : Run) (segment first pages : ℕ) → run.segment ≡ segment → run.first ≡ first → run.pages ≡ pages → run ≡ record { segment = segment; first = first; pages = pages }
run_by_parts run segment first pages same_segment same_first same_pages =
    let made : ℕ → ℕ → ℕ → Run = λ s f n. record { segment = s; first = f; pages = n } in
    ap (λ s. made s run.first run.pages) same_segment ∙ (ap (λ f. made segment f run.pages) same_first ∙ ap (made segment first) same_pages)

pub record IsMarked (p : Run → Bool) (runs : List Run) (run : Run) : Type 0 where
  pub there : Contains runs run
  pub passes : p run ≡ true
  pub out : filter (λ x. not (is_run run x)) runs ≡ filter (λ x. not (p x)) runs

pub run_before : (runs : List Run) (span : Run) (n : ℕ) → count_by (ends_at span.segment span.first) runs ≤ 1 → 1 ≤ n → n ≡ pages_before runs span
    → (n ≤ span.first) × IsMarked (ends_at span.segment span.first) runs (record { segment = span.segment; first = span.first - n; pages = n })
run_before runs span n few some is =
    let p = ends_at span.segment span.first in
    let (run, there, passes, pages) = marked_run p runs n few some is in
    let parts = and_parts (eqb run.segment span.segment) (eqb (run.first + run.pages) span.first) passes in
    let end : run.first + run.pages ≡ span.first = eqb-true _ _ parts.1 in
    let same = run_by_parts run span.segment (span.first - n) n (eqb-true _ _ parts.0) (omega (arith, end, pages)) pages in
    (omega (arith, end, pages), subst (IsMarked p runs) same (record { there = there; passes = passes; out = out_by_test p runs run few there passes }))

pub run_behind : (runs : List Run) (span : Run) (n : ℕ) → count_by (begins_at span.segment (span.first + span.pages)) runs ≤ 1 → 1 ≤ n → n ≡ pages_behind runs span
    → IsMarked (begins_at span.segment (span.first + span.pages)) runs (record { segment = span.segment; first = span.first + span.pages; pages = n })
run_behind runs span n few some is =
    let p = begins_at span.segment (span.first + span.pages) in
    let (run, there, passes, pages) = marked_run p runs n few some is in
    let parts = and_parts (eqb run.segment span.segment) (eqb run.first (span.first + span.pages)) passes in
    let same = run_by_parts run span.segment (span.first + span.pages) n (eqb-true _ _ parts.0) (eqb-true _ _ parts.1) pages in
    subst (IsMarked p runs) same (record { there = there; passes = passes; out = out_by_test p runs run few there passes })

-- page by page, the runs of a segment leave

pub begin_later : (runs : List Run) (run : Run) (id page : ℕ) → count_by (begins_at id page) runs ≤ 1 → Contains runs run → begins_at id page run ≡ true → BeginFrom id page runs
    → BeginFrom id (page + 1) (filter (λ x. not (is_run run x)) runs)
begin_later runs run id page few there begins from = λ k d within e.
    let left = filter (λ x. not (is_run run x)) runs in
    let x = get_or left k d in
    let low = All-filter (λ x. not (is_run run x)) (λ (r : Run). r.segment ≡ id → page ≤ r.first) runs from k d within e in
    elim (cases_eq x.first page) [
      | inl same ↦
          let here : begins_at id page x ≡ true = and_from (eqb x.segment id) (eqb x.first page) (eq-eqb x.segment id e) (eq-eqb x.first page same) in
          let it : x ≡ run = only_one (begins_at id page) runs run x few there begins (stays_there (λ y. not (is_run run y)) runs x (Contains-get_or left k d within)) here in
          absurd (both_ways (not (is_run run x)) (ap not (subst (λ y. is_run run y ≡ true) (sym it) (is_run_itself run))) (filter_passes (λ y. not (is_run run y)) runs k d within))
      | inr other ↦ omega (arith, low, other)
    ]

pub still_dropped : (runs : List Run) (run : Run) (id page : ℕ) → begins_at id page run ≡ true → dropped (filter (λ x. not (is_run run x)) runs) id ≡ dropped runs id
still_dropped runs run id page begins =
    filter_past (λ x. not (lies_in id x)) (λ x. not (is_run run x)) runs
    (λ x away. elim (cases_Bool (is_run run x)) [
      | inl it ↦
          let lies : lies_in id x ≡ true = subst (λ y. lies_in id y ≡ true) (sym (is_run-true run x it)) (and_parts (eqb run.segment id) (eqb run.first page) begins).0 in
          absurd (both_ways (not (lies_in id x)) (ap not lies) away)
      | inr not_it ↦ ap not not_it
    ])
