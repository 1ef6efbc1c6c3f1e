-- The partition by counts alone, and what it says of single runs.
use Rattle.std.proofs.Common.{◌≡◌, ℕ, ◌<◌, Bool, true, List, length, get_or, Some, None, refl, sym, ◌∙◌, ap, subst, arith, ◌↔◌, inl, inr, eqb, ◌+◌, ◌-◌, ◌≤◌, false, cond, [], ◌∷◌}
use Rattle.std.specs.List.{Contains, list_any, count_by, All, sum_by}
use Rattle.std.proofs.lemmas.List.Folds.{Any-from_list_any, list_any-from_Any}
use Rattle.std.proofs.lemmas.List.Sums.{sum_by-cons}
use Rattle.std.proofs.lemmas.Bool.{and_parts, and_from, eqb-true, eq-eqb, lt-ltb, cond-true, le-leb, ltb-true, or_parts, cases_Bool}
use Rattle.span_heap.specs.declared.run.Run.{Run}
use Rattle.span_heap.specs.Run.{is_run, has_page, begins_at, ends_at, lies_in, pages_of}
use Rattle.std.proofs.lemmas.List.Elements.{Contains-get_or, All-head, All-tail, All-contains}
use Rattle.span_heap.specs.Heap.{Contents, IsPartition, LiesWithin, has_id, holds_page, size_of}
use Rattle.span_heap.proofs.Sums.{count_by-le-count_by, counted}
use Rattle.std.specs.List.Sorted.{IsPermutation}
use Rattle.std.proofs.lemmas.List.Sorted.{sum_by-IsPermutation}
use Rattle.span_heap.specs.Segment.{Segment}

some_is_not_none : (n : ℕ) → Some n ≡ None → ⊥
some_is_not_none n e = cc

pub is_run-same : (run : Run) → is_run run run ≡ true
is_run-same run =
    and_from _ _ (eq-eqb run.segment run.segment refl) (and_from _ _ (eq-eqb run.first run.first refl) (eq-eqb run.pages run.pages refl))

pub is_run-true : (run other : Run) → is_run run other ≡ true → other ≡ run
is_run-true run other same =
    let parts = and_parts (eqb other.segment run.segment) _ same in
    let places = and_parts (eqb other.first run.first) _ parts.1 in
    let a = eqb-true _ _ parts.0 in
    let b = eqb-true _ _ places.0 in
    let d = eqb-true _ _ places.1 in
    let at : ℕ → ℕ → ℕ → Run = λ s f n. record { segment = s; first = f; pages = n } in
    ap (λ s. at s other.first other.pages) a ∙ (ap (λ f. at run.segment f other.pages) b ∙ ap (λ n. at run.segment run.first n) d)

-- a list's own search answers whether the run stands there
pub stands_there : (runs : List Run) (run : Run) (found : Bool) → found ≡ list_any (is_run run) runs → (found ≡ true) ↔ Contains runs run
stands_there runs run found is = (
  λ e.
      let (k, other, within, at, same) = Any-from_list_any (is_run run) runs (sym is ∙ e) in
      let it = is_run-true run other same in
      (k, within, subst (λ x. get_or runs k x ≡ x) it at),
  λ there. is ∙ list_any-from_Any (is_run run) runs (there.0, run, there.1, there.2, is_run-same run),
)

pub record IsCounted (heap : Contents) : Type 0 where
  pub once : (id page : ℕ) → count_by (has_page id page) heap.used + count_by (has_page id page) heap.free ≡ count_by (holds_page id page) heap.segments
  pub distinct : (id : ℕ) → count_by (has_id id) heap.segments ≤ 1
  pub used_sized : All (λ run. 1 ≤ run.pages) heap.used
  pub free_sized : All (λ run. 1 ≤ run.pages) heap.free
  pub apart : (id page : ℕ) → count_by (ends_at id page) heap.free + count_by (begins_at id page) heap.free ≤ 1

-- what no element passes is counted nowhere
pub count_of_absent : {X : Type 0} (p : X → Bool) (xs : List X) → list_any p xs ≡ false → count_by p xs ≡ 0
count_of_absent p [] absent = refl
count_of_absent p (x ∷ xs) absent =
    let parts = or_parts (p x) (list_any p xs) absent in
    sum_by-cons (λ y. cond {A = ℕ} (p y) 1 0) x xs ∙ (ap (λ b. cond {A = ℕ} b 1 0 + count_by p xs) parts.0 ∙ (omega (arith, count_of_absent p xs parts.1)))

-- what some element passes is counted
pub count_of_present : {X : Type 0} (p : X → Bool) (xs : List X) → list_any p xs ≡ true → 1 ≤ count_by p xs
count_of_present p xs present =
    let (k, x, within, is, passes) = Any-from_list_any p xs present in
    counted p xs x (k, within, is) passes

-- what is counted some element passes
pub counted_somewhere : {X : Type 0} (p : X → Bool) (xs : List X) → 1 ≤ count_by p xs → list_any p xs ≡ true
counted_somewhere p xs some =
    elim (cases_Bool (list_any p xs)) [ inl present ↦ present | inr absent ↦ absurd (omega (arith, count_of_absent p xs absent)) ]

count_is_any : {X : Type 0} (p : X → Bool) (xs : List X) → count_by p xs ≤ 1 → (b : Bool) → list_any p xs ≡ b → count_by p xs ≡ cond {A = ℕ} b 1 0
count_is_any p xs few true present = omega (arith, few, count_of_present p xs present)
count_is_any p xs few false absent = count_of_absent p xs absent

-- a page is held by one segment at most
pub held_once : (heap : Contents) → ((id : ℕ) → count_by (has_id id) heap.segments ≤ 1) → (id page : ℕ) → count_by (holds_page id page) heap.segments ≤ 1
held_once heap distinct id page =
    omega (
      arith,
      distinct id,
      count_by-le-count_by (λ _. Unit {0}) (holds_page id page) (has_id id) heap.segments (λ k d w. tt) (λ segment w e. (and_parts _ _ e).0),
    )

-- a run has each page from its first up to its end
pub has_page-within : (run : Run) (page : ℕ) → run.first ≤ page → page < run.first + run.pages → has_page run.segment page run ≡ true
has_page-within run page low high =
    and_from _ _ (eq-eqb run.segment run.segment refl) (and_from _ _ (le-leb run.first page low) (lt-ltb page (run.first + run.pages) high))

-- the segment that holds the last page of a run has the run within it
lies_within : (heap : Contents) → IsCounted heap → (run : Run) → 1 ≤ run.pages
    → ((p : Run → Bool) → p run ≡ true → 1 ≤ count_by p heap.used + count_by p heap.free) → LiesWithin heap.segments run
lies_within heap whole run sized there =
    let last = run.first + run.pages - 1 in
    let covered = there (has_page run.segment last) (has_page-within run last (omega arith) (omega arith)) in
    let (k, segment, within, is, holds) = Any-from_list_any (holds_page run.segment last) heap.segments (counted_somewhere (holds_page run.segment last) heap.segments (omega (arith, covered, whole.once run.segment last))) in
    let parts = and_parts (eqb segment.id run.segment) _ holds in
    (sized, (k, segment, within, is, (eqb-true segment.id run.segment parts.0, omega (arith, ltb-true last segment.pages parts.1))))

pub partition_from : (heap : Contents) → IsCounted heap → IsPartition heap
partition_from heap whole =
    record {
      once = λ id page. whole.once id page ∙ count_is_any (holds_page id page) heap.segments (held_once heap whole.distinct id page) (list_any (holds_page id page) heap.segments) refl;
      distinct = whole.distinct;
      used_within = λ k d within.
          let run = get_or heap.used k d in
          lies_within heap whole run (whole.used_sized k d within) (λ p e. omega (arith, counted p heap.used run (Contains-get_or heap.used k d within) e));
      free_within = λ k d within.
          let run = get_or heap.free k d in
          lies_within heap whole run (whole.free_sized k d within) (λ p e. omega (arith, counted p heap.free run (Contains-get_or heap.free k d within) e));
      apart = λ id page. omega (arith, whole.apart id page);
    }

pub counts_of : (heap : Contents) → IsPartition heap → IsCounted heap
counts_of heap whole =
    record {
      once = λ id page. whole.once id page ∙ sym (count_is_any (holds_page id page) heap.segments (held_once heap whole.distinct id page) (list_any (holds_page id page) heap.segments) refl);
      distinct = whole.distinct;
      used_sized = λ k d within. (whole.used_within k d within).0;
      free_sized = λ k d within. (whole.free_within k d within).0;
      apart = λ id page. omega (arith, whole.apart id page);
    }

-- a sum over a list that one run leaves
pub sum_by-with : (f : Run → ℕ) (runs others : List Run) (run : Run) → IsPermutation runs (run ∷ others) → f run + sum_by f others ≡ sum_by f runs
sum_by-with f runs others run taken = sym (sum_by-cons f run others) ∙ sum_by-IsPermutation f runs (run ∷ others) taken

pub sum_by-given : (f : Run → ℕ) (runs more : List Run) (run : Run) → IsPermutation (run ∷ runs) more → sum_by f more ≡ f run + sum_by f runs
sum_by-given f runs more run given = sum_by-IsPermutation f (run ∷ runs) more given ∙ sum_by-cons f run runs

pub one_if : (b : Bool) → b ≡ true → cond {A = ℕ} b 1 0 ≡ 1
one_if b e = cond-true {A = ℕ} b 1 0 e

-- no page is covered twice
pub at_most_once : (heap : Contents) → IsCounted heap → (id page : ℕ) → count_by (has_page id page) heap.used + count_by (has_page id page) heap.free ≤ 1
at_most_once heap whole id page = omega (arith, whole.once id page, held_once heap whole.distinct id page)

-- a run that begins at a page has it
pub begins-le-pages : (id page : ℕ) (runs : List Run) → All (λ run. 1 ≤ run.pages) runs → count_by (begins_at id page) runs ≤ count_by (has_page id page) runs
begins-le-pages id page runs sized =
    count_by-le-count_by (λ run. 1 ≤ run.pages) (begins_at id page) (has_page id page) runs sized (λ run here begins.
    let first : run.first ≡ page = eqb-true run.first page (and_parts (lies_in id run) _ begins).1 in
    and_from _ _ (and_parts _ _ begins).0 (and_from _ _ (le-leb run.first page (omega arith)) (lt-ltb page (run.first + run.pages) (omega arith))))

-- a run that ends at a page has the one before
pub ends-le-pages : (id page : ℕ) (runs : List Run) → All (λ run. 1 ≤ run.pages) runs → count_by (ends_at id page) runs ≤ count_by (has_page id (page - 1)) runs
ends-le-pages id page runs sized =
    count_by-le-count_by (λ run. 1 ≤ run.pages) (ends_at id page) (has_page id (page - 1)) runs sized (λ run here ends.
    let end : run.first + run.pages ≡ page = eqb-true (run.first + run.pages) page (and_parts (lies_in id run) _ ends).1 in
    and_from _ _ (and_parts _ _ ends).0 (and_from _ _ (le-leb run.first (page - 1) (omega arith)) (lt-ltb (page - 1) (run.first + run.pages) (omega arith))))

-- each run has a page, so there are no more runs than pages
pub length-le-pages_of : (runs : List Run) → All (λ run. 1 ≤ run.pages) runs → length runs ≤ pages_of runs
length-le-pages_of [] sized = omega arith
length-le-pages_of (run ∷ runs) sized =
    omega (
      arith,
      sum_by-cons (λ (x : Run). x.pages) run runs,
      All-head (λ (x : Run). 1 ≤ x.pages) run runs sized,
      length-le-pages_of runs (All-tail (λ (x : Run). 1 ≤ x.pages) run runs sized),
    )

-- a page that a segment holds is below the size of all segments
page_below_size_step : (id page : ℕ) (segment : Segment) (segments : List Segment) (b : Bool) → holds_page id page segment ≡ b
    → (1 ≤ count_by (holds_page id page) segments → page < size_of segments)
    → 1 ≤ cond {A = ℕ} b 1 0 + count_by (holds_page id page) segments → page < segment.pages + size_of segments
page_below_size_step id page segment segments true is rest some = omega (arith, ltb-true page segment.pages (and_parts _ _ is).1)
page_below_size_step id page segment segments false is rest some = omega (arith, rest (omega arith))

page_below_size : (id page : ℕ) (segments : List Segment) → 1 ≤ count_by (holds_page id page) segments → page < size_of segments
page_below_size id page [] some = absurd (omega arith)
page_below_size id page (segment ∷ segments) some =
    rw (sum_by-cons (λ (x : Segment). x.pages) segment segments)
    (page_below_size_step id page segment segments (holds_page id page segment) refl (page_below_size id page segments)
    (rw (sum_by-cons (λ (x : Segment). cond {A = ℕ} (holds_page id page x) 1 0) segment segments) at some))

-- each run lies within its segment, so its end is no greater than the size of all segments
end-le-size : (heap : Contents) → IsCounted heap → (run : Run) → 1 ≤ run.pages
    → ((p : Run → Bool) → p run ≡ true → 1 ≤ count_by p heap.used + count_by p heap.free) → run.first + run.pages ≤ size_of heap.segments
end-le-size heap whole run sized there =
    let last = run.first + run.pages - 1 in
    let covered = there (has_page run.segment last) (has_page-within run last (omega arith) (omega arith)) in
    omega (arith, page_below_size run.segment last heap.segments (omega (arith, covered, whole.once run.segment last)))

pub used_end-le-size : (heap : Contents) → IsCounted heap → (run : Run) → Contains heap.used run → run.first + run.pages ≤ size_of heap.segments
used_end-le-size heap whole run there =
    end-le-size heap whole run (All-contains (λ x. 1 ≤ x.pages) heap.used run whole.used_sized there) (λ p e. omega (arith, counted p heap.used run there e))

pub free_end-le-size : (heap : Contents) → IsCounted heap → (run : Run) → Contains heap.free run → run.first + run.pages ≤ size_of heap.segments
free_end-le-size heap whole run there =
    end-le-size heap whole run (All-contains (λ x. 1 ≤ x.pages) heap.free run whole.free_sized there) (λ p e. omega (arith, counted p heap.free run there e))

-- a run that stands in a list stands in it once, where no page is covered twice
pub is_run-once : (heap : Contents) → IsCounted heap → (run : Run) → 1 ≤ run.pages → count_by (is_run run) heap.free ≤ 1
is_run-once heap whole run sized =
    omega (
      arith,
      at_most_once heap whole run.segment run.first,
      count_by-le-count_by (λ _. Unit {0}) (is_run run) (has_page run.segment run.first) heap.free (λ k d w. tt) (λ other w same.
          rw (is_run-true run other same) (has_page-within run run.first (omega arith) (omega arith))),
    )
