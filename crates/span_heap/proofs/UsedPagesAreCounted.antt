-- A count of pages tells whether a segment has a run, and a test that one passes finds the one.
use Rattle.std.proofs.Common.{◌≡◌, ◌≢◌, ℕ, zero, suc, ◌<◌, ◌≤◌, Bool, true, cond, eqb, List, [], ◌∷◌, length, get_or, refl, sym, ap, arith}
use Rattle.std.specs.List.{sum_by, count_by, All}
use Rattle.std.proofs.lemmas.List.Sums.{sum_by-cons, get_or-le-sum_by}
use Rattle.std.proofs.lemmas.List.Elements.{All-head, All-tail, Contains-get_or}
use Rattle.std.proofs.lemmas.Bool.{eq-eqb, ne_eqb}
use Rattle.span_heap.specs.declared.run.Run.{Run}
use Rattle.span_heap.specs.Segment.{pages_in}
use Rattle.span_heap.specs.Changes.{NoneIn}
use Rattle.span_heap.proofs.Sums.{counted}
use Rattle.span_heap.proofs.PartitionByCounts.{one_if}
use Rattle.span_heap.proofs.CountsAreKept.{pages_there, pages_in-is}

-- at most one element passes, so two that pass stand at one place
pub one_place : {X : Type 0} (p : X → Bool) (xs : List X) (j k : ℕ) (d : X) → count_by p xs ≤ 1 → j < length xs → k < length xs → p (get_or xs j d) ≡ true → p (get_or xs k d) ≡ true → j ≡ k
one_place p [] j k d once within here first second = absurd (omega arith)
one_place p (x ∷ xs) zero zero d once within here first second = refl
one_place p (x ∷ xs) zero (suc k) d once within here first second =
    absurd (omega (arith, once, sum_by-cons (λ y. cond {A = ℕ} (p y) 1 0) x xs, one_if (p x) first, counted p xs (get_or xs k d) (Contains-get_or xs k d (omega arith)) second))
one_place p (x ∷ xs) (suc j) zero d once within here first second =
    absurd (omega (arith, once, sum_by-cons (λ y. cond {A = ℕ} (p y) 1 0) x xs, one_if (p x) second, counted p xs (get_or xs j d) (Contains-get_or xs j d (omega arith)) first))
one_place p (x ∷ xs) (suc j) (suc k) d once within here first second =
    ap suc (one_place p xs j k d (omega (arith, once, sum_by-cons (λ y. cond {A = ℕ} (p y) 1 0) x xs)) (omega arith) (omega arith) first second)

nothing_elsewhere : (other id n : ℕ) → other ≢ id → cond {A = ℕ} (eqb id other) n 0 ≡ 0
nothing_elsewhere other id n apart = ap {B = ℕ} (λ b. cond b n 0) (ne_eqb id other (λ e. apart (sym e)))

pub none_in : (id : ℕ) (runs : List Run) → All (λ run. 1 ≤ run.pages) runs → pages_in id runs ≡ 0 → NoneIn id runs
none_in id runs sized none = λ k d within same.
    let run : Run = get_or runs k d in
    absurd (omega (arith, none, pages_in-is id runs, sized k d within, term run same, there k d within))
  where
    term : (run : Run) → run.segment ≡ id → pages_there id run ≡ run.pages
    term run same = ap {B = ℕ} (λ b. cond b run.pages 0) (eq-eqb run.segment id same)

    there : (k : ℕ) (d : Run) → k < length runs → pages_there id (get_or runs k d) ≤ sum_by (pages_there id) runs
    there k d within = get_or-le-sum_by (pages_there id) runs k d within

pub pages_of_none : (id : ℕ) (runs : List Run) → NoneIn id runs → pages_in id runs ≡ 0
pages_of_none id [] none = refl
pages_of_none id (run ∷ runs) none =
    omega (
      arith,
      pages_in-is id (run ∷ runs),
      pages_in-is id runs,
      sum_by-cons (pages_there id) run runs,
      nothing_elsewhere id run.segment run.pages (λ e. All-head (λ (x : Run). x.segment ≢ id) run runs none (sym e)),
      pages_of_none id runs (All-tail (λ (x : Run). x.segment ≢ id) run runs none),
    )
