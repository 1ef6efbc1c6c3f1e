-- The run that a search takes, and that it finds none exactly where none fits.
use Rattle.std.proofs.Common.{◌≡◌, ℕ, ◌+◌, ◌<◌, ◌≤◌, min, Bool, true, false, not, ◌&&◌, cond, ltb, eqb, List, [], ◌∷◌, ◌++◌, length, get_or, slice_get, Option, Some, None, refl, sym, ◌∙◌, ap, subst, arith, inl, inr, zero, suc, reverse, ◌↔◌}
use Rattle.std.specs.List.{filter, find, remove, count_by, All, list_any}
use Rattle.std.proofs.lemmas.List.{reverse-append}
use Rattle.std.proofs.lemmas.List.Elements.{filter-append, Contains-get_or, All-head, All-tail, All-cons, All-nil, All-weaker}
use Rattle.std.proofs.lemmas.Option.{get_or_from_slice_get}
use Rattle.std.proofs.lemmas.Bool.{lt-ltb, le-leb, lt-leb, eq-eqb, ne_eqb, and_left, and_right, and_from, not_from_true, not_from_false, cases_lt, and_parts, leb-true, both_ways, cases_Bool, or_left, or_right, le-ltb, ltb-true, ltb-false}
use Rattle.span_heap.specs.declared.run.Run.{Run}
use Rattle.span_heap.specs.Pick.{fits, is_long, least_length, exact_length, latest, pick}
use Rattle.std.proofs.lemmas.List.Sums.{sum_by-cons}
use Rattle.span_heap.specs.Run.{is_run}
use Rattle.span_heap.proofs.Sums.{counted}
use Rattle.span_heap.proofs.PartitionByCounts.{one_if, is_run-same}
use Rattle.std.proofs.lemmas.List.Sorted.{IsPermutation-reverse, IsPermutation-sym, All-permutation}
use Rattle.std.proofs.lemmas.List.Folds.{list_any_none}

pub latest_push : (test : Run → Bool) (runs : List Run) (run : Run) → latest test (runs ++ run ∷ []) ≡ cond (test run) (Some run) (latest test runs)
latest_push test runs run = ap (find test) (reverse-append runs (run ∷ []))

pub least_length-bound : (runs : List Run) → least_length runs ≤ 256
least_length-bound [] = omega arith
least_length-bound (run ∷ runs) = omega (arith, least_length-bound runs)

least_length-append : (runs others : List Run) → least_length (runs ++ others) ≡ min (least_length runs) (least_length others)
least_length-append [] others = omega (arith, least_length-bound others)
least_length-append (run ∷ runs) others = omega (arith, least_length-append runs others)

exact_length_push : (runs : List Run) (run : Run) (n slack : ℕ) (exact : Bool) → (fits n slack run && not (is_long run)) ≡ exact
    → exact_length (runs ++ run ∷ []) n slack ≡ min (exact_length runs n slack) (least_length (cond exact (run ∷ []) []))
exact_length_push runs run n slack exact is =
    let test : Run → Bool = λ x. fits n slack x && not (is_long x) in
    ap least_length (filter-append test runs (run ∷ []))
    ∙ (least_length-append (filter test runs) (filter test (run ∷ []))
    ∙ ap (λ b. min (exact_length runs n slack) (least_length (cond b (run ∷ []) []))) is)

-- what a search takes, by the least exact length
abbrev pick_by : List Run → ℕ → ℕ → ℕ → Option Run
pick_by runs n slack length =
    cond (ltb length 256) (latest (λ run. fits n slack run && eqb run.pages length) runs) (latest (λ run. fits n slack run && is_long run) runs)

pick_by_push : (runs : List Run) (run : Run) (n slack length : ℕ)
    → pick_by (runs ++ run ∷ []) n slack length
    ≡ cond (ltb length 256)
    (cond (fits n slack run && eqb run.pages length) (Some run) (latest (λ run. fits n slack run && eqb run.pages length) runs))
    (cond (fits n slack run && is_long run) (Some run) (latest (λ run. fits n slack run && is_long run) runs))
pick_by_push runs run n slack length =
    rw (latest_push (λ run. fits n slack run && eqb run.pages length) runs run, latest_push (λ run. fits n slack run && is_long run) runs run) refl

-- the run fits, and no fitting run before it has a lesser length: it is taken
pub takes_fitting : (runs : List Run) (run : Run) (n slack : ℕ) → fits n slack run ≡ true → min run.pages 256 ≤ exact_length runs n slack
    → (exact_length (runs ++ run ∷ []) n slack ≡ min run.pages 256) × (pick (runs ++ run ∷ []) n slack ≡ Some run)
takes_fitting runs run n slack fit least =
    elim (cases_lt run.pages 256) [
      | inl short ↦
          let exact = exact_length_push runs run n slack true (and_from _ _ fit (not_from_false (is_long run) (lt-leb 256 run.pages short))) in
          let now : exact_length (runs ++ run ∷ []) n slack ≡ run.pages = omega (arith, exact) in
          (omega (arith, now), ap (pick_by (runs ++ run ∷ []) n slack) now ∙ (pick_by_push runs run n slack run.pages ∙ rw (lt-ltb run.pages 256 short, fit, eq-eqb run.pages run.pages refl) refl))
      | inr long ↦
          let exact = exact_length_push runs run n slack false (and_right _ _ (not_from_true (is_long run) (le-leb 256 run.pages long))) in
          let bound = least_length-bound (filter (λ x. fits n slack x && not (is_long x)) runs) in
          let now : exact_length (runs ++ run ∷ []) n slack ≡ 256 = omega (arith, exact, bound) in
          (omega (arith, now), ap (pick_by (runs ++ run ∷ []) n slack) now ∙ (pick_by_push runs run n slack 256 ∙ rw (fit, le-leb 256 run.pages long) refl))
    ]

-- the run does not fit: nothing changes
pub skips_unfitting : (runs : List Run) (run : Run) (n slack : ℕ) → fits n slack run ≡ false
    → (exact_length (runs ++ run ∷ []) n slack ≡ exact_length runs n slack) × (pick (runs ++ run ∷ []) n slack ≡ pick runs n slack)
skips_unfitting runs run n slack unfit =
    let exact = exact_length_push runs run n slack false (and_left _ _ unfit) in
    let bound = least_length-bound (filter (λ x. fits n slack x && not (is_long x)) runs) in
    let now : exact_length (runs ++ run ∷ []) n slack ≡ exact_length runs n slack = omega (arith, exact, bound) in
    (now, ap (pick_by (runs ++ run ∷ []) n slack) now ∙ (pick_by_push runs run n slack (exact_length runs n slack) ∙ rw unfit refl))

-- a fitting run before it has a lesser length: nothing changes
pub skips_longer : (runs : List Run) (run : Run) (n slack : ℕ) → exact_length runs n slack < min run.pages 256
    → (exact_length (runs ++ run ∷ []) n slack ≡ exact_length runs n slack) × (pick (runs ++ run ∷ []) n slack ≡ pick runs n slack)
skips_longer runs run n slack longer =
    let now = same_length (fits n slack run && not (is_long run)) (exact_length_push runs run n slack _ refl) in (
      now,
      ap (pick_by (runs ++ run ∷ []) n slack) now
          ∙ (pick_by_push runs run n slack (exact_length runs n slack)
          ∙ rw (and_right (fits n slack run) _ (ne_eqb run.pages (exact_length runs n slack) (λ e. omega arith)), lt-ltb (exact_length runs n slack) 256 (omega arith)) refl),
    )
  where
    same_length : (exact : Bool) → exact_length (runs ++ run ∷ []) n slack ≡ min (exact_length runs n slack) (least_length (cond exact (run ∷ []) [])) → exact_length (runs ++ run ∷ []) n slack ≡ exact_length runs n slack
    same_length true e = omega (arith, e)
    same_length false e = omega (arith, e)

-- what a list's search finds passes the test
found_passes : {X : Type 0} (test : X → Bool) (xs : List X) (x : X) → find test xs ≡ Some x → test x ≡ true
found_passes test [] x found = absurd (none_is_not_some x found)
  where
    none_is_not_some : {Y : Type 0} (y : Y) → None ≡ Some y → ⊥
    none_is_not_some y e = cc
found_passes test (y ∷ xs) x found = go (test y) refl (found_passes test xs x) found
  where
    go : (b : Bool) → test y ≡ b → (find test xs ≡ Some x → test x ≡ true) → cond b (Some y) (find test xs) ≡ Some x → test x ≡ true
    go true passes later e = let same : y ≡ x = cc in subst (λ z. test z ≡ true) same passes
    go false passes later e = later e

-- the run that a search takes fits
pub pick_fits : (runs : List Run) (n slack : ℕ) (run : Run) → pick runs n slack ≡ Some run → fits n slack run ≡ true
pick_fits runs n slack run picked = go (ltb (exact_length runs n slack) 256) picked
  where
    go : (b : Bool) → cond b (latest (λ x. fits n slack x && eqb x.pages (exact_length runs n slack)) runs) (latest (λ x. fits n slack x && is_long x) runs) ≡ Some run → fits n slack run ≡ true
    go true e = (and_parts _ _ (found_passes (λ x. fits n slack x && eqb x.pages (exact_length runs n slack)) (reverse runs) run e)).0
    go false e = (and_parts _ _ (found_passes (λ x. fits n slack x && is_long x) (reverse runs) run e)).0

pub pick_has_pages : (runs : List Run) (n slack : ℕ) (run : Run) → pick runs n slack ≡ Some run → n ≤ run.pages
pick_has_pages runs n slack run picked = leb-true n run.pages (and_parts _ _ (pick_fits runs n slack run picked)).0

-- where nothing passes, all stays
filter_of_none : {X : Type 0} (p : X → Bool) (xs : List X) → count_by p xs ≡ 0 → filter (λ x. not (p x)) xs ≡ xs
filter_of_none p [] none = refl
filter_of_none p (x ∷ xs) none = go (p x) refl (filter_of_none p xs)
  where
    sum : cond {A = ℕ} (p x) 1 0 + count_by p xs ≡ 0
    sum = sym (sum_by-cons (λ y. cond {A = ℕ} (p y) 1 0) x xs) ∙ none

    go : (b : Bool) → p x ≡ b → (count_by p xs ≡ 0 → filter (λ y. not (p y)) xs ≡ xs) → cond (not b) (x ∷ filter (λ y. not (p y)) xs) (filter (λ y. not (p y)) xs) ≡ x ∷ xs
    go true is rest = absurd (omega (arith, sum, one_if (p x) is))
    go false is rest = ap (λ ys. x ∷ ys) (rest (omega (arith, sum)))

-- the only element that passes leaves
pub remove_only : {X : Type 0} (p : X → Bool) (xs : List X) (i : ℕ) (d : X) → i < length xs → p (get_or xs i d) ≡ true → count_by p xs ≤ 1 → remove xs i ≡ filter (λ x. not (p x)) xs
remove_only p [] i d within passes once = absurd (omega arith)
remove_only p (x ∷ xs) zero d within passes once =
    let sum = sum_by-cons (λ y. cond {A = ℕ} (p y) 1 0) x xs in
    sym (filter_of_none p xs (omega (arith, sum, once, one_if (p x) passes))) ∙ sym (head_leaves (p x) passes)
  where
    head_leaves : (b : Bool) → b ≡ true → cond (not b) (x ∷ filter (λ y. not (p y)) xs) (filter (λ y. not (p y)) xs) ≡ filter (λ y. not (p y)) xs
    head_leaves b e = rw e refl
remove_only p (x ∷ xs) (suc i) d within passes once = go (p x) refl (remove_only p xs i d (omega arith) passes)
  where
    sum : cond {A = ℕ} (p x) 1 0 + count_by p xs ≡ count_by p (x ∷ xs)
    sum = sym (sum_by-cons (λ y. cond {A = ℕ} (p y) 1 0) x xs)

    go : (b : Bool) → p x ≡ b → (count_by p xs ≤ 1 → remove xs i ≡ filter (λ y. not (p y)) xs) → x ∷ remove xs i ≡ cond (not b) (x ∷ filter (λ y. not (p y)) xs) (filter (λ y. not (p y)) xs)
    go true is rest = absurd (omega (arith, sum, once, one_if (p x) is, counted p xs (get_or xs i d) (Contains-get_or xs i d (omega arith)) passes))
    go false is rest = ap (λ ys. x ∷ ys) (rest (omega (arith, sum, once)))

-- removing the run at a place is removing that run
pub remove_run : (runs : List Run) (place : ℕ) (run : Run) → place < length runs → slice_get runs place ≡ Some run → count_by (is_run run) runs ≤ 1
    → remove runs place ≡ filter (λ other. not (is_run run other)) runs
remove_run runs place run within there once =
    remove_only (is_run run) runs place run within (rw (get_or_from_slice_get runs place run run there) (is_run-same run)) once

-- a list's search finds nothing exactly where nothing passes
find-none : {X : Type 0} (test : X → Bool) (xs : List X) → All (λ x. test x ≡ false) xs → find test xs ≡ None
find-none test [] none = refl
find-none test (x ∷ xs) none = rw (All-head (λ y. test y ≡ false) x xs none) (find-none test xs (All-tail (λ y. test y ≡ false) x xs none))

some_is_none : {X : Type 0} (x : X) → Some x ≡ None → ⊥
some_is_none x e = cc

none-find : {X : Type 0} (test : X → Bool) (xs : List X) → find test xs ≡ None → All (λ x. test x ≡ false) xs
none-find test [] none = All-nil (λ x. test x ≡ false)
none-find test (x ∷ xs) none = go (test x) refl (none-find test xs) none
  where
    go : (b : Bool) → test x ≡ b → (find test xs ≡ None → All (λ y. test y ≡ false) xs) → cond b (Some x) (find test xs) ≡ None → All (λ y. test y ≡ false) (x ∷ xs)
    go true is rest e = absurd (some_is_none x e)
    go false is rest e = All-cons (λ y. test y ≡ false) x xs is (rest e)

latest-none : (test : Run → Bool) (runs : List Run) → All (λ run. test run ≡ false) runs → latest test runs ≡ None
latest-none test runs none = find-none test (reverse runs) (All-permutation (λ run. test run ≡ false) runs (reverse runs) (IsPermutation-reverse runs) none)

none-latest : (test : Run → Bool) (runs : List Run) → latest test runs ≡ None → All (λ run. test run ≡ false) runs
none-latest test runs none =
    All-permutation (λ run. test run ≡ false) (reverse runs) runs (IsPermutation-sym runs (reverse runs) (IsPermutation-reverse runs)) (none-find test (reverse runs) none)

-- where the least exact length is below 256, some fitting run has it
exact_length-there : (runs : List Run) (n slack least : ℕ) → least ≡ exact_length runs n slack → least < 256 → list_any (λ run. fits n slack run && eqb run.pages least) runs ≡ true
exact_length-there [] n slack least is short = absurd (omega arith)
exact_length-there (run ∷ runs) n slack least is short =
    go (fits n slack run && not (is_long run)) refl (exact_length-there runs n slack) is
  where
    go : (b : Bool) → (fits n slack run && not (is_long run)) ≡ b
        → ((length : ℕ) → length ≡ exact_length runs n slack → length < 256 → list_any (λ other. fits n slack other && eqb other.pages length) runs ≡ true)
        → least ≡ least_length (cond b (run ∷ filter (λ other. fits n slack other && not (is_long other)) runs) (filter (λ other. fits n slack other && not (is_long other)) runs))
        → list_any (λ other. fits n slack other && eqb other.pages least) (run ∷ runs) ≡ true
    go false passes rest e = or_right (fits n slack run && eqb run.pages least) (list_any (λ other. fits n slack other && eqb other.pages least) runs) (rest least e short)
    go true passes rest e =
        elim (cases_lt (exact_length runs n slack) run.pages) [
          | inl later ↦ or_right (fits n slack run && eqb run.pages least) (list_any (λ other. fits n slack other && eqb other.pages least) runs) (rest least (omega (arith, e)) short)
          | inr here ↦ or_left (fits n slack run && eqb run.pages least) (list_any (λ other. fits n slack other && eqb other.pages least) runs) (and_from (fits n slack run) (eqb run.pages least) (and_parts (fits n slack run) (not (is_long run)) passes).0 (eq-eqb run.pages least (omega (arith, e))))
        ]

-- no fitting run below 256 pages is shorter
exact_length-least : (runs : List Run) (n slack : ℕ) → All (λ run. (fits n slack run && not (is_long run)) ≡ true → exact_length runs n slack ≤ run.pages) runs
exact_length-least [] n slack = λ k d within. absurd (omega arith)
exact_length-least (run ∷ runs) n slack =
    go (fits n slack run && not (is_long run)) refl (exact_length-least runs n slack)
  where
    rest_of_them : List Run
    rest_of_them = filter (λ other. fits n slack other && not (is_long other)) runs

    go : (b : Bool) → (fits n slack run && not (is_long run)) ≡ b
        → All (λ other. (fits n slack other && not (is_long other)) ≡ true → exact_length runs n slack ≤ other.pages) runs
        → All (λ other. (fits n slack other && not (is_long other)) ≡ true → least_length (cond b (run ∷ filter (λ x. fits n slack x && not (is_long x)) runs) (filter (λ x. fits n slack x && not (is_long x)) runs)) ≤ other.pages) (run ∷ runs)
    go true passes rest =
        All-cons (λ other. (fits n slack other && not (is_long other)) ≡ true → min run.pages (exact_length runs n slack) ≤ other.pages) run runs (λ e. omega arith)
        (All-weaker (λ other. (fits n slack other && not (is_long other)) ≡ true → exact_length runs n slack ≤ other.pages) (λ other. (fits n slack other && not (is_long other)) ≡ true → min run.pages (exact_length runs n slack) ≤ other.pages) (λ other least e. omega (arith, least e)) runs rest)
    go false passes rest =
        All-cons (λ other. (fits n slack other && not (is_long other)) ≡ true → exact_length runs n slack ≤ other.pages) run runs (λ e. absurd (both_ways (fits n slack run && not (is_long run)) passes e)) rest

-- a fitting run is either long, or of an exact length
unfit : (n slack least : ℕ) (run : Run) → 256 ≤ least → ((fits n slack run && not (is_long run)) ≡ true → least ≤ run.pages) → (fits n slack run && is_long run) ≡ false → fits n slack run ≡ false
unfit n slack least run high exact long =
    elim (cases_Bool (fits n slack run)) [
      | inr other ↦ other
      | inl fit ↦
          elim (cases_lt run.pages 256) [
            | inl short ↦ absurd (omega (arith, exact (and_from _ _ fit (not_from_false (is_long run) (lt-leb 256 run.pages short)))))
            | inr big ↦ absurd (both_ways _ long (and_from _ _ fit (le-leb 256 run.pages big)))
          ]
    ]

nothing_fits : (runs : List Run) (n slack : ℕ) → pick runs n slack ≡ None → All (λ run. fits n slack run ≡ false) runs
nothing_fits runs n slack none = go (ltb (exact_length runs n slack) 256) refl none
  where
    go : (b : Bool) → ltb (exact_length runs n slack) 256 ≡ b
        → cond b (latest (λ run. fits n slack run && eqb run.pages (exact_length runs n slack)) runs) (latest (λ run. fits n slack run && is_long run) runs) ≡ None
        → All (λ run. fits n slack run ≡ false) runs
    go true short e =
        absurd (both_ways _
        (list_any_none (λ run. fits n slack run && eqb run.pages (exact_length runs n slack)) runs (none-latest (λ run. fits n slack run && eqb run.pages (exact_length runs n slack)) runs e))
        (exact_length-there runs n slack (exact_length runs n slack) refl (ltb-true (exact_length runs n slack) 256 short)))
    go false long e = λ k d within.
        unfit n slack (exact_length runs n slack) (get_or runs k d) (ltb-false (exact_length runs n slack) 256 long) (exact_length-least runs n slack k d within)
        (none-latest (λ run. fits n slack run && is_long run) runs e k d within)

finds_nothing : (runs : List Run) (n slack : ℕ) → All (λ run. fits n slack run ≡ false) runs → pick runs n slack ≡ None
finds_nothing runs n slack none =
    elim (cases_lt (exact_length runs n slack) 256) [
      | inl short ↦ absurd (both_ways _
          (list_any_none (λ run. fits n slack run && eqb run.pages (exact_length runs n slack)) runs
          (All-weaker (λ run. fits n slack run ≡ false) (λ run. (fits n slack run && eqb run.pages (exact_length runs n slack)) ≡ false) (λ run no. and_left _ _ no) runs none))
          (exact_length-there runs n slack (exact_length runs n slack) refl short))
      | inr long ↦
          rw (le-ltb (exact_length runs n slack) 256 long)
          (latest-none (λ run. fits n slack run && is_long run) runs
          (All-weaker (λ run. fits n slack run ≡ false) (λ run. (fits n slack run && is_long run) ≡ false) (λ run no. and_left _ _ no) runs none))
    ]

-- no run is picked exactly where none fits
pub pick-none : (runs : List Run) (n slack : ℕ) → (pick runs n slack ≡ None) ↔ All (λ run. fits n slack run ≡ false) runs
pick-none runs n slack = (nothing_fits runs n slack, finds_nothing runs n slack)
