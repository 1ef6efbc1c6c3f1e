-- The lists by class beside the order of all places: each change of the one is a change of the other.
use Rattle.std.proofs.Common.{◌≡◌, ◌≢◌, ℕ, zero, suc, ◌+◌, ◌-◌, ◌<◌, ◌≤◌, min, Bool, true, false, not, cond, eqb, List, [], ◌∷◌, ◌++◌, length, map, take, replicate, get_or, set, refl, sym, ◌∙◌, ap, subst, arith, ◌⊎◌, inl, inr, get_or-set_other, get_or-set_same, length-set}
use Rattle.std.specs.List.{filter, All, Contains, count_by}
use Rattle.std.proofs.lemmas.List.Elements.{filter-append, All-head, All-tail, All-filter, All-append, All-cons, All-nil}
use Rattle.std.proofs.lemmas.List.{append-nil, get_or_default}
use Rattle.std.proofs.lemmas.List.Sums.{sum_by-cons, sum_by_push}
use Rattle.std.proofs.lemmas.Bool.{cases_eq, cases_lt, eq-eqb, ne_eqb, false_from_ne_true}
use Rattle.free_lists.specs.Lists.{Classes, list_of, IsListed, without, Appends, Removes, AreNew}
use Rattle.span_heap.specs.declared.run.Run.{Run}
use Rattle.span_heap.specs.Run.{is_run}
use Rattle.span_heap.specs.Placed.{run_at, IsByClass, IsDistinct, IsPlaced}
use Rattle.span_heap.proofs.Sums.{counted}
use Rattle.span_heap.proofs.PartitionByCounts.{is_run-same, is_run-true}

filter_swap : {X : Type 0} (p q : X → Bool) (xs : List X) → filter p (filter q xs) ≡ filter q (filter p xs)
filter_swap p q [] = refl
filter_swap p q (x ∷ xs) = go (p x) (q x) refl refl (filter_swap p q xs)
  where
    go : (a b : Bool) → p x ≡ a → q x ≡ b → filter p (filter q xs) ≡ filter q (filter p xs)
        → filter p (cond b (x ∷ filter q xs) (filter q xs)) ≡ filter q (cond a (x ∷ filter p xs) (filter p xs))
    go true true a b rest = rw (a, b) (ap (λ ys. x ∷ ys) rest)
    go true false a b rest = rw b rest
    go false true a b rest = rw a rest
    go false false a b rest = rest

pub filter_same : {X : Type 0} (p q : X → Bool) (xs : List X) → All (λ x. p x ≡ q x) xs → filter p xs ≡ filter q xs
filter_same p q [] same = refl
filter_same p q (x ∷ xs) same =
    rw (All-head (λ y. p y ≡ q y) x xs same, filter_same p q xs (All-tail (λ y. p y ≡ q y) x xs same)) refl

-- a place leaves
pub IsByClass-removed : (lists lists' : Classes) (runs : List Run) (order : List ℕ) (place : ℕ) → IsByClass lists runs order
    → ((c : ℕ) → list_of lists' c ≡ without (list_of lists c) place) → IsByClass lists' runs (without order place)
IsByClass-removed lists lists' runs order place by_class removed = λ c.
    removed c ∙ (ap (λ xs. without xs place) (by_class c) ∙ filter_swap (λ other. not (eqb other place)) (λ p. eqb (min (run_at runs p).pages 256) c) order)

-- a place comes, whose run is stored already
pub IsByClass-appended : (lists lists' : Classes) (runs : List Run) (order : List ℕ) (place pages : ℕ) → IsByClass lists runs order → (run_at runs place).pages ≡ pages
    → ((c : ℕ) → list_of lists' c ≡ cond (eqb c (min pages 256)) (list_of lists c ++ place ∷ []) (list_of lists c)) → IsByClass lists' runs (order ++ place ∷ [])
IsByClass-appended lists lists' runs order place pages by_class stored appended = λ c.
    appended c ∙ (go c (cases_eq c (min pages 256)) (by_class c) ∙ sym (filter-append (λ p. eqb (min (run_at runs p).pages 256) c) order (place ∷ [])))
  where
    go : (c : ℕ) → (c ≡ min pages 256) ⊎ (c ≢ min pages 256) → list_of lists c ≡ filter (λ p. eqb (min (run_at runs p).pages 256) c) order
        → cond (eqb c (min pages 256)) (list_of lists c ++ place ∷ []) (list_of lists c)
        ≡ filter (λ p. eqb (min (run_at runs p).pages 256) c) order ++ filter (λ p. eqb (min (run_at runs p).pages 256) c) (place ∷ [])
    go c (inl same) was = rw (eq-eqb c (min pages 256) same, eq-eqb (min (run_at runs place).pages 256) c (ap (λ n. min n 256) stored ∙ sym same), was) refl
    go c (inr other) was = rw (ne_eqb c (min pages 256) other, ne_eqb (min (run_at runs place).pages 256) c (λ e. other (sym e ∙ ap (λ n. min n 256) stored)), was) (sym (append-nil _))

-- the record of a place that stands in no list changes
pub IsByClass-stored : (lists : Classes) (runs : List Run) (order : List ℕ) (place : ℕ) (run : Run) → IsByClass lists runs order → All (λ p. p ≢ place) order
    → IsByClass lists (set runs place run) order
IsByClass-stored lists runs order place run by_class away = λ c.
    by_class c ∙ filter_same (λ p. eqb (min (run_at runs p).pages 256) c) (λ p. eqb (min (run_at (set runs place run) p).pages 256) c) order
    (λ k d within. ap (λ (r : Run). eqb (min r.pages 256) c) (sym (get_or-set_other runs place (get_or order k d) run (record { segment = 0; first = 0; pages = 0 }) (away k d within))))

-- what the free runs are seen as, after a place left: no other place has its run
pub runs_removed : (runs : List Run) (order : List ℕ) (place : ℕ) → All (λ p. run_at runs p ≡ run_at runs place → p ≡ place) order
    → map (run_at runs) (without order place) ≡ filter (λ other. not (is_run (run_at runs place) other)) (map (run_at runs) order)
runs_removed runs [] place only = refl
runs_removed runs (p ∷ order) place only =
    elim (cases_eq p place) [
      | inl same ↦
          let it : is_run (run_at runs place) (run_at runs p) ≡ true = rw same (is_run-same (run_at runs place)) in
          rw (eq-eqb p place same, it) (runs_removed runs order place (All-tail (λ q. run_at runs q ≡ run_at runs place → q ≡ place) p order only))
      | inr other ↦
          let not_it : is_run (run_at runs place) (run_at runs p) ≡ false =
          false_from_ne_true _ (λ e. other (All-head (λ q. run_at runs q ≡ run_at runs place → q ≡ place) p order only (is_run-true (run_at runs place) (run_at runs p) e))) in
          rw (ne_eqb p place other, not_it)
          (ap (λ rest. run_at runs p ∷ rest) (runs_removed runs order place (All-tail (λ q. run_at runs q ≡ run_at runs place → q ≡ place) p order only)))
    ]

-- and after a record was stored under a place in no list
pub runs_stored : (runs : List Run) (order : List ℕ) (place : ℕ) (run : Run) → All (λ p. p ≢ place) order → map (run_at (set runs place run)) order ≡ map (run_at runs) order
runs_stored runs [] place run away = refl
runs_stored runs (p ∷ order) place run away =
    rw (get_or-set_other runs place p run (record { segment = 0; first = 0; pages = 0 }) (All-head (λ q. q ≢ place) p order away), runs_stored runs order place run (All-tail (λ q. q ≢ place) p order away)) refl

-- a place that is counted stands in the list
pub counted_there : (xs : List ℕ) (place : ℕ) → 1 ≤ count_by (λ other. eqb other place) xs → Contains xs place
counted_there [] place some = absurd (omega (arith, some))
counted_there (x ∷ xs) place some =
    elim (cases_eq x place) [
      | inl same ↦ (zero, omega arith, same)
      | inr other ↦
          let none : cond {A = ℕ} (eqb x place) 1 0 ≡ 0 = rw (ne_eqb x place other) refl in
          behind (counted_there xs place (omega (arith, some, none, sum_by-cons (λ y. cond {A = ℕ} (eqb y place) 1 0) x xs)))
    ]
  where
    behind : Contains xs place → Contains (x ∷ xs) place
    behind (k, within, is) = (suc k, omega (arith, within), is)

pub fewer : (test : ℕ → Bool) (xs : List ℕ) (place : ℕ) → count_by (λ other. eqb other place) (filter test xs) ≤ count_by (λ other. eqb other place) xs
fewer test [] place = omega arith
fewer test (x ∷ xs) place = go (test x) (fewer test xs place)
  where
    go : (b : Bool) → count_by (λ other. eqb other place) (filter test xs) ≤ count_by (λ other. eqb other place) xs
        → count_by (λ other. eqb other place) (cond b (x ∷ filter test xs) (filter test xs)) ≤ count_by (λ other. eqb other place) (x ∷ xs)
    go true low = omega (arith, low, sum_by-cons (λ y. cond {A = ℕ} (eqb y place) 1 0) x xs, sum_by-cons (λ y. cond {A = ℕ} (eqb y place) 1 0) x (filter test xs))
    go false low = omega (arith, low, sum_by-cons (λ y. cond {A = ℕ} (eqb y place) 1 0) x xs)

pub not_there : (xs : List ℕ) (place : ℕ) → (Contains xs place → ⊥) → All (λ p. p ≢ place) xs
not_there xs place new = λ k d within e. new (k, within, get_or_default xs k place d within ∙ e)

passed : (xs : List ℕ) (place : ℕ) (test : ℕ → Bool) → Contains (filter test xs) place → Contains xs place
passed xs place test (k, within, is) =
    counted_there xs place (omega (arith, fewer test xs place, one_at (filter test xs) k within is))
  where
    one_at : (ys : List ℕ) (k : ℕ) → k < length ys → get_or ys k place ≡ place → 1 ≤ count_by (λ other. eqb other place) ys
    one_at [] k within is = absurd (omega (arith, within))
    one_at (y ∷ ys) zero within is =
        let here : cond {A = ℕ} (eqb y place) 1 0 ≡ 1 = rw (eq-eqb y place is) refl in
        omega (arith, here, sum_by-cons (λ z. cond {A = ℕ} (eqb z place) 1 0) y ys)
    one_at (y ∷ ys) (suc k) within is = omega (arith, one_at ys k (omega (arith, within)) is, sum_by-cons (λ z. cond {A = ℕ} (eqb z place) 1 0) y ys)

nowhere : (place : ℕ) → Contains [] place → ⊥
nowhere place (k, within, is) = omega (arith, within)

-- a place that stands in a list by class stands among the free ones
pub listed_there : (lists order : Classes) (runs : List Run) (listed ordered place : ℕ) → IsPlaced lists order runs listed ordered → IsListed lists place → Contains (list_of order 1) place
listed_there lists order runs listed ordered place placed (zero, there) = absurd (nowhere place there)
listed_there lists order runs listed ordered place placed (suc c, there) =
    passed (list_of order 1) place (λ p. eqb (min (run_at runs p).pages 256) (suc c)) (rw (placed.by_class (suc c)) at there)

-- a place in the order is free or used
pub ordered_there : (lists order : Classes) (runs : List Run) (listed ordered place : ℕ) → IsPlaced lists order runs listed ordered → IsListed order place
    → Contains (list_of order 1) place ⊎ Contains (list_of order 2) place
ordered_there lists order runs listed ordered place placed (c, there) =
    elim (cases_eq c 1) [
      | inl one ↦ inl (subst (λ k. Contains (list_of order k) place) one there)
      | inr other ↦
          elim (cases_eq c 2) [
            | inl two ↦ inr (subst (λ k. Contains (list_of order k) place) two there)
            | inr none ↦ absurd (nowhere place (subst (λ xs. Contains xs place) (placed.two_lists c other none) there))
          ]
    ]

Contains-passed : (test : ℕ → Bool) (xs : List ℕ) (place : ℕ) → test place ≡ true → Contains xs place → Contains (filter test xs) place
Contains-passed test [] place passes (k, within, is) = absurd (omega (arith, within))
Contains-passed test (x ∷ xs) place passes (zero, within, is) = rw (ap test is ∙ passes) (zero, omega arith, is)
Contains-passed test (x ∷ xs) place passes (suc k, within, is) = go (test x) (Contains-passed test xs place passes (k, omega (arith, within), is))
  where
    go : (b : Bool) → Contains (filter test xs) place → Contains (cond b (x ∷ filter test xs) (filter test xs)) place
    go true (j, low, same) = (suc j, omega (arith, low), same)
    go false there = there

pub class_listed : (lists order : Classes) (runs : List Run) (listed ordered place : ℕ) → IsPlaced lists order runs listed ordered → Contains (list_of order 1) place → IsListed lists place
class_listed lists order runs listed ordered place placed there =
    let c : ℕ = min (run_at runs place).pages 256 in
    (c, subst (λ xs. Contains xs place) (sym (placed.by_class c)) (Contains-passed (λ p. eqb (min (run_at runs p).pages 256) c) (list_of order 1) place (eq-eqb c c refl) there))

-- a place that stands in a list is counted there, and one that does not is not
pub one_counted : (xs : List ℕ) (place : ℕ) → Contains xs place → 1 ≤ count_by (λ other. eqb other place) xs
one_counted xs place there = counted (λ other. eqb other place) xs place there (eq-eqb place place refl)

pub none_counted : (xs : List ℕ) (place : ℕ) → (Contains xs place → ⊥) → count_by (λ other. eqb other place) xs ≡ 0
none_counted xs place new =
    elim (cases_lt 0 (count_by (λ other. eqb other place) xs)) [
      | inl some ↦ absurd (new (counted_there xs place (omega (arith, some))))
      | inr none ↦ omega (arith, none)
    ]

-- a place that does not stand in a list leaves it as it is
pub without_absent : (xs : List ℕ) (place : ℕ) → All (λ p. p ≢ place) xs → without xs place ≡ xs
without_absent [] place away = refl
without_absent (x ∷ xs) place away =
    rw (ne_eqb x place (All-head (λ p. p ≢ place) x xs away)) (ap (λ ys. x ∷ ys) (without_absent xs place (All-tail (λ p. p ≢ place) x xs away)))

-- a free place is no used one, and the other way round
pub free_not_used : (lists order : Classes) (runs : List Run) (listed ordered place : ℕ) → IsPlaced lists order runs listed ordered → Contains (list_of order 1) place → Contains (list_of order 2) place → ⊥
free_not_used lists order runs listed ordered place placed free used =
    omega (arith, placed.once place, one_counted (list_of order 1) place free, one_counted (list_of order 2) place used)

pub still_used : (lists order : Classes) (runs : List Run) (listed ordered place : ℕ) → IsPlaced lists order runs listed ordered → Contains (list_of order 1) place
    → without (list_of order 2) place ≡ list_of order 2
still_used lists order runs listed ordered place placed free =
    without_absent (list_of order 2) place (not_there (list_of order 2) place (free_not_used lists order runs listed ordered place placed free))

pub still_free : (lists order : Classes) (runs : List Run) (listed ordered place : ℕ) → IsPlaced lists order runs listed ordered → Contains (list_of order 2) place
    → without (list_of order 1) place ≡ list_of order 1
still_free lists order runs listed ordered place placed used =
    without_absent (list_of order 1) place (not_there (list_of order 1) place (λ free. free_not_used lists order runs listed ordered place placed free used))

-- one more place, which stood nowhere
pub once_more : (free used : List ℕ) (place : ℕ) → ((p : ℕ) → count_by (λ other. eqb other p) free + count_by (λ other. eqb other p) used ≤ 1)
    → (Contains free place → ⊥) → (Contains used place → ⊥)
    → (p : ℕ) → count_by (λ other. eqb other p) free + count_by (λ other. eqb other p) used + cond {A = ℕ} (eqb place p) 1 0 ≤ 1
once_more free used place once not_free not_used p =
    elim (cases_eq place p) [
      | inl same ↦
          let one : cond {A = ℕ} (eqb place p) 1 0 ≡ 1 = rw (eq-eqb place p same) refl in
          let none_free : count_by (λ other. eqb other p) free ≡ 0 = rw (← same) (none_counted free place not_free) in
          let none_used : count_by (λ other. eqb other p) used ≡ 0 = rw (← same) (none_counted used place not_used) in
          omega (arith, one, none_free, none_used)
      | inr other ↦
          let zero_here : cond {A = ℕ} (eqb place p) 1 0 ≡ 0 = rw (ne_eqb place p other) refl in
          omega (arith, once p, zero_here)
    ]

set_within : (runs : List Run) (place : ℕ) (run : Run) (xs : List ℕ) → All (λ p. p < length runs) xs → All (λ p. p < length (set runs place run)) xs
set_within runs place run xs all = rw (length-set runs place run) all

pushed_within : (runs : List Run) (place : ℕ) (run : Run) (xs : List ℕ) → place < length runs → All (λ p. p < length runs) xs → All (λ p. p < length (set runs place run)) (xs ++ place ∷ [])
pushed_within runs place run xs low all =
    rw (length-set runs place run) (All-append (λ p. p < length runs) xs (place ∷ []) all (All-cons (λ p. p < length runs) place [] low (All-nil (λ p. p < length runs))))

-- a free run came
pub IsPlaced-free_added : (lists lists' order order' : Classes) (runs : List Run) (listed ordered place : ℕ) (run : Run) → IsPlaced lists order runs listed ordered
    → (Contains (list_of order 1) place → ⊥) → (Contains (list_of order 2) place → ⊥) → place < length runs
    → Appends lists lists' place run.pages → Appends order order' place 1
    → IsPlaced lists' order' (set runs place run) listed ordered
IsPlaced-free_added lists lists' order order' runs listed ordered place run placed not_free not_used low lists_new order_new =
    let free : list_of order' 1 ≡ list_of order 1 ++ place ∷ [] = order_new.list 1 in
    let used : list_of order' 2 ≡ list_of order 2 = order_new.list 2 in
    record {
      lists_places = lists_new.places ∙ placed.lists_places;
      order_places = order_new.places ∙ placed.order_places;
      lists_reach = omega (arith, length-set runs place run, placed.lists_reach);
      order_reach = omega (arith, length-set runs place run, placed.order_reach);
      by_class = subst (IsByClass lists' (set runs place run)) (sym free)
          (IsByClass-appended lists lists' (set runs place run) (list_of order 1) place run.pages
          (IsByClass-stored lists runs (list_of order 1) place run placed.by_class (not_there (list_of order 1) place not_free))
          (ap (λ (r : Run). r.pages) (get_or-set_same runs place run (record { segment = 0; first = 0; pages = 0 }) low)) lists_new.list);
      two_lists = λ c one two. order_new.list c ∙ rw (ne_eqb c 1 one) (placed.two_lists c one two);
      free_within = subst (All (λ p. p < length (set runs place run))) (sym free) (pushed_within runs place run (list_of order 1) low placed.free_within);
      used_within = subst (All (λ p. p < length (set runs place run))) (sym used) (set_within runs place run (list_of order 2) placed.used_within);
      once = λ p. rw (free, used) (omega (arith, once_more (list_of order 1) (list_of order 2) place placed.once not_free not_used p, sum_by_push (λ other. cond {A = ℕ} (eqb other p) 1 0) (list_of order 1) place));
    }

-- a used span came
pub IsPlaced-used_added : (lists order order' : Classes) (runs : List Run) (listed ordered place : ℕ) (run : Run) → IsPlaced lists order runs listed ordered
    → (Contains (list_of order 1) place → ⊥) → (Contains (list_of order 2) place → ⊥) → place < length runs → Appends order order' place 2
    → IsPlaced lists order' (set runs place run) listed ordered
IsPlaced-used_added lists order order' runs listed ordered place run placed not_free not_used low order_new =
    let free : list_of order' 1 ≡ list_of order 1 = order_new.list 1 in
    let used : list_of order' 2 ≡ list_of order 2 ++ place ∷ [] = order_new.list 2 in
    record {
      lists_places = placed.lists_places;
      order_places = order_new.places ∙ placed.order_places;
      lists_reach = omega (arith, length-set runs place run, placed.lists_reach);
      order_reach = omega (arith, length-set runs place run, placed.order_reach);
      by_class = subst (IsByClass lists (set runs place run)) (sym free) (IsByClass-stored lists runs (list_of order 1) place run placed.by_class (not_there (list_of order 1) place not_free));
      two_lists = λ c one two. order_new.list c ∙ rw (ne_eqb c 2 two) (placed.two_lists c one two);
      free_within = subst (All (λ p. p < length (set runs place run))) (sym free) (set_within runs place run (list_of order 1) placed.free_within);
      used_within = subst (All (λ p. p < length (set runs place run))) (sym used) (pushed_within runs place run (list_of order 2) low placed.used_within);
      once = λ p. rw (free, used) (omega (arith, once_more (list_of order 1) (list_of order 2) place placed.once not_free not_used p, sum_by_push (λ other. cond {A = ℕ} (eqb other p) 1 0) (list_of order 2) place));
    }

-- a run left
pub IsPlaced-free_taken : (lists lists' order order' : Classes) (runs : List Run) (listed ordered place : ℕ) → IsPlaced lists order runs listed ordered
    → Removes lists lists' place → Removes order order' place → IsPlaced lists' order' runs listed ordered
IsPlaced-free_taken lists lists' order order' runs listed ordered place placed lists_new order_new =
    record {
      lists_places = lists_new.places ∙ placed.lists_places;
      order_places = order_new.places ∙ placed.order_places;
      lists_reach = placed.lists_reach;
      order_reach = placed.order_reach;
      by_class = subst (IsByClass lists' runs) (sym (order_new.list 1)) (IsByClass-removed lists lists' runs (list_of order 1) place placed.by_class lists_new.list);
      two_lists = λ c one two. order_new.list c ∙ ap (λ xs. without xs place) (placed.two_lists c one two);
      free_within = subst (All (λ p. p < length runs)) (sym (order_new.list 1)) (All-filter (λ other. not (eqb other place)) (λ p. p < length runs) (list_of order 1) placed.free_within);
      used_within = subst (All (λ p. p < length runs)) (sym (order_new.list 2)) (All-filter (λ other. not (eqb other place)) (λ p. p < length runs) (list_of order 2) placed.used_within);
      once = λ p. rw (order_new.list 1, order_new.list 2) (omega (arith, fewer (λ other. not (eqb other place)) (list_of order 1) p, fewer (λ other. not (eqb other place)) (list_of order 2) p, placed.once p));
    }

pub IsPlaced-used_taken : (lists order order' : Classes) (runs : List Run) (listed ordered place : ℕ) → IsPlaced lists order runs listed ordered
    → Contains (list_of order 2) place → Removes order order' place → IsPlaced lists order' runs listed ordered
IsPlaced-used_taken lists order order' runs listed ordered place placed used order_new =
    let free : list_of order' 1 ≡ list_of order 1 = order_new.list 1 ∙ still_free lists order runs listed ordered place placed used in
    record {
      lists_places = placed.lists_places;
      order_places = order_new.places ∙ placed.order_places;
      lists_reach = placed.lists_reach;
      order_reach = placed.order_reach;
      by_class = subst (IsByClass lists runs) (sym free) placed.by_class;
      two_lists = λ c one two. order_new.list c ∙ ap (λ xs. without xs place) (placed.two_lists c one two);
      free_within = subst (All (λ p. p < length runs)) (sym free) placed.free_within;
      used_within = subst (All (λ p. p < length runs)) (sym (order_new.list 2)) (All-filter (λ other. not (eqb other place)) (λ p. p < length runs) (list_of order 2) placed.used_within);
      once = λ p. rw (free, order_new.list 2) (omega (arith, fewer (λ other. not (eqb other place)) (list_of order 2) p, placed.once p));
    }

-- the list of one class, as part of the free places
pub class_within : (lists order : Classes) (runs : List Run) (listed ordered c : ℕ) → IsPlaced lists order runs listed ordered → All (λ p. p < length runs) (list_of lists c)
class_within lists order runs listed ordered c placed =
    rw (placed.by_class c) (All-filter (λ p. eqb (min (run_at runs p).pages 256) c) (λ p. p < length runs) (list_of order 1) placed.free_within)

pub class_distinct : (lists order : Classes) (runs : List Run) (listed ordered c : ℕ) → IsPlaced lists order runs listed ordered → IsDistinct (list_of lists c)
class_distinct lists order runs listed ordered c placed =
    rw (placed.by_class c) (λ p. omega (arith, fewer (λ q. eqb (min (run_at runs q).pages 256) c) (list_of order 1) p, placed.once p))

-- more places
pub IsPlaced-reached : (lists lists' order order' : Classes) (runs runs' : List Run) (listed listed' ordered ordered' : ℕ) → IsPlaced lists order runs listed ordered
    → lists'.places ≡ listed' → order'.places ≡ ordered' → length runs' ≤ listed' → length runs' ≤ ordered'
    → ((c : ℕ) → list_of lists' c ≡ list_of lists c) → ((c : ℕ) → list_of order' c ≡ list_of order c)
    → length runs ≤ length runs' → ((p : ℕ) → run_at runs' p ≡ run_at runs p) → IsPlaced lists' order' runs' listed' ordered'
IsPlaced-reached lists lists' order order' runs runs' listed listed' ordered ordered' placed counted_lists counted_order lists_reach order_reach same_lists same_order longer read =
    record {
      lists_places = counted_lists;
      order_places = counted_order;
      lists_reach = lists_reach;
      order_reach = order_reach;
      by_class = λ c.
          same_lists c ∙ (placed.by_class c
          ∙ (filter_same (λ p. eqb (min (run_at runs p).pages 256) c) (λ p. eqb (min (run_at runs' p).pages 256) c) (list_of order 1)
          (λ k d within. ap (λ (r : Run). eqb (min r.pages 256) c) (sym (read (get_or (list_of order 1) k d))))
          ∙ ap (filter (λ p. eqb (min (run_at runs' p).pages 256) c)) (sym (same_order 1))));
      two_lists = λ c one two. same_order c ∙ placed.two_lists c one two;
      free_within = subst (All (λ p. p < length runs')) (sym (same_order 1)) (λ k d within. omega (arith, placed.free_within k d within, longer));
      used_within = subst (All (λ p. p < length runs')) (sym (same_order 2)) (λ k d within. omega (arith, placed.used_within k d within, longer));
      once = λ p. rw (same_order 1, same_order 2) (placed.once p);
    }

-- a blank run under each new place reads as no run
pub blank_read : (runs : List Run) (n place : ℕ) → run_at (runs ++ replicate n (record { segment = 0; first = 0; pages = 0 })) place ≡ run_at runs place
blank_read [] zero place = refl
blank_read [] (suc n) zero = refl
blank_read [] (suc n) (suc place) = blank_read [] n place
blank_read (run ∷ runs) n zero = refl
blank_read (run ∷ runs) n (suc place) = blank_read runs n place

pub take_whole : (n : ℕ) (runs : List Run) → length runs ≤ n → take n runs ≡ runs
take_whole zero [] reach = refl
take_whole zero (run ∷ runs) reach = absurd (omega (arith, reach))
take_whole (suc n) [] reach = refl
take_whole (suc n) (run ∷ runs) reach = ap (λ rest. run ∷ rest) (take_whole n runs (omega (arith, reach)))

pub blank_pads : (runs runs' : List Run) (n : ℕ) → length runs ≤ n → runs' ≡ take n runs ++ replicate (n - length runs) (record { segment = 0; first = 0; pages = 0 })
    → (place : ℕ) → run_at runs' place ≡ run_at runs place
blank_pads runs runs' n reach is place =
    ap (λ xs. run_at xs place) (is ∙ ap (λ xs. xs ++ replicate (n - length runs) (record { segment = 0; first = 0; pages = 0 })) (take_whole n runs reach)) ∙ blank_read runs (n - length runs) place

-- no place at all
pub IsPlaced-new : (lists order : Classes) → AreNew lists → AreNew order → IsPlaced lists order [] 0 0
IsPlaced-new lists order new new' =
    record {
      lists_places = new.places;
      order_places = new'.places;
      lists_reach = omega arith;
      order_reach = omega arith;
      by_class = λ c. new.lists c ∙ ap (filter (λ place. eqb (min (run_at [] place).pages 256) c)) (sym (new'.lists 1));
      two_lists = λ c one two. new'.lists c;
      free_within = subst (All (λ p. p < length {A = Run} [])) (sym (new'.lists 1)) (All-nil (λ p. p < length {A = Run} []));
      used_within = subst (All (λ p. p < length {A = Run} [])) (sym (new'.lists 2)) (All-nil (λ p. p < length {A = Run} []));
      once = λ p. rw (new'.lists 1, new'.lists 2) (omega arith);
    }
