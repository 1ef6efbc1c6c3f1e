-- Lists whose element at a place is set, removed or added.
use Rattle.std.proofs.Common.{◌≡◌, ◌≢◌, ℕ, suc, zero, ◌+◌, ◌<◌, ◌≤◌, ◌==◌, Bool, true, false, cond, List, [], ◌∷◌, ◌++◌, length, get_or, set, map, Some, refl, sym, ap, subst, ◌∙◌, ◌⊎◌, inl, inr, arith, take, drop, ◌||◌, true≢false}
use Rattle.std.specs.List.{All, slice_get, remove, sum_by, count_by, list_any, filter, Contains}
use Rattle.std.proofs.lemmas.Bool.{cases_Bool, eqb-true, eq-eqb, or_parts}
use Rattle.std.proofs.lemmas.List.{take-set, drop-set-lt}
use Rattle.std.proofs.lemmas.List.Elements.{All-append, All-take, All-drop}
use Rattle.std.proofs.lemmas.List.Sums.{get_or-le-sum_by, sum_by-remove, sum_by-cons}
use Rattle.std.proofs.lemmas.Option.{slice_get_within, get_or_from_slice_get, none-some, same_Some}

pub differ : (m n : ℕ) → m ≡ n → (m == n) ≡ false → ⊥
differ m n e f = let t : (m == n) ≡ true = eq-eqb m n e in absurd (true≢false (sym t ∙ f))

-- two numbers are one or not
pub cases_same : (m n : ℕ) → (m ≡ n) ⊎ (m ≢ n)
cases_same m n = elim (cases_Bool (m == n)) [ inl same ↦ inl (eqb-true m n same) | inr other ↦ inr (λ e. differ m n e other) ]

counted_head : (a b : Bool) (n : ℕ) → (n ≡ 0 → b ≡ false) → cond {A = ℕ} a 1 0 + n ≡ 0 → (a || b) ≡ false
counted_head true b n rest none = absurd (omega (arith, none))
counted_head false b n rest none = rest (omega (arith, none))

-- what holds of each element holds of the one at a place
pub All-at : {X : Type 0} (P : X → Type 0) (xs : List X) (p : ℕ) (x : X) → All P xs → slice_get xs p ≡ Some x → P x
All-at P xs p x all at = subst P (get_or_from_slice_get xs p x x at) (all p x (slice_get_within xs p x at))

pub All-remove : {X : Type 0} (P : X → Type 0) (xs : List X) (p : ℕ) → All P xs → All P (remove xs p)
All-remove P xs p all = All-append P (take p xs) (drop (suc p) xs) (All-take P p xs all) (All-drop P (suc p) xs all)

pub remove-set : {X : Type 0} (xs : List X) (p : ℕ) (y : X) → remove (set xs p y) p ≡ remove xs p
remove-set xs p y = ap (λ a. a ++ drop (suc p) (set xs p y)) (take-set xs p y) ∙ ap (λ b. take p xs ++ b) (drop-set-lt (suc p) xs p y (omega arith))

pub set_here : {X : Type 0} (xs : List X) (p : ℕ) (x y : X) → slice_get xs p ≡ Some x → slice_get (set xs p y) p ≡ Some y
set_here [] p x y at = absurd (none-some x at)
set_here (z ∷ xs) zero x y at = refl
set_here (z ∷ xs) (suc p) x y at = set_here xs p x y at

pub set_else : {X : Type 0} (xs : List X) (p q : ℕ) (y : X) → q ≢ p → slice_get (set xs p y) q ≡ slice_get xs q
set_else [] p q y other = refl
set_else (z ∷ xs) zero zero y other = absurd (other refl)
set_else (z ∷ xs) zero (suc q) y other = refl
set_else (z ∷ xs) (suc p) zero y other = refl
set_else (z ∷ xs) (suc p) (suc q) y other = set_else xs p q y (λ e. other (ap suc e))

-- an element at another place stays where one is removed
pub removed_keeps : {X : Type 0} (xs : List X) (p q : ℕ) (x : X) → slice_get xs q ≡ Some x → q ≢ p → (r : ℕ) × (slice_get (remove xs p) r ≡ Some x)
removed_keeps [] p q x at other = absurd (none-some x at)
removed_keeps (y ∷ xs) zero zero x at other = absurd (other refl)
removed_keeps (y ∷ xs) zero (suc q) x at other = (q, at)
removed_keeps (y ∷ xs) (suc p) zero x at other = (0, at)
removed_keeps (y ∷ xs) (suc p) (suc q) x at other =
    let more = removed_keeps xs p q x at (λ e. other (ap suc e)) in
    (suc more.0, more.1)

-- an element that is left where one was removed stood at another place
pub removed_from : {X : Type 0} (xs : List X) (p r : ℕ) (x : X) → p < length xs → slice_get (remove xs p) r ≡ Some x → (q : ℕ) × (slice_get xs q ≡ Some x) × (q ≢ p)
removed_from [] p r x inside at = absurd (omega (arith, inside))
removed_from (y ∷ xs) zero r x inside at = (suc r, at, λ e. absurd (omega (arith, e)))
removed_from (y ∷ xs) (suc p) zero x inside at = (0, at, λ e. absurd (omega (arith, e)))
removed_from (y ∷ xs) (suc p) (suc r) x inside at =
    let more = removed_from xs p r x (omega (arith, inside)) at in
    (suc more.0, more.1, λ e. more.2 (omega (arith, e)))

pub pushed_keeps : {X : Type 0} (xs ys : List X) (q : ℕ) (x : X) → slice_get xs q ≡ Some x → slice_get (xs ++ ys) q ≡ Some x
pushed_keeps [] ys q x at = absurd (none-some x at)
pushed_keeps (z ∷ xs) ys zero x at = at
pushed_keeps (z ∷ xs) ys (suc q) x at = pushed_keeps xs ys q x at

pub pushed_last : {X : Type 0} (xs : List X) (y : X) → slice_get (xs ++ y ∷ []) (length xs) ≡ Some y
pushed_last [] y = refl
pushed_last (z ∷ xs) y = pushed_last xs y

-- an element that passes a test is counted
pub counted_at : {X : Type 0} (t : X → Bool) (xs : List X) (p : ℕ) (x : X) → slice_get xs p ≡ Some x → t x ≡ true → 1 ≤ count_by t xs
counted_at {X} t xs p x at passes =
    let f : X → ℕ = λ y. cond (t y) 1 0 in
    let one : f (get_or xs p x) ≡ 1 = rw (get_or_from_slice_get xs p x x at) (rw passes refl) in
    omega (arith, one, get_or-le-sum_by f xs p x (slice_get_within xs p x at))

-- two places whose elements pass a test that is counted at most once are one place
pub one_place : {X : Type 0} (t : X → Bool) (xs : List X) (p q : ℕ) (x y : X) → slice_get xs p ≡ Some x → slice_get xs q ≡ Some y → t x ≡ true → t y ≡ true → count_by t xs ≤ 1 → p ≡ q
one_place {X} t xs p q x y at bt tx ty few =
    elim (cases_same p q) [
      | inl same ↦ same
      | inr other ↦
          let f : X → ℕ = λ z. cond (t z) 1 0 in
          let left = removed_keeps xs p q y bt (λ e. other (sym e)) in
          let some : 1 ≤ count_by t (remove xs p) = counted_at t (remove xs p) left.0 y left.1 ty in
          let one : f (get_or xs p x) ≡ 1 = rw (get_or_from_slice_get xs p x x at) (rw tx refl) in
          let all = sum_by-remove f xs p x (slice_get_within xs p x at) in
          absurd (omega (arith, some, one, all, few))
    ]

-- a number that is not there stands at no place
pub not_there : (ns : List ℕ) (id p n : ℕ) → list_any (λ m. m == id) ns ≡ false → slice_get ns p ≡ Some n → n ≢ id
not_there [] id p n none at = absurd (none-some n at)
not_there (m ∷ ns) id zero n none at = λ e.
    let first = (or_parts (m == id) (list_any (λ k. k == id) ns) none).0 in
    let same : m ≡ n = same_Some m n at in
    absurd (differ m id (same ∙ e) first)
not_there (m ∷ ns) id (suc p) n none at = not_there ns id p n (or_parts (m == id) (list_any (λ k. k == id) ns) none).1 at

-- a sum over what a function gives
pub sum_by-map : {X Y : Type 0} (g : Y → ℕ) (f : X → Y) (xs : List X) → sum_by g (map f xs) ≡ sum_by (λ x. g (f x)) xs
sum_by-map g f [] = refl
sum_by-map g f (x ∷ xs) = omega (arith, sum_by-cons g (f x) (map f xs), sum_by-cons (λ y. g (f y)) x xs, sum_by-map g f xs)

-- a number that is counted nowhere is not there
pub not_counted : (ns : List ℕ) (id : ℕ) → count_by (λ m. m == id) ns ≡ 0 → list_any (λ m. m == id) ns ≡ false
not_counted [] id none = refl
not_counted (m ∷ ns) id none = counted_head (m == id) (list_any (λ k. k == id) ns) (count_by (λ k. k == id) ns) (not_counted ns id) (sym (sum_by-cons (λ k. cond (k == id) 1 0) m ns) ∙ none)

-- a number that is not there is counted nowhere
pub counted_nowhere : (ns : List ℕ) (id : ℕ) → list_any (λ m. m == id) ns ≡ false → count_by (λ m. m == id) ns ≡ 0
counted_nowhere [] id none = refl
counted_nowhere (m ∷ ns) id none =
    let parts = or_parts (m == id) (list_any (λ k. k == id) ns) none in
    let zero_here : cond {A = ℕ} (m == id) 1 0 ≡ 0 = rw parts.0 refl in
    omega (arith, sum_by-cons (λ k. cond {A = ℕ} (k == id) 1 0) m ns, zero_here, counted_nowhere ns id parts.1)

-- what passes a test stays where the others are left out
pub filter_keeps : {X : Type 0} (t : X → Bool) (xs : List X) (p : ℕ) (x : X) → slice_get xs p ≡ Some x → t x ≡ true → (q : ℕ) × (slice_get (filter t xs) q ≡ Some x)
filter_keeps t [] p x at passes = absurd (none-some x at)
filter_keeps t (y ∷ xs) zero x at passes =
    let same : y ≡ x = same_Some y x at in
    let here : t y ≡ true = ap t same ∙ passes in
    rw here (0, at)
filter_keeps t (y ∷ xs) (suc p) x at passes =
    let more = filter_keeps t xs p x at passes in
    elim (cases_Bool (t y)) [
      | inl passed ↦ rw passed (suc more.0, more.1)
      | inr failed ↦ rw failed more
    ]

-- what stands at a place is there
pub Contains-at : {X : Type 0} (xs : List X) (p : ℕ) (x : X) → slice_get xs p ≡ Some x → Contains xs x
Contains-at xs p x at = (p, slice_get_within xs p x at, get_or_from_slice_get xs p x x at)

pub Contains-cons : {X : Type 0} (xs : List X) (y x : X) → Contains xs x → Contains (y ∷ xs) x
Contains-cons xs y x there = (suc there.0, omega (arith, there.1), there.2)

pub Contains-rest : {X : Type 0} (xs : List X) (y x : X) → Contains (y ∷ xs) x → x ≢ y → Contains xs x
Contains-rest xs y x (zero, within, is) other = absurd (other (sym is))
Contains-rest xs y x (suc k, within, is) other = (k, omega (arith, within), is)
