-- Places of a list, and numbers that were drawn.
use Rattle.std.proofs.Common.{◌≡◌, ◌≢◌, ℕ, ◌<◌, zero, suc, List, [], ◌∷◌, ◌++◌, length, set, Some, None, slice_get, refl, ap, arith}

pub get_set_same : {A : Type 0} (xs : List A) (i : ℕ) (y : A) → i < length xs → slice_get (set xs i y) i ≡ Some y
get_set_same [] i y h = absurd (omega arith)
get_set_same (x ∷ xs) zero y h = refl
get_set_same (x ∷ xs) (suc i) y h = get_set_same xs i y (omega arith)

pub get_set_other : {A : Type 0} (xs : List A) (i j : ℕ) (y : A) → j ≢ i → slice_get (set xs i y) j ≡ slice_get xs j
get_set_other [] i j y ne = refl
get_set_other (x ∷ xs) zero zero y ne = absurd (ne refl)
get_set_other (x ∷ xs) zero (suc j) y ne = refl
get_set_other (x ∷ xs) (suc i) zero y ne = refl
get_set_other (x ∷ xs) (suc i) (suc j) y ne = get_set_other xs i j y (λ e. ne (ap suc e))

pub get_push_same : {A : Type 0} (xs : List A) (i : ℕ) (y : A) → i ≡ length xs → slice_get (xs ++ y ∷ []) i ≡ Some y
get_push_same [] zero y e = refl
get_push_same [] (suc i) y e = absurd (omega arith)
get_push_same (x ∷ xs) zero y e = absurd (omega arith)
get_push_same (x ∷ xs) (suc i) y e = get_push_same xs i y (omega arith)

pub get_push_other : {A : Type 0} (xs : List A) (i : ℕ) (y : A) → i ≢ length xs → slice_get (xs ++ y ∷ []) i ≡ slice_get xs i
get_push_other [] zero y ne = absurd (ne refl)
get_push_other [] (suc i) y ne = refl
get_push_other (x ∷ xs) zero y ne = refl
get_push_other (x ∷ xs) (suc i) y ne = get_push_other xs i y (λ e. ne (ap suc e))

pub some_is : {A : Type 0} (x y : A) → Some x ≡ Some y → x ≡ y
some_is x y e = cc

pub none_not_some : {A : Type 0} (x : A) → None ≡ Some x → ⊥
none_not_some x e = cc
