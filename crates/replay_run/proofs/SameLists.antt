-- Two lists are the same exactly where a test that tells the same says so at each place.
use Rattle.std.proofs.Common.{◌≡◌, Bool, true, ◌&&◌, List, [], ◌∷◌, refl, ap, ◌∙◌}
use Rattle.std.specs.Cmp.Lexicographic.{pointwise}
use Rattle.std.proofs.lemmas.Bool.{false≢true, and_parts}

pub to_same : {A : Type 0} (E : A → A → Bool) → ((a b : A) → E a b ≡ true → a ≡ b) → (xs ys : List A) → pointwise E xs ys ≡ true → xs ≡ ys
to_same E tells [] [] e = refl
to_same E tells [] (y ∷ ys) e = absurd (false≢true e)
to_same E tells (x ∷ xs) [] e = absurd (false≢true e)
to_same E tells (x ∷ xs) (y ∷ ys) e =
    let parts = and_parts (E x y) (pointwise E xs ys) e in
    ap (λ a. a ∷ xs) (tells x y parts.0) ∙ ap (λ l. y ∷ l) (to_same E tells xs ys parts.1)

pub of_same : {A : Type 0} (E : A → A → Bool) → ((a : A) → E a a ≡ true) → (xs : List A) → pointwise E xs xs ≡ true
of_same E same [] = refl
of_same E same (x ∷ xs) = ap (λ b. b && pointwise E xs xs) (same x) ∙ of_same E same xs
