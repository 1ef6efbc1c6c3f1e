-- The line at a place, and those from there on.
use Rattle.std.proofs.Common.{◌≡◌, ℕ, ◌+◌, ◌<◌, inl, inr, List, [], ◌∷◌, length, drop, Option, Some, None, IfSome, MatchOption, sym, ap, ◌∙◌}
use Rattle.std.specs.List.{slice_get}
use Rattle.std.proofs.lemmas.List.{drop_more, drop_all}
use Rattle.std.proofs.lemmas.Option.{slice_get_within, get_or_from_slice_get, slice_get_cases}

pub some_left : {X : Type 0} (xs : List X) (i : ℕ) (x : X) → slice_get xs i ≡ Some x → drop i xs ≡ x ∷ drop (i + 1) xs
some_left xs i x e =
    drop_more xs i x (slice_get_within xs i x e) ∙ ap (λ y. y ∷ drop (i + 1) xs) (get_or_from_slice_get xs i x x e)

pub none_left : {X : Type 0} (xs : List X) (i : ℕ) → slice_get xs i ≡ None → drop i xs ≡ []
none_left xs i e = elim (slice_get_cases xs i).1 [
  | inl some ↦ absurd cc
  | inr none ↦ drop_all i xs none.0
]

pub line_left : {X : Type 0} (xs : List X) (i : ℕ) (o : Option X) → o ≡ slice_get xs i → MatchOption o (drop i xs ≡ []) (λ x. drop i xs ≡ x ∷ drop (i + 1) xs)
line_left xs i (Some x) e = some_left xs i x (sym e)
line_left xs i None e = none_left xs i (sym e)

pub line_within : {X : Type 0} (xs : List X) (i : ℕ) (o : Option X) → o ≡ slice_get xs i → IfSome o (λ x. i < length xs)
line_within xs i (Some x) e = slice_get_within xs i x (sym e)
line_within xs i None e = tt
