-- Pieces at their places.
use Rattle.std.proofs.Common.{◌≡◌, ◌≢◌, ◌⊎◌, ℕ, zero, suc, ◌+◌, ◌<◌, List, [], ◌∷◌, ◌++◌, length, get_or, set, take, drop, map, Option, Some, None, refl, sym, ap, ◌∙◌, inl, inr, arith}
use Rattle.std.proofs.Math.Numerals.{add-one}
use Rattle.std.proofs.lemmas.List.{length-append}
use Rattle.std.proofs.lemmas.Option.{none-some}
use Rattle.span_heap.specs.declared.run.Run.{Run}
use Rattle.script_heaps.specs.Sound.{IsPiece}

-- a piece where one more came was there, or is the one that came
pub piece_pushed : (pieces : List (Option Run)) (more : Option Run) (place : ℕ) (run : Run) → IsPiece (pieces ++ more ∷ []) place run → IsPiece pieces place run ⊎ ((place ≡ length pieces) × (more ≡ Some run))
piece_pushed [] more zero run is = inr (refl, is)
piece_pushed [] more (suc place) run is = absurd (none-some run is)
piece_pushed (p ∷ pieces) more zero run is = inl is
piece_pushed (p ∷ pieces) more (suc place) run is =
    elim (piece_pushed pieces more place run is) [ inl old ↦ inl old | inr new ↦ inr (ap suc new.0, new.1) ]

-- a piece of a front is one of the whole
pub piece_front : (front rest : List (Option Run)) (place : ℕ) (run : Run) → IsPiece front place run → IsPiece (front ++ rest) place run
piece_front [] rest place run is = absurd (none-some run is)
piece_front (p ∷ front) rest zero run is = is
piece_front (p ∷ front) rest (suc place) run is = piece_front front rest place run is

-- a piece where one was taken was there, at another place
pub piece_set : (pieces : List (Option Run)) (place other : ℕ) (run : Run) → IsPiece (set pieces place None) other run → IsPiece pieces other run × (other ≢ place)
piece_set [] place other run is = absurd (none-some run is)
piece_set (p ∷ pieces) zero zero run is = absurd (none-some run is)
piece_set (p ∷ pieces) zero (suc other) run is = (is, λ e. absurd (omega (arith, e)))
piece_set (p ∷ pieces) (suc place) zero run is = (is, λ e. absurd (omega (arith, e)))
piece_set (p ∷ pieces) (suc place) (suc other) run is =
    let more = piece_set pieces place other run is in
    (more.0, λ e. more.1 (omega (arith, e)))

-- no piece is there where all were taken
pub piece_none : (pieces : List (Option Run)) (place : ℕ) (run : Run) → IsPiece (map (λ p. None) pieces) place run → ⊥
piece_none [] place run is = none-some run is
piece_none (p ∷ pieces) zero run is = none-some run is
piece_none (p ∷ pieces) (suc place) run is = piece_none pieces place run is

-- one piece more is taken
took : (xs : List (Option Run)) (i : ℕ) → i < length xs → set (map (λ p. None) (take i xs) ++ drop i xs) i None ≡ map (λ p. None) (take (suc i) xs) ++ drop (suc i) xs
took [] i within = absurd (omega (arith, within))
took (x ∷ xs) zero within = refl
took (x ∷ xs) (suc i) within = ap (λ (ys : List (Option Run)). None ∷ ys) (took xs i (omega (arith, within)))

pub took_one : (xs ys : List (Option Run)) (i : ℕ) → i < length xs → ys ≡ map (λ p. None) (take i xs) ++ drop i xs → set ys i None ≡ map (λ p. None) (take (i + 1) xs) ++ drop (i + 1) xs
took_one xs ys i within is =
    ap (λ (zs : List (Option Run)). set zs i None) is
    ∙ (took xs i within ∙ ap (λ (k : ℕ). map (λ (p : Option Run). None) (take k xs) ++ drop k xs) (sym (add-one i)))

-- two lists with one element more each
pub last_same : (xs ys : List (Option Run)) (x y : Option Run) → xs ++ x ∷ [] ≡ ys ++ y ∷ [] → (xs ≡ ys) × (x ≡ y)
last_same [] [] x y e = (refl, ap (λ (l : List (Option Run)). get_or l 0 x) e)
last_same [] (b ∷ ys) x y e = absurd (omega (arith, ap length e, length-append ys (y ∷ [])))
last_same (a ∷ xs) [] x y e = absurd (omega (arith, ap length e, length-append xs (x ∷ [])))
last_same (a ∷ xs) (b ∷ ys) x y e =
    let more = last_same xs ys x y (ap (λ (l : List (Option Run)). drop 1 l) e) in
    (ap (λ (c : Option Run). c ∷ xs) (ap (λ (l : List (Option Run)). get_or l 0 a) e) ∙ ap (λ (l : List (Option Run)). b ∷ l) more.0, more.1)
