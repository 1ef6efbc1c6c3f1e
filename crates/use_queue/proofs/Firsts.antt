-- The first entry of a queue.
use Rattle.std.proofs.Common.{◌≡◌, ◌⊎◌, ℕ, ◌<◌, ◌≤◌, suc, false, List, ◌∷◌, length, get_or, All, inl, inr, refl, sym, ap, ap₂, ◌∙◌, arith}
use Rattle.std.specs.List.{Contains}
use Rattle.std.specs.Ordering.{is_lt, ordering_then, nat_cmp, MatchOrdering}
use Rattle.std.specs.declared.cmp.Ordering.{Ordering}
use Rattle.std.specs.declared.cmp.Ordering.TheVariants.{Less, Equal, Greater}
use Rattle.std.specs.declared.cmp.Reverse.{Reverse}
use Rattle.std.specs.BinaryHeap.{IsUpperBound}
use Rattle.std.proofs.lemmas.Cmp.{ranked}
use Rattle.std.proofs.lemmas.List.{get_or-map, length-map}
use Rattle.std.proofs.lemmas.List.Elements.{All-from_recursion, All-map, All-weaker}
use Rattle.use_queue.specs.Entries.{cmp_entries, pairs, GoesFirst}

by_orders : (a b c d : ℕ) (o p : Ordering) → MatchOrdering o (b < a) (b ≡ a) (a < b) → MatchOrdering p (d < c) (d ≡ c) (c < d) → is_lt (ordering_then o p) ≡ false → (a < b) ⊎ ((a ≡ b) × (c ≤ d))
by_orders a b c d Less p m n e = cc
by_orders a b c d Greater p m n e = inl m
by_orders a b c d Equal Less m n e = cc
by_orders a b c d Equal Equal m n e = inr (sym m, omega (arith, n))
by_orders a b c d Equal Greater m n e = inr (sym m, omega (arith, n))

goes_first : (x y : Reverse (ℕ × ℕ)) → is_lt (cmp_entries x y) ≡ false → GoesFirst x.0 y.0
goes_first x y e = by_orders x.0.0 y.0.0 x.0.1 y.0.1 (nat_cmp y.0.0 x.0.0) (nat_cmp y.0.1 x.0.1) (ranked y.0.0 x.0.0 (nat_cmp y.0.0 x.0.0) refl) (ranked y.0.1 x.0.1 (nat_cmp y.0.1 x.0.1) refl) e

pub all_first : (x : Reverse (ℕ × ℕ)) (items : List (Reverse (ℕ × ℕ))) → IsUpperBound cmp_entries x items → All (GoesFirst x.0) (pairs items)
all_first x items bound =
    All-map (GoesFirst x.0) (λ (r : Reverse (ℕ × ℕ)). r.0) items
    (All-weaker (λ (y : Reverse (ℕ × ℕ)). is_lt (cmp_entries x y) ≡ false) (λ (y : Reverse (ℕ × ℕ)). GoesFirst x.0 y.0) (λ y e. goes_first x y e) items
    (All-from_recursion (λ (y : Reverse (ℕ × ℕ)). is_lt (cmp_entries x y) ≡ false) items bound))

pub contained : (x : Reverse (ℕ × ℕ)) (items : List (Reverse (ℕ × ℕ))) → 0 < length items → x ≡ get_or items 0 x → Contains (pairs items) x.0
contained x items some here =
    (0, rw (length-map items (λ (r : Reverse (ℕ × ℕ)). r.0)) some, get_or-map (λ (r : Reverse (ℕ × ℕ)). r.0) items 0 x x.0 some ∙ ap (λ (r : Reverse (ℕ × ℕ)). r.0) (sym here))

pub head_in : {X : Type 0} (x : X) (xs : List X) → Contains (x ∷ xs) x
head_in x xs = (0, omega arith, refl)

pub later_in : {X : Type 0} (x y : X) (xs : List X) → Contains xs y → Contains (x ∷ xs) y
later_in x y xs (i, inside, here) = (suc i, omega (arith, inside), here)

pub same_first : (a b : ℕ × ℕ) → GoesFirst a b → GoesFirst b a → a ≡ b
same_first a b (inl l) (inl m) = absurd (omega (arith, l, m))
same_first a b (inl l) (inr m) = let e = m.0 in absurd (omega (arith, l, e))
same_first a b (inr l) (inl m) = let e = l.0 in absurd (omega (arith, m, e))
same_first a b (inr l) (inr m) = let e : a.1 ≡ b.1 = let x = l.1 in let y = m.1 in omega (arith, x, y) in ap₂ (λ (x y : ℕ). (x, y)) l.0 e
