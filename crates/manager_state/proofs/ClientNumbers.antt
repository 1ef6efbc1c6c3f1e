-- Std's set of pairs, read by what it contains.
use Rattle.std.proofs.Common.{◌≡◌, ◌≢◌, ℕ, ◌+◌, ◌<◌, ◌≤◌, Bool, true, false, List, [], ◌∷◌, Option, Some, None, cond, refl, sym, ◌∙◌, subst, arith}
use Rattle.std.specs.Prelude.{IfNone, IfSome, slice_get}
use Rattle.std.specs.Ordering.{nat_cmp, ordering_then, is_eq, is_gt, MatchOrdering}
use Rattle.std.specs.declared.cmp.Ordering.{Ordering}
use Rattle.std.specs.declared.cmp.Ordering.TheVariants.{Less, Equal, Greater}
use Rattle.std.specs.declared.ops.Bound.TheVariants.{Included, Unbounded}
use Rattle.std.specs.BTreeMap.Range.{IsLeBy}
use Rattle.std.specs.BTreeSet.{BTreeSet, IsKeyInRange, IsKeyRangeOf}
use Rattle.std.proofs.lemmas.Cmp.{ranked}
use Rattle.manager_state.specs.Keeping.{cmp_pairs, has_pair}

-- A pair that leaves

unequal : (i j : ℕ) → j ≢ i → is_eq (nat_cmp i j) ≡ false
unequal i j apart = by (nat_cmp i j) (ranked i j (nat_cmp i j) refl)
  where
    by : (o : Ordering) → MatchOrdering o (i < j) (i ≡ j) (j < i) → is_eq o ≡ false
    by Less l = refl
    by Equal e = absurd (apart (sym e))
    by Greater l = refl

pub other : (client id : ℕ) (p : ℕ × ℕ) → p.1 ≢ id → is_eq (cmp_pairs (client, id) p) ≡ false
other client id p apart = by (nat_cmp client p.0)
  where
    by : (o : Ordering) → is_eq (ordering_then o (nat_cmp id p.1)) ≡ false
    by Less = refl
    by Equal = unequal id p.1 apart
    by Greater = refl

-- A pair that enters

pub enters : (k p : ℕ × ℕ) (now was : Bool) → now ≡ cond (is_eq (cmp_pairs k p)) true was → was ≡ true → now ≡ true
enters k p now was is h = is ∙ by (is_eq (cmp_pairs k p))
  where
    by : (b : Bool) → cond b true was ≡ true
    by true = refl
    by false = h

-- The pairs of a client from a number on

from_start : (client from id : ℕ) → from ≤ id → is_gt (cmp_pairs (client, from) (client, id)) ≡ false
from_start client from id low = by (nat_cmp client client) (nat_cmp from id) (ranked client client (nat_cmp client client) refl) (ranked from id (nat_cmp from id) refl)
  where
    by : (o p : Ordering) → MatchOrdering o (client < client) (client ≡ client) (client < client) → MatchOrdering p (from < id) (from ≡ id) (id < from) → is_gt (ordering_then o p) ≡ false
    by Less p l m = refl
    by Equal Less l m = refl
    by Equal Equal l m = refl
    by Equal Greater l m = absurd (omega (arith, m, low))
    by Greater p l m = absurd (omega (arith, l))

at_most : (a b : ℕ) (p : Ordering) → is_gt (ordering_then (nat_cmp a b) p) ≡ false → a ≤ b
at_most a b p h = by (nat_cmp a b) (ranked a b (nat_cmp a b) refl) h
  where
    by : (o : Ordering) → MatchOrdering o (a < b) (a ≡ b) (b < a) → is_gt (ordering_then o p) ≡ false → a ≤ b
    by Less l h = omega (arith, l)
    by Equal e h = omega (arith, e)
    by Greater l h = cc

later : (client n id owner : ℕ) → owner ≡ client → id < n → is_gt (cmp_pairs (owner, n) (client, id)) ≡ false → ⊥
later client n id owner same high h = by (nat_cmp owner client) (nat_cmp n id) (ranked owner client (nat_cmp owner client) refl) (ranked n id (nat_cmp n id) refl) h
  where
    by : (o p : Ordering) → MatchOrdering o (owner < client) (owner ≡ client) (client < owner) → MatchOrdering p (n < id) (n ≡ id) (id < n) → is_gt (ordering_then o p) ≡ false → ⊥
    by Less p l m h = absurd (omega (arith, l, same))
    by Equal Less l m h = absurd (omega (arith, m, high))
    by Equal Equal l m h = absurd (omega (arith, m, high))
    by Equal Greater l m h = cc
    by Greater p l m h = cc

pub next_none : (s : BTreeSet (ℕ × ℕ)) (client from after : ℕ) (r : List (ℕ × ℕ)) → IsKeyRangeOf cmp_pairs (Included (client, from)) Unbounded s r → r ≡ [] → from ≡ after + 1
    → (id : ℕ) → after < id → has_pair s.keys client id ≡ false
next_none s client from after r range none is id low = range.5 none (client, id) (from_start client from id (omega (arith, is, low)), tt)

first_in : (s : BTreeSet (ℕ × ℕ)) (client from : ℕ) (r t : List (ℕ × ℕ)) (x : ℕ × ℕ) → IsKeyRangeOf cmp_pairs (Included (client, from)) Unbounded s r → r ≡ x ∷ t → IsKeyInRange cmp_pairs (Included (client, from)) Unbounded s x
first_in s client from r t x range is =
    subst (λ (ks : List (ℕ × ℕ)). IfSome (slice_get ks 0) (IsKeyInRange cmp_pairs (Included (client, from)) Unbounded s)) is range.1

pub next_there : (s : BTreeSet (ℕ × ℕ)) (client from : ℕ) (r t : List (ℕ × ℕ)) (x : ℕ × ℕ) → IsKeyRangeOf cmp_pairs (Included (client, from)) Unbounded s r → r ≡ x ∷ t → x.0 ≡ client → has_pair s.keys client x.1 ≡ true
next_there s client from r t x range is same =
    subst (λ (n : ℕ). has_pair s.keys n x.1 ≡ true) same (first_in s client from r t x range is).1

pub next_else : (s : BTreeSet (ℕ × ℕ)) (client from after : ℕ) (r t : List (ℕ × ℕ)) (x : ℕ × ℕ) → IsKeyRangeOf cmp_pairs (Included (client, from)) Unbounded s r → r ≡ x ∷ t → (x.0 ≡ client → ⊥) → from ≡ after + 1
    → (id : ℕ) → after < id → has_pair s.keys client id ≡ false
next_else s client from after r t x range is apart start id low = by (has_pair s.keys client id) refl
  where
    by : (b : Bool) → has_pair s.keys client id ≡ b → b ≡ false
    by false e = refl
    by true e =
        let high = at_most client x.0 (nat_cmp from x.1) (first_in s client from r t x range is).0.0 in
        let less = at_most x.0 client (nat_cmp x.1 id)
        (subst (λ (ks : List (ℕ × ℕ)). IfSome (slice_get ks 0) (λ (k : ℕ × ℕ). IsLeBy cmp_pairs k (client, id))) is (range.2 (client, id) (from_start client from id (omega (arith, start, low)), tt) e)) in
        absurd (apart (omega (arith, high, less)))

pub next_least : (s : BTreeSet (ℕ × ℕ)) (client from after : ℕ) (r t : List (ℕ × ℕ)) (x : ℕ × ℕ) → IsKeyRangeOf cmp_pairs (Included (client, from)) Unbounded s r → r ≡ x ∷ t → x.0 ≡ client → from ≡ after + 1
    → (id : ℕ) → after < id → id < x.1 → has_pair s.keys client id ≡ false
next_least s client from after r t x range is same start id low high = by (has_pair s.keys client id) refl
  where
    by : (b : Bool) → has_pair s.keys client id ≡ b → b ≡ false
    by false e = refl
    by true e =
        absurd (later client x.1 id x.0 same high
        (subst (λ (ks : List (ℕ × ℕ)). IfSome (slice_get ks 0) (λ (k : ℕ × ℕ). IsLeBy cmp_pairs k (client, id))) is (range.2 (client, id) (from_start client from id (omega (arith, start, low)), tt) e)))

-- a fact where there is none
pub on_none : {X P : Type 0} (o : Option X) → P → IfNone o P
on_none None p = p
on_none (Some x) p = tt
