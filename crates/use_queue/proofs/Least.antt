-- The first entry of segments as a reduction sees them is that of the least.
use Rattle.std.proofs.Common.{◌≡◌, ◌⊎◌, ℕ, ◌<◌, nat_lt, Bool, true, false, cond, List, [], ◌∷◌, map, Some, option_map, inl, inr, refl, ap, subst, arith, All, zero, suc}
use Rattle.std.specs.List.{Contains}
use Rattle.std.proofs.lemmas.Bool.Decides.{nat_tests}
use Rattle.std.proofs.lemmas.List.Elements.{All-head, All-tail, All-weaker, All-contains, All-contains_itself}
use Rattle.machine.specs.Reduction.{Candidate, use_of, comes_first, least_of, least}
use Rattle.use_queue.specs.Entries.{entry_of, GoesFirst, IsFirst, IsSoundQueue}
use Rattle.use_queue.proofs.Firsts.{same_first}

-- this entry is that of one of these
abbrev pub Among : ℕ × ℕ → List Candidate → Type 0
Among k [] = ⊥
Among k (c ∷ cs) = (entry_of c ≡ k) ⊎ Among k cs

abbrev pub GoesBefore : ℕ × ℕ → List Candidate → Type 0
GoesBefore k [] = Unit {0}
GoesBefore k (c ∷ cs) = GoesFirst k (entry_of c) × GoesBefore k cs

not_first : (d b : Candidate) → comes_first d b ≡ false → GoesFirst (entry_of b) (entry_of d)
not_first d b e = by (nat_lt (use_of b) (use_of d)) refl
  where
    by : (t : Bool) → nat_lt (use_of b) (use_of d) ≡ t → GoesFirst (entry_of b) (entry_of d)
    by true l = inl (grind (arith, nat_tests, l))
    by false l = inr (grind (arith, nat_tests, l, e), grind (arith, nat_tests, l, e))

is_first : (d b : Candidate) → comes_first d b ≡ true → (use_of d < use_of b) ⊎ ((use_of d ≡ use_of b) × (d.id < b.id))
is_first d b e = by (nat_lt (use_of d) (use_of b)) refl
  where
    by : (t : Bool) → nat_lt (use_of d) (use_of b) ≡ t → (use_of d < use_of b) ⊎ ((use_of d ≡ use_of b) × (d.id < b.id))
    by true l = inl (grind (arith, nat_tests, l))
    by false l = inr (grind (arith, nat_tests, l, e), grind (arith, nat_tests, l, e))

not_after : (k : ℕ × ℕ) (d b : Candidate) → entry_of b ≡ k → GoesFirst k (entry_of d) → comes_first d b ≡ true → ⊥
not_after k d b is goes e = by goes (is_first d b e)
  where
    u : use_of b ≡ k.0
    u = ap (λ (o : ℕ × ℕ). o.0) is

    n : b.id ≡ k.1
    n = ap (λ (o : ℕ × ℕ). o.1) is

    by : GoesFirst k (entry_of d) → (use_of d < use_of b) ⊎ ((use_of d ≡ use_of b) × (d.id < b.id)) → ⊥
    by (inl l) (inl m) = absurd (omega (arith, l, m, u))
    by (inl l) (inr m) = let s = m.0 in absurd (omega (arith, l, s, u))
    by (inr l) (inl m) = let s = l.0 in absurd (omega (arith, s, m, u))
    by (inr l) (inr m) = let s = l.1 in let r = m.1 in absurd (omega (arith, s, r, n))

-- the better of two still has the entry, if one of them or of the rest has it
still_among : (t : Bool) (k : ℕ × ℕ) (d b : Candidate) (rest : List Candidate) → comes_first d b ≡ t → Among k (b ∷ d ∷ rest) → GoesBefore k (b ∷ d ∷ rest) → Among k (cond t d b ∷ rest)
still_among true k d b rest e (inl is) goes = absurd (not_after k d b is goes.1.0 e)
still_among true k d b rest e (inr (inl is)) goes = inl is
still_among true k d b rest e (inr (inr more)) goes = inr more
still_among false k d b rest e (inl is) goes = inl is
still_among false k d b rest e (inr (inl is)) goes =
    inl (same_first (entry_of b) k (subst (λ (o : ℕ × ℕ). GoesFirst (entry_of b) o) is (not_first d b e)) goes.0)
still_among false k d b rest e (inr (inr more)) goes = inr more

still_before : (t : Bool) (k : ℕ × ℕ) (d b : Candidate) (rest : List Candidate) → GoesBefore k (b ∷ d ∷ rest) → GoesBefore k (cond t d b ∷ rest)
still_before true k d b rest goes = (goes.1.0, goes.1.1)
still_before false k d b rest goes = (goes.0, goes.1.1)

least_entry : (k : ℕ × ℕ) (b : Candidate) (rest : List Candidate) → Among k (b ∷ rest) → GoesBefore k (b ∷ rest) → entry_of (least_of b rest) ≡ k
least_entry k b [] (inl is) goes = is
least_entry k b [] (inr none) goes = absurd none
least_entry k b (d ∷ rest) among goes =
    least_entry k (cond (comes_first d b) d b) rest (still_among (comes_first d b) k d b rest refl among goes) (still_before (comes_first d b) k d b rest goes)

among : (k : ℕ × ℕ) (cs : List Candidate) → Contains (map entry_of cs) k → Among k cs
among k [] (i, inside, here) = absurd (omega (arith, inside))
among k (c ∷ cs) (zero, inside, here) = inl here
among k (c ∷ cs) (suc i, inside, here) = inr (among k cs (i, omega (arith, inside), here))

before : (k : ℕ × ℕ) (cs : List Candidate) → All (GoesFirst k) (map entry_of cs) → GoesBefore k cs
before k [] all = tt
before k (c ∷ cs) all = (All-head (GoesFirst k) (entry_of c) (map entry_of cs) all, before k cs (All-tail (GoesFirst k) (entry_of c) (map entry_of cs) all))

pub least_by : (k : ℕ × ℕ) (cs : List Candidate) → Among k cs → GoesBefore k cs → option_map entry_of (least cs) ≡ Some k
least_by k [] none goes = absurd none
least_by k (c ∷ cs) there goes = ap (λ (o : ℕ × ℕ). Some o) (least_entry k c cs there goes)

-- what stands at the front of a sound queue is the first of the live entries
pub first_of_live : (k : ℕ × ℕ) (live entries : List (ℕ × ℕ)) → IsSoundQueue (Contains live) entries → IsFirst k entries → IsFirst k live
first_of_live k live entries sound first =
    (sound.front k first, All-weaker (Contains live) (GoesFirst k) (λ o there. All-contains (GoesFirst k) entries o first.1 (sound.each o there)) live (All-contains_itself live))

pub first_is_least : (k : ℕ × ℕ) (cs : List Candidate) → IsFirst k (map entry_of cs) → option_map entry_of (least cs) ≡ Some k
first_is_least k cs first = least_by k cs (among k cs first.0) (before k cs first.1)
