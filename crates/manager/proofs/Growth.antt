-- How books grow.
use Rattle.std.proofs.Common.{◌≡◌, ℕ, ◌+◌, Bool, true, false, ◌&&◌, cond, List, [], ◌∷◌, ◌++◌, map, refl, sym, ap, ◌∙◌, arith, eq-eqb}
use Rattle.std.specs.List.{count_by}
use Rattle.std.proofs.lemmas.Bool.Decides.{nat_tests}
use Rattle.std.proofs.lemmas.List.Sums.{sum_by-append}
use Rattle.std.proofs.lemmas.List.{append-nil, append_assoc}
use Rattle.machine.specs.Reduction.{Candidate}
use Rattle.lru_reduce.specs.Reducing.{purge_of}
use Rattle.discard_book.specs.declared.entry.Entry.{Entry}
use Rattle.discard_book.specs.declared.entry.Entry.TheVariants as entry
use Rattle.discard_book.specs.Live.{grants, is_grant}
use Rattle.manager.specs.Grows.{carries, is_round, all_carry, Grows}

pub count_by-append : (test : Entry → Bool) (xs ys : List Entry) → count_by test (xs ++ ys) ≡ count_by test xs + count_by test ys
count_by-append test xs ys = sum_by-append (λ (e : Entry). cond (test e) 1 0) xs ys

all_carry-append : (limit : ℕ) (xs ys : List Entry) → all_carry limit xs ≡ true → all_carry limit ys ≡ true → all_carry limit (xs ++ ys) ≡ true
all_carry-append limit [] ys first second = second
all_carry-append limit (x ∷ xs) ys first second =
    elim (carries limit x) as (λ b. (b && all_carry limit xs) ≡ true → (b && all_carry limit (xs ++ ys)) ≡ true)
    [ true ↦ λ rest. all_carry-append limit xs ys rest second | false ↦ λ none. none ]
    first

-- a book that stays
pub grows_none : (limit : ℕ) (xs : List Entry) → Grows limit 0 0 xs xs
grows_none limit xs = record { more = []; follows = sym (append-nil xs); carry = refl; granted_is = refl; rounds_are = omega arith }

-- one growth after another
pub grows_more : (limit a b c d : ℕ) (xs ys zs : List Entry) → Grows limit a b xs ys → Grows limit c d ys zs → Grows limit (a + c) (b + d) xs zs
grows_more limit a b c d xs ys zs first second =
    record {
      more = first.more ++ second.more;
      follows = second.follows ∙ ap (λ (es : List Entry). es ++ second.more) first.follows ∙ append_assoc xs first.more second.more;
      carry = all_carry-append limit first.more second.more first.carry second.carry;
      granted_is = omega (arith, count_by-append is_grant first.more second.more, first.granted_is, second.granted_is);
      rounds_are = omega (arith, count_by-append (is_round limit) first.more second.more, first.rounds_are, second.rounds_are);
    }

-- a Grant
pub grows_granted : (limit id client pages : ℕ) (xs : List Entry) → Grows limit 1 0 xs (xs ++ entry.Grant id client pages limit ∷ [])
grows_granted limit id client pages xs =
    record { more = entry.Grant id client pages limit ∷ []; follows = refl; carry = grind (arith, nat_tests); granted_is = refl; rounds_are = omega arith }

-- a Back
pub grows_back : (limit id : ℕ) (xs : List Entry) → Grows limit 0 0 xs (xs ++ entry.Back id ∷ [])
grows_back limit id xs = record { more = entry.Back id ∷ []; follows = refl; carry = refl; granted_is = refl; rounds_are = omega arith }

purges_carry : (limit : ℕ) (cs : List Candidate) (tail : List Entry) → all_carry limit tail ≡ true → all_carry limit (map purge_of cs ++ tail) ≡ true
purges_carry limit [] tail e = e
purges_carry limit (c ∷ cs) tail e = purges_carry limit cs tail e

zero_more : (n : ℕ) → 0 + n ≡ n
zero_more n = omega arith

purges_count : (test : Entry → Bool) (none : (c : Candidate) → test (purge_of c) ≡ false) (cs : List Candidate) (tail : List Entry)
    → count_by test (map purge_of cs ++ tail) ≡ count_by test tail
purges_count test none [] tail = refl
purges_count test none (c ∷ cs) tail = let rest : List Entry = map purge_of cs ++ tail in
    count_by-append test (purge_of c ∷ []) rest ∙ ap (λ (b : Bool). (0 + cond {A = ℕ} b 1 0) + count_by test rest) (none c) ∙ zero_more (count_by test rest) ∙ purges_count test none cs tail

-- whatever its limit
pub grows_reduced : (limit : ℕ) (cs : List Candidate) (to now after : ℕ) (least : _) (xs ys : List Entry) → ys ≡ (xs ++ map purge_of cs) ++ entry.Reduced to now after least ∷ [] → Grows limit 0 0 xs ys
grows_reduced limit cs to now after least xs ys e = record {
  more = map purge_of cs ++ entry.Reduced to now after least ∷ [];
  follows = e ∙ append_assoc xs (map purge_of cs) (entry.Reduced to now after least ∷ []);
  carry = purges_carry limit cs (entry.Reduced to now after least ∷ []) refl;
  granted_is = purges_count is_grant (λ c. refl) cs (entry.Reduced to now after least ∷ []);
  rounds_are = omega arith;
}

-- where its limit is the manager's
pub grows_round : (cs : List Candidate) (to now after : ℕ) (least : _) (xs ys : List Entry) → ys ≡ (xs ++ map purge_of cs) ++ entry.Reduced to now after least ∷ [] → Grows to 0 1 xs ys
grows_round cs to now after least xs ys e = record {
  more = map purge_of cs ++ entry.Reduced to now after least ∷ [];
  follows = e ∙ append_assoc xs (map purge_of cs) (entry.Reduced to now after least ∷ []);
  carry = purges_carry to cs (entry.Reduced to now after least ∷ []) refl;
  granted_is = purges_count is_grant (λ c. refl) cs (entry.Reduced to now after least ∷ []);
  rounds_are = (let one : count_by (is_round to) (map purge_of cs ++ entry.Reduced to now after least ∷ []) ≡ 1 =
      purges_count (is_round to) (λ c. refl) cs (entry.Reduced to now after least ∷ []) ∙ ap (λ (b : Bool). 0 + cond {A = ℕ} b 1 0) (eq-eqb to to refl) in omega arith);
}

-- how many Grants a grown book has
pub grows_grants : (limit a b : ℕ) (xs ys : List Entry) → Grows limit a b xs ys → grants ys ≡ grants xs + a
grows_grants limit a b xs ys grown = ap grants grown.follows ∙ (count_by-append is_grant xs grown.more ∙ ap (λ (n : ℕ). grants xs + n) grown.granted_is)
