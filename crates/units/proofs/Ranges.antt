-- Ranges of pages: which page a range has, how many pages are held, and tests of all pages.
use Rattle.std.proofs.Common.{◌≡◌, ◌≢◌, ℕ, ◌+◌, ◌-◌, ◌<◌, ◌≤◌, Bool, true, false, not, ◌&&◌, cond, List, [], ◌∷◌, length, get_or, set, count_by, refl, sym, ap, ◌∙◌, subst, ⊎_elim, arith, get_or-set_other, get_or-set_same, add-zero, suc, zero}
use Rattle.std.specs.List.{range_with_len, list_all}
use Rattle.std.proofs.lemmas.List.Sums.{sum_by-set, sum_by-cons}
use Rattle.std.proofs.lemmas.Bool.{cases_eq, false≢true}
use Rattle.std.proofs.Math.Bool.{and-false as and_false}
use Rattle.std.proofs.lemmas.Bool.Decides.{nat_tests}
use Rattle.units.specs.Range.{is_within}

-- the page after a range joins it
pub within_more : (first i page : ℕ) → first ≤ i → page ≢ i → is_within first (i + 1 - first) page ≡ is_within first (i - first) page
within_more first i page h ne = grind (arith, nat_tests)

pub within_last : (first i : ℕ) → first ≤ i → is_within first (i + 1 - first) i ≡ true
within_last first i h = grind (arith, nat_tests)

pub within_not : (first i : ℕ) → first ≤ i → is_within first (i - first) i ≡ false
within_not first i h = grind (arith, nat_tests)

-- one more page is written
pub after_more : (xs zs : List Bool) (first i page : ℕ) (b : Bool) → first ≤ i → i < length xs
    → get_or xs page false ≡ cond (is_within first (i - first) page) b (get_or zs page false)
    → get_or (set xs i b) page false ≡ cond (is_within first (i + 1 - first) page) b (get_or zs page false)
after_more xs zs first i page b h k e =
    ⊎_elim (λ same. subst (λ (p : ℕ). get_or (set xs i b) p false ≡ cond (is_within first (i + 1 - first) p) b (get_or zs p false)) (sym same)
    (get_or-set_same xs i b false k ∙ sym (ap (λ w. cond w b (get_or zs i false)) (within_last first i h))))
    (λ other. get_or-set_other xs i page b false other ∙ e ∙ sym (ap (λ w. cond w b (get_or zs page false)) (within_more first i page h other)))
    (cases_eq page i)

-- a page that changes counts
pub counted_set : (xs : List Bool) (i : ℕ) (b : Bool) → i < length xs → get_or xs i false ≡ not b
    → count_by (λ x. x) (set xs i b) + cond b 0 1 ≡ count_by (λ x. x) xs + cond b 1 0
counted_set xs i true h e = omega (arith, sum_by-set (λ (x : Bool). cond x 1 0) xs i true false h, ap {B = ℕ} (λ (x : Bool). cond x 1 0) e)
counted_set xs i false h e = omega (arith, sum_by-set (λ (x : Bool). cond x 1 0) xs i false false h, ap {B = ℕ} (λ (x : Bool). cond x 1 0) e)

pub counted_more : (xs : List Bool) (total first i : ℕ) (b : Bool) → first ≤ i → i < length xs → get_or xs i false ≡ not b
    → count_by (λ x. x) xs + cond b 0 (i - first) ≡ total + cond b (i - first) 0
    → count_by (λ x. x) (set xs i b) + cond b 0 (i + 1 - first) ≡ total + cond b (i + 1 - first) 0
counted_more xs total first i true h k e counted = omega (arith, counted_set xs i true k e)
counted_more xs total first i false h k e counted = omega (arith, counted_set xs i false k e)

-- each number of a range passes, so all do
pub all_pass : (f : ℕ → Bool) (first n : ℕ) → ((k : ℕ) → first ≤ k → k < first + n → f k ≡ true) → list_all f (range_with_len first n) ≡ true
all_pass f first zero each = refl
all_pass f first (suc n) each =
    ap (λ b. b && list_all f (range_with_len (first + 1) n)) (each first (omega arith) (omega arith))
    ∙ all_pass f (first + 1) n (λ k low high. each k (omega arith) (omega arith))

-- one number of a range fails, so not all pass
pub one_fails : (f : ℕ → Bool) (first n k : ℕ) → first ≤ k → k < first + n → f k ≡ false → list_all f (range_with_len first n) ≡ false
one_fails f first zero k low high e = absurd (omega arith)
one_fails f first (suc n) k low high e =
    ⊎_elim (λ same. ap (λ b. b && list_all f (range_with_len (first + 1) n)) (ap f (sym same) ∙ e))
    (λ other. ap (λ b. f first && b) (one_fails f (first + 1) n k (omega arith) (omega arith) e) ∙ and_false (f first))
    (cases_eq k first)

-- all numbers of a range pass, so each does
pub each_passes : (f : ℕ → Bool) (first n k : ℕ) → list_all f (range_with_len first n) ≡ true → first ≤ k → k < first + n → f k ≡ true
each_passes f first n k all low high = by_test (f k) refl
  where
    by_test : (b : Bool) → f k ≡ b → f k ≡ true
    by_test true e = e
    by_test false e = absurd (false≢true (sym (one_fails f first n k low high e) ∙ all))

-- a test of numbers that the flags of a list tell counts as many as the flags
pub counted_flags : (f : ℕ → Bool) (from : ℕ) (xs : List Bool) → ((k : ℕ) → get_or xs k false ≡ f (from + k)) → count_by f (range_with_len from (length xs)) ≡ count_by (λ b. b) xs
counted_flags f from [] h = refl
counted_flags f from (x ∷ xs) h =
    let same : f from ≡ x = ap f (sym (add-zero from)) ∙ sym (h 0) in
    let rest : count_by f (range_with_len (from + 1) (length xs)) ≡ count_by (λ b. b) xs =
    counted_flags f (from + 1) xs (λ k. h (suc k) ∙ ap f (omega arith)) in
    sum_by-cons (λ k. cond (f k) 1 0) from (range_with_len (from + 1) (length xs))
    ∙ ap {B = ℕ} (λ (b : Bool). cond b 1 0 + count_by f (range_with_len (from + 1) (length xs))) same
    ∙ ap {B = ℕ} (λ n. cond x 1 0 + n) rest
    ∙ sym (sum_by-cons (λ (b : Bool). cond b 1 0) x xs)
