-- What a table by number says of the segments in it.
use Rattle.std.proofs.Common.{◌≡◌, ℕ, ◌==◌, ◌+◌, ◌<◌, ◌≤◌, nat_lt, true, false, not, ◌||◌, cond, List, [], ◌∷◌, ◌++◌, length, get_or, set, map, filter, All, sum, zero, suc, refl, ap, subst, ◌∙◌, add-one, arith}
use Rattle.std.proofs.lemmas.Bool.{cond_both, or_from, ne_eqb, eqb-true, eqb-false, cond-false}
use Rattle.std.proofs.lemmas.Bool.Decides.{nat_tests}
use Rattle.std.specs.List.{Contains}
use Rattle.std.specs.List.Sorted.{IsStrictlyIncreasing}
use Rattle.std.proofs.lemmas.List.Elements.{All-nil, All-cons, Contains-append_right}
use Rattle.std.proofs.lemmas.List.Sums.{sum_by-cons}
use Rattle.discard_book.specs.Live.{has_number, pages_of, AreDrawn}
use Rattle.discard_book.specs.Legal.{is_empty}
use Rattle.discard_book.specs.Table.{numbered}

-- two different numbers
apart : (k n : ℕ) → (k < n) → (k == n) ≡ false
apart k n below = ne_eqb k n (λ same. omega arith)

-- the rest of a table stands behind its first number
abbrev rest_of : ℕ → List ℕ → List (ℕ × ℕ)
rest_of first more = numbered (first + 1) more

-- no number before the first stands in a table
pub has_number-below : (first k : ℕ) (table : List ℕ) → k < first → has_number (numbered first table) k ≡ false
has_number-below first k [] below = refl
has_number-below first k (p ∷ more) below =
    let rest : has_number (rest_of first more) k ≡ false = has_number-below (first + 1) k more (omega arith) in
    cond_both (p == 0) (rest_of first more) ((first, p) ∷ rest_of first more) (λ segments. has_number segments k ≡ false)
    (λ e. rest)
    (λ e. or_from (k == first) (has_number (rest_of first more) k) (apart k first below) rest)

-- a number stands in a table where its pages are not 0
pub has_number-at : (first k place : ℕ) (table : List ℕ) → k ≡ first + place → has_number (numbered first table) k ≡ nat_lt 0 (get_or table place 0)
has_number-at first k place [] at = refl
has_number-at first k zero (p ∷ more) at =
    let rest : has_number (rest_of first more) k ≡ false = has_number-below (first + 1) k more (omega arith) in
    cond_both (p == 0) (rest_of first more) ((first, p) ∷ rest_of first more) (λ segments. has_number segments k ≡ nat_lt 0 p)
    (λ e. let none : p ≡ 0 = eqb-true p 0 e in grind (arith, nat_tests))
    (λ e. let some : p ≡ 0 → ⊥ = eqb-false p 0 e in grind (arith, nat_tests))
has_number-at first k (suc place) (p ∷ more) at =
    let rest : has_number (rest_of first more) k ≡ nat_lt 0 (get_or more place 0) = has_number-at (first + 1) k place more (omega arith) in
    let other : (k == first) ≡ false = ne_eqb k first (λ same. omega arith) in
    cond_both (p == 0) (rest_of first more) ((first, p) ∷ rest_of first more) (λ segments. has_number segments k ≡ nat_lt 0 (get_or more place 0))
    (λ e. rest)
    (λ e. ap (λ b. b || has_number (rest_of first more) k) other ∙ rest)

-- a number with pages has its segment
pub segment_at : (first place : ℕ) (table : List ℕ) → place < length table → 1 ≤ get_or table place 0 → Contains (numbered first table) (first + place, get_or table place 0)
segment_at first place [] within some = absurd (omega arith)
segment_at first zero (p ∷ more) within some =
    cond_both (p == 0) (rest_of first more) ((first, p) ∷ rest_of first more) (λ segments. Contains segments (first + 0, p))
    (λ e. let none : p ≡ 0 = eqb-true p 0 e in absurd (omega arith))
    (λ e. (zero, omega arith, ap (λ (n : ℕ). (n, p)) (omega arith)))
segment_at first (suc place) (p ∷ more) within some =
    let number : first + 1 + place ≡ first + suc place = omega arith in
    let rest : Contains (rest_of first more) (first + 1 + place, get_or more place 0) = segment_at (first + 1) place more (omega arith) some in
    let there : Contains (rest_of first more) (first + suc place, get_or more place 0) = subst (λ (n : ℕ). Contains (rest_of first more) (n, get_or more place 0)) number rest in
    cond_both (p == 0) (rest_of first more) ((first, p) ∷ rest_of first more) (λ segments. Contains segments (first + suc place, get_or more place 0))
    (λ e. there)
    (λ e. Contains-append_right ((first, p) ∷ []) (rest_of first more) (first + suc place, get_or more place 0) there)

-- the segments without a number
abbrev pub without : ℕ → List (ℕ × ℕ) → List (ℕ × ℕ)
without k segments = filter (λ segment. not (k == segment.0)) segments

-- a number before the first takes nothing out of a table
pub without-below : (first k : ℕ) (table : List ℕ) → k < first → without k (numbered first table) ≡ numbered first table
without-below first k [] below = refl
without-below first k (p ∷ more) below =
    let rest : without k (rest_of first more) ≡ rest_of first more = without-below (first + 1) k more (omega arith) in
    cond_both (p == 0) (rest_of first more) ((first, p) ∷ rest_of first more) (λ segments. without k segments ≡ segments)
    (λ e. rest)
    (λ e. ap (λ b. cond (not b) ((first, p) ∷ without k (rest_of first more)) (without k (rest_of first more))) (apart k first below) ∙ ap (λ (segments : List (ℕ × ℕ)). (first, p) ∷ segments) rest)

-- a number is taken out of a table by 0 pages
pub without-at : (first k place : ℕ) (table : List ℕ) → k ≡ first + place → place < length table → without k (numbered first table) ≡ numbered first (set table place 0)
without-at first k place [] at within = absurd (omega arith)
without-at first k zero (p ∷ more) at within =
    let rest : without k (rest_of first more) ≡ rest_of first more = without-below (first + 1) k more (omega arith) in
    let here : (k == first) ≡ true = grind (arith, nat_tests) in
    cond_both (p == 0) (rest_of first more) ((first, p) ∷ rest_of first more) (λ segments. without k segments ≡ rest_of first more)
    (λ e. rest)
    (λ e. ap (λ b. cond (not b) ((first, p) ∷ without k (rest_of first more)) (without k (rest_of first more))) here ∙ rest)
without-at first k (suc place) (p ∷ more) at within =
    let rest : without k (rest_of first more) ≡ rest_of first (set more place 0) = without-at (first + 1) k place more (omega arith) (omega arith) in
    let other : (k == first) ≡ false = ne_eqb k first (λ same. omega arith) in
    without_first first k p other (rest_of first more) (rest_of first (set more place 0)) rest
  where
    without_first : (first k p : ℕ) → (k == first) ≡ false → (old new : List (ℕ × ℕ)) → without k old ≡ new → without k (cond (p == 0) old ((first, p) ∷ old)) ≡ cond (p == 0) new ((first, p) ∷ new)
    without_first first k p other old new rest =
        elim (p == 0) as (λ b. without k (cond b old ((first, p) ∷ old)) ≡ cond b new ((first, p) ∷ new)) [
          | true ↦ rest
          | false ↦ ap (λ b. cond (not b) ((first, p) ∷ without k old) (without k old)) other ∙ ap (λ (segments : List (ℕ × ℕ)). (first, p) ∷ segments) rest
        ]

-- the pages of the segments in a table
pub pages_of-numbered : (first : ℕ) (table : List ℕ) → pages_of (numbered first table) ≡ sum table
pages_of-numbered first [] = refl
pages_of-numbered first (p ∷ more) =
    let rest : pages_of (rest_of first more) ≡ sum more = pages_of-numbered (first + 1) more in
    let all : sum (p ∷ more) ≡ p + sum more = sum_by-cons (λ x. x) p more in
    cond_both (p == 0) (rest_of first more) ((first, p) ∷ rest_of first more) (λ segments. pages_of segments ≡ sum (p ∷ more))
    (λ e. let none : p ≡ 0 = eqb-true p 0 e in omega arith)
    (λ e. sum_by-cons (λ (segment : ℕ × ℕ). segment.1) (first, p) (rest_of first more) ∙ omega arith)

-- no segment stands in a table where there are no pages
pub is_empty-numbered : (first : ℕ) (table : List ℕ) → is_empty (numbered first table) ≡ (sum table == 0)
is_empty-numbered first [] = refl
is_empty-numbered first (p ∷ more) =
    let rest : is_empty (rest_of first more) ≡ (sum more == 0) = is_empty-numbered (first + 1) more in
    let all : sum (p ∷ more) ≡ p + sum more = sum_by-cons (λ x. x) p more in
    cond_both (p == 0) (rest_of first more) ((first, p) ∷ rest_of first more) (λ segments. is_empty segments ≡ (sum (p ∷ more) == 0))
    (λ e. let none : p ≡ 0 = eqb-true p 0 e in rest ∙ ap (λ n. n == 0) (omega arith))
    (λ e. let some : p ≡ 0 → ⊥ = eqb-false p 0 e in grind (arith, nat_tests))

-- a new number stands last
pub numbered-push : (first p : ℕ) (table : List ℕ) → 1 ≤ p → numbered first (table ++ p ∷ []) ≡ numbered first table ++ (first + length table, p) ∷ []
numbered-push first p [] some =
    cond-false (p == 0) [] ((first, p) ∷ []) (ne_eqb p 0 (λ none. omega arith)) ∙ ap (λ n. (n, p) ∷ []) (omega arith)
numbered-push first p (q ∷ more) some =
    let rest : rest_of first (more ++ p ∷ []) ≡ rest_of first more ++ (first + length (q ∷ more), p) ∷ [] =
    numbered-push (first + 1) p more some ∙ ap (λ n. rest_of first more ++ (n, p) ∷ []) (omega arith) in
    elim (q == 0) as (λ b. cond b (rest_of first (more ++ p ∷ [])) ((first, q) ∷ rest_of first (more ++ p ∷ [])) ≡ (cond b (rest_of first more) ((first, q) ∷ rest_of first more) ++ (first + length (q ∷ more), p) ∷ [])) [
      | true ↦ rest
      | false ↦ ap (λ (segments : List (ℕ × ℕ)). (first, q) ∷ segments) rest
    ]

-- what holds of each segment of a table
each_of : (P : ℕ × ℕ → Type 0) (first : ℕ) (table : List ℕ) → ((number pages : ℕ) → first ≤ number → number < first + length table → 1 ≤ pages → P (number, pages)) → All P (numbered first table)
each_of P first [] each = All-nil P
each_of P first (p ∷ more) each =
    let rest : All P (rest_of first more) = each_of P (first + 1) more (λ number pages low high some. each number pages (omega arith) (omega arith) some) in
    cond_both (p == 0) (rest_of first more) ((first, p) ∷ rest_of first more) (λ segments. All P segments)
    (λ e. rest)
    (λ e. let some : p ≡ 0 → ⊥ = eqb-false p 0 e in All-cons P (first, p) (rest_of first more) (each first p (omega arith) (omega arith) (omega arith)) rest)

-- the numbers of some segments
abbrev numbers_of : List (ℕ × ℕ) → List ℕ
numbers_of segments = map (λ (segment : ℕ × ℕ). segment.0) segments

-- a number below all later ones, which rise
rising_first : (number pages : ℕ) (segments : List (ℕ × ℕ)) → All (λ (segment : ℕ × ℕ). number < segment.0) segments → IsStrictlyIncreasing (numbers_of segments) → IsStrictlyIncreasing (numbers_of ((number, pages) ∷ segments))
rising_first number pages [] above rising k within = absurd (omega arith)
rising_first number pages (segment ∷ more) above rising zero within = above 0 segment (omega arith)
rising_first number pages (segment ∷ more) above rising (suc k) within = rw add-one (rw add-one at (rising k (omega arith)))

rising : (first : ℕ) (table : List ℕ) → IsStrictlyIncreasing (numbers_of (numbered first table))
rising first [] = λ k within. absurd (omega arith)
rising first (p ∷ more) =
    let above : All (λ (segment : ℕ × ℕ). first < segment.0) (rest_of first more) = each_of (λ segment. first < segment.0) (first + 1) more (λ number pages low high some. omega arith) in
    cond_both (p == 0) (rest_of first more) ((first, p) ∷ rest_of first more) (λ segments. IsStrictlyIncreasing (numbers_of segments))
    (λ e. rising (first + 1) more)
    (λ e. rising_first first p (rest_of first more) above (rising (first + 1) more))

-- the segments of a table were drawn
pub AreDrawn-numbered : (table : List ℕ) → AreDrawn (numbered 1 table) (length table)
AreDrawn-numbered table = record {
  rising = rising 1 table;
  within = each_of (λ segment. (1 ≤ segment.0) × (segment.0 ≤ length table)) 1 table (λ number pages low high some. (low, omega arith));
  sized = each_of (λ segment. 1 ≤ segment.1) 1 table (λ number pages low high some. some);
}
