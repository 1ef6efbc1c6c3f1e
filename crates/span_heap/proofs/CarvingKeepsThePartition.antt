-- A used span is taken from the front of a free run, or cut in two.
use Rattle.std.proofs.Common.{◌≡◌, ℕ, ◌+◌, ◌-◌, ◌<◌, ◌≤◌, Bool, true, false, ◌&&◌, cond, eqb, List, [], ◌∷◌, ◌++◌, refl, sym, ◌∙◌, ap, subst, arith, ◌⊎◌, inl, inr}
use Rattle.std.specs.List.{sum_by, count_by, All}
use Rattle.std.specs.List.Sorted.{IsPermutation}
use Rattle.std.proofs.lemmas.List.Sums.{sum_by-append, sum_by-cons}
use Rattle.std.proofs.lemmas.List.Sorted.{All-permutation, sum_by-IsPermutation}
use Rattle.std.proofs.lemmas.List.Elements.{All-tail, All-cons, All-nil, All-append}
use Rattle.std.proofs.lemmas.Bool.{and_parts, eqb-true, ne_eqb, lt-ltb, le-ltb, cases_lt, and_right}
use Rattle.span_heap.specs.declared.run.Run.{Run}
use Rattle.span_heap.specs.Segment.{Segment}
use Rattle.span_heap.specs.Run.{lies_in, has_page, begins_at, ends_at}
use Rattle.span_heap.specs.Runs.{front_of, back_of, rest_of}
use Rattle.span_heap.specs.Heap.{contents}
use Rattle.span_heap.proofs.PartitionByCounts.{IsCounted, has_page-within, sum_by-with, sum_by-given, one_if, at_most_once, begins-le-pages, ends-le-pages}
use Rattle.span_heap.proofs.Sums.{within, within-split}

-- either something is left of a run behind its first n pages, or it has just these
pub rest_cases : (run : Run) (n : ℕ) → n ≤ run.pages → ((n < run.pages) × (rest_of run n ≡ back_of run n ∷ [])) ⊎ ((run ≡ front_of run n) × (rest_of run n ≡ []))
rest_cases run n high =
    elim (cases_lt n run.pages) [
      | inl more ↦ inl (more, rw (lt-ltb n run.pages more) refl)
      | inr all ↦ inr (ap (front_of run) (omega arith), rw (le-ltb n run.pages all) refl)
    ]

-- a measure that adds up at a cut adds up over the front and what is left
pub rest_sum : (f : Run → ℕ) (run : Run) (n : ℕ) → n ≤ run.pages → (n < run.pages → f run ≡ f (front_of run n) + f (back_of run n))
    → f run ≡ f (front_of run n) + sum_by f (rest_of run n)
rest_sum f run n high cut =
    elim (rest_cases run n high) [
      | inl more ↦ rw more.1 (omega (arith, cut more.0))
      | inr all ↦ rw all.1 (omega (arith, ap f all.0))
    ]

pub cut_pages : (id page : ℕ) (run : Run) (n : ℕ) → n ≤ run.pages
    → cond {A = ℕ} (has_page id page run) 1 0 ≡ cond {A = ℕ} (has_page id page (front_of run n)) 1 0 + cond {A = ℕ} (has_page id page (back_of run n)) 1 0
cut_pages id page run n high =
    let end : run.first + n + (run.pages - n) ≡ run.first + run.pages = omega arith in
    within-split id page run.segment run.first (run.first + n) (run.first + run.pages) (omega arith) (omega arith)
    ∙ ap (λ b. within id page run.segment run.first (run.first + n) + within id page run.segment (run.first + n) b) (sym end)

pub cut_length : (run : Run) (n : ℕ) → n ≤ run.pages → run.pages ≡ n + (run.pages - n)
cut_length run n high = omega arith

-- what a measure that adds up counts stays
pub carved_sum : (f : Run → ℕ) (used free others used' : List Run) (run : Run) (n : ℕ) → IsPermutation free (run ∷ others) → IsPermutation (front_of run n ∷ used) used'
    → f run ≡ f (front_of run n) + sum_by f (rest_of run n) → sum_by f used' + sum_by f (others ++ rest_of run n) ≡ sum_by f used + sum_by f free
carved_sum f used free others used' run n taken given cut =
    omega (arith, cut, sum_by-with f free others run taken, sum_by-given f used used' (front_of run n) given, sum_by-append f others (rest_of run n))

-- what is left touches no other run
carved_apart : (segments : List Segment) (used free others : List Run) (run : Run) (n : ℕ) → IsCounted (contents segments used free) → IsPermutation free (run ∷ others)
    → 1 ≤ n → n < run.pages → (id page : ℕ) → (b : Bool) → begins_at id page (back_of run n) ≡ b
    → cond {A = ℕ} (ends_at id page (back_of run n)) 1 0 + cond {A = ℕ} b 1 0 + (count_by (ends_at id page) others + count_by (begins_at id page) others) ≤ 1
carved_apart segments used free others run n whole taken low high id page true begins =
    let parts = and_parts (eqb run.segment id) (eqb (run.first + n) page) begins in
    let same : run.segment ≡ id = eqb-true run.segment id parts.0 in
    let here : run.first + n ≡ page = eqb-true (run.first + n) page parts.1 in
    let no_end : ends_at id page (back_of run n) ≡ false = and_right (eqb run.segment id) _ (ne_eqb (run.first + n + (run.pages - n)) page (λ e. omega arith)) in
    let sized = All-tail (λ (x : Run). 1 ≤ x.pages) run others (All-permutation (λ (x : Run). 1 ≤ x.pages) free (run ∷ others) taken whole.free_sized) in
    let this : has_page id page run ≡ true = subst (λ s. has_page s page run ≡ true) same (has_page-within run page (omega arith) (omega arith)) in
    let before : has_page id (page - 1) run ≡ true = subst (λ s. has_page s (page - 1) run ≡ true) same (has_page-within run (page - 1) (omega arith) (omega arith)) in
    rw no_end
    (omega (
      arith,
      at_most_once (contents segments used free) whole id page,
      at_most_once (contents segments used free) whole id (page - 1),
      sum_by-with (λ x. cond {A = ℕ} (has_page id page x) 1 0) free others run taken,
      sum_by-with (λ x. cond {A = ℕ} (has_page id (page - 1) x) 1 0) free others run taken,
      one_if _ this,
      one_if _ before,
      begins-le-pages id page others sized,
      ends-le-pages id page others sized,
    ))
carved_apart segments used free others run n whole taken low high id page false begins =
    let end : run.first + n + (run.pages - n) ≡ run.first + run.pages = omega arith in
    let same : ends_at id page (back_of run n) ≡ ends_at id page run = ap (λ e. lies_in id run && eqb e page) end in
    rw same
    (omega (
      arith,
      whole.apart id page,
      sum_by-with (λ x. cond {A = ℕ} (ends_at id page x) 1 0) free others run taken,
      sum_by-with (λ x. cond {A = ℕ} (begins_at id page x) 1 0) free others run taken,
    ))

pub IsCounted-carved : (segments : List Segment) (used free others used' : List Run) (run : Run) (n : ℕ) → IsCounted (contents segments used free)
    → IsPermutation free (run ∷ others) → IsPermutation (front_of run n ∷ used) used' → 1 ≤ n → n ≤ run.pages
    → IsCounted (contents segments used' (others ++ rest_of run n))
IsCounted-carved segments used free others used' run n whole taken given low high =
    record {
      once = λ id page.
          carved_sum (λ x. cond {A = ℕ} (has_page id page x) 1 0) used free others used' run n taken given
          (rest_sum (λ x. cond {A = ℕ} (has_page id page x) 1 0) run n high (λ more. cut_pages id page run n high))
          ∙ whole.once id page;
      distinct = whole.distinct;
      used_sized = All-permutation (λ x. 1 ≤ x.pages) (front_of run n ∷ used) used' given (All-cons (λ x. 1 ≤ x.pages) (front_of run n) used low whole.used_sized);
      free_sized = elim (rest_cases run n high) [
        | inl more ↦ rw more.1 (All-append (λ x. 1 ≤ x.pages) others (back_of run n ∷ []) others_sized (All-cons (λ x. 1 ≤ x.pages) (back_of run n) [] (omega (arith, more.0)) (All-nil (λ x. 1 ≤ x.pages))))
        | inr all ↦ rw all.1 (All-append (λ x. 1 ≤ x.pages) others [] others_sized (All-nil (λ x. 1 ≤ x.pages)))
      ];
      apart = λ id page. elim (rest_cases run n high) [
        | inl more ↦ rw more.1 (omega (
          arith,
          carved_apart segments used free others run n whole taken low more.0 id page (begins_at id page (back_of run n)) refl,
          sum_by-append (λ x. cond {A = ℕ} (ends_at id page x) 1 0) others (back_of run n ∷ []),
          sum_by-append (λ x. cond {A = ℕ} (begins_at id page x) 1 0) others (back_of run n ∷ []),
        ))
        | inr all ↦ rw all.1 (omega (
          arith,
          whole.apart id page,
          sum_by-append (λ x. cond {A = ℕ} (ends_at id page x) 1 0) others [],
          sum_by-append (λ x. cond {A = ℕ} (begins_at id page x) 1 0) others [],
          sum_by-with (λ x. cond {A = ℕ} (ends_at id page x) 1 0) free others run taken,
          sum_by-with (λ x. cond {A = ℕ} (begins_at id page x) 1 0) free others run taken,
        ))
      ];
    }
  where
    others_sized : All (λ (x : Run). 1 ≤ x.pages) others
    others_sized = All-tail (λ (x : Run). 1 ≤ x.pages) run others (All-permutation (λ (x : Run). 1 ≤ x.pages) free (run ∷ others) taken whole.free_sized)

-- what a measure that adds up counts stays
pub cut_sum : (f : Run → ℕ) (used used' : List Run) (span : Run) (n : ℕ) → IsPermutation (front_of span n ∷ back_of span n ∷ used) (span ∷ used')
    → f span ≡ f (front_of span n) + f (back_of span n) → sum_by f used' ≡ sum_by f used
cut_sum f used used' span n swapped cut =
    omega (
      arith,
      cut,
      sum_by-IsPermutation f (front_of span n ∷ back_of span n ∷ used) (span ∷ used') swapped,
      sum_by-cons f (front_of span n) (back_of span n ∷ used),
      sum_by-cons f (back_of span n) used,
      sum_by-cons f span used',
    )

pub IsCounted-cut : (segments : List Segment) (used free used' : List Run) (span : Run) (n : ℕ) → IsCounted (contents segments used free)
    → IsPermutation (front_of span n ∷ back_of span n ∷ used) (span ∷ used') → 1 ≤ n → n < span.pages → IsCounted (contents segments used' free)
IsCounted-cut segments used free used' span n whole swapped low high =
    record {
      once = λ id page. omega (
        arith,
        whole.once id page,
        cut_sum (λ x. cond {A = ℕ} (has_page id page x) 1 0) used used' span n swapped (cut_pages id page span n (omega arith)),
      );
      distinct = whole.distinct;
      used_sized = All-tail (λ x. 1 ≤ x.pages) span used' (All-permutation (λ x. 1 ≤ x.pages) (front_of span n ∷ back_of span n ∷ used) (span ∷ used') swapped
          (All-cons (λ x. 1 ≤ x.pages) (front_of span n) (back_of span n ∷ used) low (All-cons (λ x. 1 ≤ x.pages) (back_of span n) used (omega (arith, high)) whole.used_sized)));
      free_sized = whole.free_sized;
      apart = whole.apart;
    }
