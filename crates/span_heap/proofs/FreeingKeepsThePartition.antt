-- A used span becomes free, and is joined with the free runs beside it.
use Rattle.std.proofs.Common.{◌≡◌, ℕ, ◌+◌, ◌≤◌, true, false, not, List, arith, ◌-◌, Bool, cond, eqb, [], ◌∷◌, length, refl, sym, ◌∙◌, ap, subst, ◌⊎◌, inl, inr, ◌≢◌, ◌++◌}
use Rattle.std.specs.List.{sum_by, filter, count_by, All}
use Rattle.std.proofs.lemmas.Bool.{and_parts, and_right, eqb-true, ne_eqb, and_from, eq-eqb, and_left}
use Rattle.span_heap.specs.declared.run.Run.{Run}
use Rattle.span_heap.specs.Run.{lies_in, begins_at, ends_at, is_beside, pages_of, has_page}
use Rattle.span_heap.specs.Runs.{pages_before, pages_behind, joined, freed}
use Rattle.span_heap.proofs.Sums.{sum_of_three_parts, filter_at_most_one, within, within-split, within-empty, within-same}
use Rattle.std.specs.List.Sorted.{IsPermutation}
use Rattle.std.proofs.lemmas.List.Sums.{sum_by_push, length-filter}
use Rattle.std.proofs.lemmas.List.Sorted.{All-permutation}
use Rattle.std.proofs.lemmas.List.Elements.{All-head, All-tail, All-push, All-filter, All-weaker}
use Rattle.span_heap.specs.Segment.{Segment}
use Rattle.span_heap.specs.Heap.{Contents, contents}
use Rattle.span_heap.proofs.PartitionByCounts.{IsCounted, has_page-within, sum_by-with, one_if, at_most_once, begins-le-pages, ends-le-pages}

-- no run ends before a span and begins behind it
pub ends_before_it : (span : Run) → 1 ≤ span.pages → (run : Run) → ends_at span.segment span.first run ≡ true → begins_at span.segment (span.first + span.pages) run ≡ false
ends_before_it span sized run ends =
    let end = eqb-true (run.first + run.pages) span.first (and_parts (lies_in span.segment run) _ ends).1 in
    and_right (lies_in span.segment run) _ (ne_eqb run.first (span.first + span.pages) (λ e. omega arith))

-- the runs that stay, those before the span and those behind it are all of them
pub sum_of_beside : (f : Run → ℕ) (runs : List Run) (span : Run) → 1 ≤ span.pages
    → sum_by f (filter (λ run. not (is_beside span run)) runs)
    + (sum_by f (filter (ends_at span.segment span.first) runs) + sum_by f (filter (begins_at span.segment (span.first + span.pages)) runs))
    ≡ sum_by f runs
sum_of_beside f runs span sized =
    sum_of_three_parts f (ends_at span.segment span.first) (begins_at span.segment (span.first + span.pages)) (ends_before_it span sized) runs

pub beside_fit : (runs : List Run) (span : Run) → 1 ≤ span.pages → pages_before runs span + pages_behind runs span ≤ pages_of runs
beside_fit runs span sized = omega (arith, sum_of_beside (λ run. run.pages) runs span sized)

-- the free runs directly before a span, and directly behind it
abbrev pub before : List Run → Run → List Run
before free span = filter (ends_at span.segment span.first) free

abbrev pub behind : List Run → Run → List Run
behind free span = filter (begins_at span.segment (span.first + span.pages)) free

-- there is at most one run before a span
pub before_cases : (heap : Contents) (span : Run) → IsCounted heap
    → (before heap.free span ≡ []) ⊎ ((run : Run) × (before heap.free span ≡ run ∷ []) × (ends_at span.segment span.first run ≡ true))
before_cases heap span whole =
    filter_at_most_one (ends_at span.segment span.first) heap.free (omega (arith, whole.apart span.segment span.first))

-- and at most one behind it
pub behind_cases : (heap : Contents) (span : Run) → IsCounted heap
    → (behind heap.free span ≡ []) ⊎ ((run : Run) × (behind heap.free span ≡ run ∷ []) × (begins_at span.segment (span.first + span.pages) run ≡ true))
behind_cases heap span whole =
    filter_at_most_one (begins_at span.segment (span.first + span.pages)) heap.free (omega (arith, whole.apart span.segment (span.first + span.pages)))

ends_there : (span run : Run) → ends_at span.segment span.first run ≡ true → (run.segment ≡ span.segment) × (run.first + run.pages ≡ span.first)
ends_there span run ends =
    let parts = and_parts (eqb run.segment span.segment) _ ends in
    (eqb-true run.segment span.segment parts.0, eqb-true (run.first + run.pages) span.first parts.1)

begins_there : (span run : Run) → begins_at span.segment (span.first + span.pages) run ≡ true → (run.segment ≡ span.segment) × (run.first ≡ span.first + span.pages)
begins_there span run begins =
    let parts = and_parts (eqb run.segment span.segment) _ begins in
    (eqb-true run.segment span.segment parts.0, eqb-true run.first (span.first + span.pages) parts.1)

-- the pages before a span end where it begins
pub pages_before-le : (heap : Contents) (span : Run) → IsCounted heap → pages_before heap.free span ≤ span.first
pages_before-le heap span whole =
    let P : List Run → Type 0 = λ runs. pages_of runs ≤ span.first in
    elim (before_cases heap span whole) [
      | inl none ↦ subst P (sym none) (omega arith)
      | inr (run, one, ends) ↦ subst P (sym one) (omega (arith, (ends_there span run ends).1))
    ]

-- they cover what lies from the joined run's first page up to the span
before_covers : (heap : Contents) (span : Run) → IsCounted heap → (id page : ℕ)
    → count_by (has_page id page) (before heap.free span) ≡ within id page span.segment (span.first - pages_before heap.free span) span.first
before_covers heap span whole id page =
    let P : List Run → Type 0 = λ runs. count_by (has_page id page) runs ≡ within id page span.segment (span.first - pages_of runs) span.first in
    elim (before_cases heap span whole) [
      | inl none ↦ subst P (sym none) (sym (within-empty id page span.segment (span.first - 0) span.first (omega arith)))
      | inr (run, one, ends) ↦
          let there = ends_there span run ends in
          subst P (sym one)
          (omega (arith, within-same id page run.segment span.segment run.first (span.first - (0 + run.pages)) (run.first + run.pages) span.first there.0 (omega (arith, there.1)) there.1))
    ]

behind_covers : (heap : Contents) (span : Run) → IsCounted heap → (id page : ℕ)
    → count_by (has_page id page) (behind heap.free span) ≡ within id page span.segment (span.first + span.pages) (span.first + span.pages + pages_behind heap.free span)
behind_covers heap span whole id page =
    let P : List Run → Type 0 = λ runs. count_by (has_page id page) runs ≡ within id page span.segment (span.first + span.pages) (span.first + span.pages + pages_of runs) in
    elim (behind_cases heap span whole) [
      | inl none ↦ subst P (sym none) (sym (within-empty id page span.segment (span.first + span.pages) (span.first + span.pages + 0) (omega arith)))
      | inr (run, one, begins) ↦
          let there = begins_there span run begins in
          subst P (sym one)
          (omega (arith, within-same id page run.segment span.segment run.first (span.first + span.pages) (run.first + run.pages) (span.first + span.pages + (0 + run.pages)) there.0 there.1 (omega (arith, there.1))))
    ]

-- the joined run has the pages of the span and those of the runs beside it
joined_covers : (heap : Contents) (span : Run) → IsCounted heap → (id page : ℕ)
    → cond {A = ℕ} (has_page id page (joined heap.free span)) 1 0
    ≡ cond {A = ℕ} (has_page id page span) 1 0 + (count_by (has_page id page) (before heap.free span) + count_by (has_page id page) (behind heap.free span))
joined_covers heap span whole id page =
    let early = pages_before heap.free span in
    let late = pages_behind heap.free span in
    let low : early ≤ span.first = pages_before-le heap span whole in
    let end : span.first - early + (early + span.pages + late) ≡ span.first + span.pages + late = omega arith in
    let all = ap (within id page span.segment (span.first - early)) end in
    omega (
      arith,
      all,
      before_covers heap span whole id page,
      behind_covers heap span whole id page,
      within-split id page span.segment (span.first - early) span.first (span.first + span.pages + late) (omega arith) (omega arith),
      within-split id page span.segment span.first (span.first + span.pages) (span.first + span.pages + late) (omega arith) (omega arith),
    )

-- what a measure that adds up counts stays
pub freed_sum : (f : Run → ℕ) (used free used' : List Run) (span : Run) → IsPermutation used (span ∷ used') → 1 ≤ span.pages
    → f (joined free span) ≡ f span + (sum_by f (before free span) + sum_by f (behind free span))
    → sum_by f used' + sum_by f (freed free span) ≡ sum_by f used + sum_by f free
freed_sum f used free used' span taken sized joins =
    omega (
      arith,
      joins,
      sum_by-with f used used' span taken,
      sum_of_beside f free span sized,
      sum_by_push f (filter (λ run. not (is_beside span run)) free) (joined free span),
    )

count_none : (p : Run → Bool) (runs : List Run) → filter p runs ≡ [] → count_by p runs ≡ 0
count_none p runs none = sym (length-filter p runs) ∙ ap length none

-- no other run ends or begins where the joined one begins
nothing_at_begin : (segments : List Segment) (used free used' : List Run) (span : Run) → IsCounted (contents segments used free) → IsPermutation used (span ∷ used')
    → 1 ≤ span.pages
    → count_by (ends_at span.segment (joined free span).first) (filter (λ run. not (is_beside span run)) free)
    + count_by (begins_at span.segment (joined free span).first) (filter (λ run. not (is_beside span run)) free) ≡ 0
nothing_at_begin segments used free used' span whole taken sized =
    let stay = filter (λ run. not (is_beside span run)) free in
    let heap = contents segments used free in
    elim (before_cases heap span whole) [
      | inl none ↦
          let here : (joined free span).first ≡ span.first = ap (λ runs. span.first - pages_of runs) none ∙ omega arith in
          subst (λ page. count_by (ends_at span.segment page) stay + count_by (begins_at span.segment page) stay ≡ 0) (sym here)
          (omega (
            arith,
            sum_of_beside (λ x. cond {A = ℕ} (ends_at span.segment span.first x) 1 0) free span sized,
            sum_of_beside (λ x. cond {A = ℕ} (begins_at span.segment span.first x) 1 0) free span sized,
            count_none (ends_at span.segment span.first) free none,
            begins-le-pages span.segment span.first free whole.free_sized,
            at_most_once heap whole span.segment span.first,
            sum_by-with (λ x. cond {A = ℕ} (has_page span.segment span.first x) 1 0) used used' span taken,
            one_if (has_page span.segment span.first span) (has_page-within span span.first (omega arith) (omega arith)),
          ))
      | inr (run, one, ends) ↦
          let there = ends_there span run ends in
          let here : (joined free span).first ≡ run.first = ap (λ runs. span.first - pages_of runs) one ∙ omega (arith, there.1) in
          let begins : begins_at span.segment run.first run ≡ true = and_from _ _ (eq-eqb run.segment span.segment there.0) (eq-eqb run.first run.first refl) in
          subst (λ page. count_by (ends_at span.segment page) stay + count_by (begins_at span.segment page) stay ≡ 0) (sym here)
          (omega (
            arith,
            whole.apart span.segment run.first,
            sum_of_beside (λ x. cond {A = ℕ} (ends_at span.segment run.first x) 1 0) free span sized,
            sum_of_beside (λ x. cond {A = ℕ} (begins_at span.segment run.first x) 1 0) free span sized,
            ap (count_by (begins_at span.segment run.first)) one,
            one_if _ begins,
          ))
    ]

-- no other run ends or begins where the joined one ends
nothing_at_end : (segments : List Segment) (used free used' : List Run) (span : Run) → IsCounted (contents segments used free) → IsPermutation used (span ∷ used')
    → 1 ≤ span.pages
    → count_by (ends_at span.segment (span.first + span.pages + pages_behind free span)) (filter (λ run. not (is_beside span run)) free)
    + count_by (begins_at span.segment (span.first + span.pages + pages_behind free span)) (filter (λ run. not (is_beside span run)) free) ≡ 0
nothing_at_end segments used free used' span whole taken sized =
    let stay = filter (λ run. not (is_beside span run)) free in
    let heap = contents segments used free in
    let end = span.first + span.pages in
    elim (behind_cases heap span whole) [
      | inl none ↦
          let here : end + pages_behind free span ≡ end = ap (λ runs. end + pages_of runs) none ∙ omega arith in
          subst (λ page. count_by (ends_at span.segment page) stay + count_by (begins_at span.segment page) stay ≡ 0) (sym here)
          (omega (
            arith,
            sum_of_beside (λ x. cond {A = ℕ} (ends_at span.segment end x) 1 0) free span sized,
            sum_of_beside (λ x. cond {A = ℕ} (begins_at span.segment end x) 1 0) free span sized,
            count_none (begins_at span.segment end) free none,
            ends-le-pages span.segment end free whole.free_sized,
            at_most_once heap whole span.segment (end - 1),
            sum_by-with (λ x. cond {A = ℕ} (has_page span.segment (end - 1) x) 1 0) used used' span taken,
            one_if (has_page span.segment (end - 1) span) (has_page-within span (end - 1) (omega arith) (omega arith)),
          ))
      | inr (run, one, begins) ↦
          let there = begins_there span run begins in
          let here : end + pages_behind free span ≡ run.first + run.pages = ap (λ runs. end + pages_of runs) one ∙ omega (arith, there.1) in
          let ends : ends_at span.segment (run.first + run.pages) run ≡ true = and_from _ _ (eq-eqb run.segment span.segment there.0) (eq-eqb (run.first + run.pages) (run.first + run.pages) refl) in
          subst (λ page. count_by (ends_at span.segment page) stay + count_by (begins_at span.segment page) stay ≡ 0) (sym here)
          (omega (
            arith,
            whole.apart span.segment (run.first + run.pages),
            sum_of_beside (λ x. cond {A = ℕ} (ends_at span.segment (run.first + run.pages) x) 1 0) free span sized,
            sum_of_beside (λ x. cond {A = ℕ} (begins_at span.segment (run.first + run.pages) x) 1 0) free span sized,
            ap (count_by (ends_at span.segment (run.first + run.pages))) one,
            one_if _ ends,
          ))
    ]

-- the joined run touches no other run
joined_apart : (segments : List Segment) (used free used' : List Run) (span : Run) → IsCounted (contents segments used free) → IsPermutation used (span ∷ used')
    → 1 ≤ span.pages → (id page : ℕ) (b e : Bool) → begins_at id page (joined free span) ≡ b → ends_at id page (joined free span) ≡ e
    → cond {A = ℕ} e 1 0 + cond {A = ℕ} b 1 0
    + (count_by (ends_at id page) (filter (λ run. not (is_beside span run)) free) + count_by (begins_at id page) (filter (λ run. not (is_beside span run)) free)) ≤ 1
joined_apart segments used free used' span whole taken sized id page true e begins ends =
    let parts = and_parts (eqb span.segment id) (eqb (joined free span).first page) begins in
    let same : span.segment ≡ id = eqb-true span.segment id parts.0 in
    let here : (joined free span).first ≡ page = eqb-true (joined free span).first page parts.1 in
    let no_end : ends_at id page (joined free span) ≡ false =
    and_right (eqb span.segment id) _ (ne_eqb ((joined free span).first + (joined free span).pages) page (λ at. omega arith)) in
    let none = nothing_at_begin segments used free used' span whole taken sized in
    let stay = filter (λ run. not (is_beside span run)) free in
    let here_none = subst (λ s. count_by (ends_at s page) stay + count_by (begins_at s page) stay ≡ 0) same (subst (λ at. count_by (ends_at span.segment at) stay + count_by (begins_at span.segment at) stay ≡ 0) here none) in
    rw (sym ends ∙ no_end) (omega (arith, here_none))
joined_apart segments used free used' span whole taken sized id page false true begins ends =
    let parts = and_parts (eqb span.segment id) (eqb ((joined free span).first + (joined free span).pages) page) ends in
    let same : span.segment ≡ id = eqb-true span.segment id parts.0 in
    let low : pages_before free span ≤ span.first = pages_before-le (contents segments used free) span whole in
    let at_end : (joined free span).first + (joined free span).pages ≡ page = eqb-true ((joined free span).first + (joined free span).pages) page parts.1 in
    let here : span.first + span.pages + pages_behind free span ≡ page = omega (arith, at_end, low) in
    let none = nothing_at_end segments used free used' span whole taken sized in
    let stay = filter (λ run. not (is_beside span run)) free in
    let here_none = subst (λ s. count_by (ends_at s page) stay + count_by (begins_at s page) stay ≡ 0) same (subst (λ at. count_by (ends_at span.segment at) stay + count_by (begins_at span.segment at) stay ≡ 0) here none) in
    omega (arith, here_none)
joined_apart segments used free used' span whole taken sized id page false false begins ends =
    omega (
      arith,
      whole.apart id page,
      sum_of_beside (λ x. cond {A = ℕ} (ends_at id page x) 1 0) free span sized,
      sum_of_beside (λ x. cond {A = ℕ} (begins_at id page x) 1 0) free span sized,
    )

pub IsCounted-freed : (segments : List Segment) (used free used' : List Run) (span : Run) → IsCounted (contents segments used free)
    → IsPermutation used (span ∷ used') → IsCounted (contents segments used' (freed free span))
IsCounted-freed segments used free used' span whole taken =
    record {
      once = λ id page.
          freed_sum (λ x. cond {A = ℕ} (has_page id page x) 1 0) used free used' span taken sized (joined_covers (contents segments used free) span whole id page)
          ∙ whole.once id page;
      distinct = whole.distinct;
      used_sized = All-tail (λ x. 1 ≤ x.pages) span used' used_sized;
      free_sized = All-push (λ x. 1 ≤ x.pages) stay (joined free span) (All-filter (λ run. not (is_beside span run)) (λ x. 1 ≤ x.pages) free whole.free_sized) (omega (arith, sized));
      apart = λ id page. omega (
        arith,
        joined_apart segments used free used' span whole taken sized id page (begins_at id page (joined free span)) (ends_at id page (joined free span)) refl refl,
        sum_by_push (λ x. cond {A = ℕ} (ends_at id page x) 1 0) stay (joined free span),
        sum_by_push (λ x. cond {A = ℕ} (begins_at id page x) 1 0) stay (joined free span),
      );
    }
  where
    stay : List Run
    stay = filter (λ run. not (is_beside span run)) free

    used_sized : All (λ (x : Run). 1 ≤ x.pages) (span ∷ used')
    used_sized = All-permutation (λ (x : Run). 1 ≤ x.pages) used (span ∷ used') taken whole.used_sized

    sized : 1 ≤ span.pages
    sized = All-head (λ (x : Run). 1 ≤ x.pages) span used' used_sized

-- what no element passes leaves nothing, and its contrary all
pub filter_none : {X : Type 0} (p : X → Bool) (xs : List X) → All (λ x. p x ≡ false) xs → filter p xs ≡ []
filter_none p [] none = refl
filter_none p (x ∷ xs) none = rw (All-head (λ y. p y ≡ false) x xs none) (filter_none p xs (All-tail (λ y. p y ≡ false) x xs none))

pub filter_all : {X : Type 0} (p : X → Bool) (xs : List X) → All (λ x. p x ≡ false) xs → filter (λ x. not (p x)) xs ≡ xs
filter_all p [] none = refl
filter_all p (x ∷ xs) none =
    rw (All-head (λ y. p y ≡ false) x xs none) (ap (λ ys. x ∷ ys) (filter_all p xs (All-tail (λ y. p y ≡ false) x xs none)))

not_beside : (span run : Run) → run.segment ≢ span.segment → is_beside span run ≡ false
not_beside span run other =
    let number = ne_eqb run.segment span.segment other in
    rw number refl

-- a span with nothing beside it is appended as it is
pub freed_alone : (free : List Run) (span : Run) → All (λ run. run.segment ≢ span.segment) free → freed free span ≡ free ++ span ∷ []
freed_alone free span elsewhere =
    let early = filter_none (ends_at span.segment span.first) free
    (All-weaker (λ run. run.segment ≢ span.segment) (λ run. ends_at span.segment span.first run ≡ false) (λ run other. and_left _ _ (ne_eqb run.segment span.segment other)) free elsewhere) in
    let late = filter_none (begins_at span.segment (span.first + span.pages)) free
    (All-weaker (λ run. run.segment ≢ span.segment) (λ run. begins_at span.segment (span.first + span.pages) run ≡ false) (λ run other. and_left _ _ (ne_eqb run.segment span.segment other)) free elsewhere) in
    let stay = filter_all (is_beside span) free
    (All-weaker (λ run. run.segment ≢ span.segment) (λ run. is_beside span run ≡ false) (λ run other. not_beside span run other) free elsewhere) in
    let at : ℕ → ℕ → Run = λ f n. record { segment = span.segment; first = f; pages = n } in
    let first : span.first - pages_before free span ≡ span.first = ap (λ runs. span.first - pages_of runs) early ∙ omega arith in
    let none_before : pages_before free span ≡ 0 = ap pages_of early in
    let none_behind : pages_behind free span ≡ 0 = ap pages_of late in
    let pages : pages_before free span + span.pages + pages_behind free span ≡ span.pages = omega arith in
    ap (λ runs. runs ++ joined free span ∷ []) stay
    ∙ ap (λ run. free ++ run ∷ []) (ap (λ f. at f (pages_before free span + span.pages + pages_behind free span)) first ∙ ap (at span.first) pages)
