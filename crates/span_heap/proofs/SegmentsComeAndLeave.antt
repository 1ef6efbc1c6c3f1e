-- A segment comes as one used span, or leaves with all that lies in it.
use Rattle.std.proofs.Common.{◌≡◌, ℕ, ◌+◌, ◌≤◌, Bool, true, false, cond, eqb, List, [], ◌∷◌, ◌++◌, arith, refl, subst, not, ◌∙◌, sym, ap, inl, inr}
use Rattle.std.specs.List.{count_by, sum_by, filter}
use Rattle.std.specs.List.Sorted.{IsPermutation}
use Rattle.std.proofs.lemmas.List.Sums.{sum_by_push}
use Rattle.std.proofs.lemmas.List.Sorted.{All-permutation, sum_by-IsPermutation}
use Rattle.std.proofs.lemmas.List.Elements.{All-cons, All-filter}
use Rattle.std.proofs.lemmas.Bool.{eqb-true, and_left, ne_eqb, cases_eq}
use Rattle.std.proofs.lemmas.Bool.Decides.{nat_tests}
use Rattle.span_heap.specs.declared.run.Run.{Run}
use Rattle.span_heap.specs.Segment.{Segment}
use Rattle.span_heap.specs.Changes.{whole_of}
use Rattle.span_heap.specs.Run.{has_page, lies_in, begins_at, ends_at}
use Rattle.span_heap.specs.Heap.{contents, has_id, holds_page, has_segment}
use Rattle.span_heap.proofs.PartitionByCounts.{IsCounted, count_of_absent, sum_by-given}
use Rattle.std.proofs.lemmas.List.Filters.{sum_by-filter_both}
use Rattle.span_heap.specs.Runs.{dropped}
use Rattle.span_heap.proofs.Sums.{sum_by-filter, sum_by-same, sum_by-none}

-- the run of a whole segment has just its pages
pub whole_pages : (id page segment pages : ℕ) → cond {A = ℕ} (has_page id page (whole_of segment pages)) 1 0 ≡ cond {A = ℕ} (holds_page id page (record { id = segment; pages = pages })) 1 0
whole_pages id page segment pages = grind (arith, nat_tests)

pub grown_distinct : (segments : List Segment) (segment pages : ℕ) → has_segment segments segment ≡ false → ((id : ℕ) → count_by (has_id id) segments ≤ 1)
    → (id : ℕ) → (b : Bool) → eqb segment id ≡ b → cond {A = ℕ} b 1 0 + count_by (has_id id) segments ≤ 1
grown_distinct segments segment pages absent distinct id true same =
    let none = subst (λ n. count_by (has_id n) segments ≡ 0) (eqb-true segment id same) (count_of_absent (has_id segment) segments absent) in
    omega (arith, none)
grown_distinct segments segment pages absent distinct id false same = omega (arith, distinct id)

pub IsCounted-grown : (segments : List Segment) (used free used' : List Run) (segment pages : ℕ) → IsCounted (contents segments used free)
    → has_segment segments segment ≡ false → IsPermutation (whole_of segment pages ∷ used) used' → 1 ≤ pages
    → IsCounted (contents (segments ++ record { id = segment; pages = pages } ∷ []) used' free)
IsCounted-grown segments used free used' segment pages whole absent given sized =
    record {
      once = λ id page. omega (
        arith,
        whole.once id page,
        whole_pages id page segment pages,
        sum_by-given (λ x. cond {A = ℕ} (has_page id page x) 1 0) used used' (whole_of segment pages) given,
        sum_by_push (λ x. cond {A = ℕ} (holds_page id page x) 1 0) segments (record { id = segment; pages = pages }),
      );
      distinct = λ id. omega (
        arith,
        grown_distinct segments segment pages absent whole.distinct id (eqb segment id) refl,
        sum_by_push (λ x. cond {A = ℕ} (has_id id x) 1 0) segments (record { id = segment; pages = pages }),
      );
      used_sized = All-permutation (λ x. 1 ≤ x.pages) (whole_of segment pages ∷ used) used' given (All-cons (λ x. 1 ≤ x.pages) (whole_of segment pages) used sized whole.used_sized);
      free_sized = whole.free_sized;
      apart = whole.apart;
    }

-- one term of a sum over what has one number, where what has another number leaves
kept_one : (number segment id n : ℕ) → ((number ≡ id → ⊥) → n ≡ 0) → cond (not (eqb number segment)) n 0 ≡ cond (not (eqb id segment)) n 0
kept_one number segment id n only =
    elim (cases_eq number id) [
      | inl same ↦ ap (λ k. cond {A = ℕ} (not (eqb k segment)) n 0) same
      | inr other ↦ rw (only other) (sym (nothing (not (eqb number segment))) ∙ nothing (not (eqb id segment)))
    ]
  where
    nothing : (b : Bool) → 0 ≡ cond {A = ℕ} b 0 0
    nothing true = refl
    nothing false = refl

sum_by-cond : {X : Type 0} (b : Bool) (f : X → ℕ) (xs : List X) → sum_by (λ x. cond b (f x) 0) xs ≡ cond b (sum_by f xs) 0
sum_by-cond true f xs = refl
sum_by-cond false f xs = sum_by-none (λ x. cond {A = ℕ} false (f x) 0) xs (λ x. refl)

-- a sum over what has one number, once all with another number have left
pub sum_kept : {X : Type 0} (f number : X → ℕ) (segment id : ℕ) → ((x : X) → (number x ≡ id → ⊥) → f x ≡ 0) → (xs : List X)
    → sum_by f (filter (λ x. not (eqb (number x) segment)) xs) ≡ cond (not (eqb id segment)) (sum_by f xs) 0
sum_kept f number segment id only xs =
    sum_by-filter f (λ x. not (eqb (number x) segment)) xs
    ∙ (sum_by-same (λ x. cond {A = ℕ} (not (eqb (number x) segment)) (f x) 0) (λ x. cond {A = ℕ} (not (eqb id segment)) (f x) 0) xs (λ x. kept_one (number x) segment id (f x) (only x))
    ∙ sum_by-cond (not (eqb id segment)) f xs)

pub sum_by-filter-le : {X : Type 0} (f : X → ℕ) (p : X → Bool) (xs : List X) → sum_by f (filter p xs) ≤ sum_by f xs
sum_by-filter-le f p xs = omega (arith, sum_by-filter_both p (λ x. not (p x)) (λ x. refl) f xs)

pub both_kept : (b : Bool) (x y z : ℕ) → x + y ≡ z → cond b x 0 + cond b y 0 ≡ cond b z 0
both_kept true x y z e = e
both_kept false x y z e = omega arith

pub IsCounted-dropped : (segments : List Segment) (used free used' : List Run) (segment : ℕ) → IsCounted (contents segments used free)
    → IsPermutation (dropped used segment) used'
    → IsCounted (contents (filter (λ other. not (has_id segment other)) segments) used' (dropped free segment))
IsCounted-dropped segments used free used' segment whole left =
    record {
      once = λ id page. omega (
        arith,
        both_kept (not (eqb id segment)) _ _ _ (whole.once id page),
        sum_by-IsPermutation (λ x. cond {A = ℕ} (has_page id page x) 1 0) (dropped used segment) used' left,
        sum_kept (λ x. cond {A = ℕ} (has_page id page x) 1 0) (λ x. x.segment) segment id (λ x other. ap (λ b. cond {A = ℕ} b 1 0) (and_left _ _ (ne_eqb x.segment id other))) used,
        sum_kept (λ x. cond {A = ℕ} (has_page id page x) 1 0) (λ x. x.segment) segment id (λ x other. ap (λ b. cond {A = ℕ} b 1 0) (and_left _ _ (ne_eqb x.segment id other))) free,
        sum_kept (λ x. cond {A = ℕ} (holds_page id page x) 1 0) (λ x. x.id) segment id (λ x other. ap (λ b. cond {A = ℕ} b 1 0) (and_left _ _ (ne_eqb x.id id other))) segments,
      );
      distinct = λ id. omega (arith, whole.distinct id, sum_by-filter-le (λ x. cond {A = ℕ} (has_id id x) 1 0) (λ other. not (has_id segment other)) segments);
      used_sized = All-permutation (λ x. 1 ≤ x.pages) (dropped used segment) used' left (All-filter (λ run. not (lies_in segment run)) (λ x. 1 ≤ x.pages) used whole.used_sized);
      free_sized = All-filter (λ run. not (lies_in segment run)) (λ x. 1 ≤ x.pages) free whole.free_sized;
      apart = λ id page. omega (
        arith,
        whole.apart id page,
        sum_by-filter-le (λ x. cond {A = ℕ} (ends_at id page x) 1 0) (λ run. not (lies_in segment run)) free,
        sum_by-filter-le (λ x. cond {A = ℕ} (begins_at id page x) 1 0) (λ run. not (lies_in segment run)) free,
      );
    }
