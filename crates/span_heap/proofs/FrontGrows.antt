-- A segment comes into a heap: its front is used, and the rest is free.
use Rattle.std.proofs.Common.{◌≡◌, ◌≢◌, ℕ, zero, suc, ◌+◌, ◌<◌, ◌≤◌, false, cond, List, [], ◌∷◌, ◌++◌, refl, sym, ap, ap₂, ◌∙◌, arith, append-nil, ltb, inl, inr}
use Rattle.std.specs.List.{Contains}
use Rattle.std.proofs.lemmas.Bool.{lt-ltb, cases_Bool, ltb-true}
use Rattle.std.proofs.lemmas.Bool.Decides.{nat_tests}
use Rattle.std.proofs.lemmas.List.Sorted.{sum_by-IsPermutation, Contains-permutation}
use Rattle.std.proofs.lemmas.List.Sums.{sum_by-cons}
use Rattle.span_heap.specs.declared.run.Run.{Run}
use Rattle.span_heap.specs.Run.{has_page}
use Rattle.span_heap.specs.Runs.{front_of, back_of, rest_of}
use Rattle.span_heap.specs.Heap.{Contents}
use Rattle.span_heap.specs.Changes.{Grows, GrowsFront, Splits, Frees, whole_of, NoneIn}

Contains-cons : {X : Type 0} (xs : List X) (y x : X) → Contains xs x → Contains (y ∷ xs) x
Contains-cons xs y x there = (suc there.0, omega (arith, there.1), there.2)

Contains-rest : {X : Type 0} (xs : List X) (y x : X) → Contains (y ∷ xs) x → x ≢ y → Contains xs x
Contains-rest xs y x (zero, within, is) other = absurd (other (sym is))
Contains-rest xs y x (suc k, within, is) other = (k, omega (arith, within), is)

not_less : (n : ℕ) → ltb n n ≡ false
not_less n = elim (cases_Bool (ltb n n)) [ inl less ↦ absurd (omega (arith, ltb-true n n less)) | inr not_so ↦ not_so ]

no_rest : (run : Run) (n : ℕ) → n ≡ run.pages → rest_of run n ≡ []
no_rest run n same = rw (same, not_less run.pages) refl

some_rest : (run : Run) (n : ℕ) → n < run.pages → rest_of run n ≡ back_of run n ∷ []
some_rest run n less = rw (lt-ltb n run.pages less) refl

pub covered : ℕ → ℕ → Run → ℕ
covered id page run = cond {A = ℕ} (has_page id page run) 1 0

-- the front is the whole segment
pub front_whole : (old new : Contents) (id whole pages : ℕ) (span : Run) → pages ≡ whole → Grows old new id whole span → GrowsFront old new id whole pages span
front_whole old new id whole pages span same grows =
    record {
      front = grows.whole ∙ ap (λ n. whole_of id n) (sym same);
      segments = grows.segments;
      has = grows.has;
      keeps = λ run there other. Contains-permutation (span ∷ old.used) new.used run grows.used (Contains-cons old.used span run there);
      covers = λ other page. sum_by-IsPermutation (λ r. cond {A = ℕ} (has_page other page r) 1 0) (span ∷ old.used) new.used grows.used ∙ sum_by-cons (λ r. cond {A = ℕ} (has_page other page r) 1 0) span old.used;
      free = grows.free ∙ (sym (append-nil old.free) ∙ ap (λ more. old.free ++ more) (sym (no_rest (whole_of id whole) pages same)));
    }

-- a run is covered as its front and its back
cut_covers : (run : Run) (n other page : ℕ) → n ≤ run.pages → cond {A = ℕ} (has_page other page (front_of run n)) 1 0 + cond {A = ℕ} (has_page other page (back_of run n)) 1 0 ≡ cond {A = ℕ} (has_page other page run) 1 0
cut_covers run n other page less = grind (arith, nat_tests)

-- the front is a part of the segment
pub front_cut : (old grown cut new : Contents) (id whole pages : ℕ) (span front back : Run) → Grows old grown id whole span → 1 ≤ pages → pages < whole → ◌≡◌ {A = Run × Run} (front, back) (front_of span pages, back_of span pages) → Splits grown cut span front back → Frees cut new back → GrowsFront old new id whole pages front
front_cut old grown cut new id whole pages span front back grows some less spans splits frees =
    let front_is : front ≡ front_of span pages = ap (λ (p : Run × Run). p.0) spans in
    let back_is : back ≡ back_of span pages = ap (λ (p : Run × Run). p.1) spans in
    let span_is = grows.whole in
    let back_in : back.segment ≡ id = ap (λ (r : Run). r.segment) back_is ∙ ap (λ (r : Run). r.segment) span_is in
    let none : NoneIn back.segment cut.free = rw (back_in, splits.free) grows.none_free in
    record {
      front = front_is ∙ ap (λ r. front_of r pages) span_is;
      segments = frees.segments ∙ (splits.segments ∙ grows.segments);
      has = Contains-rest new.used back front (Contains-permutation cut.used (back ∷ new.used) front frees.used splits.has_front) (λ same.
          let first : front.first ≡ back.first = ap (λ (r : Run). r.first) same in
          let a : front.first ≡ span.first = ap (λ (r : Run). r.first) front_is in
          let b : back.first ≡ span.first + pages = ap (λ (r : Run). r.first) back_is in
          absurd (omega (arith, first, a, b, some)));
      keeps = λ run there other.
          let in_grown = Contains-permutation (span ∷ old.used) grown.used run grows.used (Contains-cons old.used span run there) in
          let in_cut = Contains-rest cut.used span run (Contains-permutation (front ∷ back ∷ grown.used) (span ∷ cut.used) run splits.used (Contains-cons (back ∷ grown.used) front run (Contains-cons grown.used back run in_grown))) (λ same. other (ap (λ (r : Run). r.segment) (same ∙ span_is))) in
          Contains-rest new.used back run (Contains-permutation cut.used (back ∷ new.used) run frees.used in_cut) (λ same. other (ap (λ (r : Run). r.segment) same ∙ back_in));
      covers = λ other page.
          let f : Run → ℕ = λ r. cond {A = ℕ} (has_page other page r) 1 0 in
          let size : span.pages ≡ whole = ap (λ (r : Run). r.pages) span_is in
          let cut_sum : f front + f back ≡ f span = ap₂ (λ r s. f r + f s) front_is back_is ∙ cut_covers span pages other page (omega (arith, size, less)) in
          omega (
            arith,
            cut_sum,
            sum_by-IsPermutation f (span ∷ old.used) grown.used grows.used,
            sum_by-cons f span old.used,
            sum_by-IsPermutation f (front ∷ back ∷ grown.used) (span ∷ cut.used) splits.used,
            sum_by-cons f front (back ∷ grown.used),
            sum_by-cons f back grown.used,
            sum_by-cons f span cut.used,
            sum_by-IsPermutation f cut.used (back ∷ new.used) frees.used,
            sum_by-cons f back new.used,
          );
      free = frees.alone none ∙ (ap (λ runs. runs ++ back ∷ []) (splits.free ∙ grows.free)
          ∙ ap (λ more. old.free ++ more) (ap (λ r. r ∷ []) (back_is ∙ ap (λ r. back_of r pages) span_is) ∙ sym (some_rest (whole_of id whole) pages less)));
    }
