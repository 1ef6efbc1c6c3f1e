-- Segments, by their numbers.
use Rattle.std.proofs.Common.{◌≡◌, ◌≢◌, ◌⊎◌, ℕ, ◌*◌, ◌<◌, ◌≤◌, ◌==◌, Bool, true, false, not, cond, ◌||◌, List, [], ◌∷◌, ◌++◌, length, get_or, map, refl, sym, ap, subst, ◌∙◌, inl, inr, arith}
use Rattle.std.specs.List.{All, filter}
use Rattle.std.proofs.lemmas.Bool.{cases_Bool, eqb-true, eq-eqb, ne_eqb, false≢true, true≢false}
use Rattle.std.proofs.lemmas.List.{length-map, get_or-map}
use Rattle.std.proofs.lemmas.List.Elements.{All-weaker}
use Rattle.std.proofs.lemmas.List.Folds.{list_any_none, list_any_at, list_any-append}
use Rattle.std.proofs.lemmas.List.Sums.{sum_by-le}
use Rattle.std.proofs.lemmas.Map.Views.{any-filter_same}
use Rattle.units.specs.declared.TheConstants.{MOST_PAGES}
use Rattle.span_heap.specs.Segment.{Segment}
use Rattle.span_heap.specs.Heap.{has_id, has_segment, size_of}
use Rattle.span_heap.specs.Changes.{segment_of}
use Rattle.script_heaps.specs.Sound.{IsSmall}

pub cases_same : (m n : ℕ) → (m ≡ n) ⊎ (m ≢ n)
cases_same m n = elim (cases_Bool (m == n)) [
  | inl same ↦ inl (eqb-true m n same)
  | inr other ↦ inr (λ e. true≢false (sym (eq-eqb m n e) ∙ other))
]

-- a segment that is there after one left was there, and is another
pub has_left : (segments : List Segment) (id other : ℕ) → has_segment (filter (λ (s : Segment). not (has_id id s)) segments) other ≡ true → (has_segment segments other ≡ true) × (other ≢ id)
has_left segments id other is =
    elim (cases_same other id) [
      | inl same ↦ absurd (false≢true (sym (any-filter_same (has_id other) (λ (s : Segment). not (has_id id s)) false (λ s t. ap not (eq-eqb s.id id (eqb-true s.id other t ∙ same))) segments) ∙ is))
      | inr apart ↦ (
        sym (any-filter_same (has_id other) (λ (s : Segment). not (has_id id s)) true (λ s t. ap not (ne_eqb s.id id (λ e. apart (sym (eqb-true s.id other t) ∙ e)))) segments) ∙ is,
        apart,
      )
    ]

-- the numbers of the segments without one
one_left : (b : Bool) (s : Segment) (segments : List Segment) (ns : List ℕ) → ns ≡ map (λ (x : Segment). x.id) segments → cond b (s.id ∷ ns) ns ≡ map (λ (x : Segment). x.id) (cond b (s ∷ segments) segments)
one_left true s segments ns e = ap (λ xs. s.id ∷ xs) e
one_left false s segments ns e = e

pub numbers_left : (segments : List Segment) (id : ℕ) → filter (λ n. not (n == id)) (map (λ (s : Segment). s.id) segments) ≡ map (λ (s : Segment). s.id) (filter (λ (s : Segment). not (has_id id s)) segments)
numbers_left [] id = refl
numbers_left (s ∷ segments) id = one_left (not (s.id == id)) s (filter (λ (x : Segment). not (has_id id x)) segments) (filter (λ n. not (n == id)) (map (λ (x : Segment). x.id) segments)) (numbers_left segments id)

-- a number past the last one that came is no segment's
pub none_past : (segments : List Segment) (last id : ℕ) → All (IsSmall last) segments → last < id → has_segment segments id ≡ false
none_past segments last id small past =
    list_any_none (has_id id) segments (All-weaker (IsSmall last) (λ (s : Segment). has_id id s ≡ false) (λ s is. ne_eqb s.id id (λ e. absurd (omega (arith, e, is.0, past)))) segments small)

-- a segment that is there after one came was there, where its number is another
pub has_grown : (segments : List Segment) (id whole other : ℕ) → has_segment (segments ++ segment_of id whole ∷ []) other ≡ true → other ≢ id → has_segment segments other ≡ true
has_grown segments id whole other is apart = elim (cases_Bool (has_segment segments other)) [
  | inl there ↦ there
  | inr not_there ↦ absurd (false≢true (sym (list_any-append (has_id other) segments (segment_of id whole ∷ []) ∙ (ap (λ b. b || (id == other || false)) not_there ∙ ap (λ b. b || false) (ne_eqb id other (λ e. apart (sym e))))) ∙ is))
]

-- how many pages small segments have at most
pub size_small : (segments : List Segment) (last : ℕ) → All (IsSmall last) segments → size_of segments ≤ length segments * MOST_PAGES
size_small segments last small = sum_by-le (λ (s : Segment). s.pages) MOST_PAGES segments (All-weaker (IsSmall last) (λ (s : Segment). s.pages ≤ MOST_PAGES) (λ s is. is.1) segments small)

-- a segment at a place is there
pub has_at : (segments : List Segment) (place : ℕ) (d : Segment) → place < length segments → has_segment segments (get_or segments place d).id ≡ true
has_at segments place d within = list_any_at (has_id (get_or segments place d).id) segments place d within (eq-eqb (get_or segments place d).id (get_or segments place d).id refl)

-- a number at a place is that of a segment
pub has_number : (segments : List Segment) (ids : List ℕ) (place : ℕ) → ids ≡ map (λ (s : Segment). s.id) segments → place < length ids → has_segment segments (get_or ids place 0) ≡ true
has_number segments ids place is within =
    let d : Segment = record { id = 0; pages = 0 } in
    let inside : place < length segments = omega (arith, within, ap length is, length-map segments (λ (s : Segment). s.id)) in
    subst (λ n. has_segment segments n ≡ true) (sym (ap (λ (ns : List ℕ). get_or ns place 0) is ∙ get_or-map (λ (s : Segment). s.id) segments place d 0 inside)) (has_at segments place d inside)
