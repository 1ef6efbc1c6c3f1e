-- What the calls do to the wardens, as the book's live segments see it.
use Rattle.std.proofs.Common.{◌≡◌, ◌≢◌, ℕ, ◌+◌, ◌<◌, ◌≤◌, ◌==◌, nat_lt, Bool, true, false, not, cond, ◌||◌, List, [], ◌∷◌, ◌++◌, length, map, filter, All, refl, ap, ap₂, subst, arith}
use Rattle.std.proofs.lemmas.Bool.Decides.{nat_tests}
use Rattle.std.proofs.lemmas.List.Elements.{All-nil, All-cons, All-head, All-tail, All-weaker}
use Rattle.segment.specs.Warded.{Warded}
use Rattle.discard_book.specs.Live.{live, has_number, grants, AreDrawn}
use Rattle.discard_book.specs.declared.entry.Entry.{Entry}
use Rattle.lru_reduce.specs.Wards.{IsNew, segment_of, segments_of, without_ward, noted_at}
use Rattle.lru_reduce.specs.Calls.{placed}

turned : (a b : ℕ) → (a == b) ≡ (b == a)
turned a b = grind (arith, nat_tests)

-- without a number
pub segments_without : (id : ℕ) (sides : List Warded) → segments_of (without_ward id sides) ≡ filter (λ (s : ℕ × ℕ). not (id == s.0)) (segments_of sides)
segments_without id [] = refl
segments_without id (w ∷ sides) = rw (turned id w.id) (elim (w.id == id) as (λ b. segments_of (cond (not b) (w ∷ without_ward id sides) (without_ward id sides)) ≡ cond (not b) (segment_of w ∷ filter (λ (s : ℕ × ℕ). not (id == s.0)) (segments_of sides)) (filter (λ (s : ℕ × ℕ). not (id == s.0)) (segments_of sides))) [
  | true ↦ segments_without id sides
  | false ↦ ap (λ more. segment_of w ∷ more) (segments_without id sides)
])

at_most : (id : ℕ) (sides : List Warded) → length (without_ward id sides) ≤ length sides
at_most id [] = omega arith
at_most id (w ∷ sides) = let rest = at_most id sides in elim (w.id == id) as (λ b. length (cond (not b) (w ∷ without_ward id sides) (without_ward id sides)) ≤ length (w ∷ sides)) [
  | true ↦ omega (arith, rest)
  | false ↦ omega (arith, rest)
]

pub fewer_without : (id : ℕ) (sides : List Warded) → has_number (segments_of sides) id ≡ true → length (without_ward id sides) + 1 ≤ length sides
fewer_without id [] there = cc
fewer_without id (w ∷ sides) there = by_head (w.id == id) (turned id w.id) refl (λ more. fewer_without id sides more)
  where
    by_head : (b : Bool) → (id == w.id) ≡ (w.id == id) → (w.id == id) ≡ b → (has_number (segments_of sides) id ≡ true → length (without_ward id sides) + 1 ≤ length sides)
        → length (without_ward id (w ∷ sides)) + 1 ≤ length (w ∷ sides)
    by_head true both e later = let most = at_most id sides in rw e (omega (arith, most))
    by_head false both e later =
        let rest = later (rw (both, e) at there) in
        rw e (omega (arith, rest))

-- a try that is noted
pub segments_noted : (now word id : ℕ) (sides : List Warded) → segments_of (map (noted_at now word id) sides) ≡ segments_of sides
segments_noted now word id [] = refl
segments_noted now word id (w ∷ sides) = ap₂ (λ (a : ℕ × ℕ) (more : List (ℕ × ℕ)). a ∷ more) (elim (w.id == id) as (λ b. segment_of (cond b (record w { tries = (now, word) ∷ w.tries }) w) ≡ segment_of w) [ true ↦ refl | false ↦ refl ]) (segments_noted now word id sides)

-- a new number
pub drawn_within : (n : ℕ) (sides : List Warded) → All (λ (s : ℕ × ℕ). (1 ≤ s.0) × (s.0 ≤ n)) (segments_of sides) → All (λ (w : Warded). w.id ≤ n) sides
drawn_within n [] all = All-nil (λ (w : Warded). w.id ≤ n)
drawn_within n (w ∷ sides) all =
    All-cons (λ (v : Warded). v.id ≤ n) w sides
    (All-head (λ (s : ℕ × ℕ). (1 ≤ s.0) × (s.0 ≤ n)) (segment_of w) (segments_of sides) all).1
    (drawn_within n sides (All-tail (λ (s : ℕ × ℕ). (1 ≤ s.0) × (s.0 ≤ n)) (segment_of w) (segments_of sides) all))

pub sides_within : (sides : List Warded) (entries : List Entry) → live entries ≡ segments_of sides → AreDrawn (live entries) (grants entries) → All (λ (w : Warded). w.id ≤ grants entries) sides
sides_within sides entries lives drawn =
    drawn_within (grants entries) sides (subst (λ (ss : List (ℕ × ℕ)). All (λ (s : ℕ × ℕ). (1 ≤ s.0) × (s.0 ≤ grants entries)) ss) lives drawn.within)

pub is_new : (id : ℕ) (sides : List Warded) (entries : List Entry) → live entries ≡ segments_of sides → AreDrawn (live entries) (grants entries) → id ≡ grants entries + 1 → IsNew id sides
is_new id sides entries lives drawn next =
    All-weaker (λ (w : Warded). w.id ≤ grants entries) (λ (w : Warded). w.id ≢ id) (λ w l e. absurd (omega (arith, l, e, next))) sides (sides_within sides entries lives drawn)

placed_last : (n : ℕ) (w : Warded) (sides : List Warded) → n < w.id → All (λ (v : Warded). v.id ≤ n) sides → placed w sides ≡ sides ++ w ∷ []
placed_last n w [] greater all = refl
placed_last n w (v ∷ sides) greater all =
    let low = All-head (λ (u : Warded). u.id ≤ n) v sides all in
    let no : nat_lt w.id v.id ≡ false = grind (arith, nat_tests, greater, low) in
    rw no (ap (λ (more : List Warded). v ∷ more) (placed_last n w sides greater (All-tail (λ (u : Warded). u.id ≤ n) v sides all)))

pub last_of : (w : Warded) (sides : List Warded) (entries : List Entry) → live entries ≡ segments_of sides → AreDrawn (live entries) (grants entries) → w.id ≡ grants entries + 1 → placed w sides ≡ sides ++ w ∷ []
last_of w sides entries lives drawn next = placed_last (grants entries) w sides (omega (arith, next)) (sides_within sides entries lives drawn)

-- a live number was drawn
pub number_within : (n id : ℕ) (segments : List (ℕ × ℕ)) → All (λ (s : ℕ × ℕ). (1 ≤ s.0) × (s.0 ≤ n)) segments → has_number segments id ≡ true → (1 ≤ id) × (id ≤ n)
number_within n id [] all there = cc
number_within n id (s ∷ segments) all there =
    by_head (id == s.0) refl there (λ more. number_within n id segments (All-tail (λ (s : ℕ × ℕ). (1 ≤ s.0) × (s.0 ≤ n)) s segments all) more)
  where
    by_head : (b : Bool) → (id == s.0) ≡ b → (b || has_number segments id) ≡ true → (has_number segments id ≡ true → (1 ≤ id) × (id ≤ n)) → (1 ≤ id) × (id ≤ n)
    by_head true e h later =
        let head = All-head (λ (s : ℕ × ℕ). (1 ≤ s.0) × (s.0 ≤ n)) s segments all in
        let low = head.0 in let high = head.1 in
        let same : id ≡ s.0 = grind (arith, nat_tests, e) in
        (omega (arith, same, low), omega (arith, same, high))
    by_head false e h later = later h
