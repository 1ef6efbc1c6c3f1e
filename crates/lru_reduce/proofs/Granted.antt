-- A new segment, whose number is greater than each before.
use Rattle.std.proofs.Common.{◌≡◌, ◌≢◌, ℕ, ◌+◌, ◌<◌, ◌≤◌, nat_lt, false, List, [], ◌∷◌, ◌++◌, sum_by, All, sym, ap, ◌∙◌, refl, subst, arith}
use Rattle.std.proofs.lemmas.Bool.Decides.{nat_tests}
use Rattle.std.proofs.lemmas.List.{map-append}
use Rattle.std.proofs.lemmas.List.Elements.{All-nil, All-cons, All-head, All-tail, All-weaker}
use Rattle.std.proofs.lemmas.List.Sums.{sum_by-append}
use Rattle.segment.specs.Warded.{Warded}
use Rattle.discard_book.specs.Live.{live, live_after, grants, AreDrawn}
use Rattle.discard_book.specs.declared.entry.Entry.{Entry}
use Rattle.discard_book.specs.declared.entry.Entry.TheVariants.{Grant}
use Rattle.lru_reduce.specs.Wards.{IsNew, segment_of, segments_of, total_pages}
use Rattle.lru_reduce.specs.Calls.{placed}
use Rattle.lru_reduce.proofs.Steps.{pages_sum}
use Rattle.lru_reduce.proofs.Turned.{filter_all}

-- the numbers of the wardens are at most how many were drawn
drawn_within : (n : ℕ) (sides : List Warded) → All (λ (s : ℕ × ℕ). (1 ≤ s.0) × (s.0 ≤ n)) (segments_of sides) → All (λ (w : Warded). w.id ≤ n) sides
drawn_within n [] all = All-nil (λ (w : Warded). w.id ≤ n)
drawn_within n (w ∷ sides) all =
    All-cons (λ (v : Warded). v.id ≤ n) w sides
    (All-head (λ (s : ℕ × ℕ). (1 ≤ s.0) × (s.0 ≤ n)) (segment_of w) (segments_of sides) all).1
    (drawn_within n sides (All-tail (λ (s : ℕ × ℕ). (1 ≤ s.0) × (s.0 ≤ n)) (segment_of w) (segments_of sides) all))

placed_last : (n : ℕ) (w : Warded) (sides : List Warded) → n < w.id → All (λ (v : Warded). v.id ≤ n) sides → placed w sides ≡ sides ++ w ∷ []
placed_last n w [] greater all = refl
placed_last n w (v ∷ sides) greater all =
    let low = All-head (λ (u : Warded). u.id ≤ n) v sides all in
    let no : nat_lt w.id v.id ≡ false = grind (arith, nat_tests, greater, low) in
    rw no (ap (λ (more : List Warded). v ∷ more) (placed_last n w sides greater (All-tail (λ (u : Warded). u.id ≤ n) v sides all)))

-- no warden has the new number
pub granted_is_new : (id : ℕ) (sides : List Warded) (before : List Entry) → live before ≡ segments_of sides → AreDrawn (live before) (grants before) → grants before < id → IsNew id sides
granted_is_new id sides before lives drawn greater =
    let within = drawn_within (grants before) sides (subst (λ (ss : List (ℕ × ℕ)). All (λ (s : ℕ × ℕ). (1 ≤ s.0) × (s.0 ≤ grants before)) ss) lives drawn.within) in
    All-weaker (λ (w : Warded). w.id ≤ grants before) (λ (w : Warded). w.id ≢ id) (λ w l e. absurd (omega (arith, l, e, greater))) sides within

last_of : (w : Warded) (sides : List Warded) (before : List Entry) → live before ≡ segments_of sides → AreDrawn (live before) (grants before) → grants before < w.id → placed w sides ≡ sides ++ w ∷ []
last_of w sides before lives drawn greater =
    placed_last (grants before) w sides greater (drawn_within (grants before) sides (subst (λ (ss : List (ℕ × ℕ)). All (λ (s : ℕ × ℕ). (1 ≤ s.0) × (s.0 ≤ grants before)) ss) lives drawn.within))

-- the order with the new warden has the segments that the book has with its Grant
pub granted_live : (client limit : ℕ) (w : Warded) (sides : List Warded) (before after : List Entry) → live before ≡ segments_of sides → AreDrawn (live before) (grants before) → grants before < w.id
    → live after ≡ live_after (live before) (Grant w.id client w.pages limit) → live after ≡ segments_of (placed w sides)
granted_live client limit w sides before after lives drawn greater adds =
    adds
    ∙ ap (λ (ss : List (ℕ × ℕ)). ss ++ (w.id, w.pages) ∷ []) (filter_all (live before) ∙ lives)
    ∙ sym (ap (λ (ws : List Warded). segments_of ws) (last_of w sides before lives drawn greater) ∙ map-append segment_of sides (w ∷ []))

-- and its pages are added
pub granted_total : (w : Warded) (sides : List Warded) (before : List Entry) → live before ≡ segments_of sides → AreDrawn (live before) (grants before) → grants before < w.id
    → total_pages (placed w sides) ≡ total_pages sides + w.pages
granted_total w sides before lives drawn greater =
    let whole : total_pages (placed w sides) ≡ sum_by (λ (v : Warded). v.pages) (sides ++ w ∷ []) = ap (λ (ws : List Warded). total_pages ws) (last_of w sides before lives drawn greater) ∙ pages_sum (sides ++ w ∷ []) in
    let parts : sum_by (λ (v : Warded). v.pages) (sides ++ w ∷ []) ≡ sum_by (λ (v : Warded). v.pages) sides + (0 + w.pages) = sum_by-append (λ (v : Warded). v.pages) sides (w ∷ []) in
    let old = pages_sum sides in
    omega (arith, whole, parts, old)
