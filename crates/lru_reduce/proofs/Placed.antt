-- A warden among the others, by its number.
use Rattle.std.proofs.Common.{◌≡◌, ℕ, ◌==◌, nat_lt, Bool, true, false, not, cond, ◌||◌, List, [], ◌∷◌, map, filter, All, refl, ap, ◌∙◌, arith}
use Rattle.std.proofs.lemmas.Bool.Decides.{nat_tests}
use Rattle.std.proofs.lemmas.List.Elements.{All-head, All-tail, All-cons}
use Rattle.segment.specs.Warded.{Warded}
use Rattle.discard_book.specs.Live.{has_number}
use Rattle.lru_reduce.specs.Wards.{segment_of}
use Rattle.lru_reduce.specs.Calls.{placed}

pub All-placed : (P : Warded → Type 0) (w : Warded) (sides : List Warded) → P w → All P sides → All P (placed w sides)
All-placed P w [] one all = All-cons P w [] one all
All-placed P w (v ∷ sides) one all = elim (nat_lt w.id v.id) as (λ b. All P (cond b (w ∷ v ∷ sides) (v ∷ placed w sides))) [
  | true ↦ All-cons P w (v ∷ sides) one all
  | false ↦ All-cons P v (placed w sides) (All-head P v sides all) (All-placed P w sides one (All-tail P v sides all))
]

-- by number

turned : (a b : ℕ) → (a == b) ≡ (b == a)
turned a b = grind (arith, nat_tests)

or_false : (a b : Bool) → (a || b) ≡ false → (a ≡ false) × (b ≡ false)
or_false true b e = (e, cc)
or_false false b e = (refl, e)

pub all_stay : (id : ℕ) (sides : List Warded) → has_number (map segment_of sides) id ≡ false → filter (λ (w : Warded). not (w.id == id)) sides ≡ sides
all_stay id [] e = refl
all_stay id (w ∷ sides) e =
    let parts = or_false (id == w.id) (has_number (map segment_of sides) id) e in
    let no : (w.id == id) ≡ false = turned w.id id ∙ parts.0 in
    rw no (ap (λ more. w ∷ more) (all_stay id sides parts.1))
