-- The wardens of slots.
use Rattle.std.proofs.Common.{◌≡◌, ◌≢◌, ◌⊎◌, ℕ, ◌+◌, ◌<◌, ◌≤◌, nat_lt, Bool, true, false, cond, is_some, List, [], ◌∷◌, length, get_or, set, filter, All, Option, Some, None, IfSome, inl, inr, zero, suc, refl, sym, ap, ◌∙◌, subst, arith}
use Rattle.std.specs.List.{remove, insert}
use Rattle.std.proofs.lemmas.Bool.{ltb-true, ltb-false}
use Rattle.std.proofs.lemmas.Bool.Decides.{nat_tests}
use Rattle.std.proofs.lemmas.List.Elements.{All-head, All-tail, All-cons, All-nil, All-weaker, All-get_or, All-filter, All-set}
use Rattle.std.specs.List.Sorted.{IsNonDecreasingBy, IsPartitionedBy}
use Rattle.std.proofs.lemmas.List.Sorted.{IsPartitionedBy-ltb, IsPermutation-insert, All-permutation}
use Rattle.segment.specs.Warded.{Warded}
use Rattle.lru_reduce.specs.Wards.{number_of, IsRisingBy, AreLive}
use Rattle.lru_reduce.specs.Calls.{placed}
use Rattle.lru_reduce.specs.Slots.{slot_number, with_side, sides_of, is_full, IsSlot, AreSlots, HasNoSlot, IsSpot}
use Rattle.lru_reduce.specs.declared.slots.Slot.{Slot}
use Rattle.lru_reduce.proofs.Keyed.{IsRisingBy-filter}

-- What is true of each warden

all_by : (P : Warded → Type 0) (side : Option Warded) (more : List Warded) → IfSome side P → All P more → All P (with_side side more)
all_by P None more one all = all
all_by P (Some w) more one all = All-cons P w more one all

pub all_sides : (P : Warded → Type 0) (slots : List Slot) → All (λ (s : Slot). IfSome s.side P) slots → All P (sides_of slots)
all_sides P [] all = All-nil P
all_sides P (s ∷ slots) all = all_by P s.side (sides_of slots) (All-head (λ (o : Slot). IfSome o.side P) s slots all) (all_sides P slots (All-tail (λ (o : Slot). IfSome o.side P) s slots all))

both_of : (s : Slot) (n : ℕ) → IsSlot s → n < s.id → IfSome s.side (λ (w : Warded). n < w.id)
both_of s n is less = by s.side is
  where
    by : (side : Option Warded) → IfSome side (λ (w : Warded). (w.id ≡ s.id) × (w.taken ≡ false)) → IfSome side (λ (w : Warded). n < w.id)
    by None one = tt
    by (Some w) one = let e = one.0 in omega (arith, e, less)

-- the numbers of the wardens are greater where those of the slots are
pub above_all : (n : ℕ) (slots : List Slot) → All IsSlot slots → All (λ (s : Slot). n < s.id) slots → All (λ (w : Warded). n < w.id) (sides_of slots)
above_all n [] each above = All-nil (λ (w : Warded). n < w.id)
above_all n (s ∷ slots) each above =
    all_by (λ (w : Warded). n < w.id) s.side (sides_of slots) (both_of s n (All-head IsSlot s slots each) (All-head (λ (o : Slot). n < o.id) s slots above))
    (above_all n slots (All-tail IsSlot s slots each) (All-tail (λ (o : Slot). n < o.id) s slots above))

free_all : (slots : List Slot) → All IsSlot slots → All (λ (w : Warded). w.taken ≡ false) (sides_of slots)
free_all [] each = All-nil (λ (w : Warded). w.taken ≡ false)
free_all (s ∷ slots) each = all_by (λ (w : Warded). w.taken ≡ false) s.side (sides_of slots) (by s.side (All-head IsSlot s slots each)) (free_all slots (All-tail IsSlot s slots each))
  where
    by : (side : Option Warded) → IfSome side (λ (w : Warded). (w.id ≡ s.id) × (w.taken ≡ false)) → IfSome side (λ (w : Warded). w.taken ≡ false)
    by None one = tt
    by (Some w) one = one.1

rise_by : (side : Option Warded) (id : ℕ) (more : List Warded) → IfSome side (λ (w : Warded). (w.id ≡ id) × (w.taken ≡ false)) → All (λ (w : Warded). id < w.id) more → IsRisingBy number_of more → IsRisingBy number_of (with_side side more)
rise_by None id more one above rising = rising
rise_by (Some w) id more one above rising = let e = one.0 in (All-weaker (λ (v : Warded). id < v.id) (λ (v : Warded). w.id < v.id) (λ v l. omega (arith, e, l)) more above, rising)

rising_sides : (slots : List Slot) → All IsSlot slots → IsRisingBy slot_number slots → IsRisingBy number_of (sides_of slots)
rising_sides [] each rising = tt
rising_sides (s ∷ slots) each rising =
    rise_by s.side s.id (sides_of slots) (All-head IsSlot s slots each) (above_all s.id slots (All-tail IsSlot s slots each) rising.0) (rising_sides slots (All-tail IsSlot s slots each) rising.1)

pub live_slots : (slots : List Slot) → AreSlots slots → AreLive (sides_of slots)
live_slots slots are = record { rising = rising_sides slots are.each are.rising; free = free_all slots are.each }

-- The slots of no warden leave

full_by : (side : Option Warded) (s : Slot) (slots : List Slot) → s.side ≡ side → sides_of (filter is_full slots) ≡ sides_of slots → sides_of (cond (is_some side) (s ∷ filter is_full slots) (filter is_full slots)) ≡ with_side side (sides_of slots)
full_by None s slots e same = same
full_by (Some w) s slots e same = ap (λ (o : Option Warded). with_side o (sides_of (filter is_full slots))) e ∙ ap (λ (more : List Warded). w ∷ more) same

pub sides_full : (slots : List Slot) → sides_of (filter is_full slots) ≡ sides_of slots
sides_full [] = refl
sides_full (s ∷ slots) = full_by s.side s slots refl (sides_full slots)

long_by : (side : Option Warded) (s : Slot) (slots : List Slot) → length (filter is_full slots) ≡ length (sides_of slots) → length (cond (is_some side) (s ∷ filter is_full slots) (filter is_full slots)) ≡ length (with_side side (sides_of slots))
long_by None s slots same = same
long_by (Some w) s slots same = omega (arith, same)

pub long_full : (slots : List Slot) → length (filter is_full slots) ≡ length (sides_of slots)
long_full [] = refl
long_full (s ∷ slots) = long_by s.side s slots (long_full slots)

short_by : (side : Option Warded) (more : List Warded) → length (with_side side more) ≤ 1 + length more
short_by None more = omega arith
short_by (Some w) more = omega arith

pub short_sides : (slots : List Slot) → length (sides_of slots) ≤ length slots
short_sides [] = omega arith
short_sides (s ∷ slots) = let rest = short_sides slots in let one = short_by s.side (sides_of slots) in omega (arith, rest, one)

pub slots_full : (slots : List Slot) → AreSlots slots → AreSlots (filter is_full slots)
slots_full slots are = record { rising = IsRisingBy-filter slot_number is_full slots are.rising; each = All-filter is_full IsSlot slots are.each }

-- One slot

-- the warden of a slot among all wardens, and what becomes of those where the slot changes
pub record IsHeld (slots : List Slot) (place : ℕ) (w : Warded) : Type 0 where
  pub at : ℕ
  pub inside : at < length (sides_of slots)
  pub here : w ≡ get_or (sides_of slots) at w
  pub changes : (s : Slot) (v : Warded) → s.side ≡ Some v → sides_of (set slots place s) ≡ set (sides_of slots) at v
  pub leaves : (s : Slot) → s.side ≡ None → sides_of (set slots place s) ≡ remove (sides_of slots) at

held_first : (side : Option Warded) (w : Warded) (s : Slot) (slots : List Slot) → side ≡ Some w → s.side ≡ side → IsHeld (s ∷ slots) 0 w
held_first side w s slots some is =
    let whole : sides_of (s ∷ slots) ≡ w ∷ sides_of slots = ap (λ (o : Option Warded). with_side o (sides_of slots)) (is ∙ some) in
    record {
      at = 0;
      inside = let long : length (sides_of (s ∷ slots)) ≡ length (w ∷ sides_of slots) = ap (λ (ws : List Warded). length ws) whole in omega (arith, long);
      here = sym (ap (λ (ws : List Warded). get_or ws 0 w) whole);
      changes = λ t v e. ap (λ (o : Option Warded). with_side o (sides_of slots)) e ∙ ap (λ (ws : List Warded). set ws 0 v) (sym whole);
      leaves = λ t e. ap (λ (o : Option Warded). with_side o (sides_of slots)) e ∙ ap (λ (ws : List Warded). remove ws 0) (sym whole);
    }

held_later : (side : Option Warded) (w : Warded) (s : Slot) (slots : List Slot) (place : ℕ) → s.side ≡ side → IsHeld slots place w → IsHeld (s ∷ slots) (suc place) w
held_later None w s slots place is held =
    let whole : (more : List Slot) → sides_of (s ∷ more) ≡ sides_of more = λ more. ap (λ (o : Option Warded). with_side o (sides_of more)) is in
    record {
      at = held.at;
      inside = rw (whole slots) held.inside;
      here = rw (whole slots) held.here;
      changes = λ t v e. whole (set slots place t) ∙ held.changes t v e ∙ ap (λ (ws : List Warded). set ws held.at v) (sym (whole slots));
      leaves = λ t e. whole (set slots place t) ∙ held.leaves t e ∙ ap (λ (ws : List Warded). remove ws held.at) (sym (whole slots));
    }
held_later (Some o) w s slots place is held =
    let whole : (more : List Slot) → sides_of (s ∷ more) ≡ o ∷ sides_of more = λ more. ap (λ (p : Option Warded). with_side p (sides_of more)) is in
    record {
      at = suc held.at;
      inside = rw (whole slots) (let l = held.inside in omega (arith, l));
      here = rw (whole slots) held.here;
      changes = λ t v e. whole (set slots place t) ∙ ap (λ (ws : List Warded). o ∷ ws) (held.changes t v e) ∙ ap (λ (ws : List Warded). set ws (suc held.at) v) (sym (whole slots));
      leaves = λ t e. whole (set slots place t) ∙ ap (λ (ws : List Warded). o ∷ ws) (held.leaves t e) ∙ ap (λ (ws : List Warded). remove ws (suc held.at)) (sym (whole slots));
    }

pub is_held : (slots : List Slot) (place : ℕ) (w : Warded) (d : Slot) → place < length slots → (get_or slots place d).side ≡ Some w → IsHeld slots place w
is_held [] place w d inside is = absurd (omega (arith, inside))
is_held (s ∷ slots) zero w d inside is = held_first s.side w s slots is refl
is_held (s ∷ slots) (suc place) w d inside is = held_later s.side w s slots place refl (is_held slots place w d (omega (arith, inside)) is)

-- a changed slot of the same number
pub slots_set : (slots : List Slot) (place : ℕ) (s d : Slot) → AreSlots slots → place < length slots → s.id ≡ (get_or slots place d).id → IsSlot s → AreSlots (set slots place s)
slots_set slots place s d are inside same one = record { rising = rising_set slots place are.rising inside same; each = All-set IsSlot slots place s one are.each }
  where
    all_above : (n : ℕ) (more : List Slot) (p : ℕ) → All (λ (o : Slot). n < o.id) more → p < length more → s.id ≡ (get_or more p d).id → All (λ (o : Slot). n < o.id) (set more p s)
    all_above n more p above within e = let l = All-get_or (λ (o : Slot). n < o.id) more p d within above in All-set (λ (o : Slot). n < o.id) more p s (omega (arith, l, e)) above

    rising_set : (more : List Slot) (p : ℕ) → IsRisingBy slot_number more → p < length more → s.id ≡ (get_or more p d).id → IsRisingBy slot_number (set more p s)
    rising_set [] p rising within e = absurd (omega (arith, within))
    rising_set (o ∷ more) zero rising within e = (subst (λ (n : ℕ). All (λ (t : Slot). n < t.id) more) (sym e) rising.0, rising.1)
    rising_set (o ∷ more) (suc p) rising within e = (all_above o.id more p rising.0 (omega (arith, within)) e, rising_set more p rising.1 (omega (arith, within)) e)

-- Where a number stands

before_or_after : (i place : ℕ) → (i < place) ⊎ (place ≤ i)
before_or_after i place = by (nat_lt i place) refl
  where
    by : (t : Bool) → nat_lt i place ≡ t → (i < place) ⊎ (place ≤ i)
    by true e = inl (ltb-true i place e)
    by false e = let l = ltb-false i place e in inr (omega (arith, l))

rising_nondecreasing : (slots : List Slot) → IsRisingBy slot_number slots → IsNonDecreasingBy slot_number slots
rising_nondecreasing slots rising i j d under inside = by slots i j rising under inside
  where
    by : (more : List Slot) (i j : ℕ) → IsRisingBy slot_number more → i ≤ j → j < length more → (get_or more i d).id ≤ (get_or more j d).id
    by [] i j rise le within = absurd (omega (arith, within))
    by (s ∷ more) zero zero rise le within = omega arith
    by (s ∷ more) zero (suc j) rise le within = let l = All-get_or (λ (o : Slot). s.id < o.id) more j d (omega (arith, within)) rise.0 in omega (arith, l)
    by (s ∷ more) (suc i) zero rise le within = absurd (omega (arith, le))
    by (s ∷ more) (suc i) (suc j) rise le within = by more i j rise.1 (omega (arith, le)) (omega (arith, within))

pub parted : (id : ℕ) (slots : List Slot) → IsRisingBy slot_number slots → IsPartitionedBy (λ (s : Slot). nat_lt s.id id) slots
parted id slots rising = IsPartitionedBy-ltb slot_number slots id (rising_nondecreasing slots rising)

pub no_slot : (id place : ℕ) (slots : List Slot) → IsRisingBy slot_number slots → IsSpot id place slots → ((d : Slot) → place < length slots → (get_or slots place d).id ≢ id) → HasNoSlot id slots
no_slot id place slots rising spot other i d inside same =
    elim (before_or_after i place) [
      | inl before ↦ let l = spot.below i d before in absurd (omega (arith, l, same))
      | inr after ↦
          let within : place < length slots = omega (arith, after, inside) in
          let low : id ≤ (get_or slots place d).id = spot.above place d (omega arith) within in
          let high : (get_or slots place d).id ≤ (get_or slots i d).id = rising_nondecreasing slots rising place i d after inside in
          other d within (omega (arith, low, high, same))
    ]

-- A warden comes

All-insert : {X : Type 0} (P : X → Type 0) (xs : List X) (i : ℕ) (y : X) → P y → All P xs → All P (insert xs i y)
All-insert P xs i y one all = All-permutation P (y ∷ xs) (insert xs i y) (IsPermutation-insert xs i y) (All-cons P y xs one all)

pub placed_front : (w : Warded) (sides : List Warded) → All (λ (v : Warded). w.id < v.id) sides → placed w sides ≡ w ∷ sides
placed_front w [] above = refl
placed_front w (v ∷ sides) above =
    let yes : nat_lt w.id v.id ≡ true = let l = All-head (λ (o : Warded). w.id < o.id) v sides above in grind (arith, nat_tests, l) in
    ap (λ (b : Bool). cond b (w ∷ v ∷ sides) (v ∷ placed w sides)) yes

placed_after : (w v : Warded) (sides : List Warded) → v.id < w.id → placed w (v ∷ sides) ≡ v ∷ placed w sides
placed_after w v sides less =
    let no : nat_lt w.id v.id ≡ false = grind (arith, nat_tests, less) in
    ap (λ (b : Bool). cond b (w ∷ v ∷ sides) (v ∷ placed w sides)) no

placed_by : (side : Option Warded) (n : ℕ) (w : Warded) (more : List Warded) → IfSome side (λ (v : Warded). (v.id ≡ n) × (v.taken ≡ false)) → n < w.id → with_side side (placed w more) ≡ placed w (with_side side more)
placed_by None n w more one less = refl
placed_by (Some v) n w more one less = let e = one.0 in sym (placed_after w v more (omega (arith, e, less)))

placed_first : (side : Option Warded) (w : Warded) (more : List Warded) → side ≡ Some w → All (λ (v : Warded). w.id < v.id) more → with_side side more ≡ placed w more
placed_first side w more e above = ap (λ (o : Option Warded). with_side o more) e ∙ sym (placed_front w more above)

-- into its empty slot
pub sides_filled : (slots : List Slot) (place : ℕ) (w : Warded) (s d : Slot) → AreSlots slots → place < length slots → (get_or slots place d).id ≡ w.id → (get_or slots place d).side ≡ None → s.side ≡ Some w
    → sides_of (set slots place s) ≡ placed w (sides_of slots)
sides_filled slots place w s d are inside number empty one = by slots place are.rising are.each inside number empty
  where
    by : (more : List Slot) (p : ℕ) → IsRisingBy slot_number more → All IsSlot more → p < length more → (get_or more p d).id ≡ w.id → (get_or more p d).side ≡ None → sides_of (set more p s) ≡ placed w (sides_of more)
    by [] p rising each within same none = absurd (omega (arith, within))
    by (o ∷ more) zero rising each within same none =
        let above : All (λ (v : Warded). w.id < v.id) (sides_of more) = subst (λ (n : ℕ). All (λ (v : Warded). n < v.id) (sides_of more)) same (above_all o.id more (All-tail IsSlot o more each) rising.0) in
        placed_first s.side w (sides_of more) one above ∙ ap (λ (p : Option Warded). placed w (with_side p (sides_of more))) (sym none)
    by (o ∷ more) (suc p) rising each within same none =
        let less : o.id < w.id = let l = All-get_or (λ (t : Slot). o.id < t.id) more p d (omega (arith, within)) rising.0 in omega (arith, l, same) in
        ap (λ (ws : List Warded). with_side o.side ws) (by more p rising.1 (All-tail IsSlot o more each) (omega (arith, within)) same none)
        ∙ placed_by o.side o.id w (sides_of more) (All-head IsSlot o more each) less

-- into a new slot
pub sides_inserted : (slots : List Slot) (place : ℕ) (w : Warded) (s : Slot) → AreSlots slots → IsSpot s.id place slots → HasNoSlot s.id slots → s.id ≡ w.id → s.side ≡ Some w
    → sides_of (insert slots place s) ≡ placed w (sides_of slots)
sides_inserted slots place w s are spot none number one = by slots place are.rising are.each spot.within spot.below spot.above none
  where
    by : (more : List Slot) (p : ℕ) → IsRisingBy slot_number more → All IsSlot more → p ≤ length more → ((i : ℕ) (d : Slot) → i < p → (get_or more i d).id < s.id) → ((i : ℕ) (d : Slot) → p ≤ i → i < length more → s.id ≤ (get_or more i d).id)
        → HasNoSlot s.id more → sides_of (insert more p s) ≡ placed w (sides_of more)
    by [] p rising each within below above fresh = let e : p ≡ 0 = omega (arith, within) in rw e (placed_first s.side w [] one (All-nil (λ (v : Warded). w.id < v.id)))
    by (o ∷ more) zero rising each within below above fresh =
        let least : s.id ≤ o.id = above 0 o (omega arith) (omega arith) in
        let other : o.id ≢ s.id = fresh 0 o (omega arith) in
        let less : w.id < o.id = omega (arith, least, other, number) in
        let slots_above : All (λ (t : Slot). w.id < t.id) (o ∷ more) = All-cons (λ (t : Slot). w.id < t.id) o more less (All-weaker (λ (t : Slot). o.id < t.id) (λ (t : Slot). w.id < t.id) (λ t l. omega (arith, l, less)) more rising.0) in
        placed_first s.side w (sides_of (o ∷ more)) one (above_all w.id (o ∷ more) each slots_above)
    by (o ∷ more) (suc p) rising each within below above fresh =
        let less : o.id < w.id = let l = below 0 o (omega arith) in omega (arith, l, number) in
        ap (λ (ws : List Warded). with_side o.side ws)
        (by more p rising.1 (All-tail IsSlot o more each) (omega (arith, within)) (λ i d l. below (suc i) d (omega (arith, l))) (λ i d l k. above (suc i) d (omega (arith, l)) (omega (arith, k))) (λ i d l. fresh (suc i) d (omega (arith, l))))
        ∙ placed_by o.side o.id w (sides_of more) (All-head IsSlot o more each) less

pub slots_inserted : (slots : List Slot) (place : ℕ) (s : Slot) → AreSlots slots → IsSpot s.id place slots → HasNoSlot s.id slots → IsSlot s → AreSlots (insert slots place s)
slots_inserted slots place s are spot none one = record { rising = by slots place are.rising spot.within spot.below spot.above none; each = All-insert IsSlot slots place s one are.each }
  where
    by : (more : List Slot) (p : ℕ) → IsRisingBy slot_number more → p ≤ length more → ((i : ℕ) (d : Slot) → i < p → (get_or more i d).id < s.id) → ((i : ℕ) (d : Slot) → p ≤ i → i < length more → s.id ≤ (get_or more i d).id)
        → HasNoSlot s.id more → IsRisingBy slot_number (insert more p s)
    by [] p rising within below above fresh = let e : p ≡ 0 = omega (arith, within) in rw e (All-nil (λ (t : Slot). s.id < t.id), tt)
    by (o ∷ more) zero rising within below above fresh =
        let least : s.id ≤ o.id = above 0 o (omega arith) (omega arith) in
        let other : o.id ≢ s.id = fresh 0 o (omega arith) in
        (All-cons (λ (t : Slot). s.id < t.id) o more (omega (arith, least, other)) (All-weaker (λ (t : Slot). o.id < t.id) (λ (t : Slot). s.id < t.id) (λ t l. omega (arith, l, least, other)) more rising.0), rising)
    by (o ∷ more) (suc p) rising within below above fresh = (
      All-insert (λ (t : Slot). o.id < t.id) more p s (below 0 o (omega arith)) rising.0,
      by more p rising.1 (omega (arith, within)) (λ i d l. below (suc i) d (omega (arith, l))) (λ i d l k. above (suc i) d (omega (arith, l)) (omega (arith, k))) (λ i d l. fresh (suc i) d (omega (arith, l))),
    )
