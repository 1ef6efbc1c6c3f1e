-- The warden of a number, by its slot.
use Rattle.std.proofs.Common.{◌≡◌, ◌≢◌, ℕ, ◌+◌, ◌<◌, ◌≤◌, Bool, true, false, List, [], ◌∷◌, ◌++◌, length, get_or, set, take, drop, Option, Some, None, IfSome, zero, suc, refl, sym, ap, ◌∙◌, subst, arith, length-append}
use Rattle.std.specs.List.{Contains}
use Rattle.std.specs.List.Sorted.{IsPermutation}
use Rattle.std.proofs.lemmas.List.{get_or_read, length-map, map-append, append-nil, take_more, take_all, take-append-drop, length-set}
use Rattle.std.proofs.lemmas.List.Edits.{length-remove}
use Rattle.std.proofs.lemmas.List.Elements.{All-get_or, All-contains}
use Rattle.std.proofs.lemmas.List.Sorted.{IsPermutation-push_more, length_permutation}
use Rattle.machine.specs.Reduction.{Candidate, use_of}
use Rattle.segment.specs.Warded.{Warded}
use Rattle.discard_book.specs.Live.{has_number}
use Rattle.lru_reduce.specs.Wards.{number_of, IsNew, candidate_of, segments_of, without_ward}
use Rattle.lru_reduce.specs.Calls.{placed, TakesNumber, IsKnownUse}
use Rattle.lru_reduce.specs.Uses.{entry_for, uses_of}
use Rattle.lru_reduce.specs.Turns.{Wins, Loses, WinsAt, LosesAt}
use Rattle.lru_reduce.specs.Slots.{slot_number, with_side, sides_of, IsSlot, AreSlots, IsSlotOf, HasNoSlot, SlotWins, SlotLoses}
use Rattle.lru_reduce.specs.declared.slots.Slot.{Slot}
use Rattle.lru_reduce.proofs.Keyed.{remove-but, remove-set, rising_apart}
use Rattle.lru_reduce.proofs.Uses.{from_map, has_warden, number_in}
use Rattle.lru_reduce.proofs.Slotted.{IsHeld, is_held, live_slots, slots_set, sides_filled}
use Rattle.lru_reduce.proofs.Steps.{won_at, lost_at}

-- Where no warden is

-- the slot of a warden
pub record SlotFor (slots : List Slot) (w : Warded) : Type 0 where
  pub at : ℕ
  pub inside : at < length slots
  pub side : (d : Slot) → (get_or slots at d).side ≡ Some w

slot_later : (s : Slot) (slots : List Slot) (w : Warded) → SlotFor slots w → SlotFor (s ∷ slots) w
slot_later s slots w found = record { at = suc found.at; inside = let l = found.inside in omega (arith, l); side = λ d. found.side d }

slot_some : (s : Slot) (slots : List Slot) (v w : Warded) → s.side ≡ Some v → Contains (v ∷ sides_of slots) w → (Contains (sides_of slots) w → SlotFor slots w) → SlotFor (s ∷ slots) w
slot_some s slots v w e (zero, inside, here) more = record { at = 0; inside = omega arith; side = λ d. e ∙ ap (λ (o : Warded). Some o) here }
slot_some s slots v w e (suc i, inside, here) more = slot_later s slots w (more (i, omega (arith, inside), here))

slot_by : (side : Option Warded) (s : Slot) (slots : List Slot) (w : Warded) → s.side ≡ side → Contains (with_side side (sides_of slots)) w → (Contains (sides_of slots) w → SlotFor slots w) → SlotFor (s ∷ slots) w
slot_by None s slots w e there more = slot_later s slots w (more there)
slot_by (Some v) s slots w e there more = slot_some s slots v w e there more

pub slot_for : (slots : List Slot) (w : Warded) → Contains (sides_of slots) w → SlotFor slots w
slot_for [] w (i, inside, here) = absurd (omega (arith, inside))
slot_for (s ∷ slots) w there = slot_by s.side s slots w refl there (λ more. slot_for slots w more)

number_by : (s : Slot) (w : Warded) → IsSlot s → s.side ≡ Some w → (w.id ≡ s.id) × (w.taken ≡ false)
number_by s w is e = subst (λ (side : Option Warded). IfSome side (λ (v : Warded). (v.id ≡ s.id) × (v.taken ≡ false))) e is

absent_by : (t : Bool) (id : ℕ) (sides : List Warded) → has_number (segments_of sides) id ≡ t → ((w : Warded) → Contains sides w → w.id ≢ id) → has_number (segments_of sides) id ≡ false
absent_by false id sides e none = e
absent_by true id sides e none = let found = has_warden id sides e in absurd (none found.warden found.there found.number)

pub absent : (id : ℕ) (slots : List Slot) → AreSlots slots → HasNoSlot id slots → has_number (segments_of (sides_of slots)) id ≡ false
absent id slots are none = absent_by (has_number (segments_of (sides_of slots)) id) id (sides_of slots) refl (λ w there number.
    let found = slot_for slots w there in
    let s : Slot = record { id = id; side = None } in
    let here = get_or slots found.at s in
    let same : w.id ≡ here.id = (number_by here w (All-get_or IsSlot slots found.at s found.inside are.each) (found.side s)).0 in
    All-get_or (λ (o : Slot). o.id ≢ id) slots found.at s found.inside none (sym same ∙ number))

pub empty_at : (id place : ℕ) (slots : List Slot) (x : Slot) → AreSlots slots → IsSlotOf id place slots → x ≡ get_or slots place x → x.side ≡ None → has_number (segments_of (sides_of slots)) id ≡ false
empty_at id place slots x are is read empty = absent_by (has_number (segments_of (sides_of slots)) id) id (sides_of slots) refl (λ w there number.
    let found = slot_for slots w there in
    let here = get_or slots found.at x in
    let same : w.id ≡ here.id = (number_by here w (All-get_or IsSlot slots found.at x found.inside are.each) (found.side x)).0 in
    let one : place ≡ found.at = rising_apart slot_number slots place found.at x are.rising is.inside found.inside (is.number x ∙ sym number ∙ same) in
    let e : None ≡ Some w = sym empty ∙ ap (λ (s : Slot). s.side) read ∙ ap (λ (n : ℕ). (get_or slots n x).side) one ∙ found.side x in cc)

-- Where one is

pub record IsLiveAt (id place : ℕ) (slots : List Slot) (w : Warded) : Type 0 where
  pub held : IsHeld slots place w
  pub number : w.id ≡ id
  pub free : w.taken ≡ false

pub live_at : (id place : ℕ) (slots : List Slot) (x : Slot) (w : Warded) → AreSlots slots → IsSlotOf id place slots → x ≡ get_or slots place x → x.side ≡ Some w → IsLiveAt id place slots w
live_at id place slots x w are is read some =
    let here : (get_or slots place x).side ≡ Some w = ap (λ (s : Slot). s.side) (sym read) ∙ some in
    let facts = number_by (get_or slots place x) w (All-get_or IsSlot slots place x is.inside are.each) here in
    record { held = is_held slots place w x is.inside here; number = facts.0 ∙ is.number x; free = facts.1 }

pub has_live : (id place : ℕ) (slots : List Slot) (w : Warded) → IsLiveAt id place slots w → has_number (segments_of (sides_of slots)) id ≡ true
has_live id place slots w live =
    sym (ap (λ (n : ℕ). has_number (segments_of (sides_of slots)) n) live.number) ∙ number_in w (sides_of slots) (live.held.at, live.held.inside, sym live.held.here)

pub take_live : (id place : ℕ) (slots : List Slot) (w : Warded) (s : Slot) → AreSlots slots → IsLiveAt id place slots w → s.side ≡ None → TakesNumber id w (sides_of slots) (sides_of (set slots place s))
take_live id place slots w s are live gone =
    let sides = sides_of slots in
    let held = live.held in
    record {
      stood = (held.at, held.inside, sym held.here);
      number = live.number;
      free = live.free;
      sides = held.leaves s gone ∙ remove-but number_of sides held.at w (live_slots slots are).rising held.inside ∙ ap (λ (n : ℕ). without_ward n sides) (ap (λ (v : Warded). v.id) (sym held.here) ∙ live.number);
    }

pub fewer_live : (id place : ℕ) (slots : List Slot) (w : Warded) (s : Slot) → IsLiveAt id place slots w → s.side ≡ None → length (sides_of (set slots place s)) + 1 ≡ length (sides_of slots)
fewer_live id place slots w s live gone =
    let held = live.held in
    let e = ap (λ (ws : List Warded). length ws) (held.leaves s gone) in
    let fewer = length-remove (sides_of slots) held.at held.inside in
    omega (arith, e, fewer)

pub some_live : (id place : ℕ) (slots : List Slot) (w : Warded) → IsLiveAt id place slots w → 1 ≤ length (sides_of slots)
some_live id place slots w live = let l = live.held.inside in omega (arith, l)

pub slots_gone : (id place : ℕ) (slots : List Slot) (x s : Slot) → AreSlots slots → IsSlotOf id place slots → x ≡ get_or slots place x → s.id ≡ x.id → s.side ≡ None → AreSlots (set slots place s)
slots_gone id place slots x s are is read same gone =
    slots_set slots place s x are is.inside (same ∙ ap (λ (o : Slot). o.id) read) (subst (λ (side : Option Warded). IfSome side (λ (v : Warded). (v.id ≡ s.id) × (v.taken ≡ false))) (sym gone) tt)

pub slots_stay : (id place : ℕ) (slots : List Slot) (x s : Slot) (w v : Warded) → AreSlots slots → IsSlotOf id place slots → x ≡ get_or slots place x → s.id ≡ x.id → IsLiveAt id place slots w → s.side ≡ Some v → v.id ≡ w.id → v.taken ≡ w.taken → AreSlots (set slots place s)
slots_stay id place slots x s w v are is read same live some number free =
    let one : x.id ≡ id = ap (λ (o : Slot). o.id) read ∙ is.number x in
    slots_set slots place s x are is.inside (same ∙ ap (λ (o : Slot). o.id) read)
    (subst (λ (side : Option Warded). IfSome side (λ (o : Warded). (o.id ≡ s.id) × (o.taken ≡ false))) (sym some) (number ∙ live.number ∙ sym (same ∙ one), free ∙ live.free))

pub known_live : (id place : ℕ) (slots : List Slot) (w : Warded) → AreSlots slots → IsLiveAt id place slots w → IsKnownUse id (use_of (candidate_of w)) (sides_of slots)
known_live id place slots w are live c there number =
    let sides = sides_of slots in
    let held = live.held in
    let from = from_map candidate_of sides c there in
    let v = from.from in
    let i : ℕ = from.there.0 in
    let vid : v.id ≡ id = ap (λ (o : Candidate). o.id) from.is ∙ number in
    let v_at : v ≡ get_or sides i w = get_or_read sides i v from.there.1 (sym from.there.2) w in
    let same : (get_or sides i w).id ≡ (get_or sides held.at w).id = ap (λ (o : Warded). o.id) (sym v_at) ∙ vid ∙ sym live.number ∙ ap (λ (o : Warded). o.id) held.here in
    let one : i ≡ held.at = rising_apart number_of sides i held.at w (live_slots slots are).rising from.there.1 held.inside same in
    let is : v ≡ w = v_at ∙ ap (λ (n : ℕ). get_or sides n w) one ∙ sym held.here in
    sym (ap use_of from.is) ∙ ap (λ (o : Warded). use_of (candidate_of o)) is

-- A new one comes into its slot

pub put_filled : (slots : List Slot) (place : ℕ) (w : Warded) (x s : Slot) → AreSlots slots → IsSlotOf w.id place slots → x ≡ get_or slots place x → IsNew w.id (sides_of slots) → s.side ≡ Some w
    → sides_of (set slots place s) ≡ placed w (sides_of slots)
put_filled slots place w x s are is read new one = by x.side refl
  where
    by : (side : Option Warded) → x.side ≡ side → sides_of (set slots place s) ≡ placed w (sides_of slots)
    by None e = sides_filled slots place w s x are is.inside (is.number x) (ap (λ (o : Slot). o.side) (sym read) ∙ e) one
    by (Some v) e =
        let live = live_at w.id place slots x v are is read e in
        absurd (All-contains (λ (o : Warded). o.id ≢ w.id) (sides_of slots) v new (live.held.at, live.held.inside, sym live.held.here) live.number)

pub put_slots : (slots : List Slot) (place : ℕ) (w : Warded) (x s : Slot) → AreSlots slots → IsSlotOf w.id place slots → x ≡ get_or slots place x → s.id ≡ x.id → s.side ≡ Some w → w.taken ≡ false → AreSlots (set slots place s)
put_slots slots place w x s are is read same some free =
    let one : x.id ≡ w.id = ap (λ (o : Slot). o.id) read ∙ is.number x in
    slots_set slots place s x are is.inside (same ∙ ap (λ (o : Slot). o.id) read)
    (subst (λ (side : Option Warded). IfSome side (λ (o : Warded). (o.id ≡ s.id) × (o.taken ≡ false))) (sym some) (sym (same ∙ one), free))

pub long_placed : (w : Warded) (sides : List Warded) → length (placed w sides) ≡ length sides + 1
long_placed w [] = refl
long_placed w (v ∷ sides) = let rest = long_placed w sides in grind (arith, rest)

-- Tries

pub wins_on : (id now place pages known : ℕ) (block : List ℕ) (slots : List Slot) (x new : Slot) → AreSlots slots → IsSlotOf id place slots → x ≡ get_or slots place x → SlotWins pages known block x new
    → Wins id now pages known block (sides_of slots) (sides_of (set slots place new))
wins_on id now place pages known block slots x new are is read wins p of =
    let sides = sides_of slots in
    let w = wins.warden in
    let live = live_at id place slots x w are is read wins.stood in
    let held = live.held in
    let ok = live_slots slots are in
    let same : (get_or sides p w).id ≡ (get_or sides held.at w).id = of.number w ∙ sym live.number ∙ ap (λ (o : Warded). o.id) held.here in
    let one : p ≡ held.at = rising_apart number_of sides p held.at w ok.rising of.inside held.inside same in
    let whole : WinsAt now held.at w.id w.pages (use_of (candidate_of w)) block sides (sides_of (set slots place new)) =
    won_at now held.at wins.wins.word sides (sides_of (set slots place new)) w w block ok held.inside held.here wins.wins.same wins.wins.sized wins.wins.timely
    (held.leaves new wins.gone ∙ sym (remove-set sides held.at w)) in
    let new_sides = sides_of (set slots place new) in
    subst (λ (n : ℕ). WinsAt now n id pages known block sides new_sides) (sym one)
    (subst (λ (n : ℕ). WinsAt now held.at id pages n block sides new_sides) (sym wins.wins.guess)
    (subst (λ (n : ℕ). WinsAt now held.at id n (use_of (candidate_of w)) block sides new_sides) (sym wins.wins.size)
    (subst (λ (n : ℕ). WinsAt now held.at n w.pages (use_of (candidate_of w)) block sides new_sides) live.number whole)))

pub loses_on : (id now place known : ℕ) (slots : List Slot) (x new : Slot) → AreSlots slots → IsSlotOf id place slots → x ≡ get_or slots place x → SlotLoses now known x new
    → Loses id now known (sides_of slots) (sides_of (set slots place new))
loses_on id now place known slots x new are is read loses p of =
    let sides = sides_of slots in
    let w = loses.warden in
    let live = live_at id place slots x w are is read loses.stood in
    let held = live.held in
    let ok = live_slots slots are in
    let same : (get_or sides p w).id ≡ (get_or sides held.at w).id = of.number w ∙ sym live.number ∙ ap (λ (o : Warded). o.id) held.here in
    let one : p ≡ held.at = rising_apart number_of sides p held.at w ok.rising of.inside held.inside same in
    let whole : LosesAt now held.at known sides (set sides held.at loses.after) =
    lost_at now held.at loses.loses.word known sides w loses.after ok held.inside held.here loses.loses.other loses.loses.timely loses.loses.noted loses.loses.told in
    subst (λ (n : ℕ). LosesAt now n known sides (sides_of (set slots place new))) (sym one)
    (subst (λ (ws : List Warded). LosesAt now held.at known sides ws) (sym (held.changes new loses.after loses.stays)) whole)

pub wins_gone : (id place pages known : ℕ) (block : List ℕ) (slots : List Slot) (x new : Slot) → AreSlots slots → IsSlotOf id place slots → x ≡ get_or slots place x → SlotWins pages known block x new → AreSlots (set slots place new)
wins_gone id place pages known block slots x new are is read wins = slots_gone id place slots x new are is read wins.number wins.gone

pub loses_stay : (id now place known : ℕ) (slots : List Slot) (x new : Slot) → AreSlots slots → IsSlotOf id place slots → x ≡ get_or slots place x → SlotLoses now known x new → AreSlots (set slots place new)
loses_stay id now place known slots x new are is read loses =
    slots_stay id place slots x new loses.warden loses.after are is read loses.number (live_at id place slots x loses.warden are is read loses.stood) loses.stays
    (ap (λ (w : Warded). w.id) loses.loses.noted) (ap (λ (w : Warded). w.taken) loses.loses.noted)

pub loses_long : (id now place known : ℕ) (slots : List Slot) (x new : Slot) → AreSlots slots → IsSlotOf id place slots → x ≡ get_or slots place x → SlotLoses now known x new → length (sides_of (set slots place new)) ≡ length (sides_of slots)
loses_long id now place known slots x new are is read loses =
    let held = (live_at id place slots x loses.warden are is read loses.stood).held in
    ap (λ (ws : List Warded). length ws) (held.changes new loses.after loses.stays) ∙ length-set (sides_of slots) held.at loses.after

-- All entries

sides-append : (xs ys : List Slot) → sides_of (xs ++ ys) ≡ sides_of xs ++ sides_of ys
sides-append [] ys = refl
sides-append (s ∷ xs) ys = ap (λ (ws : List Warded). with_side s.side ws) (sides-append xs ys) ∙ by s.side
  where
    by : (side : Option Warded) → with_side side (sides_of xs ++ sides_of ys) ≡ with_side side (sides_of xs) ++ sides_of ys
    by None = refl
    by (Some w) = refl

more_sides : (slots : List Slot) (n : ℕ) (x : Slot) (side : Option Warded) → n < length slots → x ≡ get_or slots n x → x.side ≡ side → sides_of (take (n + 1) slots) ≡ sides_of (take n slots) ++ with_side side []
more_sides slots n x side inside read is =
    ap (λ (more : List Slot). sides_of more) (take_more slots n x inside)
    ∙ sides-append (take n slots) (get_or slots n x ∷ [])
    ∙ ap (λ (s : Slot). sides_of (take n slots) ++ with_side s.side []) (sym read)
    ∙ ap (λ (o : Option Warded). sides_of (take n slots) ++ with_side o []) is

pub none_more : (slots : List Slot) (n : ℕ) (x : Slot) (entries : List (ℕ × ℕ)) → n < length slots → x ≡ get_or slots n x → x.side ≡ None → IsPermutation (uses_of (sides_of (take n slots))) entries → IsPermutation (uses_of (sides_of (take (n + 1) slots))) entries
none_more slots n x entries inside read is all =
    let whole : sides_of (take (n + 1) slots) ≡ sides_of (take n slots) = more_sides slots n x None inside read is ∙ append-nil (sides_of (take n slots)) in
    rw whole all

pub one_more : (slots : List Slot) (n : ℕ) (x : Slot) (w : Warded) (entries new : List (ℕ × ℕ)) → n < length slots → x ≡ get_or slots n x → x.side ≡ Some w → IsPermutation (uses_of (sides_of (take n slots))) entries → IsPermutation (entry_for w ∷ entries) new
    → IsPermutation (uses_of (sides_of (take (n + 1) slots))) new
one_more slots n x w entries new inside read is all moved =
    let whole : uses_of (sides_of (take (n + 1) slots)) ≡ uses_of (sides_of (take n slots)) ++ entry_for w ∷ [] =
    ap (λ (ws : List Warded). uses_of ws) (more_sides slots n x (Some w) inside read is) ∙ map-append entry_for (sides_of (take n slots)) (w ∷ []) in
    rw whole (IsPermutation-push_more (uses_of (sides_of (take n slots))) entries new (entry_for w) all moved)

pub room_more : (slots : List Slot) (n room : ℕ) (x : Slot) (w : Warded) (entries : List (ℕ × ℕ)) → n < length slots → x ≡ get_or slots n x → x.side ≡ Some w → IsPermutation (uses_of (sides_of (take n slots))) entries → length (sides_of slots) ≤ room → length entries < room
room_more slots n room x w entries inside read is all within =
    let long : length entries ≡ length (sides_of (take n slots)) = length_permutation (uses_of (sides_of (take n slots))) entries all ∙ length-map (sides_of (take n slots)) entry_for in
    let next = ap (λ (ws : List Warded). length ws) (more_sides slots n x (Some w) inside read is) ∙ length-append (sides_of (take n slots)) (w ∷ []) in
    let whole = ap (λ (more : List Slot). length (sides_of more)) (sym (take-append-drop (n + 1) slots)) ∙ ap (λ (ws : List Warded). length ws) (sides-append (take (n + 1) slots) (drop (n + 1) slots)) ∙ length-append (sides_of (take (n + 1) slots)) (sides_of (drop (n + 1) slots)) in
    omega (arith, long, next, whole, within)

-- all slots are passed
pub all_filled : (slots all : List Slot) (n : ℕ) (entries : List (ℕ × ℕ)) → length slots ≤ n → slots ≡ all → IsPermutation (uses_of (sides_of (take n slots))) entries → IsPermutation (uses_of (sides_of all)) entries
all_filled slots all n entries over is moved =
    subst (λ (xs : List Slot). IsPermutation (uses_of (sides_of xs)) entries) (take_all n slots over ∙ is) moved
