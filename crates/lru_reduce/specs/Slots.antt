-- The slots of a table: numbers by rising, some with their warden and some let go.
use Rattle.std.specs.Prelude.{◌≡◌, ◌≢◌, ℕ, ◌*◌, ◌<◌, ◌≤◌, Bool, false, is_some, List, [], ◌∷◌, length, All, Option, Some, None, IfSome, slice_index_or}
use Rattle.units.specs.declared.TheConstants.{PAGE}
use Rattle.machine.specs.Reduction.{use_of}
use Rattle.segment.specs.Tries.{IsTimely, known_use}
use Rattle.segment.specs.Warded.{Warded}
use Rattle.lru_reduce.specs.Wards.{IsRisingBy, candidate_of}
use Rattle.lru_reduce.specs.declared.slots.Slot.{Slot}

-- the number of a slot
abbrev pub slot_number : Slot → ℕ
slot_number s = s.id

-- a warden, where there is one, before others
abbrev pub with_side : Option Warded → List Warded → List Warded
with_side None more = more
with_side (Some w) more = w ∷ more

-- the wardens of these slots, in their order
abbrev pub sides_of : List Slot → List Warded
sides_of [] = []
sides_of (s ∷ more) = with_side s.side (sides_of more)

-- a slot has a warden
abbrev pub is_full : Slot → Bool
is_full s = is_some s.side

-- what a slot has is of its number, and has not taken its block
abbrev pub IsSlot : Slot → Type 0
IsSlot s = IfSome s.side (λ (w : Warded). (w.id ≡ s.id) × (w.taken ≡ false))

-- the numbers of these slots rise, and each has what it may have
pub record AreSlots (slots : List Slot) : Type 0 where
  pub rising : IsRisingBy slot_number slots
  pub each : All IsSlot slots

-- a slot of this number stands at this place
pub record IsSlotOf (id place : ℕ) (slots : List Slot) : Type 0 where
  pub inside : place < length slots
  pub number : (d : Slot) → (slice_index_or slots place d).id ≡ id

-- no slot has this number
abbrev pub HasNoSlot : ℕ → List Slot → Type 0
HasNoSlot id slots = All (λ (s : Slot). s.id ≢ id) slots

-- the numbers before this place are less than this one, and no other is
pub record IsSpot (id place : ℕ) (slots : List Slot) : Type 0 where
  pub within : place ≤ length slots
  pub below : (i : ℕ) (d : Slot) → i < place → (slice_index_or slots i d).id < id
  pub above : (i : ℕ) (d : Slot) → place ≤ i → i < length slots → id ≤ (slice_index_or slots i d).id

-- a purge try found this word on a warden, and won its block
pub record TryWins (pages known : ℕ) (block : List ℕ) (w : Warded) : Type 0 where
  pub size : pages ≡ w.pages
  pub guess : known ≡ use_of (candidate_of w)
  pub word : ℕ
  pub same : word ≡ 2 * use_of (candidate_of w)
  pub sized : length block ≡ PAGE * w.pages
  pub timely : IsTimely word w.tries

-- a purge try at a moment found this word on a warden, and lost
pub record TryLoses (now known : ℕ) (old new : Warded) : Type 0 where
  pub word : ℕ
  pub other : word ≢ 2 * use_of (candidate_of old)
  pub timely : IsTimely word old.tries
  pub noted : new ≡ record old { tries = (now, word) ∷ old.tries }
  pub told : known_use new.tries ≡ Some known

-- a purge try on the warden of a slot won, and it leaves the slot
pub record SlotWins (pages known : ℕ) (block : List ℕ) (old new : Slot) : Type 0 where
  pub warden : Warded
  pub stood : old.side ≡ Some warden
  pub gone : new.side ≡ None
  pub number : new.id ≡ old.id
  pub wins : TryWins pages known block warden

-- a purge try on the warden of a slot lost, and it notes the try
pub record SlotLoses (now known : ℕ) (old new : Slot) : Type 0 where
  pub warden : Warded
  pub after : Warded
  pub stood : old.side ≡ Some warden
  pub stays : new.side ≡ Some after
  pub number : new.id ≡ old.id
  pub loses : TryLoses now known warden after
