-- The entries of the live wardens.
use Rattle.std.proofs.Common.{◌≡◌, ◌≢◌, ℕ, ◌<◌, ◌==◌, ◌||◌, Bool, true, false, List, [], ◌∷◌, length, get_or, map, zero, suc, refl, sym, ap, ap₂, ◌∙◌, subst, arith}
use Rattle.std.specs.List.{Contains}
use Rattle.std.proofs.lemmas.Bool.{eqb-true}
use Rattle.std.proofs.lemmas.List.{get_or_read, get_or-map, length-map}
use Rattle.std.proofs.lemmas.List.Elements.{Contains-get_or}
use Rattle.machine.specs.Reduction.{use_of}
use Rattle.segment.specs.Warded.{Warded}
use Rattle.discard_book.specs.Live.{has_number}
use Rattle.lru_reduce.specs.Wards.{candidate_of, candidates_of, segments_of}
use Rattle.lru_reduce.specs.Calls.{IsKnownUse}
use Rattle.lru_reduce.specs.Turns.{IsPlaceOf}
use Rattle.use_queue.specs.Entries.{entry_of, IsOnlyUse}
use Rattle.lru_reduce.specs.Uses.{entry_for, uses_of}
use Rattle.use_queue.proofs.Firsts.{head_in, later_in}
use Rattle.lru_reduce.proofs.Keyed.{same_yes}

-- Elements of a mapped list

pub in_map : {X Y : Type 0} (f : X → Y) (xs : List X) (x : X) → Contains xs x → Contains (map f xs) (f x)
in_map f xs x (i, inside, here) = (i, rw (length-map xs f) inside, get_or-map f xs i x (f x) inside ∙ ap f here)

-- an element of a mapped list comes from one of the list
pub record ComesFrom {X Y : Type 0} (f : X → Y) (xs : List X) (y : Y) : Type 0 where
  pub from : X
  pub there : Contains xs from
  pub is : f from ≡ y

pub from_map : {X Y : Type 0} (f : X → Y) (xs : List X) (y : Y) → Contains (map f xs) y → ComesFrom f xs y
from_map f [] y (i, inside, here) = absurd (omega (arith, inside))
from_map f (x ∷ xs) y (i, inside, here) =
    let within : i < length (x ∷ xs) = rw (length-map (x ∷ xs) f) at inside in
    record {
      from = get_or (x ∷ xs) i x;
      there = Contains-get_or (x ∷ xs) i x within;
      is = sym (get_or-map f (x ∷ xs) i x y within) ∙ here;
    }

-- Numbers

-- a live warden has this number
pub record HasWarden (id : ℕ) (sides : List Warded) : Type 0 where
  pub warden : Warded
  pub there : Contains sides warden
  pub number : warden.id ≡ id

has_by : (t : Bool) (id : ℕ) (w : Warded) (sides : List Warded) → (id == w.id) ≡ t → (t || has_number (segments_of sides) id) ≡ true → (has_number (segments_of sides) id ≡ true → HasWarden id sides) → HasWarden id (w ∷ sides)
has_by true id w sides e h more = record { warden = w; there = head_in w sides; number = sym (eqb-true id w.id e) }
has_by false id w sides e h more = let rest = more h in record { warden = rest.warden; there = later_in w rest.warden sides rest.there; number = rest.number }

pub has_warden : (id : ℕ) (sides : List Warded) → has_number (segments_of sides) id ≡ true → HasWarden id sides
has_warden id [] h = cc
has_warden id (w ∷ sides) h = has_by (id == w.id) id w sides refl h (has_warden id sides)

number_by : (id : ℕ) (w : Warded) (sides : List Warded) (i : ℕ) → i < length sides → (get_or sides i w).id ≡ id → has_number (segments_of sides) id ≡ true
number_by id w [] i inside here = absurd (omega (arith, inside))
number_by id w (v ∷ sides) zero inside here = ap (λ (t : Bool). t || has_number (segments_of sides) id) (same_yes id v.id (sym here))
number_by id w (v ∷ sides) (suc i) inside here = or_true (id == v.id) (has_number (segments_of sides) id) (number_by id w sides i (omega (arith, inside)) here)
  where
    or_true : (a b : Bool) → b ≡ true → (a || b) ≡ true
    or_true true b e = refl
    or_true false b e = e

pub number_in : (w : Warded) (sides : List Warded) → Contains sides w → has_number (segments_of sides) w.id ≡ true
number_in w sides (i, inside, here) = number_by w.id w sides i inside (ap (λ (v : Warded). v.id) here)

-- its place
pub record HasPlace (id : ℕ) (sides : List Warded) : Type 0 where
  pub place : ℕ
  pub is : IsPlaceOf id place sides

pub has_place : (id : ℕ) (sides : List Warded) → has_number (segments_of sides) id ≡ true → HasPlace id sides
has_place id sides h =
    let found = has_warden id sides h in
    let w = found.warden in
    let inside = found.there.1 in
    record {
      place = found.there.0;
      is = record {
        inside = inside;
        number = λ d. ap (λ (v : Warded). v.id) (sym (get_or_read sides found.there.0 w inside (sym found.there.2) d)) ∙ found.number;
      };
    }

-- Entries

-- the number of a warden and its known use are its entry
pub key_by : (id known : ℕ) (sides : List Warded) (w : Warded) → IsKnownUse id known sides → Contains sides w → w.id ≡ id → entry_for w ≡ (known, id)
key_by id known sides w known_is there number = ap₂ (λ (a b : ℕ). (a, b)) (known_is (candidate_of w) (in_map candidate_of sides w there) number) number

pub live_yes : (id known : ℕ) (sides : List Warded) → has_number (segments_of sides) id ≡ true → IsKnownUse id known sides → Contains (uses_of sides) (known, id)
live_yes id known sides h known_is =
    let found = has_warden id sides h in
    subst (λ (k : ℕ × ℕ). Contains (uses_of sides) k) (key_by id known sides found.warden known_is found.there found.number) (in_map entry_for sides found.warden found.there)

pub live_other : (id known used : ℕ) (sides : List Warded) → IsKnownUse id used sides → used ≢ known → Contains (uses_of sides) (known, id) → ⊥
live_other id known used sides known_is other there =
    let from = from_map entry_for sides (known, id) there in
    let w = from.from in
    let number : w.id ≡ id = ap (λ (k : ℕ × ℕ). k.1) from.is in
    let used_is : use_of (candidate_of w) ≡ used = known_is (candidate_of w) (in_map candidate_of sides w from.there) number in
    other (sym used_is ∙ ap (λ (k : ℕ × ℕ). k.0) from.is)

pub live_none : (id known : ℕ) (sides : List Warded) → has_number (segments_of sides) id ≡ false → Contains (uses_of sides) (known, id) → ⊥
live_none id known sides none there =
    let from = from_map entry_for sides (known, id) there in
    let w = from.from in
    let number : w.id ≡ id = ap (λ (k : ℕ × ℕ). k.1) from.is in
    let some : has_number (segments_of sides) w.id ≡ true = number_in w sides from.there in
    let e : true ≡ false = sym some ∙ ap (λ (n : ℕ). has_number (segments_of sides) n) number ∙ none in cc

-- a live entry of a number has its known use
pub only_use : (id known : ℕ) (sides : List Warded) → IsKnownUse id known sides → IsOnlyUse id known (Contains (uses_of sides))
only_use id known sides known_is k there number =
    let from = from_map entry_for sides k there in
    let w = from.from in
    ap (λ (o : ℕ × ℕ). o.0) (sym from.is) ∙ known_is (candidate_of w) (in_map candidate_of sides w from.there) (ap (λ (o : ℕ × ℕ). o.1) from.is ∙ number)

-- the entries are those of the segments as a reduction sees them
pub same_uses : (sides : List Warded) → map entry_of (candidates_of sides) ≡ uses_of sides
same_uses [] = refl
same_uses (w ∷ sides) = ap (λ (more : List (ℕ × ℕ)). entry_for w ∷ more) (same_uses sides)
