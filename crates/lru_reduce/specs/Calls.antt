-- What the calls of an order answer, and what they change.
use Rattle.std.specs.Prelude.{◌≡◌, ◌≢◌, ℕ, ◌+◌, ◌*◌, nat_lt, Bool, true, false, if◌then◌else◌, List, [], ◌∷◌, length, Option, Some, None, slice_index_or}
use Rattle.std.specs.List.{Contains}
use Rattle.units.specs.declared.TheConstants.{PAGE}
use Rattle.units.specs.Moment.{IsMoment}
use Rattle.machine.specs.Reduction.{Candidate, use_of, least}
use Rattle.segment.specs.Warded.{Warded}
use Rattle.segment.specs.declared.warden.Purge.{Purge}
use Rattle.segment.specs.declared.warden.Purge.TheVariants.{Taken, Used}
use Rattle.discard_book.specs.Live.{has_number}
use Rattle.lru_reduce.specs.Wards.{Wards, candidate_of, candidates_of, segments_of, without_ward, wards_after, used_after}

-- a warden among the others, by its number
abbrev pub placed : Warded → List Warded → List Warded
placed w [] = w ∷ []
placed w (v ∷ more) = if nat_lt w.id v.id then w ∷ v ∷ more else v ∷ placed w more

-- the warden of this number was taken out, as it stood
pub record TakesNumber (id : ℕ) (w : Warded) (old new : List Warded) : Type 0 where
  pub stood : Contains old w
  pub number : w.id ≡ id
  pub free : w.taken ≡ false
  pub sides : new ≡ without_ward id old

-- the least of the segments stands at this place
abbrev pub IsLeastAt : ℕ → List Warded → Type 0
IsLeastAt place sides = (d : Warded) → least (candidates_of sides) ≡ Some (candidate_of (slice_index_or sides place d))

-- what is told of a segment: its number, and its known use, where none counts as 0
abbrev pub told : Candidate → ℕ × ℕ
told c = (c.id, use_of c)

-- a warden was taken in, at one spare place
pub record AddsSide (side : Warded) (old new : Wards) : Type 0 where
  pub sides : new.sides ≡ placed side old.sides
  pub spare : new.spare + 1 ≡ old.spare

-- the least was taken out, as it stood, and its place is spare
pub record TakesOut (w : Warded) (old new : Wards) : Type 0 where
  pub stood : Contains old.sides w
  pub first : least (candidates_of old.sides) ≡ Some (candidate_of w)
  pub free : w.taken ≡ false
  pub sides : new.sides ≡ without_ward w.id old.sides
  pub spare : new.spare ≡ old.spare + 1

-- the least was taken out; None where nothing is live, and nothing changed
abbrev pub TakesLeast : Option Warded → Wards → Wards → Type 0
TakesLeast None old new = (old.sides ≡ []) × (new ≡ old)
TakesLeast (Some w) old new = TakesOut w old new

-- a number was let go: the answer tells whether it was live
pub record Forgets (id : ℕ) (answer : Bool) (old new : Wards) : Type 0 where
  pub found : answer ≡ has_number (segments_of old.sides) id
  pub sides : new.sides ≡ without_ward id old.sides
  pub spare : new.spare ≡ old.spare

-- What a purge try at a moment on a segment answers, where it found this word. The block was taken exactly where that is
-- twice the known use, and then that is a moment; else the answer is the new known use.
abbrev pub Answers : ℕ → ℕ → Candidate → Purge → Type 0
Answers now word c (Taken block) = (word ≡ 2 * use_of c) × (length block ≡ PAGE * c.pages) × IsMoment (use_of c)
Answers now word c (Used known) = (word ≢ 2 * use_of c) × (known ≡ used_after now word)

-- this is the known use of the segment of this number, where none counts as 0
abbrev pub IsKnownUse : ℕ → ℕ → List Warded → Type 0
IsKnownUse id known sides = (c : Candidate) → Contains (candidates_of sides) c → c.id ≡ id → use_of c ≡ known

-- one purge try was made on the segment of this number, as it stood, and found a word
pub record TriesNumber (id now : ℕ) (answer : Purge) (old new : Wards) : Type 0 where
  pub word : ℕ
  pub segment : Candidate
  pub stood : Contains (candidates_of old.sides) segment
  pub number : segment.id ≡ id
  pub told : Answers now word segment answer
  pub sides : new.sides ≡ wards_after now word segment old.sides
  pub spare : new.spare ≡ old.spare

-- one purge try was made on a number; None exactly where it is not live, and nothing changed
abbrev pub TriesOne : ℕ → ℕ → Option Purge → Wards → Wards → Type 0
TriesOne id now None old new = (has_number (segments_of old.sides) id ≡ false) × (new ≡ old)
TriesOne id now (Some answer) old new =
    (has_number (segments_of old.sides) id ≡ true) × TriesNumber id now answer old new
