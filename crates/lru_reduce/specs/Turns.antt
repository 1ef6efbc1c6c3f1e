-- One turn of a reduction.
use Rattle.std.specs.Prelude.{◌≡◌, ◌≢◌, ℕ, ◌+◌, ◌*◌, ◌<◌, false, List, length, Some, slice_index_or}
use Rattle.units.specs.Moment.{IsMoment}
use Rattle.units.specs.declared.TheConstants.{PAGE}
use Rattle.machine.specs.Reduction.{Candidate, use_of, has_ended}
use Rattle.segment.specs.Warded.{Warded}
use Rattle.lru_reduce.specs.Wards.{candidate_of, candidates_of, total_pages, wards_after, used_after}
use Rattle.lru_reduce.specs.Calls.{IsLeastAt}
use Rattle.lru_reduce.specs.Measure.{work}

-- a turn is due at this place: the reduction goes on, and the least stands there, with a known use before the moment
pub record IsDue (limit now place : ℕ) (sides : List Warded) : Type 0 where
  pub inside : place < length sides
  pub going : has_ended limit now (candidates_of sides) ≡ false
  pub first : IsLeastAt place sides
  pub early : (d : Warded) → use_of (candidate_of (slice_index_or sides place d)) < now

-- a segment with this known use
abbrev pub stood_as : ℕ → ℕ → ℕ → Candidate
stood_as id pages known = record { id = id; pages = pages; known = Some known }

-- a purge try at this place won: the segment stood there as told, its block is whole, and its warden leaves
pub record WinsAt (now place id pages known : ℕ) (block : List ℕ) (old new : List Warded) : Type 0 where
  pub stood : (d : Warded) → candidate_of (slice_index_or old place d) ≡ stood_as id pages known
  pub moment : IsMoment known
  pub sized : length block ≡ PAGE * pages
  pub sides : new ≡ wards_after now (2 * known) (stood_as id pages known) old
  pub fewer : length new + 1 ≡ length old
  pub left : total_pages new + pages ≡ total_pages old
  pub less : work now new < work now old

-- A purge try at this place lost, and is noted. Where the known use was before the moment, less work is left.
pub record LosesAt (now place known : ℕ) (old new : List Warded) : Type 0 where
  pub at : Candidate
  pub word : ℕ
  pub stood : (d : Warded) → candidate_of (slice_index_or old place d) ≡ at
  pub renewed : known ≡ used_after now word
  pub other : word ≢ 2 * use_of at
  pub sides : new ≡ wards_after now word at old
  pub less : use_of at < now → work now new < work now old

-- the warden of this number stands at this place
pub record IsPlaceOf (id place : ℕ) (sides : List Warded) : Type 0 where
  pub inside : place < length sides
  pub number : (d : Warded) → (slice_index_or sides place d).id ≡ id

-- the reduction goes on, and a turn is due on this number
pub record IsDueOn (limit now id : ℕ) (sides : List Warded) : Type 0 where
  pub place : ℕ
  pub stands : IsPlaceOf id place sides
  pub due : IsDue limit now place sides

-- a purge try on this number won
abbrev pub Wins : ℕ → ℕ → ℕ → ℕ → List ℕ → List Warded → List Warded → Type 0
Wins id now pages known block old new = (place : ℕ) → IsPlaceOf id place old → WinsAt now place id pages known block old new

-- a purge try on this number lost, with this known use afterwards
abbrev pub Loses : ℕ → ℕ → ℕ → List Warded → List Warded → Type 0
Loses id now known old new = (place : ℕ) → IsPlaceOf id place old → LosesAt now place known old new
