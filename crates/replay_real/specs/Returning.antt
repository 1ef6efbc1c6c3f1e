-- How a client of a script gives segments back, and tells a manager of those that left.
use Rattle.std.specs.Prelude.{◌≡◌, ℕ, ◌+◌, ◌-◌, List, [], ◌∷◌, Option, Some, None}
use Rattle.segment.specs.Owned.{Owned}
use Rattle.segment.specs.Ends.{GivesUp}
use Rattle.segment.specs.declared.giving.GiveUp.{GiveUp}
use Rattle.segment.specs.declared.giving.GiveUp.TheVariants as end
use Rattle.manager_state.specs.declared.answers.Back.{Back}
use Rattle.manager_state.specs.Managed.{Managed}
use Rattle.manager_state.specs.Calls.{GivesBack}
use Rattle.client.specs.Gone.{kept_side, after_next}
use Rattle.client.specs.Seen.{Seen, next_untold}
use Rattle.client.specs.Calls.{TakesFirstFree, TakesLast}
use Rattle.client.specs.Places.{NoneAllFree}
use Rattle.replay_real.specs.Served.{ServedClient}

-- the block that a side gave, if it gave one
abbrev pub block_in : GiveUp → Option (List ℕ)
block_in (end.Whole block) = Some block
block_in (end.Gone side) = None

-- the client after a side that was taken out gave itself up: one that is gone is kept, as told
abbrev pub client_after : GiveUp → Seen → Seen
client_after (end.Whole block) client = client
client_after (end.Gone side) client =
    record client { gone = kept_side side client.told client.gone; told = client.told + 1; taken = client.taken - 1 }

-- a side that was taken out was given up, and handed to the manager with its block, if it gave one
pub record HandsBack (side : Owned) (told : Back) (old new : Seen) (state after : Managed) : Type 0 where
  pub ended : GiveUp
  pub gives : GivesUp side.phase side ended
  pub returns : GivesBack old.number side.id (block_in ended) told state after
  pub client : new ≡ client_after ended old

-- one return to the manager: the side, and what the manager answered
pub record Return : Type 0 where
  pub side : Owned
  pub told : Back

-- one after another, the oldest segment that is all free was taken out and handed back
abbrev pub ReleasesEach : List Return → Seen → Managed → Seen → Managed → Type 0
ReleasesEach [] old state new after = (new ≡ old) × (after ≡ state)
ReleasesEach (r ∷ rest) old state new after =
    (out mid : Seen) × (between : Managed) × TakesFirstFree r.side old out
    × HandsBack r.side r.told out mid state between × ReleasesEach rest mid between new after

-- each segment that is all free was handed back, and no other
pub record ReleasesFree (old : Seen) (state : Managed) (new : Seen) (after : Managed) : Type 0 where
  pub returns : List Return
  pub each : ReleasesEach returns old state new after
  pub none : NoneAllFree new

-- one after another, the segment that came last was taken out and handed back
abbrev pub HandsInEach : List Return → Seen → Managed → Seen → Managed → Type 0
HandsInEach [] old state new after = (new ≡ old) × (after ≡ state)
HandsInEach (r ∷ rest) old state new after =
    (out mid : Seen) × (between : Managed) × TakesLast r.side old out
    × HandsBack r.side r.told out mid state between × HandsInEach rest mid between new after

-- each segment was handed back
pub record HandsInAll (old : Seen) (state : Managed) (new : Seen) (after : Managed) : Type 0 where
  pub returns : List Return
  pub each : HandsInEach returns old state new after
  pub none : new.leases ≡ []

-- the client with one more of its gone segments told
abbrev pub with_told : Seen → Seen
with_told client = record client { told = after_next client.gone client.told }

-- one after another, the manager was told of the next segment that was found gone, with this answer
abbrev pub TellsEach : List (ℕ × Back) → Seen → Managed → Seen → Managed → Type 0
TellsEach [] old state new after = (new ≡ old) × (after ≡ state)
TellsEach (told ∷ rest) old state new after =
    (between : Managed) × (next_untold old ≡ Some told.0)
    × GivesBack old.number told.0 None told.1 state between × TellsEach rest (with_told old) between new after

-- the manager was told of each segment that was found gone and not told yet
pub record TellsAll (old : Seen) (state : Managed) (new : Seen) (after : Managed) : Type 0 where
  pub told : List (ℕ × Back)
  pub each : TellsEach told old state new after
  pub none : next_untold new ≡ None

-- the pieces of a client are as they were
pub record KeepsParts (old new : ServedClient) : Type 0 where
  pub parts : new.parts ≡ old.parts
  pub before : new.before ≡ old.before

-- the manager was told of each segment of a client that was found gone and not told yet
abbrev pub TellsServed : Managed → Managed → ServedClient → ServedClient → Type 0
TellsServed state after old new = TellsAll old.client state new.client after × KeepsParts old new

-- each segment of a client that is all free was handed back, and no other
abbrev pub ReleasesServed : Managed → Managed → ServedClient → ServedClient → Type 0
ReleasesServed state after old new = ReleasesFree old.client state new.client after × KeepsParts old new

-- each segment of a client was handed back, and its pieces went
abbrev pub EmptiesServed : Managed → Managed → ServedClient → ServedClient → Type 0
EmptiesServed state after old new = HandsInAll old.client state new.client after × (new.parts ≡ [])
