-- The owners of plain segments by number.
use Rattle.std.specs.Prelude.{◌≡◌, ℕ, ◌<◌, true, List, Option, Some, None, IfSome, IsSome, IsNone, MatchOption, slice_index_or}
use Rattle.machine.specs.History.{History}
use Rattle.machine.specs.KeptSegment.{KeptSegment}
use Rattle.page_locks.specs.Locks.{locked_count}
use Rattle.machine.specs.Segments.{Shows, IsUnknown}
use Rattle.replay_real.specs.declared.owners.Given.{Given}

-- what is told of a number that was not granted
abbrev pub nobody : Given
nobody = record { client = 0; owner = None }

-- what a table by number tells of a number
abbrev pub given_at : List Given → ℕ → Given
given_at table id = slice_index_or table id nobody

-- What giving up a plain segment gave: its block, with the bytes left in it, or none where it was
-- purged. While a page is locked it gives the block, and once it is known to be gone it does not.
pub record GivesBlock (kept : KeptSegment) (block : Option (List ℕ)) : Type 0 where
  pub bytes : IfSome block (λ b. b ≡ kept.bytes)
  pub held : 0 < locked_count kept.held → IsSome block
  pub gone : kept.gone ≡ true → IsNone block

-- what giving up a number gave: nothing where it was not plain
abbrev pub GaveUp : Option KeptSegment → Option (List ℕ) → Type 0
GaveUp None block = IsNone block
GaveUp (Some kept) block = GivesBlock kept block

-- what is kept of a number is what the history made of it: nothing where it was not granted
abbrev pub ShowsAt : History → ℕ → Option KeptSegment → Type 0
ShowsAt h id found = MatchOption found (IsUnknown h id) (λ kept. Shows h id kept)

-- each granted segment is plain, and its owner keeps what the history made of it
abbrev pub ShowsEach : History → List Given → Type 0
ShowsEach h table = (id : ℕ) → ShowsAt h id (given_at table id).owner

-- each number is with the same client
abbrev pub KeepsClients : List Given → List Given → Type 0
KeepsClients old new = (id : ℕ) → (given_at new id).client ≡ (given_at old id).client
