-- What is seen of a client over what grants its segments, and what its calls do.
use Rattle.std.specs.Prelude.{◌≡◌, ◌≢◌, ◌⊎◌, ℕ, ◌+◌, ◌-◌, ◌^◌, ◌<◌, ◌≤◌, min, max, ⊤, List, length, All, Some, None, Bool, MatchBool}
use Rattle.units.specs.Count.{next_count}
use Rattle.segment.specs.Owned.{Owned, IsGranted}
use Rattle.std.specs.Prelude.{Result, Err}
use Rattle.client.specs.declared.piece.Piece.{Piece}
use Rattle.client.specs.declared.granted.ClientFault.{ClientFault}
use Rattle.client.specs.declared.granted.ClientFault.TheVariants as fault
use Rattle.client.specs.Sizes.{wanted, pages_for}
use Rattle.client.specs.Gone.{kept_side, Includes}
use Rattle.client.specs.GivingUp.{GaveBlock, GoesGone}
use Rattle.client.specs.Lease.{Lease}
use Rattle.client.specs.Seen.{Seen, IsUnknown}
use Rattle.client.specs.Pieces.{Part}
use Rattle.client.specs.Finding.{Finds, Adopts, SweepsAll}

-- the client; what grants its segments, as it is now and as it was at the start; and how many segments it granted since, where this
-- is not the last value of u64
pub record Session (G : Type 0) : Type 0 where
  pub client : Seen
  pub granter : G
  pub start : G
  pub grants : ℕ

-- the last value of a count
abbrev pub LAST_COUNT : ℕ
LAST_COUNT = 2 ^ 64 - 1

-- a count that was none above its last value rose so many times: it is their sum, or it stands at the last value
abbrev pub RoseBy : ℕ → ℕ → ℕ → Type 0
RoseBy then now n = then ≤ LAST_COUNT → now ≡ min LAST_COUNT (then + n)

-- how many segments were granted and not given back: those of the client, and those that were found gone and not told
abbrev pub owed : Seen → ℕ
owed seen = length seen.leases + (length seen.gone - seen.told)

-- each number that a client knows is at most this one
pub record IsBelow (bound : ℕ) (seen : Seen) : Type 0 where
  pub leases : All (λ (lease : Lease). lease.side.id ≤ bound) seen.leases
  pub gone : All (λ (side : Owned). side.id ≤ bound) seen.gone

-- Since the start so many segments were granted, and all but those owed were given back, where no count stands at its last value. The
-- granter's count rose as often. The client knows no number above the greatest that was granted.
pub record IsBalanced (grants_then grants_now returns_then returns_now greatest n : ℕ) (seen : Seen) : Type 0 where
  pub granted : grants_now < LAST_COUNT → grants_now ≡ grants_then + n
  pub exact : RoseBy grants_then grants_now n
  pub within : n ≤ LAST_COUNT
  pub returned : grants_now < LAST_COUNT → returns_now < LAST_COUNT → returns_now + owed seen ≡ returns_then + n
  pub known : IsBelow greatest seen
  pub told : seen.told ≤ length seen.gone

-- As many segments were granted since the start as are said, and as many returns were made, where no count stands at its last value.
pub record IsSettled (grants_then grants_now returns_then returns_now n : ℕ) : Type 0 where
  pub granted : grants_now < LAST_COUNT → grants_now ≡ grants_then + n
  pub returned : grants_now < LAST_COUNT → returns_now < LAST_COUNT → returns_now ≡ returns_then + n

-- all gone sides were told
abbrev pub all_told : Seen → Seen
all_told seen = record seen { told = length seen.gone }

-- the client was swept, and each gone side was told: these were found gone now
pub record Releases (lost : List Owned) (old new : Seen) : Type 0 where
  pub swept : Seen
  pub sweeps : SweepsAll lost old swept
  pub told : new ≡ all_told swept

-- the pages of a new segment: the standard size, or more where more are wanted
abbrev pub granted_pages : Seen → ℕ → ℕ
granted_pages seen pages = max pages seen.standard

-- a new segment came, whose number was not known, and its front is the piece
pub record GrowsBy (pages : ℕ) (part : Part) (old new : Seen) : Type 0 where
  pub side : Owned
  pub unknown : IsUnknown side.id old
  pub granted : IsGranted (granted_pages old pages) side
  pub adopts : Adopts side pages part old new

-- A piece of new pages: the search found none; segments that were purged were released; and a new segment came, of which the front
-- is the piece.
pub record Grows (pages : ℕ) (part : Part) (old new : Seen) : Type 0 where
  pub missed : Seen
  pub lost : List ℕ
  pub finds : Finds pages lost None old missed
  pub swept : List Owned
  pub released : Seen
  pub releases : Releases swept missed released
  pub grown : GrowsBy pages part released new

-- A search found no pages, and segments that were purged were released; nothing else changed.
pub record Misses (pages : ℕ) (old new : Seen) : Type 0 where
  pub missed : Seen
  pub lost : List ℕ
  pub finds : Finds pages lost None old missed
  pub swept : List Owned
  pub releases : Releases swept missed new

-- an allocation of some pages: a free run serves, or a new segment
abbrev pub Allocates : ℕ → Part → Seen → Seen → Type 0
Allocates pages part old new = ((lost : List ℕ) × Finds pages lost (Some part) old new) ⊎ Grows pages part old new

-- the same, with the count of the segments granted: none came where a free run serves, and else one
abbrev pub AllocatesCounted : {G : Type 0} → ℕ → Part → Session G → Session G → Type 0
AllocatesCounted pages part old new =
    ((lost : List ℕ) × Finds pages lost (Some part) old.client new.client × (new.grants ≡ old.grants))
    ⊎ (Grows pages part old.client new.client × (new.grants ≡ next_count old.grants))

-- a side that was taken out was given up, and is out no more: it gave its block, or it is gone and kept, as told
abbrev pub GivesSide : Bool → Owned → Seen → Seen → Type 0
GivesSide whole side old new =
    MatchBool whole (GaveBlock side × (new ≡ record old { taken = old.taken - 1 }))
    ((gone : Owned) × GoesGone side gone × (new ≡ record old { gone = kept_side gone old.told old.gone; told = old.told + 1; taken = old.taken - 1 }))

-- a count tracks another: where it does not stand at its last value it rose by so many
abbrev pub Tracks : ℕ → ℕ → ℕ → Type 0
Tracks then now n = now < LAST_COUNT → now ≡ then + n

-- the granter granted no segment
pub record GrantsNone (grants_then grants_now greatest_then greatest_now : ℕ) : Type 0 where
  pub grants : grants_now ≡ grants_then
  pub greatest : greatest_now ≡ greatest_then

-- one return was made for each segment that was owed and is no more
abbrev pub ReturnsOwed : ℕ → ℕ → Seen → Seen → Type 0
ReturnsOwed returns_then returns_now old new = returns_now < LAST_COUNT → returns_now + owed new ≡ returns_then + owed old

-- Segments were given back, one return for each that is owed no more. No number came, and each gone side stays among the gone.
pub record Returns (returns_then returns_now : ℕ) (old new : Seen) : Type 0 where
  pub earlier : returns_now < LAST_COUNT → returns_then < LAST_COUNT
  pub counted : old.told ≤ length old.gone → returns_now < LAST_COUNT → returns_now + owed new ≡ returns_then + owed old
  pub known : (bound : ℕ) → IsBelow bound old → IsBelow bound new
  pub told : old.told ≤ length old.gone → new.told ≤ length new.gone
  pub number : new.number ≡ old.number
  pub gone : Includes old.gone new.gone

-- so many of the segments that left came back whole: the others are gone
abbrev pub CameWhole : ℕ → Seen → Seen → Type 0
CameWhole whole old new = whole < LAST_COUNT → whole + length new.leases + length new.gone ≡ length old.leases + length old.gone

-- an allocation is too large exactly where its pages are more than a segment can have, and then nothing changed
abbrev pub IsTooLarge : {G : Type 0} → ℕ → Result Piece ClientFault → Session G → Session G → Type 0
IsTooLarge bytes (Err (fault.TooLarge pages)) old new = (wanted bytes ≡ None) × (pages ≡ pages_for bytes) × (new ≡ old)
IsTooLarge bytes other old new = wanted bytes ≢ None

-- out of memory: the client is as a search that found nothing and a release left it
abbrev pub IsOutOfMemory : {G : Type 0} → ℕ → Result Piece ClientFault → Session G → Session G → Type 0
IsOutOfMemory bytes (Err fault.NoMemory) old new = (pages : ℕ) × (wanted bytes ≡ Some pages) × Misses pages old.client new.client
IsOutOfMemory bytes other old new = ⊤
