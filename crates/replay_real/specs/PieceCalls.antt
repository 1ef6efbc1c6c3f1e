-- What the commands on the pieces of a script's clients do to them, and what they answer.
use Rattle.std.specs.Prelude.{◌≡◌, ◌≢◌, ℕ, ◌+◌, ◌-◌, ◌*◌, ◌&&◌, nat_le, nat_lt, Bool, false, if◌then◌else◌, List, [], take, drop, length, Option, Some, None, MatchBool, MatchOption, option_map, unwrap_or, slice_get}
use Rattle.std.specs.Ordering.{nat_cmp}
use Rattle.std.specs.BTreeMap.{is_at}
use Rattle.std.specs.Map.{lookup}
use Rattle.units.specs.declared.TheConstants.{PAGE}
use Rattle.machine.specs.declared.event.Answer.{Answer}
use Rattle.machine.specs.declared.event.Answer.TheVariants as answer
use Rattle.machine.specs.History.{put}
use Rattle.segment.specs.declared.owner.Lock.{Lock}
use Rattle.segment.specs.declared.owner.Lock.TheVariants as lock
use Rattle.span_heap.specs.declared.run.Run.{Run}
use Rattle.client.specs.declared.answers.Unlocked.{Unlocked}
use Rattle.client.specs.declared.answers.Unlocked.TheVariants as unlocked
use Rattle.client.specs.Seen.{Seen}
use Rattle.client.specs.Pieces.{Part, bytes_of, part_after_lock, written_run}
use Rattle.client.specs.Calls.{LocksPart, UnlocksRun, AfterFree}
use Rattle.client.specs.Finding.{SweepsSome}
use Rattle.script_heaps.specs.declared.heaps.PieceOwner.{PieceOwner}
use Rattle.replay_real.specs.declared.heaps.Heaps.{Heaps}
use Rattle.replay_real.specs.Served.{ServedClient, part_at}

-- ---- one piece

-- what a lock answers, as an answer of the machine
abbrev pub lock_answer : Lock → Answer
lock_answer lock.Held = answer.Held
lock_answer lock.Gone = answer.Gone

-- what an unlock answers, as an answer of the machine
abbrev pub unlock_answer : Unlocked → Answer
unlock_answer (unlocked.Idle at) = answer.Idle at
unlock_answer (unlocked.Held pages) = answer.StillHeld pages

-- the command is misuse, and nothing changed
abbrev pub IsMisuse : Answer → Option Part → Option Part → Seen → Seen → Type 0
IsMisuse told was now old new = (told ≡ answer.Misuse) × (now ≡ was) × (new ≡ old)

-- a piece that is not locked was locked by its client, and the answer told
pub record LocksFree (told : Answer) (part : Part) (now : Option Part) (old new : Seen) : Type 0 where
  pub lock : Lock
  pub answer : told ≡ lock_answer lock
  pub piece : now ≡ Some (part_after_lock lock part)
  pub locks : LocksPart part lock old new

-- a lock of what stands at a place: misuse exactly where no piece is there, or it is locked
abbrev pub LocksSlot : Answer → Option Part → Option Part → Seen → Seen → Type 0
LocksSlot told None now old new = IsMisuse told None now old new
LocksSlot told (Some part) now old new =
    MatchBool part.locked (IsMisuse told (Some part) now old new) (LocksFree told part now old new)

-- a locked piece was unlocked by its client at a moment, and the answer told
pub record UnlocksHeld (at : ℕ) (told : Answer) (part : Part) (now : Option Part) (old new : Seen) : Type 0 where
  pub unlocked : Unlocked
  pub answer : told ≡ unlock_answer unlocked
  pub piece : now ≡ Some (record part { locked = false })
  pub unlocks : UnlocksRun part.run at unlocked old new

-- an unlock of what stands at a place: misuse exactly where no piece is there, or it is not locked
abbrev pub UnlocksSlot : ℕ → Answer → Option Part → Option Part → Seen → Seen → Type 0
UnlocksSlot at told None now old new = IsMisuse told None now old new
UnlocksSlot at told (Some part) now old new =
    MatchBool part.locked (UnlocksHeld at told part now old new) (IsMisuse told (Some part) now old new)

-- whether so many bytes from a place on lie within a piece, and it is locked
abbrev pub is_shown : Part → ℕ → ℕ → Bool
is_shown part place count = part.locked && nat_le (place + count) (PAGE * part.run.pages)

-- bytes were put at a place of a piece, and it stays as it was
pub record WritesHeld (place : ℕ) (bytes : List ℕ) (told : Answer) (part : Part) (now : Option Part) (old new : Seen) : Type 0 where
  pub answer : told ≡ answer.Written
  pub piece : now ≡ Some part
  pub bytes_are : new ≡ written_run old part.run (put place bytes (bytes_of old part.run))

-- A write to what stands at a place: misuse exactly where no piece is there, or it is not locked, or
-- the bytes pass its pages.
abbrev pub WritesSlot : ℕ → List ℕ → Answer → Option Part → Option Part → Seen → Seen → Type 0
WritesSlot place bytes told None now old new = IsMisuse told None now old new
WritesSlot place bytes told (Some part) now old new =
    MatchBool (is_shown part place (length bytes)) (WritesHeld place bytes told part now old new)
    (IsMisuse told (Some part) now old new)

-- the bytes of a range of what stands at a place, or none where a read of them is misuse
abbrev pub bytes_shown : Seen → Option Part → ℕ → ℕ → Option (List ℕ)
bytes_shown client None place count = None
bytes_shown client (Some part) place count =
    if is_shown part place count then Some (take count (drop place (bytes_of client part.run))) else None

-- a piece was given up at a moment, and it was told whether its segment was not known to be gone
pub record FreesThere (at : ℕ) (told : Option Bool) (part : Part) (now : Option Part) (old new : Seen) : Type 0 where
  pub there : Bool
  pub answer : told ≡ Some there
  pub piece : now ≡ None
  pub frees : AfterFree there part at old new

-- a free of what stands at a place: none is told exactly where no piece is there
abbrev pub FreesSlot : ℕ → Option Bool → Option Part → Option Part → Seen → Seen → Type 0
FreesSlot at told None now old new = (told ≡ None) × (now ≡ None) × (new ≡ old)
FreesSlot at told (Some part) now old new = FreesThere at told part now old new

-- ---- a client

-- the piece at a place of a client, or none where it is not there
abbrev pub slot_at : ServedClient → ℕ → Option Part
slot_at served place =
    if nat_lt place served.before then None else part_at served.parts (place - served.before)

-- what a call does with what stands at a place, and with the client
abbrev pub SlotCall : Type 1
SlotCall = Option Part → Option Part → Seen → Seen → Type 0

-- a call on the piece at a place did this, and changed no other piece
pub record CallsAt (place : ℕ) (call : SlotCall) (old new : ServedClient) : Type 0 where
  pub calls : call (slot_at old place) (slot_at new place) old.client new.client
  pub others : (other : ℕ) → other ≢ place → slot_at new other ≡ slot_at old other
  pub before : new.before ≡ old.before
  pub count : length new.parts ≡ length old.parts

-- each segment with no locked page was looked at, and so many were found gone and left
pub record SweepsServed (count : ℕ) (old new : ServedClient) : Type 0 where
  pub sweeps : SweepsSome count old.client new.client
  pub parts : new.parts ≡ old.parts
  pub before : new.before ≡ old.before

-- ---- all clients

-- the owner of a piece, or none where no piece of this number came
abbrev pub owner_at : Heaps → ℕ → Option PieceOwner
owner_at heaps number = if nat_lt 0 number then slice_get heaps.owners.items (number - 1) else None

-- what a client has, or none where no piece ever came to it
abbrev pub served_at : Heaps → ℕ → Option ServedClient
served_at heaps client = lookup (is_at (nat_cmp client)) heaps.clients.entries

-- a call on a client did this, and changed no other client
pub record CallsClient (client : ℕ) (call : ServedClient → ServedClient → Type 0) (was : ServedClient) (old new : Heaps) : Type 0 where
  pub now : ServedClient
  pub is : served_at new client ≡ Some now
  pub calls : call was now
  pub others : (other : ℕ) → other ≢ client → served_at new other ≡ served_at old other
  pub owners : new.owners ≡ old.owners
  pub owned : new.owned ≡ old.owned
  pub standard : new.standard ≡ old.standard

-- a call on a client did this; where no piece ever came to it, this holds and nothing changed
abbrev pub OnClient : ℕ → (ServedClient → ServedClient → Type 0) → Type 0 → Heaps → Heaps → Type 0
OnClient client call none old new =
    MatchOption (served_at old client) (none × (new ≡ old)) (λ was. CallsClient client call was old new)

-- a call on a piece by its number did this; where no piece of this number came, this holds and nothing
-- changed
abbrev pub OnPiece : ℕ → SlotCall → Type 0 → Heaps → Heaps → Type 0
OnPiece number call none old new =
    MatchOption (owner_at old number) (none × (new ≡ old))
    (λ owner. OnClient owner.client (CallsAt owner.place call) none old new)

-- the bytes of a range of the piece at a place of what a client has
abbrev pub client_bytes : Option ServedClient → ℕ → ℕ → ℕ → Option (List ℕ)
client_bytes None at place count = None
client_bytes (Some served) at place count = bytes_shown served.client (slot_at served at) place count

-- the bytes of a range of the piece of this owner
abbrev pub owner_bytes : Heaps → Option PieceOwner → ℕ → ℕ → Option (List ℕ)
owner_bytes heaps None place count = None
owner_bytes heaps (Some owner) place count = client_bytes (served_at heaps owner.client) owner.place place count

-- the bytes of a range of a piece by its number, or none where a read of them is misuse
abbrev pub piece_bytes : Heaps → ℕ → ℕ → ℕ → Option (List ℕ)
piece_bytes heaps number place count = owner_bytes heaps (owner_at heaps number) place count

-- the free runs of a client, the oldest first
abbrev pub free_runs : Heaps → ℕ → List Run
free_runs heaps client = unwrap_or (option_map (λ (served : ServedClient). served.client.heap.free) (served_at heaps client)) []
