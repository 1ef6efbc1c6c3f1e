-- Each step on the word is an event of the machine, after every list of events that stands for the segment.
use Rattle.std.specs.Prelude.{◌≡◌, ◌≢◌, ℕ, ◌+◌, ◌*◌, ◌≤◌, ◌⊎◌, max, List, [], replicate, Some}
use Rattle.atomic_table.specs.Table.{Act}
use Rattle.units.specs.declared.TheConstants.{PAGE}
use Rattle.machine.specs.declared.event.Event.{Event}
use Rattle.machine.specs.declared.event.Event.TheVariants.{Grant, Lock, Unlock, Write, Try}
use Rattle.machine.specs.declared.event.Answer.TheVariants as told
use Rattle.machine.specs.History.{put}
use Rattle.machine.specs.Answers.{answered, answer, staying}
use Rattle.segment_rule.specs.declared.view.Stage.TheVariants.{Held}
use Rattle.segment_rule.specs.Views.{known_use}
use Rattle.segment_rule.specs.Rule.{Segment, Slot, IsLawful}
use Rattle.segment_rule.specs.Kinds.{LockWins, LockLoses, Unlocks, LookStays, LookLoses, TryWins, TryLoses, made}
use Rattle.segment_rule.specs.Standing.{StandsFor, Follows}

-- some pages of the segment, from `first` on
abbrev pub InSegment : ℕ → ℕ → Segment → Type 0
InSegment first count s = (1 ≤ count) × (first + count ≤ s.owner.pages)

-- making a segment of a zero block is any Grant of it that is no misuse
abbrev pub MakeIsGrant : Type 0
MakeIsGrant = (events : List Event) (id client pages : ℕ) → answer events (Grant id client pages) ≢ told.Misuse
    → Follows events (Grant id client pages) (told.Granted id) (made id pages) (replicate (PAGE * pages) 0)

-- a lock that wins is a Lock of any of its pages, which is answered Held, with the bytes left
abbrev pub LockWinIsHeld : Type 0
LockWinIsHeld = (events : List Event) (s after : Segment) (act : Act Slot) (bytes : List ℕ) (first count : ℕ)
    → StandsFor events s bytes → IsLawful s → LockWins s act after → InSegment first count s
    → Follows events (Lock s.owner.id first count) told.Held after s.owner.left

-- a lock that loses is a Lock of any of its pages, which is answered Gone
abbrev pub LockLossIsGone : Type 0
LockLossIsGone = (events : List Event) (s after : Segment) (act : Act Slot) (bytes : List ℕ) (first count : ℕ)
    → StandsFor events s bytes → IsLawful s → LockLoses s act after → InSegment first count s
    → Follows events (Lock s.owner.id first count) told.Gone after bytes

-- an unlock is any Unlock of held pages, at its moment, after which no page is held; it is answered with the stamp
abbrev pub UnlockIsIdle : Type 0
UnlockIsIdle = (events : List Event) (s after : Segment) (act : Act Slot) (bytes : List ℕ) (first count at : ℕ)
    → StandsFor events s bytes → IsLawful s → Unlocks (max s.owner.last at) bytes s act after
    → answer events (Unlock s.owner.id first count at) ≢ told.Misuse → staying (answered events) s.owner.id first count ≡ 0
    → Follows events (Unlock s.owner.id first count at) (told.Idle (max s.owner.last at)) after []

-- a look is no event: the same events stand for the segment after it
abbrev pub LookIsNone : Type 0
LookIsNone = (events : List Event) (s after : Segment) (act : Act Slot) (bytes : List ℕ)
    → StandsFor events s bytes → IsLawful s → LookStays s act after ⊎ LookLoses s act after → StandsFor events after bytes

-- a purge try that wins is a Try at its moment, which is answered Taken
abbrev pub TryWinIsTaken : Type 0
TryWinIsTaken = (events : List Event) (s after : Segment) (act : Act Slot) (bytes : List ℕ) (now : ℕ)
    → StandsFor events s bytes → IsLawful s → TryWins now s act after
    → Follows events (Try s.owner.id now) told.Taken after bytes

-- a purge try that loses is a Try at its moment, which is answered Used, with the warden's new known use
abbrev pub TryLossIsUsed : Type 0
TryLossIsUsed = (events : List Event) (s after : Segment) (act : Act Slot) (bytes : List ℕ) (now : ℕ)
    → StandsFor events s bytes → IsLawful s → TryLoses now s act after
    → (known : ℕ) × (known_use after.warden.tries ≡ Some known) × Follows events (Try s.owner.id now) (told.Used known) after bytes

-- while the owner holds, a Lock of free pages is answered Held, with no step
abbrev pub HeldLock : Type 0
HeldLock = (events : List Event) (s : Segment) (bytes : List ℕ) (first count : ℕ)
    → StandsFor events s bytes → IsLawful s → s.owner.phase ≡ Held → answer events (Lock s.owner.id first count) ≢ told.Misuse
    → Follows events (Lock s.owner.id first count) told.Held s bytes

-- so is an Unlock after which some page is held, with the number of such pages
abbrev pub HeldUnlock : Type 0
HeldUnlock = (events : List Event) (s : Segment) (bytes : List ℕ) (first count at : ℕ)
    → StandsFor events s bytes → IsLawful s → s.owner.phase ≡ Held → answer events (Unlock s.owner.id first count at) ≢ told.Misuse
    → staying (answered events) s.owner.id first count ≢ 0
    → Follows events (Unlock s.owner.id first count at) (told.StillHeld (staying (answered events) s.owner.id first count)) s bytes

-- and so is a Write in held pages, which puts its bytes into the owner's block
abbrev pub HeldWrite : Type 0
HeldWrite = (events : List Event) (s : Segment) (bytes : List ℕ) (place : ℕ) (piece : List ℕ)
    → StandsFor events s bytes → IsLawful s → s.owner.phase ≡ Held → answer events (Write s.owner.id place piece) ≢ told.Misuse
    → Follows events (Write s.owner.id place piece) told.Written s (put place piece bytes)
