-- Laws of histories: what holds of every list of events.
use Rattle.std.specs.Prelude.{◌≡◌, ◌≢◌, ◌⊎◌, ℕ, ◌+◌, ◌≤◌, true, false, List, [], ◌∷◌, ◌++◌}
use Rattle.units.specs.Moment.{IsMoment}
use Rattle.machine.specs.declared.event.Event.{Event}
use Rattle.machine.specs.declared.event.Event.TheVariants.{Grant, Lock, Unlock, Try, Back}
use Rattle.machine.specs.declared.event.Answer.{Answer}
use Rattle.machine.specs.declared.event.Answer.TheVariants.{Granted, Held, Gone, Idle, Taken, Counted, Misuse}
use Rattle.machine.specs.History.{History, number_of, pages_of, client_of, is_ended}
use Rattle.machine.specs.Segments.{IsUnknown}
use Rattle.machine.specs.Answers.{answered, answer, begun, held, stamp, gone, left, known, granted}

-- nothing is known of a number that was not granted
abbrev pub UnknownBeforeGrant : Type 0
UnknownBeforeGrant = (events : List Event) (s : ℕ) → begun events s ≡ false → IsUnknown (answered events) s

-- a purge try is answered Taken only where no page of the segment is held
abbrev pub TakenFree : Type 0
TakenFree = (events : List Event) (s now : ℕ) → answer events (Try s now) ≡ Taken → (page : ℕ) → held events s page ≡ false

-- the segment is gone, no page of it is held, and each Lock of it that is no misuse is answered Gone
pub record IsLost (events : List Event) (s : ℕ) : Type 0 where
  pub gone : gone events s ≡ true
  pub free : (page : ℕ) → held events s page ≡ false
  pub locks : (first count : ℕ) → answer events (Lock s first count) ≢ Misuse → answer events (Lock s first count) ≡ Gone

-- once a segment is gone, it is lost whatever happens
abbrev pub GoneStays : Type 0
GoneStays = (events later : List Event) (s : ℕ) → gone events s ≡ true → IsLost (events ++ later) s

-- none of the later events is a Lock of the segment that is answered Held
abbrev pub NoneLocks : List Event → List Event → ℕ → Type 0
NoneLocks events later s =
    (before after : List Event) (first count : ℕ) → later ≡ before ++ Lock s first count ∷ after
    → answer (events ++ before) (Lock s first count) ≢ Held

-- the left bytes are the same from an Unlock that is answered Idle to the next Lock that is answered Held
abbrev pub LeftStays : Type 0
LeftStays =
    (events later : List Event) (s first count at stamp : ℕ) → answer events (Unlock s first count at) ≡ Idle stamp
    → NoneLocks (events ++ Unlock s first count at ∷ []) later s
    → left (events ++ Unlock s first count at ∷ later) s ≡ left events s

-- The stamp of a segment never falls, and it is a moment once the held pages were emptied: after an Unlock that is
-- answered Idle, and wherever no page of a granted segment is held.
pub record StampRises (events later : List Event) (s : ℕ) : Type 0 where
  pub rises : stamp events s ≤ stamp (events ++ later) s
  pub emptied : (first count at idle : ℕ) → answer events (Unlock s first count at) ≡ Idle idle
      → IsMoment (stamp (events ++ Unlock s first count at ∷ later) s)
  pub free : begun events s ≡ true → ((page : ℕ) → held events s page ≡ false) → IsMoment (stamp events s)

-- the pages that an event adds to the granted ones
abbrev pub added : Event → Answer → ℕ
added (Grant s client pages) (Granted drawn) = pages
added _ _ = 0

-- the pages that an event takes off the granted ones: those of its segment
abbrev pub taken_off : History → Event → Answer → ℕ
taken_off h (Try s now) Taken = pages_of h s
taken_off h (Back s) Counted = pages_of h s
taken_off h _ _ = 0

-- the event counts its segment off: it is purged, or given back while it is not gone
abbrev pub CountsOff : List Event → Event → Type 0
CountsOff events e = (answer events e ≡ Taken) ⊎ (answer events e ≡ Counted)

-- Granted pages change by what each event adds and takes off, and no number is counted off twice.
pub record CountedOnce (events : List Event) (e : Event) : Type 0 where
  pub sum : granted (events ++ e ∷ []) + taken_off (answered events) e (answer events e) ≡ granted events + added e (answer events e)
  pub once : CountsOff events e → (later : List Event) (next : Event) → number_of next ≡ number_of e
      → CountsOff (events ++ e ∷ later) next → ⊥

-- each definition says the same of a segment after both lists of events
pub record IsUnchanged (before after : List Event) (s : ℕ) : Type 0 where
  pub begun : begun after s ≡ begun before s
  pub client : client_of (answered after) s ≡ client_of (answered before) s
  pub pages : pages_of (answered after) s ≡ pages_of (answered before) s
  pub ended : is_ended (answered after) s ≡ is_ended (answered before) s
  pub gone : gone after s ≡ gone before s
  pub held : (page : ℕ) → held after s page ≡ held before s page
  pub stamp : stamp after s ≡ stamp before s
  pub known : known after s ≡ known before s
  pub left : left after s ≡ left before s
  pub granted : granted after ≡ granted before

-- an event that is misuse changes none of the definitions
abbrev pub MisuseChangesNothing : Type 0
MisuseChangesNothing = (events : List Event) (e : Event) (s : ℕ) → answer events e ≡ Misuse → IsUnchanged events (events ++ e ∷ []) s
