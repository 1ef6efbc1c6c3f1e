use Rattle.std.specs.Prelude.{ℕ, ◌+◌, ◌*◌, ◌==◌, nat_lt, max, Bool, false, not, ◌&&◌, ◌||◌, if◌then◌else◌, List, [], ◌∷◌, ◌++◌, length, take, drop, replicate, Option, Some, None}
use Rattle.units.specs.Range.{is_within}
use Rattle.units.specs.declared.TheConstants.{PAGE}
use Rattle.machine.specs.declared.event.Event.{Event}
use Rattle.machine.specs.declared.event.Event.TheVariants.{Grant, Lock, Unlock, Write, Try, Back}
use Rattle.machine.specs.declared.event.Answer.{Answer}
use Rattle.machine.specs.declared.event.Answer.TheVariants.{Granted, Held, Idle, StillHeld, Written, Taken, Used, Counted, Purged}

-- what happened: events, each with its answer, the latest first
abbrev pub History : Type 0
History = List (Event × Answer)

-- the segment was granted
unfoldable pub is_begun : History → ℕ → Bool
is_begun [] s = false
is_begun ((Grant id client pages, Granted drawn) ∷ before) s = id == s || is_begun before s
is_begun (other ∷ before) s = is_begun before s

-- how many pages the segment has; 0 before it is granted
unfoldable pub pages_of : History → ℕ → ℕ
pages_of [] s = 0
pages_of ((Grant id client pages, Granted drawn) ∷ before) s = if id == s then pages else pages_of before s
pages_of (other ∷ before) s = pages_of before s

-- the client that the segment was granted to; 0 before it is granted
unfoldable pub client_of : History → ℕ → ℕ
client_of [] s = 0
client_of ((Grant id client pages, Granted drawn) ∷ before) s = if id == s then client else client_of before s
client_of (other ∷ before) s = client_of before s

-- the segment was given back
unfoldable pub is_ended : History → ℕ → Bool
is_ended [] s = false
is_ended ((Back id, Counted) ∷ before) s = id == s || is_ended before s
is_ended ((Back id, Purged) ∷ before) s = id == s || is_ended before s
is_ended (other ∷ before) s = is_ended before s

-- the segment was purged: a purge try on it was answered Taken
unfoldable pub is_gone : History → ℕ → Bool
is_gone [] s = false
is_gone ((Try id now, Taken) ∷ before) s = id == s || is_gone before s
is_gone (other ∷ before) s = is_gone before s

-- The page of the segment is held: its Grant holds all its pages, a Lock that is answered Held holds a range,
-- and an Unlock takes a range out.
unfoldable pub is_held : History → ℕ → ℕ → Bool
is_held [] s page = false
is_held ((Grant id client pages, Granted drawn) ∷ before) s page = if id == s then nat_lt page pages else is_held before s page
is_held ((Lock id first count, Held) ∷ before) s page = id == s && is_within first count page || is_held before s page
is_held ((Unlock id first count at, Idle stamp) ∷ before) s page = not (id == s && is_within first count page) && is_held before s page
is_held ((Unlock id first count at, StillHeld stay) ∷ before) s page = not (id == s && is_within first count page) && is_held before s page
is_held (other ∷ before) s page = is_held before s page

-- the greatest moment of the Unlocks that left no page of the segment held, or 0
unfoldable pub stamp_of : History → ℕ → ℕ
stamp_of [] s = 0
stamp_of ((Unlock id first count at, Idle stamp) ∷ before) s = if id == s then max (stamp_of before s) at else stamp_of before s
stamp_of (other ∷ before) s = stamp_of before s

-- what the latest purge try that lost told of the segment's use, or none
unfoldable pub known_of : History → ℕ → Option ℕ
known_of [] s = None
known_of ((Try id now, Used known) ∷ before) s = if id == s then Some known else known_of before s
known_of (other ∷ before) s = known_of before s

-- these bytes, with others put at a place
abbrev pub put : ℕ → List ℕ → List ℕ → List ℕ
put place bytes old = take place old ++ bytes ++ drop (place + length bytes) old

-- the segment's bytes: zero at its Grant, and then what each Write puts at its place
unfoldable pub left_of : History → ℕ → List ℕ
left_of [] s = []
left_of ((Grant id client pages, Granted drawn) ∷ before) s = if id == s then replicate (PAGE * pages) 0 else left_of before s
left_of ((Write id place bytes, Written) ∷ before) s = if id == s then put place bytes (left_of before s) else left_of before s
left_of (other ∷ before) s = left_of before s

-- the number of the segment that an event is about
abbrev pub number_of : Event → ℕ
number_of (Grant id client pages) = id
number_of (Lock id first count) = id
number_of (Unlock id first count at) = id
number_of (Write id place bytes) = id
number_of (Try id now) = id
number_of (Back id) = id
