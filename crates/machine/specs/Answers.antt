use Rattle.std.specs.Prelude.{ℕ, ◌+◌, ◌/◌, ◌==◌, nat_lt, nat_le, max, Bool, true, not, ◌&&◌, ◌||◌, if◌then◌else◌, List, [], ◌∷◌, length, Option, unwrap_or, map, filter, sum, count_by}
use Rattle.std.specs.List.{range_with_len, list_all}
use Rattle.units.specs.Moment.{is_moment}
use Rattle.units.specs.declared.TheConstants.{PAGE, MOST_PAGES}
use Rattle.machine.specs.declared.event.Event.{Event}
use Rattle.machine.specs.declared.event.Event.TheVariants.{Grant, Lock, Unlock, Write, Try, Back}
use Rattle.machine.specs.declared.event.Answer.{Answer}
use Rattle.machine.specs.declared.event.Answer.TheVariants.{Granted, Held, Gone, Idle, StillHeld, Written, Taken, Used, Counted, Purged, Misuse}
use Rattle.machine.specs.History.{History, is_begun, pages_of, is_ended, is_gone, is_held, stamp_of, known_of, left_of}
use Rattle.units.specs.Range.{is_within}

-- granted, and not given back
abbrev pub is_plain : History → ℕ → Bool
is_plain h s = is_begun h s && not (is_ended h s)

-- granted, and neither given back nor purged
abbrev pub is_live : History → ℕ → Bool
is_live h s = is_plain h s && not (is_gone h s)

-- how many pages of the segment are held and pass a test
abbrev pub held_count : History → ℕ → (ℕ → Bool) → ℕ
held_count h s test = count_by (λ page. is_held h s page && test page) (range_with_len 0 (pages_of h s))

-- each page of a range is free
abbrev pub are_free : History → ℕ → ℕ → ℕ → Bool
are_free h s first count = list_all (λ page. not (is_held h s page)) (range_with_len first count)

-- each page of a range is held
abbrev pub are_held : History → ℕ → ℕ → ℕ → Bool
are_held h s first count = list_all (λ page. is_held h s page) (range_with_len first count)

-- each byte of a range lies in a held page
abbrev pub bytes_held : History → ℕ → ℕ → ℕ → Bool
bytes_held h s place count = list_all (λ byte. is_held h s (byte / PAGE)) (range_with_len place count)

-- a Grant needs a new number, a client, and 1 to 65,536 pages
abbrev pub can_grant : History → ℕ → ℕ → ℕ → Bool
can_grant h s client pages = not (is_begun h s) && nat_lt 0 client && nat_le 1 pages && nat_le pages MOST_PAGES

-- a Lock needs a plain segment, and at least one page, each of them in the segment and free
abbrev pub can_lock : History → ℕ → ℕ → ℕ → Bool
can_lock h s first count = is_plain h s && nat_lt 0 count && nat_le (first + count) (pages_of h s) && are_free h s first count

-- an Unlock needs a plain segment, at least one page, each of them held, and a moment
abbrev pub can_unlock : History → ℕ → ℕ → ℕ → ℕ → Bool
can_unlock h s first count at = is_plain h s && nat_lt 0 count && are_held h s first count && is_moment at

-- a Write needs a plain segment, and each of its bytes in a held page
abbrev pub can_write : History → ℕ → ℕ → List ℕ → Bool
can_write h s place bytes = is_plain h s && bytes_held h s place (length bytes)

-- a Try needs a live segment and a moment
abbrev pub can_try : History → ℕ → ℕ → Bool
can_try h s now = is_live h s && is_moment now

-- a Back needs a granted segment that is not given back, or that is gone
abbrev pub can_give_back : History → ℕ → Bool
can_give_back h s = is_begun h s && (not (is_ended h s) || is_gone h s)

-- how many pages stay held where a range is taken out
abbrev pub staying : History → ℕ → ℕ → ℕ → ℕ
staying h s first count = held_count h s (λ page. not (is_within first count page))

-- the answer of an Unlock: the new stamp where no page stays held, or else the number that stays
abbrev pub unlocked : ℕ → ℕ → Answer
unlocked stay stamp = if stay == 0 then Idle stamp else StillHeld stay

-- the answer of a purge try on a segment that is held, or that was last used at the stamp
abbrev pub tried : Bool → ℕ → ℕ → ℕ → Answer
tried held stamp known now = if held then Used now else (if known == stamp then Taken else Used stamp)

-- what the machine answers to an event after a history
unfoldable pub answer_of : History → Event → Answer
answer_of h (Grant s client pages) = if can_grant h s client pages then Granted s else Misuse
answer_of h (Lock s first count) = if can_lock h s first count then (if is_gone h s then Gone else Held) else Misuse
answer_of h (Unlock s first count at) = if can_unlock h s first count at then unlocked (staying h s first count) (max (stamp_of h s) at) else Misuse
answer_of h (Write s place bytes) = if can_write h s place bytes then Written else Misuse
answer_of h (Try s now) = if can_try h s now then tried (nat_lt 0 (held_count h s (λ page. true))) (stamp_of h s) (unwrap_or (known_of h s) 0) now else Misuse
answer_of h (Back s) = if can_give_back h s then (if is_gone h s then Purged else Counted) else Misuse

-- a history that goes on with these events, each with the machine's answer
unfoldable pub answered_after : History → List Event → History
answered_after h [] = h
answered_after h (e ∷ events) = answered_after ((e, answer_of h e) ∷ h) events

-- What happened when these events came, the oldest first. Each definition below is about all of them.
abbrev pub answered : List Event → History
answered events = answered_after [] events

-- the machine's answer to an event after these
abbrev pub answer : List Event → Event → Answer
answer events e = answer_of (answered events) e

-- whether the segment was granted
abbrev pub begun : List Event → ℕ → Bool
begun events s = is_begun (answered events) s

-- held pages: whether this page of the segment is one
abbrev pub held : List Event → ℕ → ℕ → Bool
held events s page = is_held (answered events) s page

-- the stamp of the segment
abbrev pub stamp : List Event → ℕ → ℕ
stamp events s = stamp_of (answered events) s

-- whether the segment is gone
abbrev pub gone : List Event → ℕ → Bool
gone events s = is_gone (answered events) s

-- the left bytes of the segment
abbrev pub left : List Event → ℕ → List ℕ
left events s = left_of (answered events) s

-- the known use of the segment
abbrev pub known : List Event → ℕ → Option ℕ
known events s = known_of (answered events) s

-- whether the segment is plain
abbrev pub plain : List Event → ℕ → Bool
plain events s = is_plain (answered events) s

-- whether the segment is live
abbrev pub live : List Event → ℕ → Bool
live events s = is_live (answered events) s

-- the numbers that were granted, the latest first
unfoldable pub granted_numbers : History → List ℕ
granted_numbers [] = []
granted_numbers ((Grant id client pages, Granted drawn) ∷ before) = id ∷ granted_numbers before
granted_numbers (other ∷ before) = granted_numbers before

-- granted pages after a history: the pages of all live segments
abbrev pub granted_pages : History → ℕ
granted_pages h = sum (map (pages_of h) (filter (is_live h) (granted_numbers h)))

-- granted pages
abbrev pub granted : List Event → ℕ
granted events = granted_pages (answered events)

-- whether bytes can be read: each lies in a held page of a live segment
abbrev pub readable : List Event → ℕ → ℕ → ℕ → Bool
readable events s place count = live events s && bytes_held (answered events) s place count
