-- A reduction of the granted pages, where nothing happens between its tries.
use Rattle.std.specs.Prelude.{ℕ, ◌*◌, nat_lt, zero, suc, if◌then◌else◌, List, [], ◌∷◌, ◌++◌, length, Option, None, option_map, unwrap_or}
use Rattle.machine.specs.declared.event.Event.{Event}
use Rattle.machine.specs.declared.event.Event.TheVariants as event
use Rattle.machine.specs.Answers.{answered, granted, granted_numbers}
use Rattle.machine.specs.Reduction.{Candidate, use_of, least, has_ended, candidates}
use Rattle.discard_book.specs.declared.entry.Entry.{Entry}
use Rattle.discard_book.specs.declared.entry.Entry.TheVariants as entry
use Rattle.discard_book.specs.Legal.{room}
use Rattle.replay_plain.specs.State.{ReplayState, after_events}

-- the live segments after these events, the latest granted first
abbrev pub live_segments : List Event → List Candidate
live_segments events = candidates (answered events)

-- the number of the segment that a reduction tries next, the least live one, or None where it has
-- ended
abbrev pub next_try : ℕ → ℕ → List Event → Option ℕ
next_try limit now events =
    if has_ended limit now (live_segments events) then None
    else option_map (λ c. c.id) (least (live_segments events))

-- The tries of a reduction after these events, at most so many: while it has not ended, a try at
-- its moment on the next segment.
unfoldable pub tries_within : ℕ → ℕ → ℕ → List Event → List Event
tries_within zero limit now events = []
tries_within (suc most) limit now events =
    unwrap_or (option_map (λ id. event.Try id now
    ∷ tries_within most limit now (events ++ event.Try id now ∷ []))
    (next_try limit now events)) []

-- how many tries a reduction makes at most: two for each segment that was granted, since a second
-- one finds what the first one told
abbrev pub most_tries : List Event → ℕ
most_tries events = 2 * length (granted_numbers (answered events))

-- the tries of a reduction to a limit at a moment after these events, where nothing else happens
abbrev pub reduction : ℕ → ℕ → List Event → List Event
reduction limit now events = tries_within (most_tries events) limit now events

-- the least known use of a live segment, or None where nothing is live
abbrev pub least_use : List Event → Option ℕ
least_use events = option_map use_of (least (live_segments events))

-- the entry at the end of a reduction
abbrev pub reduced_entry : List Event → ℕ → ℕ → Entry
reduced_entry events limit now = entry.Reduced limit now (granted events) (least_use events)

-- the state with the entry at the end of a reduction
abbrev pub with_end : ReplayState → ℕ → ℕ → ReplayState
with_end state limit now =
    record state { entries = state.entries ++ reduced_entry state.events limit now ∷ [] }

-- the state after a reduction to a limit at a moment: its tries, and then its entry
abbrev pub after_reduction : ReplayState → ℕ → ℕ → ReplayState
after_reduction state limit now =
    with_end (after_events state (reduction limit now state.events)) limit now

-- the state with room for a grant of these pages: where the granted pages exceed what the limit
-- leaves beside them, a reduction to that is made
abbrev pub with_room : ReplayState → ℕ → ℕ → ReplayState
with_room state pages now =
    if nat_lt (room state.limit pages) (granted state.events)
    then after_reduction state (room state.limit pages) now
    else state
