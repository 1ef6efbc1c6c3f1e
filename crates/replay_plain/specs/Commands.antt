-- What each command of a script makes of the state of a replay.
use Rattle.std.specs.Prelude.{ℕ, ◌/◌, ◌==◌, nat_lt, Bool, true, false, ◌&&◌, ◌||◌, if◌then◌else◌, List, [], ◌∷◌, length, drop, map, filter}
use Rattle.std.specs.List.{range_with_len}
use Rattle.machine.specs.declared.event.Event.{Event}
use Rattle.machine.specs.declared.event.Event.TheVariants as event
use Rattle.machine.specs.History.{client_of, number_of}
use Rattle.machine.specs.Answers.{answered, plain, granted}
use Rattle.discard_book.specs.declared.entry.Entry.{Entry}
use Rattle.discard_book.specs.Legal.{room}
use Rattle.script_text.specs.declared.command.Command.{Command}
use Rattle.script_text.specs.declared.command.Command.TheVariants.{Grant, Lock, Unlock, Write, Read, Try, Back, Reduce, Enforce, Pressure, Limit, Remove, Alloc, PieceLock, PieceUnlock, PieceWrite, PieceRead, PieceFree, Sweep, Release, Runs, Granted}
use Rattle.script_text.specs.Script.{Commands}
use Rattle.script_heaps.specs.Holding.{emptied}
use Rattle.script_heaps.specs.Heaps.{piece_of}
use Rattle.replay_plain.specs.State.{ReplayState, after_event, after_events, grants_of, next_grant}
use Rattle.replay_plain.specs.Reductions.{after_reduction, with_room}
use Rattle.replay_plain.specs.Pieces.{holding_of, with_holding, pages_for, after_sweep, after_allocation, on_piece, after_piece_lock, after_piece_unlock, after_piece_write, after_piece_free, after_release}

-- the limit of a reduction under pressure: half of the limit, or 0 where it is critical
abbrev pub pressed : Bool → ℕ → ℕ
pressed critical limit = if critical then 0 else limit / 2

-- the state after a grant: room is made, and then its event happens
abbrev pub after_grant : ReplayState → ℕ → ℕ → ReplayState
after_grant state client pages = after_event state (next_grant state client pages)

-- the number is that of a client's segment that is granted and not given back
abbrev pub is_of : ReplayState → ℕ → ℕ → Bool
is_of state client id = client_of (answered state.events) id == client && plain state.events id

-- the numbers of a client's segments that are granted and not given back, the least first
abbrev pub numbers_of : ReplayState → ℕ → List ℕ
numbers_of state client = filter (is_of state client) (range_with_len 1 (grants_of state))

-- the events that give back each segment of a client
abbrev pub returns_of : ReplayState → ℕ → List Event
returns_of state client = map (λ id. event.Back id) (numbers_of state client)

-- the state after all segments of a client are given back: it has nothing more
abbrev pub after_removal : ReplayState → ℕ → ReplayState
after_removal state client =
    with_holding (after_events state (returns_of state client)) client
    (emptied (holding_of state client))

-- the state after an event by number: on a segment of a client's heap it does not happen
abbrev pub after_numbered : ReplayState → Event → ReplayState
after_numbered state e = if state.heaps.owned (number_of e) then state else after_event state e

-- the state after a command; to read, or to ask for runs or for the granted pages, changes nothing
abbrev pub state_after : ReplayState → Command → ReplayState
state_after state (Grant client pages at) = after_grant (with_room state pages at) client pages
state_after state (Lock id first count) = after_numbered state (event.Lock id first count)
state_after state (Unlock id first count at) =
    after_numbered state (event.Unlock id first count at)
state_after state (Write id place bytes) = after_numbered state (event.Write id place bytes)
state_after state (Read id place count) = state
state_after state (Try id at) = after_event state (event.Try id at)
state_after state (Back id) = after_numbered state (event.Back id)
state_after state (Reduce limit at) = after_reduction state limit at
state_after state (Enforce at) = after_reduction state state.limit at
state_after state (Pressure critical at) = after_reduction state (pressed critical state.limit) at
state_after state (Limit limit at) = after_reduction (record state { limit = limit }) limit at
state_after state (Remove client) = after_removal state client
state_after state (Alloc client size at) = after_allocation state client (pages_for size) at
state_after state (PieceLock piece) =
    on_piece (piece_of state.heaps piece) state (after_piece_lock state piece)
state_after state (PieceUnlock piece at) =
    on_piece (piece_of state.heaps piece) state (after_piece_unlock state at)
state_after state (PieceWrite piece place bytes) =
    on_piece (piece_of state.heaps piece) state (after_piece_write state place bytes)
state_after state (PieceRead piece place count) = state
state_after state (PieceFree piece at) =
    on_piece (piece_of state.heaps piece) state (after_piece_free state piece at)
state_after state (Sweep client) = after_sweep state client
state_after state (Release client) = after_release state client
state_after state (Runs client) = state
state_after state Granted = state

-- the state after these commands
abbrev pub state_after_all : ReplayState → Commands → ReplayState
state_after_all state [] = state
state_after_all state (line ∷ lines) = state_after_all (state_after state line.1) lines

-- the entries that the book has more in one state than in another before it
abbrev pub added_since : ReplayState → ReplayState → List Entry
added_since before after = drop (length before.entries) after.entries

-- the entries that a command adds to the book
abbrev pub added : ReplayState → Command → List Entry
added state command = added_since state (state_after state command)

-- Whether a command may ask a segment's word what happened to it. Before the first such command of
-- a script each granted segment is live, and the book has grants alone.
abbrev pub is_finding : ReplayState → Command → Bool
is_finding state (Grant client pages at) = nat_lt (room state.limit pages) (granted state.events)
is_finding state (Lock id first count) = true
is_finding state (Unlock id first count at) = false
is_finding state (Write id place bytes) = false
is_finding state (Read id place count) = false
is_finding state (Try id at) = true
is_finding state (Back id) = true
is_finding state (Reduce limit at) = true
is_finding state (Enforce at) = true
is_finding state (Pressure critical at) = true
is_finding state (Limit limit at) = true
is_finding state (Remove client) = true
is_finding state (Alloc client size at) = true
is_finding state (PieceLock piece) = true
is_finding state (PieceUnlock piece at) = false
is_finding state (PieceWrite piece place bytes) = false
is_finding state (PieceRead piece place count) = false
is_finding state (PieceFree piece at) = false
is_finding state (Sweep client) = true
is_finding state (Release client) = true
is_finding state (Runs client) = false
is_finding state Granted = false

-- whether one of these commands is finding
abbrev pub has_finding : ReplayState → Commands → Bool
has_finding state [] = false
has_finding state (line ∷ lines) =
    is_finding state line.1 || has_finding (state_after state line.1) lines
