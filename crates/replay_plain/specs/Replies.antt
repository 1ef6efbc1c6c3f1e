-- The reply to each command of a script.
use Rattle.std.specs.Prelude.{ℕ, if◌then◌else◌, Bool, true, false, List, [], ◌++◌, Option, Some, None, take, drop, length, codes, decimal}
use Rattle.std.specs.List.{flat_map}
use Rattle.hex.specs.Hex.{encode_lower}
use Rattle.machine.specs.declared.event.Event.{Event}
use Rattle.machine.specs.declared.event.Event.TheVariants as event
use Rattle.machine.specs.declared.event.Answer.{Answer}
use Rattle.machine.specs.declared.event.Answer.TheVariants as answers
use Rattle.machine.specs.History.{number_of}
use Rattle.machine.specs.Answers.{answer, readable, left, live, granted}
use Rattle.discard_book.specs.declared.entry.Entry.{Entry}
use Rattle.discard_book.specs.declared.entry.Entry.TheVariants as entry
use Rattle.discard_book.specs.Text.{spaced, spaced_or_dash}
use Rattle.script_text.specs.declared.command.Command.{Command}
use Rattle.script_text.specs.declared.command.Command.TheVariants.{Grant, Lock, Unlock, Write, Read, Try, Back, Reduce, Enforce, Pressure, Limit, Remove, Alloc, PieceLock, PieceUnlock, PieceWrite, PieceRead, PieceFree, Sweep, Release, Runs, Granted}
use Rattle.span_heap.specs.declared.run.Run.{Run}
use Rattle.script_heaps.specs.Holding.{has, purged}
use Rattle.script_heaps.specs.Heaps.{next_piece, owner_of, piece_of}
use Rattle.replay_plain.specs.State.{ReplayState, next_grant}
use Rattle.replay_plain.specs.Reductions.{least_use, with_room}
use Rattle.replay_plain.specs.Pieces.{find, holding_of, pages_for, before_adoption, next_run, lock_of, unlock_of, fits_in, place_in, write_of}
use Rattle.replay_plain.specs.Commands.{state_after, added_since}

-- the words of an answer
abbrev pub answer_text : Answer → List ℕ
answer_text (answers.Granted id) = codes "segment " ++ decimal id
answer_text answers.Held = codes "held"
answer_text answers.Gone = codes "gone"
answer_text (answers.Idle at) = codes "idle " ++ decimal at
answer_text (answers.StillHeld pages) = codes "held " ++ decimal pages
answer_text answers.Written = codes "ok"
answer_text answers.Taken = codes "taken"
answer_text (answers.Used known) = codes "used " ++ decimal known
answer_text answers.Counted = codes "counted"
answer_text answers.Purged = codes "purged"
answer_text answers.Misuse = codes "misuse"

-- the words of the answer to an event
abbrev pub answered_text : ReplayState → Event → List ℕ
answered_text state e = answer_text (answer state.events e)

-- the reply to a read: the left bytes in hexadecimal digits where each lies in a held page
abbrev pub read_text : ReplayState → ℕ → ℕ → ℕ → List ℕ
read_text state id place count =
    if readable state.events id place count
    then encode_lower (take count (drop place (left state.events id)))
    else answer_text answers.Misuse

-- the words of the answer to a return: where it is misuse, such a segment is not known
abbrev pub back_answer_text : Answer → List ℕ
back_answer_text answers.Misuse = codes "unknown"
back_answer_text other = answer_text other

-- the reply to a return
abbrev pub back_text : ReplayState → ℕ → List ℕ
back_text state id = back_answer_text (answer state.events (event.Back id))

-- the number of the segment that the entry purges, behind a space
abbrev pub purged_text : Entry → List ℕ
purged_text (entry.Purge id known) = spaced id
purged_text other = []

-- the words of a reduction that added these entries: the granted pages after it, the least known
-- use or a dash, and the number of each segment that it purged, in order
abbrev pub reduced_words : ℕ → Option ℕ → List Entry → List ℕ
reduced_words after least entries =
    codes "reduced" ++ spaced after ++ spaced_or_dash least ++ flat_map purged_text entries

-- the words of the removal of a client, by how many segments are counted off
abbrev pub removed_words : ℕ → List ℕ
removed_words count = codes "removed" ++ spaced count

-- the words of the answer to the question for the granted pages
abbrev pub granted_words : ℕ → List ℕ
granted_words pages = codes "granted" ++ spaced pages

-- the reply to a reduction, by the state before it and the one after it
abbrev pub reduced_text : ReplayState → ReplayState → List ℕ
reduced_text before after =
    reduced_words (granted after.events) (least_use after.events) (added_since before after)

-- the reply to the removal of a client: each segment that is counted off adds an entry
abbrev pub removed_text : ReplayState → ReplayState → List ℕ
removed_text before after = removed_words (length (added_since before after))

-- the reply to the question for the granted pages
abbrev pub granted_text : ReplayState → List ℕ
granted_text state = granted_words (granted state.events)

-- the reply to a grant, for which there is room
abbrev pub grant_text : ReplayState → ℕ → ℕ → List ℕ
grant_text state client pages = answered_text state (next_grant state client pages)

-- the words of misuse
abbrev pub misuse_text : List ℕ
misuse_text = answer_text answers.Misuse

-- the reply to an event by number: on a segment of a client's heap it is misuse
abbrev pub numbered_text : ReplayState → Event → List ℕ
numbered_text state e =
    if state.heaps.owned (number_of e) then misuse_text else answered_text state e

-- the reply to a read by number
abbrev pub numbered_read_text : ReplayState → ℕ → ℕ → ℕ → List ℕ
numbered_read_text state id place count =
    if state.heaps.owned id then misuse_text else read_text state id place count

-- the reply to a return by number
abbrev pub numbered_back_text : ReplayState → ℕ → List ℕ
numbered_back_text state id = if state.heaps.owned id then misuse_text else back_text state id

-- the words of a piece: its number, whether free pages served it or a new segment, and its pages
abbrev pub piece_words : ℕ → Bool → Run → List ℕ
piece_words number old run =
    codes "piece" ++ spaced number ++ (if old then codes " old" else codes " new") ++ spaced run.segment
    ++ spaced run.first ++ spaced run.pages

-- the words of a freed piece: whether its segment was still its client's
abbrev pub freed_words : Bool → List ℕ
freed_words there = if there then codes "freed" else codes "dead"

-- the words of a sweep, by how many segments were found gone
abbrev pub swept_words : ℕ → List ℕ
swept_words count = codes "swept" ++ spaced count

-- the words of a release, by how many segments were counted off
abbrev pub released_words : ℕ → List ℕ
released_words count = codes "released" ++ spaced count

-- a free run, behind a space: its segment, its first page and its pages
abbrev pub run_words : Run → List ℕ
run_words run =
    spaced run.segment ++ codes ":" ++ decimal run.first ++ codes "+" ++ decimal run.pages

-- the words of free runs, the oldest first
abbrev pub runs_words : List Run → List ℕ
runs_words runs = codes "runs" ++ flat_map run_words runs

-- the reply to an allocation of n pages, by what the search came to
abbrev pub searched_text : Option Run → ReplayState → ℕ → ℕ → ℕ → List ℕ
searched_text (Some run) state client n at = piece_words (next_piece state.heaps) true run
searched_text None state client n at =
    piece_words (next_piece state.heaps) false (next_run (before_adoption state client n at) n)

-- the reply to an allocation of n pages for a client
abbrev pub allocation_text : ReplayState → ℕ → ℕ → ℕ → List ℕ
allocation_text state client n at =
    let found = find state client n in
    searched_text found.run found.state client n at

-- the reply to a command on a piece of these pages, or misuse where it is not there
abbrev pub piece_text : Option Run → (Run → List ℕ) → List ℕ
piece_text None reply = misuse_text
piece_text (Some run) reply = reply run

-- the reply to a lock of a piece with these pages: gone where its segment is live no more
abbrev pub piece_lock_text : ReplayState → Run → List ℕ
piece_lock_text state run =
    if live state.events run.segment then answered_text state (lock_of run)
    else answer_text answers.Gone

-- the reply to an unlock of a piece with these pages
abbrev pub piece_unlock_text : ReplayState → ℕ → Run → List ℕ
piece_unlock_text state at run = answered_text state (unlock_of run at)

-- the reply to a write of bytes to a piece with these pages
abbrev pub piece_write_text : ReplayState → ℕ → List ℕ → Run → List ℕ
piece_write_text state place bytes run =
    if fits_in run place (length bytes)
    then answered_text state (write_of run place bytes)
    else misuse_text

-- the reply to a read of bytes of a piece with these pages
abbrev pub piece_read_text : ReplayState → ℕ → ℕ → Run → List ℕ
piece_read_text state place count run =
    if fits_in run place count
    then read_text state run.segment (place_in run place) count
    else misuse_text

-- the reply to a free of a piece with these pages
abbrev pub piece_free_text : ReplayState → ℕ → Run → List ℕ
piece_free_text state piece run =
    freed_words (has (holding_of state (owner_of state.heaps piece).client) run.segment)

-- the reply to a sweep of a client
abbrev pub swept_text : ReplayState → ℕ → List ℕ
swept_text state client = swept_words (length (purged (live state.events) (holding_of state client)))

-- the reply to a release: each segment that is counted off adds an entry
abbrev pub released_text : ReplayState → ReplayState → List ℕ
released_text before after = released_words (length (added_since before after))

-- the reply to the question for a client's free runs
abbrev pub runs_text : ReplayState → ℕ → List ℕ
runs_text state client = runs_words (holding_of state client).runs

-- the reply to a command in this state
abbrev pub reply_of : ReplayState → Command → List ℕ
reply_of state (Grant client pages at) = grant_text (with_room state pages at) client pages
reply_of state (Lock id first count) = numbered_text state (event.Lock id first count)
reply_of state (Unlock id first count at) = numbered_text state (event.Unlock id first count at)
reply_of state (Write id place bytes) = numbered_text state (event.Write id place bytes)
reply_of state (Read id place count) = numbered_read_text state id place count
reply_of state (Try id at) = answered_text state (event.Try id at)
reply_of state (Back id) = numbered_back_text state id
reply_of state (Reduce limit at) = reduced_text state (state_after state (Reduce limit at))
reply_of state (Enforce at) = reduced_text state (state_after state (Enforce at))
reply_of state (Pressure critical at) =
    reduced_text state (state_after state (Pressure critical at))
reply_of state (Limit limit at) = reduced_text state (state_after state (Limit limit at))
reply_of state (Remove client) = removed_text state (state_after state (Remove client))
reply_of state (Alloc client size at) = allocation_text state client (pages_for size) at
reply_of state (PieceLock piece) =
    piece_text (piece_of state.heaps piece) (piece_lock_text state)
reply_of state (PieceUnlock piece at) =
    piece_text (piece_of state.heaps piece) (piece_unlock_text state at)
reply_of state (PieceWrite piece place bytes) =
    piece_text (piece_of state.heaps piece) (piece_write_text state place bytes)
reply_of state (PieceRead piece place count) =
    piece_text (piece_of state.heaps piece) (piece_read_text state place count)
reply_of state (PieceFree piece at) =
    piece_text (piece_of state.heaps piece) (piece_free_text state piece)
reply_of state (Sweep client) = swept_text state client
reply_of state (Release client) = released_text state (state_after state (Release client))
reply_of state (Runs client) = runs_text state client
reply_of state Granted = granted_text state
