-- No reply has an LF.
use Rattle.std.proofs.Common.{ℕ, Bool, true, false, cond, length, List, take, drop, Option, Some, None}
use Rattle.hex.specs.Hex.{encode_lower}
use Rattle.machine.specs.Answers.{answer, readable, left, live, granted}
use Rattle.machine.specs.declared.event.Event.{Event}
use Rattle.machine.specs.declared.event.Event.TheVariants as event
use Rattle.machine.specs.History.{number_of}
use Rattle.machine.specs.declared.event.Answer.TheVariants as answers
use Rattle.script_text.specs.declared.command.Command.{Command}
use Rattle.script_text.specs.declared.command.Command.TheVariants.{Grant, Lock, Unlock, Write, Read, Try, Back, Reduce, Enforce, Pressure, Limit, Remove, Alloc, PieceLock, PieceUnlock, PieceWrite, PieceRead, PieceFree, Sweep, Release, Runs, Granted}
use Rattle.replay_plain.specs.State.{ReplayState}
use Rattle.replay_plain.specs.Replies.{answer_text, answered_text, misuse_text, numbered_text, back_text, read_text, reduced_text, piece_text, piece_lock_text, piece_unlock_text, piece_write_text, piece_read_text, piece_free_text, searched_text, reply_of}
use Rattle.replay_plain.specs.Pieces.{pages_for, find, lock_of, place_in, write_of, fits_in}
use Rattle.span_heap.specs.declared.run.Run.{Run}
use Rattle.script_heaps.specs.Heaps.{piece_of}
use Rattle.replay_plain.specs.Reductions.{least_use}
use Rattle.replay_plain.specs.Commands.{state_after, added_since}
use Rattle.replay_real.specs.Standing.{IsOneLine}
use Rattle.replay_real.proofs.OneLine.{answer_line, back_line, hex_line, reduced_line, removed_line, granted_line, piece_line, freed_line, swept_line, released_line, runs_line}

read_line : (state : ReplayState) (id place count : ℕ) → IsOneLine (read_text state id place count)
read_line state id place count = by_test (readable state.events id place count)
  where
    by_test : (b : Bool) → IsOneLine (cond b (encode_lower (take count (drop place (left state.events id)))) (answer_text answers.Misuse))
    by_test true = hex_line (take count (drop place (left state.events id)))
    by_test false = answer_line answers.Misuse

after_line : (before after : ReplayState) → IsOneLine (reduced_text before after)
after_line before after = reduced_line (granted after.events) (least_use after.events) (added_since before after)

-- misuse, or what a test leaves
or_misuse : (b : Bool) (words : List ℕ) → IsOneLine words → IsOneLine (cond b misuse_text words)
or_misuse true words line = answer_line answers.Misuse
or_misuse false words line = line

fits_or_misuse : (b : Bool) (words : List ℕ) → IsOneLine words → IsOneLine (cond b words misuse_text)
fits_or_misuse true words line = line
fits_or_misuse false words line = answer_line answers.Misuse

piece_reply : (o : Option Run) (reply : Run → List ℕ) → ((run : Run) → IsOneLine (reply run)) → IsOneLine (piece_text o reply)
piece_reply None reply line = answer_line answers.Misuse
piece_reply (Some run) reply line = line run

locked_line : (state : ReplayState) (run : Run) → IsOneLine (piece_lock_text state run)
locked_line state run = by_test (live state.events run.segment)
  where
    by_test : (b : Bool) → IsOneLine (cond b (answered_text state (lock_of run)) (answer_text answers.Gone))
    by_test true = answer_line _
    by_test false = answer_line answers.Gone

searched_line : (o : Option Run) (state : ReplayState) (client n at : ℕ) → IsOneLine (searched_text o state client n at)
searched_line (Some run) state client n at = piece_line _ true run
searched_line None state client n at = piece_line _ false _

numbered_line : (state : ReplayState) (e : Event) → IsOneLine (numbered_text state e)
numbered_line state e = or_misuse (state.heaps.owned (number_of e)) (answered_text state e) (answer_line (answer state.events e))

pub reply_line : (state : ReplayState) (command : Command) → IsOneLine (reply_of state command)
reply_line state (Grant client pages at) = answer_line _
reply_line state (Lock id first count) = numbered_line state (event.Lock id first count)
reply_line state (Unlock id first count at) = numbered_line state (event.Unlock id first count at)
reply_line state (Write id place bytes) = numbered_line state (event.Write id place bytes)
reply_line state (Read id place count) = or_misuse (state.heaps.owned id) (read_text state id place count) (read_line state id place count)
reply_line state (Try id at) = answer_line _
reply_line state (Back id) = or_misuse (state.heaps.owned id) (back_text state id) (back_line _)
reply_line state (Reduce limit at) = after_line state (state_after state (Reduce limit at))
reply_line state (Enforce at) = after_line state (state_after state (Enforce at))
reply_line state (Pressure critical at) = after_line state (state_after state (Pressure critical at))
reply_line state (Limit limit at) = after_line state (state_after state (Limit limit at))
reply_line state (Remove client) = removed_line _
reply_line state (Alloc client size at) = searched_line (find state client (pages_for size)).run (find state client (pages_for size)).state client (pages_for size) at
reply_line state (PieceLock piece) = piece_reply (piece_of state.heaps piece) (piece_lock_text state) (locked_line state)
reply_line state (PieceUnlock piece at) = piece_reply (piece_of state.heaps piece) (piece_unlock_text state at) (λ run. answer_line _)
reply_line state (PieceWrite piece place bytes) = piece_reply (piece_of state.heaps piece) (piece_write_text state place bytes) (λ run. fits_or_misuse (fits_in run place (length bytes)) (answered_text state (write_of run place bytes)) (answer_line (answer state.events (write_of run place bytes))))
reply_line state (PieceRead piece place count) = piece_reply (piece_of state.heaps piece) (piece_read_text state place count) (λ run. fits_or_misuse (fits_in run place count) (read_text state run.segment (place_in run place) count) (read_line state run.segment (place_in run place) count))
reply_line state (PieceFree piece at) = piece_reply (piece_of state.heaps piece) (piece_free_text state piece) (λ run. freed_line _)
reply_line state (Sweep client) = swept_line _
reply_line state (Release client) = released_line _
reply_line state (Runs client) = runs_line _
reply_line state Granted = granted_line _
