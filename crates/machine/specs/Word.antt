-- The word of a segment: one number that tells whether the segment is held, idle or gone.
use Rattle.std.specs.Prelude.{ℕ, ◌*◌, nat_lt, Bool, true, if◌then◌else◌, List}
use Rattle.machine.specs.declared.event.Event.{Event}
use Rattle.machine.specs.History.{History, is_gone, stamp_of}
use Rattle.machine.specs.Answers.{answered, held_count}

-- what a word tells: some page is held, no page is held since a moment, or the segment was purged
pub data WordState : Type 0 where
  Held : WordState
  Idle : (at : ℕ) → WordState
  Gone : WordState

-- the word of a state: 1, twice the moment, or 0
abbrev pub word_of : WordState → ℕ
word_of Held = 1
word_of (Idle at) = 2 * at
word_of Gone = 0

-- some page of the segment is held
abbrev pub some_held : History → ℕ → Bool
some_held h s = nat_lt 0 (held_count h s (λ page. true))

-- the state of a segment after a history; before its Grant it is idle since no moment
abbrev pub state_after : History → ℕ → WordState
state_after h s = if is_gone h s then Gone else (if some_held h s then Held else Idle (stamp_of h s))

-- the state of a segment after these events
abbrev pub state_of : List Event → ℕ → WordState
state_of events s = state_after (answered events) s
