-- The state of a replay that a run on real segments stands for, and what a command makes of it.
use Rattle.std.specs.Prelude.{◌≡◌, ◌⊎◌, ℕ, ◌+◌, ◌==◌, false, List, ◌++◌, length}
use Rattle.std.specs.List.{list_any}
use Rattle.machine.specs.declared.event.Event.TheVariants as event
use Rattle.machine.specs.declared.event.Answer.TheVariants as answer
use Rattle.machine.specs.Answers.{answered, granted as granted_by_events}
use Rattle.machine.specs.History.{client_of}
use Rattle.discard_book.specs.Live.{grants, granted as granted_by_entries}
use Rattle.discard_book.specs.declared.entry.Entry.{Entry}
use Rattle.manager_state.specs.Managed.{Managed}
use Rattle.script_text.specs.declared.command.Command.{Command}
use Rattle.script_text.specs.declared.command.Command.TheVariants.{Lock}
use Rattle.replay_plain.specs.State.{ReplayState, grants_of, after_event}
use Rattle.replay_plain.specs.Replies.{answer_text, answered_text}
use Rattle.script_heaps.specs.Heaps.{no_heaps}
use Rattle.replay_real.specs.declared.owners.Given.{Given}
use Rattle.replay_real.specs.declared.heaps.Heaps.{Heaps}
use Rattle.replay_real.specs.Emptiness.{AreEmpty}
use Rattle.replay_real.specs.declared.run.RealRun.{RealRun}
use Rattle.replay_real.specs.Owners.{given_at, ShowsEach}

-- A manager's state and a table of owners stand for a state of a replay. The book's entries and
-- the limit are those of the state. The numbers that the book drew are those of the Grants, and
-- the table has one place more. Granted pages are told the same. Each granted segment is with the
-- client that it was granted to; it is plain, and its owner keeps what the events made of it. No
-- client has a heap yet.
pub record StandsFor (manager : Managed) (table : List Given) (heaps : Heaps) (state : ReplayState) : Type 0 where
  pub entries : manager.entries ≡ state.entries
  pub limit : manager.limit ≡ state.limit
  pub drawn : grants state.entries ≡ grants_of state
  pub places : length table ≡ grants_of state + 1
  pub granted : granted_by_entries state.entries ≡ granted_by_events state.events
  pub clients : (id : ℕ) → (given_at table id).client ≡ client_of (answered state.events) id
  pub owners : ShowsEach (answered state.events) table
  pub none : state.heaps ≡ no_heaps
  pub empty : AreEmpty heaps

-- the run stands for this state
abbrev pub RealStandsFor : RealRun → ReplayState → Type 0
RealStandsFor run state = StandsFor run.state run.owners run.heaps state

-- a command was answered with these words, and the run stands for this state after it
pub record Follows (run : RealRun) (before after said : List ℕ) (state : ReplayState) : Type 0 where
  pub reply : after ≡ before ++ said
  pub stands : RealStandsFor run state

-- A lock was answered as the machine answers it, and the run stands for the state after it; or the
-- segment was found gone. What another side did to the segment is not told here.
abbrev pub LockFollows : Command → RealRun → List ℕ → List ℕ → ReplayState → Type 0
LockFollows (Lock id first count) run before after state =
    Follows run before after
    (answered_text state (event.Lock id first count)) (after_event state (event.Lock id first count))
    ⊎ (after ≡ before ++ answer_text answer.Gone)
LockFollows other run before after state = Unit {0}

-- these bytes have no LF
abbrev pub IsOneLine : List ℕ → Type 0
IsOneLine bytes = list_any (λ byte. byte == 10) bytes ≡ false

-- some words without LF were appended
pub record AppendsWords (before after : List ℕ) : Type 0 where
  pub words : List ℕ
  pub appended : after ≡ before ++ words
  pub line : IsOneLine words

-- entries were added at the end of the book, or none
abbrev pub Grows : List Entry → List Entry → Type 0
Grows before after = (more : List Entry) × (after ≡ before ++ more)
