-- The state of a replay, and what an event makes of it.
use Rattle.std.specs.Prelude.{ℕ, ◌+◌, Bool, true, false, List, [], ◌∷◌, ◌++◌, unwrap_or, count_by}
use Rattle.machine.specs.declared.event.Event.{Event}
use Rattle.machine.specs.declared.event.Event.TheVariants as event
use Rattle.machine.specs.declared.event.Answer.{Answer}
use Rattle.machine.specs.declared.event.Answer.TheVariants.{Granted, Taken, Counted}
use Rattle.machine.specs.Answers.{answer, known}
use Rattle.discard_book.specs.declared.entry.Entry.{Entry}
use Rattle.discard_book.specs.declared.entry.Entry.TheVariants as entry
use Rattle.script_heaps.specs.Heaps.{Heaps, no_heaps}
use Rattle.replay_plain.specs.declared.config.ReplayCfg.{ReplayCfg}

-- What a replay is between two commands: the events so far, the oldest first, the limit of granted
-- pages now, the entries of the book so far, the standard size of a segment, and the clients' heaps.
pub record ReplayState : Type 0 where
  pub events : List Event
  pub limit : ℕ
  pub entries : List Entry
  pub standard : ℕ
  pub heaps : Heaps

-- the state in front of the first command
abbrev pub first_state : ReplayCfg → ReplayState
first_state cfg =
    record {
      events = [];
      limit = cfg.limit;
      entries = [];
      standard = cfg.standard;
      heaps = no_heaps;
    }

-- the known use of a segment as a number: none counts as 0
abbrev pub known_use : List Event → ℕ → ℕ
known_use events id = unwrap_or (known events id) 0

-- The entries that an event adds to the book by its answer. A Grant that is granted carries the
-- limit of now, a Try that takes its segment the known use that it was tried with.
abbrev pub entries_by : ℕ → List Event → Event → Answer → List Entry
entries_by limit events (event.Grant id client pages) (Granted drawn) =
    entry.Grant id client pages limit ∷ []
entries_by limit events (event.Try id now) Taken = entry.Purge id (known_use events id) ∷ []
entries_by limit events (event.Back id) Counted = entry.Back id ∷ []
entries_by limit events other answered = []

-- the entries that an event adds after these events
abbrev pub entries_of : ℕ → List Event → Event → List Entry
entries_of limit events e = entries_by limit events e (answer events e)

-- the state after one event more
abbrev pub after_event : ReplayState → Event → ReplayState
after_event state e =
    record state {
      events = state.events ++ e ∷ [];
      entries = state.entries ++ entries_of state.limit state.events e;
    }

-- the state after these events
abbrev pub after_events : ReplayState → List Event → ReplayState
after_events state [] = state
after_events state (e ∷ later) = after_events (after_event state e) later

-- whether an event is a Grant
abbrev pub is_grant : Event → Bool
is_grant (event.Grant id client pages) = true
is_grant other = false

-- how many Grants there were
abbrev pub grants_of : ReplayState → ℕ
grants_of state = count_by is_grant state.events

-- the Grant of these pages to a client: it draws one more than the number of Grants so far
abbrev pub next_grant : ReplayState → ℕ → ℕ → Event
next_grant state client pages = event.Grant (grants_of state + 1) client pages
