-- What a run keeps of the granted segments, and what it tells of the events so far.
use Rattle.std.specs.Prelude.{◌≡◌, ℕ, ◌+◌, nat_lt, zero, suc, Bool, ◌&&◌, List, [], ◌∷◌, length, Some, unwrap_or, slice_get, count_by}
use Rattle.machine.specs.declared.event.Event.{Event}
use Rattle.machine.specs.History.{History, is_begun, pages_of, client_of, known_of}
use Rattle.machine.specs.Answers.{answered, is_live, is_plain, granted_numbers, granted}
use Rattle.machine.specs.Reduction.{Candidate, use_of}
use Rattle.replay_plain.specs.State.{is_grant}
use Rattle.replay_plain.specs.declared.segment.KnownSegment.{KnownSegment}
use Rattle.replay_plain.specs.Rows.{KnownView}
use Rattle.replay_plain.specs.declared.segment.Least.{Least}

-- the number and the known use of a segment
abbrev pub least_told : Candidate → Least
least_told c = record { id = c.id; known = use_of c }

-- what is kept of a number is what the history made of it
pub record Tells (h : History) (s : ℕ) (kept : KnownSegment) : Type 0 where
  pub client : kept.client ≡ client_of h s
  pub pages : kept.pages ≡ pages_of h s
  pub known : kept.known ≡ unwrap_or (known_of h s) 0
  pub live : kept.live ≡ is_live h s
  pub plain : kept.plain ≡ is_plain h s

-- the numbers from 1 to this one, the latest first
abbrev pub numbers_to : ℕ → List ℕ
numbers_to zero = []
numbers_to (suc n) = suc n ∷ numbers_to n

-- the number was drawn, where the next one is this
abbrev pub is_drawn : ℕ → ℕ → Bool
is_drawn next s = nat_lt 0 s && nat_lt s next

-- What is kept of the granted segments tells these events. The rows have a place for each number
-- from 0 on, which is never granted, to the last one that was drawn.
pub record TellsAll (events : List Event) (kept : KnownView) : Type 0 where
  pub drawn : length kept.items ≡ count_by is_grant events + 1
  pub numbers : granted_numbers (answered events) ≡ numbers_to (count_by is_grant events)
  pub begun : (s : ℕ) → is_begun (answered events) s ≡ is_drawn (length kept.items) s
  pub each : (s : ℕ) (segment : KnownSegment) → slice_get kept.items s ≡ Some segment
      → Tells (answered events) s segment
  pub pages : kept.pages ≡ granted events
