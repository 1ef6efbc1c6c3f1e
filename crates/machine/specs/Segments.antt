use Rattle.std.specs.Prelude.{◌≡◌, ℕ, ◌*◌, true, false, List, length, Option, None, MatchOption, slice_index_or, replicate}
use Rattle.units.specs.declared.TheConstants.{PAGE}
use Rattle.std.specs.Ordering.{nat_cmp}
use Rattle.std.specs.BTreeMap.{is_at}
use Rattle.std.specs.Map.{lookup}
use Rattle.machine.specs.declared.event.Event.{Event}
use Rattle.machine.specs.History.{History, is_begun, pages_of, is_ended, is_gone, is_held, stamp_of, known_of, left_of}
use Rattle.machine.specs.KeptSegment.{KeptSegment}
use Rattle.machine.specs.Answers.{answered, is_plain, is_live}

-- What is kept of a segment is what the history made of it: the flags of its pages while it is plain, its bytes while
-- it is live, and the rest for good.
pub record Shows (h : History) (s : ℕ) (kept : KeptSegment) : Type 0 where
  pub begun : is_begun h s ≡ true
  pub pages : is_plain h s ≡ true → length kept.held ≡ pages_of h s
  pub held : is_plain h s ≡ true → (page : ℕ) → slice_index_or kept.held page false ≡ is_held h s page
  pub stamp : kept.stamp ≡ stamp_of h s
  pub known : kept.known ≡ known_of h s
  pub bytes : is_live h s ≡ true → kept.bytes ≡ left_of h s
  pub gone : kept.gone ≡ is_gone h s
  pub ended : kept.ended ≡ is_ended h s

-- nothing happened to a number that was not granted
pub record IsUnknown (h : History) (s : ℕ) : Type 0 where
  pub begun : is_begun h s ≡ false
  pub pages : pages_of h s ≡ 0
  pub held : (page : ℕ) → is_held h s page ≡ false
  pub stamp : stamp_of h s ≡ 0
  pub known : known_of h s ≡ None
  pub gone : is_gone h s ≡ false
  pub ended : is_ended h s ≡ false

-- what is kept of a new segment: all its pages are held, and all its bytes are zero
abbrev pub fresh : ℕ → KeptSegment
fresh pages = record { held = replicate pages true; stamp = 0; known = None; bytes = replicate (PAGE * pages) 0; gone = false; ended = false }

-- what is kept under a number, if there is something
abbrev pub kept_at : List (ℕ × KeptSegment) → ℕ → Option KeptSegment
kept_at segments s = lookup (is_at (nat_cmp s)) segments

-- the segments after a history: what is kept of each number that was granted is what the history made of it
abbrev pub ShowsAll : History → List (ℕ × KeptSegment) → Type 0
ShowsAll h segments = (s : ℕ) → MatchOption (kept_at segments s) (IsUnknown h s) (λ kept. Shows h s kept)

-- the segments are those after these events
abbrev pub StandsFor : List (ℕ × KeptSegment) → List Event → Type 0
StandsFor segments events = ShowsAll (answered events) segments
