-- The reduction of granted pages to a limit, by last known use.
use Rattle.std.specs.Prelude.{◌≡◌, ◌⊎◌, ℕ, ◌*◌, ◌/◌, ◌≤◌, ◌==◌, nat_le, nat_lt, Bool, true, false, not, ◌&&◌, ◌||◌, if◌then◌else◌, List, [], ◌∷◌, ◌++◌, map, filter, sum, Option, Some, None, unwrap_or, option_map, option_and_then}
use Rattle.machine.specs.declared.event.Event.{Event}
use Rattle.machine.specs.declared.event.Event.TheVariants.{Lock, Unlock, Write, Try}
use Rattle.machine.specs.History.{History, pages_of, known_of}
use Rattle.machine.specs.Answers.{answered, answer_of, is_live, granted_numbers, granted, live, known}
use Rattle.machine.specs.Word.{word_of, state_after}

-- a live segment as a reduction sees it: its number, its pages and its known use
pub record Candidate : Type 0 where
  pub id : ℕ
  pub pages : ℕ
  pub known : Option ℕ

-- the known use as a number: none counts as 0
abbrev pub use_of : Candidate → ℕ
use_of c = unwrap_or c.known 0

-- the first of two segments comes before the second: its known use is less, or it is the same and its number is less
abbrev pub comes_first : Candidate → Candidate → Bool
comes_first a b = nat_lt (use_of a) (use_of b) || use_of a == use_of b && nat_lt a.id b.id

-- the segment that comes before all others of a list
abbrev pub least_of : Candidate → List Candidate → Candidate
least_of c [] = c
least_of c (d ∷ rest) = least_of (if comes_first d c then d else c) rest

-- the least of a list, or None where it is empty
abbrev pub least : List Candidate → Option Candidate
least [] = None
least (c ∷ rest) = Some (least_of c rest)

-- no segment is left, or the least known use is at or after the moment
abbrev pub is_late : ℕ → Option Candidate → Bool
is_late now None = true
is_late now (Some c) = nat_le now (use_of c)

-- the reduction ends here: the pages are within the limit, or no segment is left, or the least known use is at or
-- after the moment
abbrev pub has_ended : ℕ → ℕ → List Candidate → Bool
has_ended limit now cs = nat_le (sum (map (λ c. c.pages) cs)) limit || is_late now (least cs)

-- the segments without the one of this number
abbrev pub without : ℕ → List Candidate → List Candidate
without id cs = filter (λ c. not (c.id == id)) cs

-- a segment, with another known use where it is the one of this number
abbrev pub known_at : ℕ → ℕ → Candidate → Candidate
known_at id moment c = if c.id == id then record c { known = Some moment } else c

-- the segments, where the one of this number has another known use
abbrev pub with_known : ℕ → ℕ → List Candidate → List Candidate
with_known id moment cs = map (known_at id moment) cs

-- The segments after a purge try at a moment on one of them that found this word. Twice the known use: it is purged.
-- 1: it is held, so it was used now. Any other word tells when it was last used.
abbrev pub after_try : ℕ → ℕ → Candidate → List Candidate → List Candidate
after_try now word c cs =
    if word == 2 * use_of c then without c.id cs
    else with_known c.id (if word == 1 then now else word / 2) cs

-- The segments that a reduction to a limit at a moment leaves, where its tries found these words, in their order. Each
-- try is on the least segment. None where it ends before the last word, or wants one more.
unfoldable pub reduced : ℕ → ℕ → List Candidate → List ℕ → Option (List Candidate)
reduced limit now cs [] = if has_ended limit now cs then Some cs else None
reduced limit now cs (word ∷ words) =
    if has_ended limit now cs then None
    else option_and_then (λ c. reduced limit now (after_try now word c cs) words) (least cs)

-- the tries of a reduction that found these words: each segment as it stood, and the word
unfoldable pub tries : ℕ → List Candidate → List ℕ → List (Candidate × ℕ)
tries now cs [] = []
tries now cs (word ∷ words) = unwrap_or (option_map (λ c. (c, word) ∷ tries now (after_try now word c cs) words) (least cs)) []

-- the words that the tries found on one number, in their order
abbrev pub found_on : ℕ → List (Candidate × ℕ) → List ℕ
found_on id found = map (λ t. t.1) (filter (λ t. t.0.id == id) found)

-- the segments that the tries purged, in their order, each as it stood
abbrev pub purged_by : List (Candidate × ℕ) → List Candidate
purged_by found = map (λ t. t.0) (filter (λ t. t.1 == 2 * use_of t.0) found)

-- the live segments after a history, the latest granted first
abbrev pub candidates : History → List Candidate
candidates h = map (λ s. record { id = s; pages = pages_of h s; known = known_of h s }) (filter (is_live h) (granted_numbers h))

-- an event of an owner: it locks, unlocks or writes
abbrev pub is_owners : Event → Bool
is_owners (Lock s first count) = true
is_owners (Unlock s first count at) = true
is_owners (Write s place bytes) = true
is_owners _ = false

-- The events are tries on the least segment, each of which finds the word of that segment then, and events of owners
-- between them in any places. With no event left the reduction has ended.
abbrev pub Reduces : ℕ → ℕ → History → List Candidate → List Event → Type 0
Reduces limit now h cs [] = has_ended limit now cs ≡ true
Reduces limit now h cs (e ∷ events) =
    ((is_owners e ≡ true) × Reduces limit now ((e, answer_of h e) ∷ h) cs events)
    ⊎ ((has_ended limit now cs ≡ false)
    × ((c : Candidate) × (least cs ≡ Some c) × (e ≡ Try c.id now)
    × Reduces limit now ((e, answer_of h e) ∷ h) (after_try now (word_of (state_after h c.id)) c cs) events))

-- these events, after those before, are a reduction of the granted pages to a limit at a moment
abbrev pub IsReduction : List Event → ℕ → ℕ → List Event → Type 0
IsReduction before limit now events = Reduces limit now (answered before) (candidates (answered before)) events

-- granted pages are within the limit, or each live segment has a known use at or after the moment
abbrev pub IsReduced : List Event → ℕ → ℕ → Type 0
IsReduced events limit now =
    (granted events ≤ limit) ⊎ ((s : ℕ) → live events s ≡ true → now ≤ unwrap_or (known events s) 0)

-- the word that an event finds, where it is a try: that of its segment then
abbrev pub word_found : History → Event → List ℕ
word_found h (Try s now) = word_of (state_after h s) ∷ []
word_found h _ = []

-- the words that the tries of these events find after a history, in their order
abbrev pub words_found : History → List Event → List ℕ
words_found h [] = []
words_found h (e ∷ events) = word_found h e ++ words_found ((e, answer_of h e) ∷ h) events

-- the words that its tries found leave exactly the segments that are live after it
abbrev pub LeavesLive : List Event → ℕ → ℕ → List Event → Type 0
LeavesLive before limit now events =
    reduced limit now (candidates (answered before)) (words_found (answered before) events) ≡ Some (candidates (answered (before ++ events)))
