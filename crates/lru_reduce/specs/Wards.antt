-- What is seen of an order: its live wardens, and what they say of their segments.
use Rattle.std.specs.Prelude.{◌≡◌, ◌≢◌, ℕ, ◌*◌, ◌/◌, ◌==◌, ◌<◌, false, not, if◌then◌else◌, List, [], ◌∷◌, map, filter, sum, All}
use Rattle.segment.specs.Tries.{known_use}
use Rattle.segment.specs.Warded.{Warded}
use Rattle.machine.specs.Reduction.{Candidate, use_of}

-- the live wardens, by rising number; how many more the order can take in without memory; and how many entries, live and
-- dead, its queue has
pub record Wards : Type 0 where
  pub sides : List Warded
  pub spare : ℕ
  pub entries : ℕ

-- the live wardens, by rising number, and how many there is room for
pub record Slotted : Type 0 where
  pub sides : List Warded
  pub room : ℕ

-- the keys rise, so each stands once
abbrev pub IsRisingBy : {X : Type 0} → (X → ℕ) → List X → Type 0
IsRisingBy key [] = Unit {0}
IsRisingBy key (x ∷ xs) = All (λ y. key x < key y) xs × IsRisingBy key xs

-- the number of a warden's segment
abbrev pub number_of : Warded → ℕ
number_of w = w.id

-- these are live wardens: their numbers rise, and none has taken its block
pub record AreLive (sides : List Warded) : Type 0 where
  pub rising : IsRisingBy number_of sides
  pub free : All (λ (w : Warded). w.taken ≡ false) sides

-- no warden has this number
abbrev pub IsNew : ℕ → List Warded → Type 0
IsNew id sides = All (λ (w : Warded). w.id ≢ id) sides

-- a warden's segment as a reduction sees it: its number, its pages, and what the tries tell of its use
abbrev pub candidate_of : Warded → Candidate
candidate_of w = record { id = w.id; pages = w.pages; known = known_use w.tries }

-- the segments of these wardens as a reduction sees them
abbrev pub candidates_of : List Warded → List Candidate
candidates_of sides = map candidate_of sides

-- the pages of these wardens' segments
abbrev pub total_pages : List Warded → ℕ
total_pages sides = sum (map (λ (c : Candidate). c.pages) (candidates_of sides))

-- a warden's segment as a book sees it: its number and its pages
abbrev pub segment_of : Warded → ℕ × ℕ
segment_of w = (w.id, w.pages)

-- the segments of these wardens as a book sees them
abbrev pub segments_of : List Warded → List (ℕ × ℕ)
segments_of sides = map segment_of sides

-- the wardens without the one of this number
abbrev pub without_ward : ℕ → List Warded → List Warded
without_ward id sides = filter (λ (w : Warded). not (w.id == id)) sides

-- a warden after one more try at a moment that found this word, where it is the one of this number
abbrev pub noted_at : ℕ → ℕ → ℕ → Warded → Warded
noted_at now word id w = if w.id == id then record w { tries = (now, word) ∷ w.tries } else w

-- The wardens after a purge try at a moment that found this word, on the one of this segment. Twice the known use: it is
-- purged and leaves. Any other word: it notes the try.
abbrev pub wards_after : ℕ → ℕ → Candidate → List Warded → List Warded
wards_after now word c sides =
    if word == 2 * use_of c then without_ward c.id sides else map (noted_at now word c.id) sides

-- the known use that a lost try at a moment tells by the word that it found: the moment where the segment is held, or else
-- the time of its last use
abbrev pub used_after : ℕ → ℕ → ℕ
used_after now word = if word == 1 then now else word / 2
