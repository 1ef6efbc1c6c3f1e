-- Live segments and granted pages, as the entries of a book tell them.
use Rattle.std.specs.Prelude.{◌≡◌, ℕ, ◌+◌, ◌≤◌, ◌==◌, Bool, true, false, not, if◌then◌else◌, List, [], ◌∷◌, ◌++◌, map, filter, All, sum_by, count_by}
use Rattle.std.specs.List.{list_any, Contains}
use Rattle.std.specs.List.Sorted.{IsStrictlyIncreasing}
use Rattle.discard_book.specs.declared.entry.Entry.{Entry}
use Rattle.discard_book.specs.declared.entry.Entry.TheVariants.{Grant, Reduced, Purge, Back}

-- the entry is a Purge or a Back of this number
abbrev pub takes_out : Entry → ℕ → Bool
takes_out (Grant id client pages limit) number = false
takes_out (Reduced limit now after least) number = false
takes_out (Purge id known) number = id == number
takes_out (Back id) number = id == number

-- the entry is a Grant
abbrev pub is_grant : Entry → Bool
is_grant (Grant id client pages limit) = true
is_grant (Reduced limit now after least) = false
is_grant (Purge id known) = false
is_grant (Back id) = false

-- the segment that the entry grants, as its number and its pages
abbrev pub granted_by : Entry → List (ℕ × ℕ)
granted_by (Grant id client pages limit) = (id, pages) ∷ []
granted_by (Reduced limit now after least) = []
granted_by (Purge id known) = []
granted_by (Back id) = []

-- the live segments: the numbers with a Grant in the list and no later Purge or Back, each with its
-- pages
abbrev pub live : List Entry → List (ℕ × ℕ)
live [] = []
live (Grant id client pages limit ∷ later) =
    if list_any (λ entry. takes_out entry id) later then live later else (id, pages) ∷ live later
live (Reduced limit now after least ∷ later) = live later
live (Purge id known ∷ later) = live later
live (Back id ∷ later) = live later

-- the number stands among these segments
abbrev pub has_number : List (ℕ × ℕ) → ℕ → Bool
has_number segments number = list_any (λ segment. number == segment.0) segments

-- the pages of these segments
abbrev pub pages_of : List (ℕ × ℕ) → ℕ
pages_of segments = sum_by (λ segment. segment.1) segments

-- granted pages: the pages of all live segments
abbrev pub granted : List Entry → ℕ
granted entries = pages_of (live entries)

-- how many Grants the list has
abbrev pub grants : List Entry → ℕ
grants entries = count_by is_grant entries

-- the live segments after one more entry: without the one that it takes out, and with the one that
-- it grants
abbrev pub live_after : List (ℕ × ℕ) → Entry → List (ℕ × ℕ)
live_after segments entry =
    filter (λ segment. not (takes_out entry segment.0)) segments ++ granted_by entry

-- granted pages fell by those of a live segment of this number
abbrev pub FellBySegment : List Entry → ℕ → ℕ → Type 0
FellBySegment before id after =
    (pages : ℕ) × Contains (live before) (id, pages) × (after + pages ≡ granted before)

-- granted pages after one more entry: a Grant adds its pages, a Purge and a Back take off those of
-- their segment, and a Reduced changes nothing
abbrev pub GrantedFollows : List Entry → Entry → ℕ → Type 0
GrantedFollows before (Grant id client pages limit) after = after ≡ granted before + pages
GrantedFollows before (Reduced limit now told least) after = after ≡ granted before
GrantedFollows before (Purge id known) after = FellBySegment before id after
GrantedFollows before (Back id) after = FellBySegment before id after

-- these segments were drawn: their numbers rise, from 1 to at most how many were drawn, and each
-- has a page
pub record AreDrawn (segments : List (ℕ × ℕ)) (drawn : ℕ) : Type 0 where
  pub rising : IsStrictlyIncreasing (map (λ segment. segment.0) segments)
  pub within : All (λ segment. (1 ≤ segment.0) × (segment.0 ≤ drawn)) segments
  pub sized : All (λ segment. 1 ≤ segment.1) segments
