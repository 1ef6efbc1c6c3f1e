-- Legal books: which entry fits after which others.
use Rattle.std.specs.Prelude.{◌≡◌, ℕ, ◌+◌, ◌-◌, ◌==◌, nat_le, Bool, true, false, not, ◌&&◌, ◌||◌, List, [], ◌∷◌, ◌++◌, length, Option, Some, None, slice_get}
use Rattle.units.specs.declared.TheConstants.{MOST_PAGES}
use Rattle.units.specs.Moment.{is_moment}
use Rattle.discard_book.specs.declared.entry.Entry.{Entry}
use Rattle.discard_book.specs.declared.entry.Entry.TheVariants.{Grant, Reduced, Purge, Back}
use Rattle.discard_book.specs.Live.{live, has_number, granted, grants}

-- room for a grant: what a limit leaves beside its pages; `-` ends at 0
abbrev pub room : ℕ → ℕ → ℕ
room limit pages = limit - pages

-- the entry is a Reduced with this limit
abbrev pub is_reduced_to : ℕ → Option Entry → Bool
is_reduced_to limit (Some (Reduced to now after least)) = to == limit
is_reduced_to limit other = false

-- the last entry
abbrev pub last : List Entry → Option Entry
last entries = slice_get entries (length entries - 1)

-- there is no segment
abbrev pub is_empty : List (ℕ × ℕ) → Bool
is_empty [] = true
is_empty (segment ∷ more) = false

-- Where a reduction may stop. It tells None exactly where nothing is live. Otherwise its limit is
-- met, or the least known use is at or after its moment.
abbrev pub may_stop : List Entry → ℕ → ℕ → Option ℕ → Bool
may_stop before limit now None = is_empty (live before)
may_stop before limit now (Some least) =
    not (is_empty (live before)) && (nat_le (granted before) limit || nat_le now least)

-- granted pages leave room for a grant, or a reduction to its room was made directly before
abbrev pub has_room : List Entry → ℕ → Bool
has_room before room = nat_le (granted before) room || is_reduced_to room (last before)

-- whether an entry may come after these
abbrev pub fits_after : List Entry → Entry → Bool
fits_after before (Grant id client pages limit) =
    id == grants before + 1 && nat_le 1 client && nat_le 1 pages && nat_le pages MOST_PAGES
    && has_room before (room limit pages)
fits_after before (Reduced limit now after least) =
    after == granted before && may_stop before limit now least
fits_after before (Purge id known) = has_number (live before) id && is_moment known
fits_after before (Back id) = has_number (live before) id

-- a legal book: each entry fits after the entries before it
abbrev pub IsLegal : List Entry → Type 0
IsLegal entries = (before : List Entry) (entry : Entry) (later : List Entry)
    → entries ≡ before ++ entry ∷ later → fits_after before entry ≡ true
