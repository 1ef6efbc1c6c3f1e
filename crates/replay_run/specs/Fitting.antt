-- The lengths of an entry's numbers.
use Rattle.std.specs.Prelude.{ℕ, ◌<◌, ◌^◌, IfSome}
use Rattle.discard_book.specs.declared.entry.Entry.{Entry}
use Rattle.discard_book.specs.declared.entry.Entry.TheVariants.{Grant, Reduced, Purge, Back}

-- a number has at most 128 bits
abbrev pub IsShort : ℕ → Type 0
IsShort number = number < 2 ^ 128

-- each number of the entry is short
abbrev pub Fits : Entry → Type 0
Fits (Grant id client pages limit) = IsShort id × IsShort client × IsShort pages × IsShort limit
Fits (Reduced limit now after least) =
    IsShort limit × IsShort now × IsShort after × IfSome least IsShort
Fits (Purge id known) = IsShort id × IsShort known
Fits (Back id) = IsShort id
