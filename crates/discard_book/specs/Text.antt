-- The text of a book: a line for each entry.
use Rattle.std.specs.Prelude.{ℕ, List, [], ◌∷◌, ◌++◌, Option, Some, None, codes, decimal}
use Rattle.std.specs.List.{flat_map}
use Rattle.discard_book.specs.declared.entry.Entry.{Entry}
use Rattle.discard_book.specs.declared.entry.Entry.TheVariants.{Grant, Reduced, Purge, Back}

-- a space and a number
abbrev pub spaced : ℕ → List ℕ
spaced number = codes " " ++ decimal number

-- the same, with a dash where there is none
abbrev pub spaced_or_dash : Option ℕ → List ℕ
spaced_or_dash None = codes " -"
spaced_or_dash (Some number) = spaced number

-- the words of an entry
abbrev pub words_of : Entry → List ℕ
words_of (Grant id client pages limit) =
    codes "grant" ++ spaced id ++ spaced client ++ spaced pages ++ spaced limit
words_of (Reduced limit now after least) =
    codes "reduced" ++ spaced limit ++ spaced now ++ spaced after ++ spaced_or_dash least
words_of (Purge id known) = codes "purge" ++ spaced id ++ spaced known
words_of (Back id) = codes "back" ++ spaced id

-- an entry's line ends with LF
abbrev pub line_of : Entry → List ℕ
line_of entry = words_of entry ++ 10 ∷ []

-- the text of a book: a line for each entry, in their order
abbrev pub text_of : List Entry → List ℕ
text_of entries = flat_map line_of entries
