-- The report of a served run.
use Rattle.std.specs.Prelude.{ℕ, List, ◌++◌, codes, decimal}
use Rattle.std.specs.List.{flat_map}
use Rattle.discard_book.specs.declared.entry.Entry.{Entry}
use Rattle.discard_book.specs.Text.{text_of}
use Rattle.serve_texts.specs.declared.tally.Tally.{Tally}

-- what a number is, and the number
abbrev pub told : List ℕ → ℕ → List ℕ
told name number = name ++ decimal number

-- who asked, and how often
abbrev pub asked_words : Tally → List ℕ
asked_words t = told (codes "client ") t.client ++ told (codes " requests ") t.requests

-- how the tiles were come by
abbrev pub shown_words : Tally → List ℕ
shown_words t =
    told (codes " first ") t.first
    ++ told (codes " kept ") t.kept
    ++ told (codes " rebuilt ") t.rebuilt
    ++ told (codes " again ") t.again

-- a client's line: what it asked, what came of it, and how many segments it was granted
abbrev pub tally_line : Tally → List ℕ
tally_line t = asked_words t ++ shown_words t ++ told (codes " grants ") t.grants ++ codes "\n"

-- a line for each client, in their order
abbrev pub tally_lines : List Tally → List ℕ
tally_lines tallies = flat_map tally_line tallies

-- the line of the granted pages
abbrev pub granted_line : ℕ → List ℕ
granted_line granted = told (codes "granted ") granted ++ codes "\n"

-- the report: the book's text, the clients' lines, and the granted pages
abbrev pub report : List Entry → List Tally → ℕ → List ℕ
report book tallies granted = text_of book ++ tally_lines tallies ++ granted_line granted
