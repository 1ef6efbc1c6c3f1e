-- Whose a segment is, as the entries of a book tell it.
use Rattle.std.specs.Prelude.{ℕ, ◌==◌, Bool, false, not, ◌&&◌, List}
use Rattle.std.specs.List.{list_any}
use Rattle.discard_book.specs.declared.entry.Entry.{Entry}
use Rattle.discard_book.specs.declared.entry.Entry.TheVariants.{Grant, Reduced, Purge, Back}

-- the entry grants the segment of this number to this client
abbrev pub grants_to : ℕ → ℕ → Entry → Bool
grants_to client id (Grant number to pages limit) = number == id && to == client
grants_to client id (Reduced limit now after least) = false
grants_to client id (Purge number known) = false
grants_to client id (Back number) = false

-- the entry gives the segment of this number back
abbrev pub gives_back : ℕ → Entry → Bool
gives_back id (Grant number to pages limit) = false
gives_back id (Reduced limit now after least) = false
gives_back id (Purge number known) = false
gives_back id (Back number) = number == id

-- the segment of this number was granted to this client
abbrev pub is_granted_to : ℕ → ℕ → List Entry → Bool
is_granted_to client id entries = list_any (grants_to client id) entries

-- the segment of this number was given back
abbrev pub was_given_back : ℕ → List Entry → Bool
was_given_back id entries = list_any (gives_back id) entries

-- the segment of this number was granted to this client, and was not given back
abbrev pub is_with : ℕ → ℕ → List Entry → Bool
is_with client id entries = is_granted_to client id entries && not (was_given_back id entries)
