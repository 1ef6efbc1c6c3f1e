-- How the segments of a book end.
use Rattle.std.specs.Prelude.{◌≡◌, ℕ, List, [], ◌∷◌, ◌++◌, count_by}
use Rattle.discard_book.specs.declared.entry.Entry.{Entry}
use Rattle.discard_book.specs.declared.entry.Entry.TheVariants.{Grant}
use Rattle.discard_book.specs.Live.{live, takes_out}
use Rattle.discard_book.specs.Legal.{IsLegal}

-- how many Purges and Backs of a number stand among these entries
abbrev pub ends_of : ℕ → List Entry → ℕ
ends_of id entries = count_by (λ entry. takes_out entry id) entries

-- each Grant of the book has exactly one later Purge or Back of its number
abbrev pub EndEachOnce : List Entry → Type 0
EndEachOnce entries = (before later : List Entry) (id client pages limit : ℕ)
    → entries ≡ before ++ Grant id client pages limit ∷ later → ends_of id later ≡ 1

-- in a legal book in which nothing is live each Grant has exactly one end
abbrev pub EachGrantEnds : Type 0
EachGrantEnds = (entries : List Entry) → IsLegal entries → live entries ≡ [] → EndEachOnce entries
