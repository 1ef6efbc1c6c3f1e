-- What is seen of a book, and what an entry makes of it.
use Rattle.std.specs.Prelude.{◌≡◌, ℕ, ◌+◌, List, [], ◌∷◌, ◌++◌}
use Rattle.discard_book.specs.declared.entry.Entry.{Entry}
use Rattle.discard_book.specs.Live.{live, granted, live_after, GrantedFollows}
use Rattle.discard_book.specs.Legal.{IsLegal}

-- what a contract sees of a book: its entries, the oldest first, and how many more it can take
-- without memory
pub record Log : Type 0 where
  pub entries : List Entry
  pub spare : ℕ

-- the entry was added last, in a spare place: what this makes of live segments and granted pages
pub record AddsEntry (old new : Log) (entry : Entry) : Type 0 where
  pub entries : new.entries ≡ old.entries ++ entry ∷ []
  pub spare : new.spare + 1 ≡ old.spare
  pub live : live new.entries ≡ live_after (live old.entries) entry
  pub granted : GrantedFollows old.entries entry (granted new.entries)
  pub legal : IsLegal new.entries
