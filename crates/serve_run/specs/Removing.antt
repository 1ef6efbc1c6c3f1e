-- What the removal of clients makes of a manager's state.
use Rattle.std.specs.Prelude.{◌≡◌, ℕ, true, false, List, ◌++◌, map}
use Rattle.discard_book.specs.declared.entry.Entry.{Entry}
use Rattle.discard_book.specs.declared.entry.Entry.TheVariants as entry
use Rattle.discard_book.specs.Live.{live, granted, has_number}
use Rattle.discard_book.specs.Legal.{IsLegal}
use Rattle.manager_state.specs.Managed.{Managed}
use Rattle.manager_state.specs.Clients.{is_granted_to}
use Rattle.serve_run.specs.Ending.{EndEachOnce}

-- a book gained Backs alone, of these numbers
abbrev pub GainsBacks : List ℕ → List Entry → List Entry → Type 0
GainsBacks ids before after = after ≡ before ++ map entry.Back ids

-- What was live of a client was counted off. What is live still was live before, and is not the client's.
pub record CountsOff (client : ℕ) (old new : Managed) : Type 0 where
  pub ids : List ℕ
  pub backs : GainsBacks ids old.entries new.entries
  pub limit : new.limit ≡ old.limit
  pub legal : IsLegal new.entries
  pub was_live : (id : ℕ) → has_number (live new.entries) id ≡ true → has_number (live old.entries) id ≡ true
  pub others : (id : ℕ) → has_number (live new.entries) id ≡ true → is_granted_to client id old.entries ≡ false

-- All clients were removed: the legal book gained Backs alone, nothing is granted any more, and each Grant has exactly one end.
pub record RemovesAll (old new : Managed) : Type 0 where
  pub ids : List ℕ
  pub backs : GainsBacks ids old.entries new.entries
  pub limit : new.limit ≡ old.limit
  pub legal : IsLegal new.entries
  pub none : granted new.entries ≡ 0
  pub once : EndEachOnce new.entries
