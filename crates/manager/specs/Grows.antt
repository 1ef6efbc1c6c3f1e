-- How the book of a manager grows.
use Rattle.std.specs.Prelude.{◌≡◌, ℕ, ◌+◌, ◌==◌, ◌≤◌, Bool, true, false, ◌&&◌, List, [], ◌∷◌, ◌++◌, count_by, Option, IfSome, is_some}
use Rattle.discard_book.specs.declared.entry.Entry.{Entry}
use Rattle.discard_book.specs.declared.entry.Entry.TheVariants.{Grant, Reduced, Purge, Back}
use Rattle.discard_book.specs.Live.{grants}
use Rattle.manager_state.specs.Managed.{Managed}
use Rattle.manager.specs.Tokens.{Tokens}

-- the entry, where it is a Grant, carries this limit
abbrev pub carries : ℕ → Entry → Bool
carries limit (Grant id client pages to) = to == limit
carries limit (Reduced to now after least) = true
carries limit (Purge id known) = true
carries limit (Back id) = true

-- the entry is a Reduced with this limit
abbrev pub is_round : ℕ → Entry → Bool
is_round limit (Grant id client pages to) = false
is_round limit (Reduced to now after least) = to == limit
is_round limit (Purge id known) = false
is_round limit (Back id) = false

-- each Grant carries this limit
abbrev pub all_carry : ℕ → List Entry → Bool
all_carry limit [] = true
all_carry limit (entry ∷ more) = carries limit entry && all_carry limit more

-- A book grew by some entries, under one limit: each Grant of them carries it, they have so many Grants, and at least so many
-- Reduced with it.
pub record Grows (limit granted rounds : ℕ) (before after : List Entry) : Type 0 where
  pub more : List Entry
  pub follows : after ≡ before ++ more
  pub carry : all_carry limit more ≡ true
  pub granted_is : grants more ≡ granted
  pub rounds_are : rounds ≤ count_by (is_round limit) more

-- The book grew from the entries handed in. Where there are totals, they are its Grants and its enforcements since.
pub record IsAccounted (limit : ℕ) (handed : List Entry) (totals : Option Tokens) (entries : List Entry) : Type 0 where
  pub granted : ℕ
  pub rounds : ℕ
  pub grows : Grows limit granted rounds handed entries
  pub told : IfSome totals (λ t. (t.grants ≡ granted) × (t.rounds ≡ rounds))

-- What lies behind a manager's lock keeps what was fixed when the manager was made: the limit, the entries handed in, and whether
-- totals are counted.
pub record IsSoundDesk (limit : ℕ) (handed : List Entry) (counts : Bool) (totals : Option Tokens) (state : Managed) : Type 0 where
  pub same : state.limit ≡ limit
  pub account : IsAccounted limit handed totals state.entries
  pub counted : is_some totals ≡ counts

-- the book grew under any limit by no Grant, and the state's limit stays
abbrev pub GrantsNone : Managed → Managed → Type 0
GrantsNone old new = ((limit : ℕ) → Grows limit 0 0 old.entries new.entries) × (new.limit ≡ old.limit)

-- the book grew by one Grant, of this number, which is one more than it had Grants; the state's limit stays
pub record GrantsOne (id : ℕ) (old new : Managed) : Type 0 where
  pub grown : Grows old.limit 1 0 old.entries new.entries
  pub limit : new.limit ≡ old.limit
  pub number : id ≡ grants old.entries + 1
