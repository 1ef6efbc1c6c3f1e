-- The table by number in which a book finds its live segments.
use Rattle.std.specs.Prelude.{◌≡◌, ℕ, ◌+◌, ◌-◌, ◌==◌, ◌≤◌, if◌then◌else◌, List, [], ◌∷◌, ◌++◌, length, slice_set}
use Rattle.units.specs.declared.TheConstants.{MOST_PAGES}
use Rattle.discard_book.specs.declared.entry.Entry.{Entry}
use Rattle.discard_book.specs.declared.entry.Entry.TheVariants.{Grant, Reduced, Purge, Back}
use Rattle.discard_book.specs.Live.{live, grants}
use Rattle.discard_book.specs.Legal.{IsLegal}

-- the segments of a table that has the pages of each number from the first on, and 0 where it is
-- not live
abbrev pub numbered : ℕ → List ℕ → List (ℕ × ℕ)
numbered first [] = []
numbered first (pages ∷ more) =
    if pages == 0 then numbered (first + 1) more else (first, pages) ∷ numbered (first + 1) more

-- the table after one more entry: a Grant draws the next number, and a number that is taken out has
-- no pages
abbrev pub table_after : List ℕ → Entry → List ℕ
table_after table (Grant id client pages limit) = table ++ pages ∷ []
table_after table (Reduced limit now after least) = table
table_after table (Purge id known) = slice_set table (id - 1) 0
table_after table (Back id) = slice_set table (id - 1) 0

-- the number has a place in the table
abbrev pub HasPlace : List ℕ → ℕ → Type 0
HasPlace table number = (1 ≤ number) × (number ≤ length table)

-- the table can follow an entry
abbrev pub CanFollow : List ℕ → Entry → Type 0
CanFollow table (Grant id client pages limit) = pages ≤ MOST_PAGES
CanFollow table (Reduced limit now after least) = Unit {0}
CanFollow table (Purge id known) = HasPlace table id
CanFollow table (Back id) = HasPlace table id

-- what a book keeps beside its entries: they are legal, and the table has each number drawn, with
-- the pages of those that are live
pub record Keeps (entries : List Entry) (table : List ℕ) : Type 0 where
  pub legal : IsLegal entries
  pub segments : live entries ≡ numbered 1 table
  pub numbers : length table ≡ grants entries
