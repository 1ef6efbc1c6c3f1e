-- What a manager keeps beside its book, and how the two agree.
use Rattle.std.specs.Prelude.{◌≡◌, ℕ, ◌<◌, ◌≤◌, ◌==◌, nat_lt, Bool, true, false, ◌&&◌, if◌then◌else◌, List, [], ◌∷◌, ◌++◌, length, slice_index_or}
use Rattle.std.specs.List.{list_any}
use Rattle.std.specs.Ordering.{nat_cmp, ordering_then, is_eq}
use Rattle.std.specs.declared.cmp.Ordering.{Ordering}
use Rattle.discard_book.specs.Live.{live, has_number, grants}
use Rattle.discard_book.specs.Log.{Log}
use Rattle.discard_book.specs.declared.entry.Entry.{Entry}
use Rattle.discard_book.specs.declared.entry.Entry.TheVariants.{Back}
use Rattle.lru_reduce.specs.Wards.{Wards, segments_of, without_ward}
use Rattle.manager_state.specs.Managed.{Managed}
use Rattle.manager_state.specs.Clients.{was_given_back, is_with}

-- The client of a number, in a table that has one for each number from 1 on. It is 0 once the number was given back, and
-- where there is no such number.
abbrev pub client_at : ℕ → List ℕ → ℕ
client_at id table = slice_index_or (0 ∷ table) id 0

-- the table by number tells whose each segment is
pub record Tells (entries : List Entry) (table : List ℕ) : Type 0 where
  pub numbers : length table ≡ grants entries
  pub clients : (client id : ℕ) → (nat_lt 0 client && (client_at id table == client)) ≡ is_with client id entries
  pub fresh : (id : ℕ) → grants entries < id → was_given_back id entries ≡ false

-- The order has the live segments of the book, and the table tells whose each is. Each live segment has a promised spare place
-- in the book, for its Purge or its Back.
pub record Agrees (log : Log) (wards : Wards) (table : List ℕ) (promised : ℕ) : Type 0 where
  pub live : live log.entries ≡ segments_of wards.sides
  pub told : Tells log.entries table
  pub served : length wards.sides ≤ promised
  pub spare : promised ≤ log.spare
  pub drawn : promised ≤ length table

-- the order of std's set of a client and a number each: by client, and then by number
abbrev pub cmp_pairs : ℕ × ℕ → ℕ × ℕ → Ordering
cmp_pairs x y = ordering_then (nat_cmp x.0 y.0) (nat_cmp x.1 y.1)

-- this number of this client stands among these
abbrev pub has_pair : List (ℕ × ℕ) → ℕ → ℕ → Bool
has_pair numbers client id = list_any (λ (p : ℕ × ℕ). is_eq (cmp_pairs (client, id) p)) numbers

-- the number of each live segment stands among these, with the client that has it
abbrev pub KeepsLive : List Entry → List (ℕ × ℕ) → Type 0
KeepsLive entries numbers = (client id : ℕ) → is_with client id entries ≡ true → has_number (live entries) id ≡ true → has_pair numbers client id ≡ true

-- the numbers above the last that was drawn stay
abbrev pub KeepsComing : ℕ → List (ℕ × ℕ) → List (ℕ × ℕ) → Type 0
KeepsComing drawn old new = (client id : ℕ) → drawn < id → has_pair old client id ≡ true → has_pair new client id ≡ true

-- One number was asked for where a client is removed: its segment was counted off exactly where it was with the client and live.
pub record LetsGo (client id : ℕ) (answer : Bool) (old new : Managed) : Type 0 where
  pub told : answer ≡ (is_with client id old.entries && has_number (live old.entries) id)
  pub entries : new.entries ≡ (if answer then old.entries ++ Back id ∷ [] else old.entries)
  pub sides : new.sides ≡ (if answer then without_ward id old.sides else old.sides)
  pub stock : new.stock ≡ old.stock
  pub limit : new.limit ≡ old.limit
