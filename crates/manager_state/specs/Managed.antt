-- What is seen of a manager's state.
use Rattle.std.specs.Prelude.{ℕ, List}
use Rattle.segment.specs.Warded.{Warded}
use Rattle.block_pool.specs.Stock.{Stock}
use Rattle.discard_book.specs.Log.{Log}
use Rattle.discard_book.specs.declared.entry.Entry.{Entry}
use Rattle.lru_reduce.specs.Wards.{Wards}

-- the entries of its book, the oldest first; its limit of pages; the wardens of the live segments, by rising number; and the
-- stock of its pool
pub record Managed : Type 0 where
  pub entries : List Entry
  pub limit : ℕ
  pub sides : List Warded
  pub stock : Stock

-- what is seen of a limit, a book, an order and a pool together
abbrev pub managed : ℕ → Log → Wards → Stock → Managed
managed limit log wards stock = record { entries = log.entries; limit = limit; sides = wards.sides; stock = stock }
