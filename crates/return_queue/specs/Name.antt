-- Which queue it is.
use Rattle.std.specs.Prelude.{ℕ, Option, None}
use Rattle.atomic_table.specs.Seated.{TableId}

-- what tells a queue from all others: the table that it stands on, or None where it keeps no note; and its capacity
pub record QueueName : Type 0 where
  pub table : Option TableId
  pub most : ℕ

-- the queue that keeps no note
abbrev pub no_queue : QueueName
no_queue = record { table = None; most = 0 }
