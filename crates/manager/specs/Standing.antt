-- What is seen of a handle.
use Rattle.std.specs.Prelude.{◌≡◌, ℕ, ◌+◌, ◌-◌, ◌^◌, ◌<◌, List, Option}
use Rattle.return_queue.specs.declared.note.Note.{Note}
use Rattle.manager.specs.Tokens.{Tokens}

-- the notes that were counted past the queue, under the lock: how many; and of the last one its client, its number, and the pages of
-- its block, 0 where it had none. That is all of a note that its return makes anything of.
pub record Direct : Type 0 where
  pub count : ℕ
  pub client : ℕ
  pub id : ℕ
  pub pages : ℕ

abbrev pub none_direct : Direct
none_direct = record { count = 0; client = 0; id = 0; pages = 0 }

-- what a contract sees of a handle: its shares, or None where it has none; the grants that these counted when it was made; how many
-- grants and returns it made since; the greatest number that it was granted, or 0; the notes that its pass gave to the queue; and
-- those of its notes that were counted past the queue
pub record Held : Type 0 where
  pub shares : Option Tokens
  pub base : ℕ
  pub grants : ℕ
  pub returns : ℕ
  pub greatest : ℕ
  pub queued : List Note
  pub direct : Direct

-- while a count is below the last value of u64, it tells by how much the shares' grants rose from what they were at first
abbrev pub Tracks : ℕ → ℕ → Tokens → Type 0
Tracks base grants shares = grants < 2 ^ 64 - 1 → shares.grants ≡ base + grants
