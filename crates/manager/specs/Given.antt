-- What a handle's own calls made of what is seen of it.
use Rattle.std.specs.Prelude.{◌≡◌, ◌⊎◌, ◌<◌, ℕ, List, [], ◌∷◌, ◌++◌, Option, Some, None, option_map}
use Rattle.units.specs.Count.{next_count}
use Rattle.block_pool.specs.Block.{page_count}
use Rattle.segment.specs.Owned.{Owned}
use Rattle.return_queue.specs.declared.note.Note.{Note}
use Rattle.manager.specs.Tokens.{with_grant}
use Rattle.manager.specs.Standing.{Held, Direct}

-- how many pages a block has, 0 where there is none
abbrev pub block_pages : Option (List ℕ) → ℕ
block_pages (Some block) = page_count block
block_pages None = 0

-- one note more was counted past the queue
abbrev pub with_direct : Note → Direct → Direct
with_direct note direct = record { count = next_count direct.count; client = note.client; id = note.id; pages = block_pages note.block }

-- the note of this return
abbrev pub note_of : ℕ → ℕ → Option (List ℕ) → Note
note_of client id block = record { client = client; id = id; block = block }

-- the handle's pass gave exactly this note to the queue, or it alone was counted past the queue
abbrev pub GivesNote : Note → Held → Held → Type 0
GivesNote note old new =
    ((new.queued ≡ old.queued ++ note ∷ []) × (new.direct ≡ old.direct))
    ⊎ ((new.queued ≡ old.queued) × (new.direct ≡ with_direct note old.direct))

-- The handle was granted this segment: its number is above each one before, and it and its shares count one grant more. All
-- else of it stays.
abbrev pub GrantsSegment : Owned → Held → Held → Type 0
GrantsSegment side old new =
    (old.greatest < side.id)
    × (new ≡ record old { shares = option_map with_grant old.shares; grants = next_count old.grants; greatest = side.id })
