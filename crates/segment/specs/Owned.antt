-- What is seen of an owner's side, and how its calls change that.
use Rattle.std.specs.Prelude.{◌≡◌, ◌≤◌, ℕ, ◌+◌, ◌*◌, Bool, true, false, List, [], length, Option, Some, None, MatchBool, max}
use Rattle.units.specs.declared.TheConstants.{PAGE, LAST_MOMENT, MOST_PAGES}
use Rattle.block_pool.specs.Block.{page_count, IsZero}
use Rattle.segment_rule.specs.declared.view.Stage.{Stage}
use Rattle.segment_rule.specs.declared.view.Stage.TheVariants as stage
use Rattle.segment_rule.specs.declared.view.OwnerView.{OwnerView}
pub use Rattle.segment_rule.specs.Seats.{TableId}
use Rattle.segment.specs.declared.owner.Phase.{Phase}
use Rattle.segment.specs.declared.owner.Phase.TheVariants.{Held, Idle, Gone}
use Rattle.segment.specs.declared.owner.Lock.{Lock}
use Rattle.segment.specs.declared.owner.Lock.TheVariants as answer

-- What is seen of an owner's side: the table that its segment's word and home stand in, which only its own warden shares; its
-- number and pages, its phase, the stamp of its last unlock and the bytes left then, its block's bytes while it holds, and how
-- many steps it has made on the word.
pub record Owned : Type 0 where
  pub table : TableId
  pub id : ℕ
  pub pages : ℕ
  pub phase : Phase
  pub last : ℕ
  pub left : List ℕ
  pub bytes : List ℕ
  pub steps : ℕ

-- a new side at a table, which holds this block
abbrev pub new_owner : TableId → ℕ → List ℕ → Owned
new_owner table id block = record { table = table; id = id; pages = page_count block; phase = Held; last = 0; left = []; bytes = block; steps = 0 }

-- the bytes of the block in its hand, if there is one
abbrev pub bytes_of : Option (List ℕ) → List ℕ
bytes_of (Some b) = b
bytes_of None = []

-- the stage of its seat in this phase
abbrev pub stage_of : Phase → Stage
stage_of Held = stage.Held
stage_of Idle = stage.Idle
stage_of Gone = stage.Gone

-- the block is in its hand exactly while it holds
abbrev pub HasBlock : Phase → ℕ → Option (List ℕ) → Type 0
HasBlock Held pages block = (b : List ℕ) × (block ≡ Some b) × (length b ≡ PAGE * pages)
HasBlock Idle pages block = block ≡ None
HasBlock Gone pages block = block ≡ None

-- a side agrees with its seat, and has its block while it holds
pub record IsOwned (seat : OwnerView) (block : Option (List ℕ)) (id pages : ℕ) (phase : Phase) (last : ℕ) : Type 0 where
  pub number : seat.id ≡ id
  pub size : seat.pages ≡ pages
  pub least : 1 ≤ pages
  pub most : pages ≤ MOST_PAGES
  pub stage : seat.phase ≡ stage_of phase
  pub apart : seat.apart ≡ true
  pub stamp : seat.last ≡ last
  pub timely : last ≤ LAST_MOMENT
  pub holds : HasBlock phase pages block

-- After a lock: a side that was gone is as before. Another made one step: it holds the bytes left at its last unlock, or it
-- found the segment purged and is gone.
abbrev pub AfterLock : Phase → Lock → Owned → Owned → Type 0
AfterLock Gone result old new = (result ≡ answer.Gone) × (new ≡ old)
AfterLock other answer.Held old new = new ≡ record old { phase = Held; bytes = old.left; steps = old.steps + 1 }
AfterLock other answer.Gone old new = new ≡ record old { phase = Gone; steps = old.steps + 1 }

-- after an unlock at a moment, one step: the side is idle, its stamp has not fallen, and its bytes are left
abbrev pub after_unlock : ℕ → Owned → Owned
after_unlock now old = record old { phase = Idle; last = max now old.last; left = old.bytes; bytes = []; steps = old.steps + 1 }

-- After a look: a side that holds or is gone is as before. An idle one made one step, and is gone where it found the segment
-- purged.
abbrev pub AfterLook : Phase → Bool → Owned → Owned → Type 0
AfterLook Held result old new = (result ≡ true) × (new ≡ old)
AfterLook Gone result old new = (result ≡ false) × (new ≡ old)
AfterLook Idle result old new = MatchBool result (new ≡ record old { steps = old.steps + 1 }) (new ≡ record old { phase = Gone; steps = old.steps + 1 })

-- the bytes of a side that holds are whole pages, at least one
pub record HasPages (side : Owned) : Type 0 where
  pub whole : length side.bytes ≡ PAGE * side.pages
  pub least : 1 ≤ side.pages
  pub most : side.pages ≤ MOST_PAGES

-- a side as it is granted: it holds a segment of this many pages, all zero
pub record IsGranted (count : ℕ) (side : Owned) : Type 0 where
  pub held : side.phase ≡ Held
  pub sized : side.pages ≡ count
  pub zero_bytes : IsZero count side.bytes
