-- What one turn under a manager's lock makes of the desk.
use Rattle.std.specs.Prelude.{◌≡◌, ℕ, true, false, List, Option, Some, None}
use Rattle.block_pool.specs.Stock.{is_kept}
use Rattle.segment.specs.Owned.{Owned}
use Rattle.manager_state.specs.Managed.{Managed}
use Rattle.manager_state.specs.Calls.{Grants, GrantsWith}

-- what is seen of a desk behind the lock: the state, and the one taker of the queue
pub record DeskView (T : Type 0) : Type 0 where
  pub state : Managed
  pub taker : T

-- a client was granted a segment with the block that was brought, or, where none was, with one that the pool kept
abbrev pub GrantsBy : ℕ → ℕ → ℕ → Option (List ℕ) → Owned → Managed → Managed → Type 0
GrantsBy client pages now (Some block) side old new = GrantsWith client block now side old new
GrantsBy client pages now None side old new = (is_kept pages old.stock.kept ≡ true) × Grants client pages now side old new

-- no block was brought, and the pool keeps none of these pages
abbrev pub LacksBlock : ℕ → Option (List ℕ) → Managed → Type 0
LacksBlock pages brought state = (brought ≡ None) × (is_kept pages state.stock.kept ≡ false)
