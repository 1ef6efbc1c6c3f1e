-- No client of a script has anything yet.
use Rattle.std.specs.Prelude.{◌≡◌, ℕ, Bool, false, [], slice_index_or}
use Rattle.replay_real.specs.declared.heaps.Heaps.{Heaps}

-- no piece came, no client has a heap, and no segment came to one
pub record AreEmpty (heaps : Heaps) : Type 0 where
  pub owners : heaps.owners.items ≡ []
  pub clients : heaps.clients.entries ≡ []
  pub owned : heaps.owned.items ≡ []

-- a segment came to a client's heap, also where it left
abbrev pub is_of_heap : Heaps → ℕ → Bool
is_of_heap heaps id = slice_index_or heaps.owned.items id false
