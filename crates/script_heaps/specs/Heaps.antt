-- The heaps of all clients of a script.
use Rattle.std.specs.Prelude.{ℕ, ◌++◌, ◌==◌, ◌||◌, Bool, false, List, [], ◌∷◌, length, slice_index_or, Option, if◌then◌else◌}
use Rattle.span_heap.specs.declared.run.Run.{Run}
use Rattle.script_heaps.specs.declared.heaps.PieceOwner.{PieceOwner}
use Rattle.script_heaps.specs.Holding.{Holding, nothing, piece_at, with_piece}

-- What each client has; by the number of each piece, from 1 on, the client that owns it, and its
-- place among the client's; and whether a segment was granted to a client's heap, also where it left.
pub record Heaps : Type 0 where
  pub clients : ℕ → Holding
  pub owners : List PieceOwner
  pub owned : ℕ → Bool

-- the client 0, which has no piece, stands under the number 0, which is never drawn
abbrev pub nobody : PieceOwner
nobody = record { client = 0; place = 0 }

-- no client has anything
abbrev pub no_heaps : Heaps
no_heaps = record { clients = λ client. nothing; owners = nobody ∷ []; owned = λ id. false }

-- a client has something else
abbrev pub with_client : Heaps → ℕ → Holding → Heaps
with_client heaps client holding =
    record heaps { clients = λ other. if client == other then holding else heaps.clients other }

-- the number of the next piece
abbrev pub next_piece : Heaps → ℕ
next_piece heaps = length heaps.owners

-- the owner of a piece
abbrev pub owner_of : Heaps → ℕ → PieceOwner
owner_of heaps number = slice_index_or heaps.owners number nobody

-- the pages of a piece, or none where it is not there
abbrev pub piece_of : Heaps → ℕ → Option Run
piece_of heaps number =
    let owner = owner_of heaps number in
    piece_at (heaps.clients owner.client) owner.place

-- the next piece comes for a client, and has these pages
abbrev pub with_next : Heaps → ℕ → Run → Heaps
with_next heaps client run =
    let holding = heaps.clients client in
    record heaps {
      clients = λ other. if client == other then with_piece holding run else heaps.clients other;
      owners = heaps.owners ++ record { client = client; place = length holding.pieces } ∷ [];
    }

-- a segment was granted to a client's heap
abbrev pub with_owned : Heaps → ℕ → Heaps
with_owned heaps id = record heaps { owned = λ other. id == other || heaps.owned other }
