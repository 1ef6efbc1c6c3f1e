-- What a granter took back of a client: which segments, in which order, each with its block or with none.
use Rattle.std.specs.Prelude.{◌≡◌, ◌⊎◌, ℕ, List, [], ◌∷◌, map, drop, Contains, Option, Some, None}
use Rattle.segment.specs.Owned.{Owned}
use Rattle.segment.specs.Ends.{GivesUp}
use Rattle.segment.specs.declared.giving.GiveUp.TheVariants as end
use Rattle.client.specs.GivingUp.{GoesGone}
use Rattle.client.specs.Lease.{Lease}
use Rattle.client.specs.Seen.{Seen}
use Rattle.client.specs.Pieces.{Part}
use Rattle.client.specs.Finding.{Adopts}
use Rattle.client.specs.Granting.{Session}

-- one return: the number of a segment, and its block, or none where it is gone
abbrev pub Return : Type 0
Return = ℕ × Option (List ℕ)

-- the granter took these returns of a client, one after the other, and nothing else happened to it
abbrev pub TookAll : {G : Type 0} → (ℕ → ℕ → Option (List ℕ) → G → G → Type 0) → ℕ → List Return → G → G → Type 0
TookAll took client [] old new = new ≡ old
TookAll {G} took client (one ∷ more) old new = (between : G) × took client one.0 one.1 old between × TookAll took client more between new

-- the return is that of this side: its own number, with the block that the side gave, or with none where it is gone as one of these sides
abbrev pub IsReturned : List Owned → Owned → Return → Type 0
IsReturned gone side (id, Some block) = (id ≡ side.id) × GivesUp side.phase side (end.Whole block)
IsReturned gone side (id, None) = (id ≡ side.id) × (lost : Owned) × GoesGone side lost × Contains gone lost

-- these are the returns of these segments, in their order, each with its block, or with none where it is gone as one of these sides
abbrev pub AreReturned : List Owned → List Lease → List Return → Type 0
AreReturned gone [] [] = Unit {0}
AreReturned gone (lease ∷ leases) (one ∷ more) = IsReturned gone lease.side one × AreReturned gone leases more
AreReturned gone leases returns = ⊥

-- the returns of these gone sides: their numbers, with no block
abbrev pub gone_returns : List Owned → List Return
gone_returns sides = map (λ (side : Owned). (side.id, None)) sides

-- those of the gone sides that a client has not told
abbrev pub untold_returns : Seen → List Return
untold_returns seen = gone_returns (drop seen.told seen.gone)

-- the granter granted this client, at the moment, the segment whose front is the piece
abbrev pub CameFrom : {G : Type 0} → (ℕ → ℕ → Owned → G → G → Type 0) → ℕ → ℕ → ℕ → Part → Seen → Seen → G → G → Type 0
CameFrom granted client now pages part before after old new = (side : Owned) × Adopts side pages part before after × granted client now side old new

-- no segment came: the granter granted none and took none back, or it granted one and took exactly that one back
abbrev pub CameToNothing : {G : Type 0} → (ℕ → ℕ → Owned → G → G → Type 0) → (ℕ → ℕ → Option (List ℕ) → G → G → Type 0) → (G → ℕ) → (G → ℕ) → ℕ → ℕ → G → G → Type 0
CameToNothing {G} granted took grants returns client now old new =
    ((grants new ≡ grants old) × (returns new ≡ returns old))
    ⊎ ((side : Owned) × (between : G) × granted client now side old between × took client side.id (Some side.bytes) between new)

-- An allocation asked the granter for nothing, or it told the gone sides that were not told, and then the granter granted it, at the moment, the
-- segment whose front is the piece.
abbrev pub AskedFor : {G : Type 0} → (ℕ → ℕ → Owned → G → G → Type 0) → (ℕ → ℕ → Option (List ℕ) → G → G → Type 0) → ℕ → ℕ → Part → Session G → Session G → Type 0
AskedFor {G} granted took now pages part old new =
    (new.granter ≡ old.granter)
    ⊎ ((released : Seen) × (between : G) × TookAll took old.client.number (gone_returns (drop old.client.told released.gone)) old.granter between
    × CameFrom granted old.client.number now pages part released new.client between new.granter)
