-- The heaps that are kept are those of all clients.
use Rattle.std.specs.Prelude.{◌≡◌, ℕ, ◌==◌, ◌||◌, Bool, false, List, slice_index_or, Option, Some, None, MatchOption, unwrap_or}
use Rattle.std.specs.Ordering.{nat_cmp}
use Rattle.std.specs.BTreeMap.{is_at}
use Rattle.std.specs.Map.{lookup}
use Rattle.span_heap.specs.declared.run.Run.{Run}
use Rattle.span_heap.specs.Runs.{front_of}
use Rattle.span_heap.specs.Pick.{pick}
use Rattle.script_heaps.specs.declared.heaps.ScriptHeaps.{ScriptHeaps}
use Rattle.script_heaps.specs.Holding.{Holding, nothing, has, taken, after_free}
use Rattle.script_heaps.specs.Heaps.{Heaps, with_client, with_next, owner_of, piece_of}

-- what is kept of a client, or nothing
abbrev pub kept_at : List (ℕ × Holding) → ℕ → Holding
kept_at clients client = unwrap_or (lookup (is_at (nat_cmp client)) clients) nothing

-- what is kept is what each client has, who owns the pieces, and which segments came to a heap
pub record Shows (kept : ScriptHeaps) (heaps : Heaps) : Type 0 where
  pub clients : (client : ℕ) → kept_at kept.clients.entries client ≡ heaps.clients client
  pub owners : kept.owners.items ≡ heaps.owners
  pub owned : (id : ℕ) → slice_index_or kept.owned.items id false ≡ heaps.owned id

-- A search for n pages of a client picked no run, and nothing changed; or the first n pages of the run
-- that it picked are those of the next piece.
abbrev pub FindsNext : ScriptHeaps → Heaps → ℕ → ℕ → ℕ → Option Run → Type 0
FindsNext new heaps client n slack found =
    MatchOption (pick (heaps.clients client).runs n slack)
    ((found ≡ None) × Shows new heaps)
    (λ run. (found ≡ Some (front_of run n))
    × Shows new (with_next (with_client heaps client (taken (heaps.clients client) run n)) client (front_of run n)))

-- A free of a piece by its number: it is not there, and nothing changed; or it is freed, and the answer
-- is whether its segment is among the client's.
abbrev pub FreesNumbered : ScriptHeaps → Heaps → ℕ → Option Bool → Type 0
FreesNumbered new heaps number there =
    let owner = owner_of heaps number in
    let holding = heaps.clients owner.client in
    MatchOption (piece_of heaps number)
    ((there ≡ None) × Shows new heaps)
    (λ run. (there ≡ Some (has holding run.segment))
    × Shows new (with_client heaps owner.client (after_free holding owner.place run)))

-- the flag of a number is set, and the others stay
abbrev pub IsMarked : List Bool → List Bool → ℕ → Type 0
IsMarked old new id =
    (other : ℕ) → slice_index_or new other false ≡ (id == other || slice_index_or old other false)
