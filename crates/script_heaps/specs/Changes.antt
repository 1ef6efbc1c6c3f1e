-- What the calls of a client's heap change.
use Rattle.std.specs.Prelude.{◌≡◌, ℕ, Bool, length, Option, Some, None, MatchOption}
use Rattle.span_heap.specs.declared.run.Run.{Run}
use Rattle.span_heap.specs.Runs.{front_of}
use Rattle.span_heap.specs.Pick.{pick}
use Rattle.script_heaps.specs.Holding.{Holding, has, piece_at, taken, with_piece, after_free}

-- A search for n pages picked no run, and nothing changed; or the first n pages of the run that it
-- picked are those of a piece, which came last, and whose place is told.
abbrev pub Searches : Holding → Holding → ℕ → ℕ → Option (ℕ × Run) → Type 0
Searches old new n slack found =
    MatchOption (pick old.runs n slack)
    ((found ≡ None) × (new ≡ old))
    (λ run. (found ≡ Some (length old.pieces, front_of run n))
    × (new ≡ with_piece (taken old run n) (front_of run n)))

-- A free of the piece at a place: it is not there, and nothing changed; or it is freed, and the answer
-- is whether its segment is among the client's.
abbrev pub FreesPiece : Holding → Holding → ℕ → Option Bool → Type 0
FreesPiece old new place there =
    MatchOption (piece_at old place)
    ((there ≡ None) × (new ≡ old))
    (λ run. (there ≡ Some (has old run.segment)) × (new ≡ after_free old place run))
