use Rattle.std.proofs.Common.{◌≡◌, ◌-◌, ℕ, List, ◌++◌, None}
use Rattle.std.specs.List.{All, last_or}
use Rattle.std.specs.Prelude.{IsFalse}
use Rattle.free_lists.specs.Lists.{list_of}
use Rattle.span_heap.specs.Pick.{fits}
use Rattle.span_heap.specs.Placed.{run_at, rank}
use Rattle.span_heap.proofs.by_class.pick_long.Given as goal

abbrev pub invariant-loop-at : goal.invariant-loop-at
invariant-loop-at l = (older : List ℕ) × (newer : List ℕ) × (list_of l.lists 256 ≡ older ++ newer) × (l.at ≡ last_or None older)
    × All (λ place. IsFalse (fits l.pages (l.most - l.pages) (run_at l.runs place))) newer

abbrev pub decreases-loop-at : goal.decreases-loop-at
decreases-loop-at l = rank (list_of l.lists 256) l.at
