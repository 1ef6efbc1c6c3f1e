use Rattle.std.proofs.Common.{◌≡◌, ℕ, List, ◌++◌, None, map, reverse}
use Rattle.std.specs.List.{last_or}
use Rattle.free_lists.specs.Lists.{list_of}
use Rattle.span_heap.specs.Placed.{run_at, rank}
use Rattle.span_heap.proofs.placed.latest_first.Given as goal

abbrev pub invariant-loop-at : goal.invariant-loop-at
invariant-loop-at l = (older : List ℕ) × (newer : List ℕ) × (list_of l.order 1 ≡ older ++ newer) × (l.at ≡ last_or None older)
    × (l.found.items ≡ reverse (map (run_at l.runs) newer))

abbrev pub decreases-loop-at : goal.decreases-loop-at
decreases-loop-at l = rank (list_of l.order 1) l.at
