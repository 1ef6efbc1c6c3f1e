-- The known uses of the live wardens.
use Rattle.std.specs.Prelude.{ℕ, List, map}
use Rattle.segment.specs.Warded.{Warded}
use Rattle.use_queue.specs.Entries.{entry_of}
use Rattle.lru_reduce.specs.Wards.{candidate_of}

-- the entry of a warden: its known use, where none counts as 0, and its number
abbrev pub entry_for : Warded → ℕ × ℕ
entry_for w = entry_of (candidate_of w)

-- the entries of these wardens
abbrev pub uses_of : List Warded → List (ℕ × ℕ)
uses_of sides = map entry_for sides
