-- A segment as a heap shows it, and how many pages of it some runs have.
use Rattle.std.specs.Prelude.{ℕ, List, filter}
use Rattle.span_heap.specs.declared.run.Run.{Run}
use Rattle.span_heap.specs.Run.{lies_in, pages_of}

-- a segment: its number, and how many pages it has
pub record Segment : Type 0 where
  pub id : ℕ
  pub pages : ℕ

-- how many pages of one segment these runs have
abbrev pub pages_in : ℕ → List Run → ℕ
pages_in id runs = pages_of (filter (lies_in id) runs)
