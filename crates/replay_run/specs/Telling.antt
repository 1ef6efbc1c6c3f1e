-- How a difference of two records is told.
use Rattle.std.specs.Prelude.{◌≡◌, ℕ, List, All}
use Rattle.discard_book.specs.declared.entry.Entry.{Entry}
use Rattle.replay_plain.specs.Records.{record_text}
use Rattle.replay_run.specs.Fitting.{Fits}
use Rattle.replay_run.specs.declared.differ.Differ.{Differ}

-- the difference tells a line, and the records of the real and of the plain run as texts
pub record Tells (differ : Differ) (line : ℕ) (words : List ℕ) (more : List Entry) (said : List ℕ) (added : List Entry) : Type 0 where
  pub place : differ.place ≡ line
  pub real : differ.real ≡ record_text words more
  pub plain : differ.plain ≡ record_text said added
  pub short_more : All Fits more
  pub short_added : All Fits added
