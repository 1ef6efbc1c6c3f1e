-- A segment that has all its memory and no block yet.
use Rattle.std.specs.Prelude.{◌≡◌, ℕ}
use Rattle.segment_rule.specs.declared.view.OwnerView.{OwnerView}
use Rattle.segment_rule.specs.declared.view.WardenView.{WardenView}
use Rattle.segment_rule.specs.Kinds.{made}
use Rattle.segment_rule.specs.Seats.{TableId, Seated}

-- the table that its two sides will share, and the number and pages that it will have
pub record Ready : Type 0 where
  pub table : TableId
  pub id : ℕ
  pub pages : ℕ

-- its two seats are those of a new segment, at one table
pub record AreSeated (mine : Seated OwnerView) (theirs : Seated WardenView) (id pages : ℕ) : Type 0 where
  pub owner : mine.known ≡ (made id pages).owner
  pub warden : theirs.known ≡ (made id pages).warden
  pub one : theirs.table ≡ mine.table
