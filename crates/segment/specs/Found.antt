-- Which word the step of a call found.
use Rattle.std.specs.Prelude.{◌≡◌, ◌≢◌, ℕ, ◌*◌, Bool, true, MatchBool}
use Rattle.segment_rule.specs.declared.view.OwnerView.{OwnerView}
use Rattle.segment_rule.specs.Kinds.{Act, Kind, Locks, Looks}
use Rattle.segment_rule.specs.Rule.{Segment, Slot, IsLawful}
use Rattle.segment.specs.Owned.{Owned, stage_of}
use Rattle.segment.specs.declared.owner.Phase.{Phase}
use Rattle.segment.specs.declared.owner.Phase.TheVariants.{Held, Idle, Gone}
use Rattle.segment.specs.declared.owner.Lock.{Lock}
use Rattle.segment.specs.declared.owner.Lock.TheVariants as answer
use Rattle.segment.specs.declared.giving.GiveUp.{GiveUp}
use Rattle.segment.specs.declared.giving.GiveUp.TheVariants as end

-- what the seat of a side knows, whose warden has its own
abbrev pub seat_view : Owned → OwnerView
seat_view s = record { id = s.id; pages = s.pages; phase = stage_of s.phase; last = s.last; left = s.left; apart = true; steps = s.steps }

-- One step of this kind was made on the word of the segment, and found this word: some lawful segment, of which the side knew what it
-- knew, became another, of which it knows what it knows now.
pub record Finds (kind : Kind) (word : ℕ) (old new : Owned) : Type 0 where
  pub before : Segment
  pub act : Act Slot
  pub after : Segment
  pub was_lawful : IsLawful before
  pub is_lawful : IsLawful after
  pub step : kind before act after
  pub saw : before.owner ≡ seat_view old
  pub sees : after.owner ≡ seat_view new
  pub found : before.word ≡ word

-- The lock of a side that was not gone found the word of its last unlock exactly where it answers Held, and else the purged word.
abbrev pub LockFinds : Phase → Lock → Owned → Owned → Type 0
LockFinds Gone result old new = Unit {0}
LockFinds other answer.Held old new = Finds Locks (2 * old.last) old new
LockFinds other answer.Gone old new = Finds Locks 0 old new

-- The look of an idle side found the purged word exactly where it answers false.
abbrev pub LookFinds : Phase → Bool → Owned → Owned → Type 0
LookFinds Held result old new = Unit {0}
LookFinds Gone result old new = Unit {0}
LookFinds Idle result old new =
    MatchBool result ((word : ℕ) × (word ≢ 0) × Finds Looks word old new) (Finds Looks 0 old new)

-- The lock step of an idle side that was given up found the purged word exactly where the side is gone.
abbrev pub GivingFinds : Phase → Owned → GiveUp → Type 0
GivingFinds Held old result = Unit {0}
GivingFinds Gone old result = Unit {0}
GivingFinds Idle old (end.Whole b) = (held : Owned) × Finds Locks (2 * old.last) old held
GivingFinds Idle old (end.Gone side) = Finds Locks 0 old side
