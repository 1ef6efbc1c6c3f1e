-- The rule that a segment keeps between any two steps of its two sides.
use Rattle.std.specs.Prelude.{◌≡◌, ◌≢◌, ◌⊎◌, ℕ, ◌*◌, ◌<◌, true, false, List, [], ◌∷◌, length, Option, Some, None}
use mathlib.Core.Option as m
use Rattle.atomic_table.specs.Table.{State}
use Rattle.units.specs.declared.TheConstants.{PAGE}
use Rattle.units.specs.Moment.{IsMoment}
use Rattle.machine.specs.Word.{word_of}
use Rattle.machine.specs.Word as word
use Rattle.segment_rule.specs.declared.view.Stage.TheVariants.{New, Held, Idle, Gone}
use Rattle.segment_rule.specs.declared.view.OwnerView.{OwnerView}
use Rattle.segment_rule.specs.declared.view.WardenView.{WardenView}
use Rattle.segment_rule.specs.declared.view.View.{View}
use Rattle.segment_rule.specs.declared.view.View.TheVariants.{Owner, Warden}
use Rattle.segment_rule.specs.Views.{fresh_warden, FoundBy}

-- what the home of a segment has room for: the bytes of a block, or nothing
abbrev pub Slot : Type 0
Slot = Option (List ℕ)

-- what lies at home, or that the place is out with one of the two sides
abbrev pub Home : Type 0
Home = m.Option Slot

abbrev pub is_out : Home
is_out = m.none

abbrev pub is_empty : Home
is_empty = m.some None

abbrev pub has_block : List ℕ → Home
has_block bytes = m.some (Some bytes)

-- a segment between two steps: what its owner and its warden know of it, its word, and its home
pub record Segment : Type 0 where
  pub owner : OwnerView
  pub warden : WardenView
  pub word : ℕ
  pub home : Home

-- the block lies at home with the bytes that the owner left, under the word of the owner's last unlock
pub record IsAtHome (s : Segment) : Type 0 where
  pub stamped : s.word ≡ word_of (word.Idle s.owner.last)
  pub lies : s.home ≡ has_block s.owner.left
  pub sized : length s.owner.left ≡ PAGE * s.owner.pages

-- The rule.
pub record IsLawful (s : Segment) : Type 0 where
  -- both views are of one segment
  pub number : s.warden.id ≡ s.owner.id
  pub size : s.warden.pages ≡ s.owner.pages
  -- there is a warden only once the owner has settled
  pub made : s.owner.apart ≡ true → s.owner.phase ≢ New
  -- New: the word is that of a held segment, and the home is empty
  pub new : s.owner.phase ≡ New → (s.word ≡ word_of word.Held) × (s.home ≡ is_empty)
  -- Held: so is the word, and the place is out with the owner
  pub held : s.owner.phase ≡ Held → (s.word ≡ word_of word.Held) × (s.home ≡ is_out)
  -- Idle: the last unlock has a moment, and the block lies at home or the segment was purged
  pub idle : s.owner.phase ≡ Idle → IsMoment s.owner.last × (s.word ≢ word_of word.Gone → IsAtHome s)
  -- Gone: the segment was purged
  pub gone : s.owner.phase ≡ Gone → s.word ≡ word_of word.Gone
  -- the segment was purged exactly where the warden has taken its block, and the place is out with the warden
  pub taken : s.warden.taken ≡ true → (s.word ≡ word_of word.Gone) × (s.home ≡ is_out)
  pub there : s.warden.taken ≡ false → s.word ≢ word_of word.Gone
  -- each time that the warden found is at or before the owner's last unlock, and at or before the time in the word
  pub found : FoundBy s.owner.last s.warden.tries
  pub latest : (t : ℕ) → s.word ≡ word_of (word.Idle t) → 0 < t → FoundBy t s.warden.tries

-- the seats of the table: the owner's, and the warden's once it is made
abbrev pub Sits : List View → OwnerView → WardenView → Type 0
Sits views o w =
    ((o.apart ≡ true) × (views ≡ Owner o ∷ Warden w ∷ []))
    ⊎ ((o.apart ≡ false) × (views ≡ Owner o ∷ []) × (w ≡ fresh_warden o.id o.pages))

-- the table keeps the rule: one owner's view, at most one warden's, one word and one home, of a lawful segment
pub record IsRuled (s : State Slot View) : Type 0 where
  pub segment : Segment
  pub words : s.words ≡ segment.word ∷ []
  pub homes : s.homes ≡ segment.home ∷ []
  pub sits : Sits s.views segment.owner segment.warden
  pub lawful : IsLawful segment
