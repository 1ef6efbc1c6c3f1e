-- The kinds of step on a segment: each is a relation of the segment before and after, and tells where the block goes.
use Rattle.std.specs.Prelude.{◌≡◌, ◌≢◌, ◌⊎◌, ℕ, ◌*◌, ◌≤◌, true, false, List, length, Some, None}
pub use Rattle.atomic_table.specs.Table.{Act}
use Rattle.atomic_table.specs.Table.{keeps, takes, gives}
use Rattle.units.specs.declared.TheConstants.{PAGE}
use Rattle.units.specs.Moment.{IsMoment}
use Rattle.machine.specs.Word.{word_of}
use Rattle.machine.specs.Word as word
use Rattle.segment_rule.specs.declared.view.Stage.TheVariants.{New, Held, Idle}
use Rattle.segment_rule.specs.Views.{fresh_owner, fresh_warden, settled, parted, owner_holds, owner_loses, owner_rests, owner_stays, warden_tries, expected_word}
use Rattle.segment_rule.specs.Rule.{Segment, Slot, is_out, has_block}

-- a kind of step: the segment before, what the side does with the place at home, and the segment after
abbrev pub Kind : Type 1
Kind = Segment → Act Slot → Segment → Type 0

-- the side takes the place with what lies there, or lays down what it has
abbrev pub takes_block : List ℕ → Act Slot
takes_block bytes = takes 0 (Some bytes)

abbrev pub takes_nothing : Act Slot
takes_nothing = takes 0 None

-- settle: a new owner takes the empty home, and keeps the block that it was handed
pub record Settles (old : Segment) (act : Act Slot) (after : Segment) : Type 0 where
  pub from : old.owner.phase ≡ New
  pub moved : act ≡ takes_nothing
  pub is : after ≡ record old { owner = settled old.owner; home = is_out }

-- lock wins: an idle owner finds the word of its last unlock, makes it that of a held segment, and takes the block
pub record LockWins (old : Segment) (act : Act Slot) (after : Segment) : Type 0 where
  pub from : old.owner.phase ≡ Idle
  pub found : old.word ≡ word_of (word.Idle old.owner.last)
  pub moved : act ≡ takes_block old.owner.left
  pub is : after ≡ record old { owner = owner_holds old.owner; word = word_of word.Held; home = is_out }

-- lock loses: an idle owner finds the purged word
pub record LockLoses (old : Segment) (act : Act Slot) (after : Segment) : Type 0 where
  pub from : old.owner.phase ≡ Idle
  pub found : old.word ≡ word_of word.Gone
  pub moved : act ≡ keeps
  pub is : after ≡ record old { owner = owner_loses old.owner }

-- unlock: the owner lays its block down under a stamp at or after its last one
pub record Unlocks (stamp : ℕ) (bytes : List ℕ) (old : Segment) (act : Act Slot) (after : Segment) : Type 0 where
  pub from : old.owner.phase ≡ Held
  pub found : old.word ≡ word_of word.Held
  pub moment : IsMoment stamp
  pub later : old.owner.last ≤ stamp
  pub sized : length bytes ≡ PAGE * old.owner.pages
  pub moved : act ≡ gives
  pub is : after ≡ record old { owner = owner_rests stamp bytes old.owner; word = word_of (word.Idle stamp); home = has_block bytes }

-- look stays: an idle owner finds the segment there
pub record LookStays (old : Segment) (act : Act Slot) (after : Segment) : Type 0 where
  pub from : old.owner.phase ≡ Idle
  pub found : old.word ≢ word_of word.Gone
  pub moved : act ≡ keeps
  pub is : after ≡ record old { owner = owner_stays old.owner }

-- look loses: an idle owner finds the purged word
pub record LookLoses (old : Segment) (act : Act Slot) (after : Segment) : Type 0 where
  pub from : old.owner.phase ≡ Idle
  pub found : old.word ≡ word_of word.Gone
  pub moved : act ≡ keeps
  pub is : after ≡ record old { owner = owner_loses old.owner }

-- try wins: the warden finds the word that it expects, makes it that of a purged segment, and takes the block
pub record TryWins (now : ℕ) (old : Segment) (act : Act Slot) (after : Segment) : Type 0 where
  pub apart : old.owner.apart ≡ true
  pub from : old.warden.taken ≡ false
  pub moment : IsMoment now
  pub found : old.word ≡ expected_word old.warden.tries
  pub moved : act ≡ takes_block old.owner.left
  pub is : after ≡ record old { warden = warden_tries now old.word true old.warden; word = word_of word.Gone; home = is_out }

-- try loses: the warden finds another word, and remembers it
pub record TryLoses (now : ℕ) (old : Segment) (act : Act Slot) (after : Segment) : Type 0 where
  pub apart : old.owner.apart ≡ true
  pub from : old.warden.taken ≡ false
  pub moment : IsMoment now
  pub found : old.word ≢ expected_word old.warden.tries
  pub moved : act ≡ keeps
  pub is : after ≡ record old { warden = warden_tries now old.word false old.warden }

-- a lock, a look and a try end in one of two ways
abbrev pub Locks : Kind
Locks old act after = LockWins old act after ⊎ LockLoses old act after

abbrev pub Looks : Kind
Looks old act after = LookStays old act after ⊎ LookLoses old act after

abbrev pub Tries : ℕ → Kind
Tries now old act after = TryWins now old act after ⊎ TryLoses now old act after

-- what making a segment leaves, by settle and split: its owner holds it, and its warden has tried nothing
abbrev pub made : ℕ → ℕ → Segment
made id pages = record { owner = parted (settled (fresh_owner id pages)); warden = fresh_warden id pages; word = word_of word.Held; home = is_out }
