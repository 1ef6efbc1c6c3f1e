-- When events of the machine stand for a segment: what happened to it is what its word and its two sides tell.
use Rattle.std.specs.Prelude.{◌≡◌, ◌≢◌, ℕ, true, false, List, ◌++◌, [], ◌∷◌}
use Rattle.machine.specs.declared.event.Event.{Event}
use Rattle.machine.specs.declared.event.Answer.{Answer}
use Rattle.machine.specs.History.{History, pages_of, is_gone, stamp_of, known_of, left_of}
use Rattle.machine.specs.Answers.{answered, answer, is_plain}
use Rattle.machine.specs.Word.{word_of, some_held, state_after}
use Rattle.segment_rule.specs.declared.view.Stage.TheVariants.{New, Held, Idle, Gone}
use Rattle.segment_rule.specs.Views.{known_use}
use Rattle.segment_rule.specs.Rule.{Segment}

-- the history stands for the segment; `bytes` is the block in the owner's hand while it holds
pub record StandsAfter (h : History) (s : Segment) (bytes : List ℕ) : Type 0 where
  pub plain : is_plain h s.owner.id ≡ true
  pub pages : pages_of h s.owner.id ≡ s.owner.pages
  pub word : s.word ≡ word_of (state_after h s.owner.id)
  pub holds : s.owner.phase ≡ Held → (some_held h s.owner.id ≡ true) × (bytes ≡ left_of h s.owner.id)
  pub rests : s.owner.phase ≡ Idle → (some_held h s.owner.id ≡ false) × (s.owner.left ≡ left_of h s.owner.id)
  pub lost : s.owner.phase ≡ Gone → is_gone h s.owner.id ≡ true
  pub stamp : s.owner.phase ≢ New → s.owner.last ≡ stamp_of h s.owner.id
  pub taken : s.warden.taken ≡ is_gone h s.owner.id
  pub known : known_use s.warden.tries ≡ known_of h s.owner.id

-- these events stand for the segment
abbrev pub StandsFor : List Event → Segment → List ℕ → Type 0
StandsFor events s bytes = StandsAfter (answered events) s bytes

-- the machine answers an event so, and with it the events stand for this segment
pub record Follows (events : List Event) (e : Event) (told : Answer) (after : Segment) (bytes : List ℕ) : Type 0 where
  pub is_told : answer events e ≡ told
  pub stands : StandsFor (events ++ e ∷ []) after bytes
