-- Which word a step found, from what its seat came to know.
use Rattle.std.proofs.Common.{◌≡◌, ◌≢◌, ◌⊎◌, ℕ, ◌*◌, Bool, true, false, List, Option, refl, sym, ap, ◌∙◌, inl, inr}
use Rattle.segment_rule.specs.declared.view.Stage.{Stage}
use Rattle.segment_rule.specs.declared.view.Stage.TheVariants as stage
use Rattle.segment_rule.specs.declared.view.OwnerView.{OwnerView}
use Rattle.segment_rule.specs.Views.{owner_holds, owner_loses, owner_stays}
use Rattle.segment_rule.specs.Kinds.{Kind, Locks, Looks, LockWins, LockLoses, LookStays, LookLoses}
use Rattle.segment_rule.specs.Seats.{OwnerMakes}
use Rattle.segment.specs.Owned.{Owned, IsOwned, stage_of}
use Rattle.segment.specs.Found.{seat_view, Finds, LockFinds, LookFinds}
use Rattle.segment.specs.declared.owner.Phase.{Phase}
use Rattle.segment.specs.declared.owner.Phase.TheVariants as phase
use Rattle.segment.specs.declared.owner.Lock.TheVariants as answer

held_is_not_gone : stage.Held ≡ stage.Gone → ⊥
held_is_not_gone e = cc

idle_is_not_gone : stage.Idle ≡ stage.Gone → ⊥
idle_is_not_gone e = cc

-- a lock after which the seat holds found the word of the last unlock
pub lock_wins : (old new : OwnerView) → (m : OwnerMakes Locks old new) → new ≡ owner_holds old → m.before.word ≡ 2 * old.last
lock_wins old new m is = by_step m.step
  where
    by_step : LockWins m.before m.act m.after ⊎ LockLoses m.before m.act m.after → m.before.word ≡ 2 * old.last
    by_step (inl win) = win.found ∙ ap (λ (o : OwnerView). 2 * o.last) m.saw
    by_step (inr lose) = absurd (held_is_not_gone (sym (ap (λ (o : OwnerView). o.phase) (m.sees ∙ is)) ∙ ap (λ s. s.owner.phase) lose.is))

-- a lock after which it is gone found the purged word
pub lock_loses : (old new : OwnerView) → (m : OwnerMakes Locks old new) → new ≡ owner_loses old → m.before.word ≡ 0
lock_loses old new m is = by_step m.step
  where
    by_step : LockWins m.before m.act m.after ⊎ LockLoses m.before m.act m.after → m.before.word ≡ 0
    by_step (inl win) = absurd (held_is_not_gone (sym (ap (λ s. s.owner.phase) win.is) ∙ ap (λ (o : OwnerView). o.phase) (m.sees ∙ is)))
    by_step (inr lose) = lose.found

-- a look after which it is idle found another word, and one after which it is gone the purged word
pub look_stays : (old new : OwnerView) → (m : OwnerMakes Looks old new) → old.phase ≡ stage.Idle → new ≡ owner_stays old → m.before.word ≢ 0
look_stays old new m idle is = by_step m.step
  where
    by_step : LookStays m.before m.act m.after ⊎ LookLoses m.before m.act m.after → m.before.word ≢ 0
    by_step (inl stay) = stay.found
    by_step (inr lose) = absurd (idle_is_not_gone (sym (ap (λ (o : OwnerView). o.phase) (m.sees ∙ is) ∙ idle) ∙ ap (λ s. s.owner.phase) lose.is))

pub look_loses : (old new : OwnerView) → (m : OwnerMakes Looks old new) → old.phase ≡ stage.Idle → new ≡ owner_loses old → m.before.word ≡ 0
look_loses old new m idle is = by_step m.step
  where
    by_step : LookStays m.before m.act m.after ⊎ LookLoses m.before m.act m.after → m.before.word ≡ 0
    by_step (inl stay) = absurd (idle_is_not_gone (sym idle ∙ sym (ap (λ (o : OwnerView). o.phase) m.saw) ∙ sym (ap (λ s. s.owner.phase) stay.is) ∙ ap (λ (o : OwnerView). o.phase) (m.sees ∙ is)))
    by_step (inr lose) = lose.found

-- what the seat knows, by the fields of its side
pub seat_seen : (seat : OwnerView) (block : Option (List ℕ)) (id pages : ℕ) (was : Phase) (last : ℕ) → IsOwned seat block id pages was last
    → seat ≡ record { id = id; pages = pages; phase = stage_of was; last = last; left = seat.left; apart = true; steps = seat.steps }
seat_seen seat block id pages was last h =
    ap (λ (n : ℕ). record seat { id = n }) h.number
    ∙ ap (λ (n : ℕ). record seat { id = id; pages = n }) h.size
    ∙ ap (λ (at : Stage). record seat { id = id; pages = pages; phase = at }) h.stage
    ∙ ap (λ (n : ℕ). record seat { id = id; pages = pages; phase = stage_of was; last = n }) h.stamp
    ∙ ap (λ (b : Bool). record seat { id = id; pages = pages; phase = stage_of was; last = last; apart = b }) h.apart

-- the same once its side made a step
pub held_seen : (seat new : OwnerView) (block : Option (List ℕ)) (id pages : ℕ) (was : Phase) (last : ℕ) → IsOwned seat block id pages was last → new ≡ owner_holds seat
    → new ≡ record { id = id; pages = pages; phase = stage.Held; last = last; left = new.left; apart = true; steps = new.steps }
held_seen seat new block id pages was last h is = rw is (ap owner_holds (seat_seen seat block id pages was last h))

pub gone_seen : (seat new : OwnerView) (block : Option (List ℕ)) (id pages : ℕ) (was : Phase) (last : ℕ) → IsOwned seat block id pages was last → new ≡ owner_loses seat
    → new ≡ record { id = id; pages = pages; phase = stage.Gone; last = last; left = new.left; apart = true; steps = new.steps }
gone_seen seat new block id pages was last h is = rw is (ap owner_loses (seat_seen seat block id pages was last h))

pub idle_seen : (seat new : OwnerView) (block : Option (List ℕ)) (id pages : ℕ) (was : Phase) (last : ℕ) → IsOwned seat block id pages was last → new ≡ owner_stays seat
    → new ≡ record { id = id; pages = pages; phase = stage_of was; last = last; left = new.left; apart = true; steps = new.steps }
idle_seen seat new block id pages was last h is = rw is (ap owner_stays (seat_seen seat block id pages was last h))

-- a step on the word, seen from its side
pub finds : {kind : Kind} (old new : Owned) (saw sees : OwnerView) → saw ≡ seat_view old → sees ≡ seat_view new → (m : OwnerMakes kind saw sees) → (word : ℕ) → m.before.word ≡ word
    → Finds kind word old new
finds old new saw sees at to m word is = record {
  before = m.before;
  act = m.act;
  after = m.after;
  was_lawful = m.was_lawful;
  is_lawful = m.is_lawful;
  step = m.step;
  saw = m.saw ∙ at;
  sees = m.sees ∙ to;
  found = is;
}

pub finds_held : (was : Phase) (old new : Owned) (saw sees : OwnerView) → saw ≡ seat_view old → sees ≡ seat_view new → OwnerMakes Locks saw sees → sees ≡ owner_holds saw
    → LockFinds was answer.Held old new
finds_held phase.Gone old new saw sees at to m is = tt
finds_held phase.Held old new saw sees at to m is = finds old new saw sees at to m (2 * old.last) (lock_wins saw sees m is ∙ ap (λ (o : OwnerView). 2 * o.last) at)
finds_held phase.Idle old new saw sees at to m is = finds old new saw sees at to m (2 * old.last) (lock_wins saw sees m is ∙ ap (λ (o : OwnerView). 2 * o.last) at)

pub finds_gone : (was : Phase) (old new : Owned) (saw sees : OwnerView) → saw ≡ seat_view old → sees ≡ seat_view new → OwnerMakes Locks saw sees → sees ≡ owner_loses saw
    → LockFinds was answer.Gone old new
finds_gone phase.Gone old new saw sees at to m is = tt
finds_gone phase.Held old new saw sees at to m is = finds old new saw sees at to m 0 (lock_loses saw sees m is)
finds_gone phase.Idle old new saw sees at to m is = finds old new saw sees at to m 0 (lock_loses saw sees m is)

pub look_finds_gone : (was : Phase) (told : Bool) (old new : Owned) (saw sees : OwnerView) → told ≡ false → was ≡ phase.Idle → old.phase ≡ was → saw ≡ seat_view old → sees ≡ seat_view new → OwnerMakes Looks saw sees → sees ≡ owner_loses saw
    → LookFinds was told old new
look_finds_gone was told old new saw sees so idle at_was at to m is =
    rw (so, idle) (finds old new saw sees at to m 0 (look_loses saw sees m (ap (λ (o : OwnerView). o.phase) at ∙ ap stage_of (at_was ∙ idle)) is))

pub look_finds_there : (was : Phase) (told : Bool) (old new : Owned) (saw sees : OwnerView) → told ≡ true → was ≡ phase.Idle → old.phase ≡ was → saw ≡ seat_view old → sees ≡ seat_view new → OwnerMakes Looks saw sees → sees ≡ owner_stays saw
    → LookFinds was told old new
look_finds_there was told old new saw sees so idle at_was at to m is =
    rw (so, idle) (m.before.word, look_stays saw sees m (ap (λ (o : OwnerView). o.phase) at ∙ ap stage_of (at_was ∙ idle)) is, finds old new saw sees at to m m.before.word refl)
