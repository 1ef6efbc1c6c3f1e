-- What a lock, an unlock and a look leave of a segment.
use Rattle.std.proofs.Common.{◌≡◌, ◌≢◌, ◌⊎◌, ℕ, zero, suc, ◌+◌, ◌<◌, Bool, true, false, cond, List, refl, sym, ap, ◌∙◌, inl, inr, arith, ltb}
use Rattle.std.specs.Bool.{MatchBool}
use Rattle.std.proofs.lemmas.Bool.{lt-ltb}
use Rattle.segment.specs.Owned.{Owned, AfterLock, AfterLook}
use Rattle.segment.specs.declared.owner.Phase.{Phase}
use Rattle.segment.specs.declared.owner.Phase.TheVariants as phase
use Rattle.segment.specs.declared.owner.Lock.TheVariants.{Held, Gone}
use Rattle.page_locks.specs.Locks.{IsRange, locked_count}
use Rattle.client.specs.Lease.{Lease, LocksPages, UnlocksPages, LooksAt, TellsUnlock, content_of, is_in_use, locked_pages}
use Rattle.client.specs.declared.answers.Unlocked.{Unlocked}
use Rattle.client.specs.declared.answers.Unlocked.TheVariants as answer
use Rattle.client.proofs.Pages.{Sets, locked_some}

-- the number, the pages and what is in them stay
pub record Keeps (old new : Lease) : Type 0 where
  pub same : new.side.id ≡ old.side.id
  pub pages : new.side.pages ≡ old.side.pages
  pub content : content_of new ≡ content_of old

-- what is read of a side after a lock that holds it
record AfterHeld (old new : Owned) : Type 0 where
  same : new.id ≡ old.id
  pages : new.pages ≡ old.pages
  bytes : new.bytes ≡ old.left
  phase_is : new.phase ≡ phase.Held

from_held : (old new : Owned) → new ≡ record old { phase = phase.Held; bytes = old.left; steps = old.steps + 1 } → AfterHeld old new
from_held old new is = rw is (record { same = refl; pages = refl; bytes = refl; phase_is = refl })

gone_is_not_held : Held ≡ Gone → ⊥
gone_is_not_held e = cc

lock_held : (was : Phase) (old new : Owned) → AfterLock was Held old new → AfterHeld old new
lock_held phase.Held old new after = from_held old new after
lock_held phase.Idle old new after = from_held old new after
lock_held phase.Gone old new after = absurd (gone_is_not_held after.0)

-- what is read of a side after a lock that found it gone
pub record AfterGone (old new : Owned) : Type 0 where
  pub same : new.id ≡ old.id
  pub pages : new.pages ≡ old.pages
  pub phase_is : new.phase ≡ phase.Gone

lock_gone : (was : Phase) (old new : Owned) → old.phase ≡ was → AfterLock was Gone old new → AfterGone old new
lock_gone phase.Held old new e after = rw after (record { same = refl; pages = refl; phase_is = refl })
lock_gone phase.Idle old new e after = rw after (record { same = refl; pages = refl; phase_is = refl })
lock_gone phase.Gone old new e after = rw after.1 (record { same = refl; pages = refl; phase_is = e })

-- a lock that answers Held
pub record LockedSo (first count : ℕ) (old new : Lease) : Type 0 where
  pub keeps : Keeps old new
  pub sets : Sets true old.locks new.locks first count
  pub live : old.side.phase ≢ phase.Gone → new.side.phase ≢ phase.Gone

-- a segment with a locked page is in use
pub in_use : (lease : Lease) → 0 < locked_pages lease → is_in_use lease ≡ true
in_use lease some = lt-ltb 0 (locked_pages lease) some

held_parts : (used : Bool) (first count : ℕ) (old new : Lease) → is_in_use old ≡ used → is_in_use new ≡ true → MatchBool used ((Held ≡ Held) × (new.side ≡ old.side)) (AfterLock old.side.phase Held old.side new.side)
    → Keeps old new × (old.side.phase ≢ phase.Gone → new.side.phase ≢ phase.Gone)
held_parts true first count old new was is (e, side) = (
  record {
    same = ap (λ (s : Owned). s.id) side;
    pages = ap (λ (s : Owned). s.pages) side;
    content = rw (was, is) (ap (λ (s : Owned). s.bytes) side);
  },
  λ live e. live (ap (λ (s : Owned). s.phase) (sym side) ∙ e),
)
held_parts false first count old new was is after =
    let facts = lock_held old.side.phase old.side new.side after in (
      record { same = facts.same; pages = facts.pages; content = rw (was, is) facts.bytes },
      λ live e. absurd (held_not_gone new.side.phase facts.phase_is e),
    )
  where
    held_not_gone : (p : Phase) → p ≡ phase.Held → p ≡ phase.Gone → ⊥
    held_not_gone p e f = cc

pub locked_so : (first count : ℕ) (old new : Lease) → 0 < count → LocksPages first count Held old new → LockedSo first count old new
locked_so first count old new some locks =
    let counted = locks.locks.counted in
    let parts = held_parts (is_in_use old) first count old new refl (in_use new (omega (arith, some, counted))) locks.side in
    record { keeps = parts.0; sets = record { size = locks.locks.size; each = locks.locks.each }; live = parts.1 }

-- a lock that answers Gone
pub record FoundGone (old new : Lease) : Type 0 where
  pub side : AfterGone old.side new.side
  pub free : locked_pages old ≡ 0
  pub locks : new.locks ≡ old.locks

not_in_use : (n : ℕ) → ltb 0 n ≡ false → n ≡ 0
not_in_use n e = elim (cases_zero n) [ inl none ↦ none | inr some ↦ absurd (two (ltb 0 n) (lt-ltb 0 n some) e) ]
  where
    cases_zero : (n : ℕ) → (n ≡ 0) ⊎ (0 < n)
    cases_zero zero = inl refl
    cases_zero (suc n) = inr (omega arith)

    two : (b : Bool) → b ≡ true → b ≡ false → ⊥
    two b e f = cc

gone_parts : (used : Bool) (old new : Lease) → is_in_use old ≡ used → MatchBool used ((Gone ≡ Held) × (new.side ≡ old.side)) (AfterLock old.side.phase Gone old.side new.side) → AfterGone old.side new.side × (locked_pages old ≡ 0)
gone_parts true old new was (e, side) = absurd (gone_is_not_held (sym e))
gone_parts false old new was after = (lock_gone old.side.phase old.side new.side refl after, not_in_use (locked_pages old) was)

pub found_gone : (first count : ℕ) (old new : Lease) → LocksPages first count Gone old new → FoundGone old new
found_gone first count old new locks =
    let parts = gone_parts (is_in_use old) old new refl locks.side in
    record { side = parts.0; free = parts.1; locks = locks.locks }

-- an unlock
pub record UnlockedSo (first count : ℕ) (old new : Lease) : Type 0 where
  pub keeps : Keeps old new
  pub sets : Sets false old.locks new.locks first count
  pub live : old.side.phase ≢ phase.Gone → new.side.phase ≢ phase.Gone

unlock_parts : (now first count : ℕ) (told : Unlocked) (old new : Lease) → is_in_use old ≡ true → TellsUnlock now old new told → Keeps old new × (old.side.phase ≢ phase.Gone → new.side.phase ≢ phase.Gone)
unlock_parts now first count (answer.Idle at) old new was (none, side, stamp) = (
  record {
    same = ap (λ (s : Owned). s.id) side;
    pages = ap (λ (s : Owned). s.pages) side;
    content = rw (was, ap (ltb 0) none) (ap (λ (s : Owned). s.left) side);
  },
  λ live e. absurd (idle_not_gone new.side.phase (ap (λ (s : Owned). s.phase) side) e),
)
  where
    idle_not_gone : (p : Phase) → p ≡ phase.Idle → p ≡ phase.Gone → ⊥
    idle_not_gone p e f = cc
unlock_parts now first count (answer.Held pages) old new was (some, left, side) = (
  record {
    same = ap (λ (s : Owned). s.id) side;
    pages = ap (λ (s : Owned). s.pages) side;
    content = rw (was, in_use new (omega (arith, some, left))) (ap (λ (s : Owned). s.bytes) side);
  },
  λ live e. live (ap (λ (s : Owned). s.phase) (sym side) ∙ e),
)

pub unlocked_so : (now first count : ℕ) (told : Unlocked) (old new : Lease) → IsRange true old.locks first count → UnlocksPages first count now told old new → UnlockedSo first count old new
unlocked_so now first count told old new range unlocks =
    let locked = range.each first (omega arith) (let some = range.some in omega (arith, some)) in
    let some = locked_some old.locks first locked in
    let parts = unlock_parts now first count told old new (in_use old (omega (arith, some))) unlocks.side in
    record { keeps = parts.0; sets = record { size = unlocks.locks.size; each = unlocks.locks.each }; live = parts.1 }

-- a look
pub record LookedSo (there : Bool) (old new : Lease) : Type 0 where
  pub keeps : Keeps old new
  pub locks : new.locks ≡ old.locks
  pub told : MatchBool there (old.side.phase ≢ phase.Gone → new.side.phase ≢ phase.Gone) ((new.side.phase ≡ phase.Gone) × (old.side.phase ≢ phase.Held))

look_keeps : (was : Phase) (there : Bool) (old new : Owned) → old.phase ≡ was → AfterLook was there old new
    → (new.id ≡ old.id) × (new.pages ≡ old.pages) × (new.bytes ≡ old.bytes) × (new.left ≡ old.left) × MatchBool there (old.phase ≢ phase.Gone → new.phase ≢ phase.Gone) ((new.phase ≡ phase.Gone) × (old.phase ≢ phase.Held))
look_keeps phase.Held there old new e (told, is) = rw (is, told) (refl, refl, refl, refl, λ live. live)
look_keeps phase.Gone there old new e (told, is) = rw (is, told) (refl, refl, refl, refl, (e, λ f. absurd (not_held old.phase e f)))
  where
    not_held : (p : Phase) → p ≡ phase.Gone → p ≡ phase.Held → ⊥
    not_held p e f = cc
look_keeps phase.Idle true old new e is = rw is (refl, refl, refl, refl, λ live. live)
look_keeps phase.Idle false old new e is = rw is (refl, refl, refl, refl, (refl, λ f. absurd (not_held old.phase e f)))
  where
    not_held : (p : Phase) → p ≡ phase.Idle → p ≡ phase.Held → ⊥
    not_held p e f = cc

pub looked_so : (there : Bool) (old new : Lease) → LooksAt there old new → LookedSo there old new
looked_so there old new looks =
    let parts = look_keeps old.side.phase there old.side new.side refl looks.side in
    record {
      keeps = record {
        same = parts.0;
        pages = parts.1;
        content = two_choices (is_in_use new) (is_in_use old) new.side.bytes old.side.bytes new.side.left old.side.left (ap (λ (ls : List Bool). ltb 0 (locked_count ls)) looks.locks) parts.2 parts.3;
      };
      locks = looks.locks;
      told = parts.4;
    }
  where
    two_choices : {X : Type 0} (a b : Bool) (x y z w : X) → a ≡ b → x ≡ y → z ≡ w → cond a x z ≡ cond b y w
    two_choices a b x y z w e f g = rw (e, f, g) refl
