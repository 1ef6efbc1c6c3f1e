-- The laws: for every list of events.
use Rattle.std.proofs.Common.{◌≡◌, ◌≢◌, ℕ, ◌*◌, ◌≤◌, nat_lt, nat_le, max, ⊎_elim, Bool, true, false, true≢false, not, ◌&&◌, cond, List, [], ◌∷◌, ◌++◌, refl, sym, ap, ◌∙◌, subst, arith, replicate}
use Rattle.std.proofs.lemmas.Bool.Decides.{nat_tests}
use Rattle.units.specs.declared.TheConstants.{PAGE, MOST_PAGES}
use Rattle.machine.specs.declared.event.Event.{Event}
use Rattle.machine.specs.declared.event.Event.TheVariants.{Grant, Lock, Unlock, Write, Try}
use Rattle.machine.specs.declared.event.Answer.{Answer}
use Rattle.machine.specs.declared.event.Answer.TheVariants as told
use Rattle.machine.specs.History.{History, is_begun, is_gone, stamp_of}
use Rattle.machine.specs.Answers.{answered_after, answered, answer_of, can_grant, can_lock, can_unlock, can_write, unlocked, staying}
use Rattle.machine.specs.Laws.{UnknownBeforeGrant}
use Rattle.segment_rule.specs.Rule.{Segment}
use Rattle.segment_rule.specs.Views.{known_use}
use Rattle.segment_rule.specs.Kinds.{LookStays, LookLoses, made}
use Rattle.segment_rule.specs.Standing.{StandsAfter, Follows}
use Rattle.segment_rule.specs.Laws.{MakeIsGrant, LockWinIsHeld, LockLossIsGone, UnlockIsIdle, LookIsNone, TryWinIsTaken, TryLossIsUsed, HeldLock, HeldUnlock, HeldWrite}
use Rattle.segment_rule.proofs.StepsAreEvents.{try_wins, try_loses, lock_wins, lock_loses, look_loses, look_stays, unlocks, make_stands, held_lock, held_unlock, held_write}

-- one more event is answered after those before
answered_push : (h : History) (events : List Event) (e : Event) → answered_after h (events ++ e ∷ []) ≡ (e, answer_of (answered_after h events) e) ∷ answered_after h events
unfolding answered_after
answered_push h [] e = refl
answered_push h (x ∷ events) e = answered_push ((x, answer_of h x) ∷ h) events e

-- an event that is answered so goes on the events
follows : (events : List Event) (e : Event) (a : Answer) (after : Segment) (bytes : List ℕ) → answer_of (answered events) e ≡ a → StandsAfter ((e, a) ∷ answered events) after bytes → Follows events e a after bytes
follows events e a after bytes is stands = record {
  is_told = is;
  stands = subst (λ (h : History). StandsAfter h after bytes) (sym (answered_push [] events e ∙ ap (λ (x : Answer). (e, x) ∷ answered events) is)) stands;
}

-- the same, where the segment after is known by an equation
follows_to : (events : List Event) (e : Event) (a : Answer) (after want : Segment) (bytes : List ℕ) → after ≡ want → answer_of (answered events) e ≡ a → StandsAfter ((e, a) ∷ answered events) want bytes → Follows events e a after bytes
follows_to events e a after want bytes is told_so stands = follows events e a after bytes told_so (subst (λ (x : Segment). StandsAfter ((e, a) ∷ answered events) x bytes) (sym is) stands)

pub lock_win : LockWinIsHeld
lock_win events s after act bytes first count st law step inside =
    let early : 1 ≤ s.owner.last = (law.idle step.from).0.0 in
    let word : s.word ≡ 2 * s.owner.last = step.found in
    let h = lock_wins (answered events) s first count bytes st law step.from (λ z. absurd (omega arith)) inside.0 inside.1 in
    follows_to events (Lock s.owner.id first count) told.Held after _ s.owner.left step.is h.0 h.1

pub lock_loss : LockLossIsGone
lock_loss events s after act bytes first count st law step inside =
    let h = lock_loses (answered events) s first count bytes st law step.from step.found inside.0 inside.1 in
    follows_to events (Lock s.owner.id first count) told.Gone after _ bytes step.is h.0 h.1

pub try_win : TryWinIsTaken
try_win events s after act bytes now st law step =
    let h = try_wins (answered events) s now bytes st law step.apart step.from step.moment step.found in
    follows_to events (Try s.owner.id now) told.Taken after _ bytes step.is h.0 h.1

pub try_loss : TryLossIsUsed
try_loss events s after act bytes now st law step =
    let h = try_loses (answered events) s now bytes st law step.apart step.from step.moment step.found in
    (h.0, ap (λ (x : Segment). known_use x.warden.tries) step.is ∙ h.1, follows_to events (Try s.owner.id now) (told.Used h.0) after _ bytes step.is h.2 h.3)

pub look : LookIsNone
look events s after act bytes st law step =
    ⊎_elim
    (λ (l : LookStays s act after). subst (λ (x : Segment). StandsAfter (answered events) x bytes) (sym l.is) (look_stays (answered events) s bytes st))
    (λ (l : LookLoses s act after). subst (λ (x : Segment). StandsAfter (answered events) x bytes) (sym l.is) (look_loses (answered events) s bytes st law l.from l.found))
    step

-- an event that is no misuse is one that can happen
test_holds : (b : Bool) (good : Answer) → cond b good told.Misuse ≢ told.Misuse → b ≡ true
test_holds true good differs = refl
test_holds false good differs = absurd (differs refl)

may_lock : (h : History) (s first count : ℕ) → answer_of h (Lock s first count) ≢ told.Misuse → can_lock h s first count ≡ true
unfolding answer_of
may_lock h s first count fine = test_holds (can_lock h s first count) (cond (is_gone h s) told.Gone told.Held) fine

may_unlock : (h : History) (s first count at : ℕ) → answer_of h (Unlock s first count at) ≢ told.Misuse → can_unlock h s first count at ≡ true
unfolding answer_of
may_unlock h s first count at fine = test_holds (can_unlock h s first count at) (unlocked (staying h s first count) (max (stamp_of h s) at)) fine

may_write : (h : History) (s place : ℕ) (piece : List ℕ) → answer_of h (Write s place piece) ≢ told.Misuse → can_write h s place piece ≡ true
unfolding answer_of
may_write h s place piece fine = test_holds (can_write h s place piece) told.Written fine

pub unlock : UnlockIsIdle
unlock events s after act bytes first count at st law step fine none =
    let h = unlocks (answered events) s first count at bytes st law step.from (may_unlock (answered events) s.owner.id first count at fine) none in
    follows_to events (Unlock s.owner.id first count at) (told.Idle (max s.owner.last at)) after _ [] step.is h.0 h.1

pub held_locks : HeldLock
held_locks events s bytes first count st law held fine =
    let h = held_lock (answered events) s first count bytes st law held (may_lock (answered events) s.owner.id first count fine) in
    follows events (Lock s.owner.id first count) told.Held s bytes h.0 h.1

pub held_unlocks : HeldUnlock
held_unlocks events s bytes first count at st law held fine some =
    let h = held_unlock (answered events) s first count at bytes st law held (may_unlock (answered events) s.owner.id first count at fine) some in
    follows events (Unlock s.owner.id first count at) (told.StillHeld (staying (answered events) s.owner.id first count)) s bytes h.0 h.1

pub held_writes : HeldWrite
held_writes events s bytes place piece st law held fine =
    let h = held_write (answered events) s place piece bytes st held (may_write (answered events) s.owner.id place piece fine) in
    follows events (Write s.owner.id place piece) told.Written s _ h.0 h.1

-- what a Grant that is no misuse asks
may_grant : (h : History) (s client pages : ℕ) → answer_of h (Grant s client pages) ≢ told.Misuse → (is_begun h s ≡ false) × (1 ≤ pages) × (answer_of h (Grant s client pages) ≡ told.Granted s)
unfolding answer_of
may_grant h s client pages fine =
    let can : can_grant h s client pages ≡ true = test_holds (can_grant h s client pages) (told.Granted s) fine in
    let parts = asked (is_begun h s) (nat_lt 0 client) (nat_le 1 pages) (nat_le pages MOST_PAGES) can in
    let low : nat_le 1 pages ≡ true = parts.1 in
    (parts.0, grind (arith, nat_tests), ap (λ b. cond b (told.Granted s) told.Misuse) can)
  where
    asked : (a b c d : Bool) → (((not a && b) && c) && d) ≡ true → (a ≡ false) × (c ≡ true)
    asked false true true true e = (refl, refl)
    asked true b c d e = absurd (true≢false (sym e))
    asked false false c d e = absurd (true≢false (sym e))
    asked false true false d e = absurd (true≢false (sym e))
    asked false true true false e = absurd (true≢false (sym e))

pub make : UnknownBeforeGrant → MakeIsGrant
make unknown events id client pages fine =
    let asked = may_grant (answered events) id client pages fine in
    follows events (Grant id client pages) (told.Granted id) (made id pages) (replicate (PAGE * pages) 0) asked.2
    (make_stands (answered events) id client pages (unknown events id asked.0) asked.1)
