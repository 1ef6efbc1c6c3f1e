-- What an owner's steps make of its segment, as the history tells it.
use Rattle.std.proofs.Common.{take, drop, ◌++◌, ◌/◌, ap, ◌≡◌, ◌↔◌, ℕ, ◌+◌, ◌-◌, ◌*◌, ◌<◌, ◌≤◌, nat_lt, nat_le, max, Bool, true, false, not, ◌&&◌, cond, List, ◌∷◌, length, get_or, None, refl, sym, ◌∙◌, subst, ⊎_elim, arith, IsTrue}
use Rattle.std.proofs.lemmas.Bool.{and_parts, cases_lt, false≢true, ltb-true, ne_eqb}
use Rattle.std.proofs.lemmas.Bool.Decides.{nat_tests}
use Rattle.std.specs.List.{refill}
use Rattle.std.proofs.Math.Seq.{take-append_seam}
use Rattle.std.proofs.lemmas.List.{get_or_past}
use Rattle.units.specs.declared.TheConstants.{PAGE}
use Rattle.units.specs.Moment.{IsMoment, is_moment}
use Rattle.units.proofs.Ranges.{all_pass, each_passes}
use Rattle.machine.specs.declared.event.Event.TheVariants.{Grant, Lock, Unlock, Write}
use Rattle.machine.specs.declared.event.Answer.TheVariants.{Granted, Misuse, Held, Gone, Idle, StillHeld, Written}
use Rattle.machine.specs.History.{History, is_held, pages_of, put}
use Rattle.machine.specs.Answers.{bytes_held, answer_of, can_lock, can_unlock, is_plain, are_free, are_held, staying}
use Rattle.machine.specs.KeptSegment.{KeptSegment}
use Rattle.machine.specs.Segments.{Shows, IsUnknown}
use Rattle.machine.proofs.Steps.{shows_grant, shows_idle, shows_still_held, shows_lock, shows_write}
use Rattle.machine.proofs.Told.{plain_told, unlock_plain, past_the_end, unlock_told, lock_told, unlock_misuse, unlock_answer, lock_misuse, lock_answer, staying_told}
use Rattle.segment.specs.Owned.{Owned, new_owner, IsGranted, after_unlock}
use Rattle.segment.specs.declared.owner.Phase.{Phase}
use Rattle.segment.specs.declared.owner.Phase.TheVariants as phase
use Rattle.segment.specs.declared.owner.Lock.TheVariants as lock
use Rattle.page_locks.specs.Locks.{locked_count, IsAllLocked, AreLocked, AreFree, UnlocksRange, LocksRange}
use Rattle.replay_real.specs.Owner.{left_in, is_lost, kept_by, LocksIn, IsOwner, AfterHold}

-- a segment that was just granted
pub shows_new : (h : History) (s client : ℕ) (side : Owned) (locks : List Bool) → IsUnknown h s → IsGranted side.pages side
    → side ≡ new_owner side.table side.id side.bytes → IsAllLocked locks side.pages
    → Shows ((Grant s client side.pages, Granted s) ∷ h) s (kept_by side locks)
shows_new h s client side locks w granted fresh all =
    shows_grant h s client side.pages (kept_by side locks) w all.size all.each
    (ap (λ (o : Owned). o.last) fresh) refl
    (ap (λ (p : Phase). left_in p side) granted.held ∙ granted.zero_bytes)
    (ap is_lost granted.held) refl

-- the owner of a new segment
pub owns_new : (side : Owned) (locks : List Bool) → 1 ≤ side.pages → IsGranted side.pages side → IsAllLocked locks side.pages → IsOwner side locks
owns_new side locks some granted all =
    record {
      holds = subst (λ (p : Phase). LocksIn p (locked_count locks)) (sym granted.held) (holds (locked_count locks) all.counted);
      sized = all.size;
    }
  where
    holds : (n : ℕ) → n ≡ side.pages → 0 < n
    holds n e = omega arith

-- a true test where the range is locked
held_range : (h : History) (s first count : ℕ) (kept : KeptSegment) → Shows h s kept → is_plain h s ≡ true → AreLocked kept.held first count → are_held h s first count ≡ true
held_range h s first count kept w plain a = all_pass (λ page. is_held h s page) first count (λ page low high. sym (w.held plain page) ∙ a.each page low high)

-- an Unlock that the machine takes finds its range locked
can_unlock_locked : (h : History) (s first count at : ℕ) (kept : KeptSegment) → Shows h s kept → can_unlock h s first count at ≡ true → AreLocked kept.held first count
can_unlock_locked h s first count at kept w e =
    let parts = and_parts (is_plain h s && nat_lt 0 count && are_held h s first count) (is_moment at) e in
    let range = and_parts (is_plain h s && nat_lt 0 count) (are_held h s first count) parts.0 in
    let some = ltb-true 0 count (and_parts (is_plain h s) (nat_lt 0 count) range.0).1 in
    let plain = (and_parts (is_plain h s) (nat_lt 0 count) range.0).0 in
    record {
      some = some;
      inside = ⊎_elim (λ far. absurd (false≢true (sym (past_the_end h s first count kept w plain some far) ∙ range.1))) (λ near. near) (cases_lt (length kept.held) (first + count));
      each = λ page low high. w.held plain page ∙ each_passes (λ p. is_held h s p) first count page range.1 low high;
    }

pub unlock_refused : (h : History) (s first count at : ℕ) (kept : KeptSegment) (r : Bool) → Shows h s kept → (IsTrue r ↔ AreLocked kept.held first count) → r ≡ false
    → Misuse ≡ answer_of h (Unlock s first count at)
unlock_refused h s first count at kept r w told no_range = unlock_misuse h s first count at (by_test (can_unlock h s first count at) refl)
  where
    by_test : (b : Bool) → can_unlock h s first count at ≡ b → false ≡ can_unlock h s first count at
    by_test true e = absurd (false≢true (sym no_range ∙ told.1 (can_unlock_locked h s first count at kept w e)))
    by_test false e = sym e

moment_is : (at : ℕ) → IsMoment at → is_moment at ≡ true
moment_is at m = grind (arith, nat_tests, m.0, m.1)

-- an Unlock of a range that is locked
pub unlock_taken : (h : History) (s first count at : ℕ) (kept : KeptSegment) (r : Bool) → Shows h s kept → kept.ended ≡ false → (IsTrue r ↔ AreLocked kept.held first count) → r ≡ true → IsMoment at
    → true ≡ can_unlock h s first count at
unlock_taken h s first count at kept r w plain told yes_range moment =
    let a = told.0 yes_range in
    unlock_told h s first count at kept true w plain a.some (moment_is at moment) (held_range h s first count kept w (plain_told h s kept w plain) a)

pub still_held_answer : (h : History) (s first count at n : ℕ) (kept : KeptSegment) (new : List Bool) → Shows h s kept → true ≡ can_unlock h s first count at
    → UnlocksRange kept.held new first count → n ≡ locked_count new → 0 < n → StillHeld n ≡ answer_of h (Unlock s first count at)
still_held_answer h s first count at n kept new w can after counted some =
    let stay : n ≡ staying h s first count = counted ∙ sym (staying_told h s first count kept new w (unlock_plain h s first count at can) after.size after.each) in
    sym (ap (λ (b : Bool). cond b (Idle (max kept.stamp at)) (StillHeld n)) (ne_eqb n 0 (λ e. omega arith)))
    ∙ unlock_answer h s first count at n kept w can stay

pub idle_answer : (h : History) (s first count at n : ℕ) (kept : KeptSegment) (new : List Bool) → Shows h s kept → true ≡ can_unlock h s first count at
    → UnlocksRange kept.held new first count → n ≡ locked_count new → n ≤ 0 → Idle (max at kept.stamp) ≡ answer_of h (Unlock s first count at)
idle_answer h s first count at n kept new w can after counted none =
    let stay : 0 ≡ staying h s first count = omega arith ∙ counted ∙ sym (staying_told h s first count kept new w (unlock_plain h s first count at can) after.size after.each) in
    ap Idle (omega arith) ∙ unlock_answer h s first count at 0 kept w can stay

pub still_held_after : (h : History) (s first count at n : ℕ) (side : Owned) (locks new : List Bool) → Shows h s (kept_by side locks)
    → UnlocksRange locks new first count → Shows ((Unlock s first count at, StillHeld n) ∷ h) s (kept_by side new)
still_held_after h s first count at n side locks new w after = shows_still_held h s first count at n (kept_by side locks) new w after.size after.each

-- what is kept of a segment whose side holds
pub as_held : (h : History) (s : ℕ) (side : Owned) (locks : List Bool) → side.phase ≡ phase.Held → Shows h s (kept_by side locks)
    → Shows h s (record { held = locks; stamp = side.last; known = None; bytes = side.bytes; gone = false; ended = false })
as_held h s side locks holds w =
    subst (λ (p : Phase). Shows h s (record { held = locks; stamp = side.last; known = None; bytes = left_in p side; gone = is_lost p; ended = false })) holds w

pub idle_after : (h : History) (s first count at : ℕ) (side : Owned) (locks new : List Bool) → side.phase ≡ phase.Held → Shows h s (kept_by side locks)
    → UnlocksRange locks new first count → Shows ((Unlock s first count at, Idle (max at side.last)) ∷ h) s (kept_by (after_unlock at side) new)
idle_after h s first count at side locks new holds w after =
    shows_idle h s first count at (max at side.last) (record { held = locks; stamp = side.last; known = None; bytes = side.bytes; gone = false; ended = false }) new
    (as_held h s side locks holds w) after.size after.each (omega arith)

-- a side with a locked page holds
pub holds_some : (p : Phase) (n : ℕ) → LocksIn p n → 0 < n → p ≡ phase.Held
holds_some phase.Held n w some = refl
holds_some phase.Idle n w some = absurd (omega arith)
holds_some phase.Gone n w some = absurd (omega arith)

-- bytes that keep their length
pub refill_is : (xs ws : List ℕ) → length ws ≡ length xs → refill (length xs) xs ws ≡ ws
refill_is xs ws e = ap (λ (n : ℕ). take n (ws ++ drop (length ws) xs)) (sym e) ∙ take-append_seam ws (drop (length ws) xs)

pub write_after : (h : History) (s place : ℕ) (bytes after : List ℕ) (side : Owned) (locks : List Bool) → side.phase ≡ phase.Held → Shows h s (kept_by side locks)
    → after ≡ put place bytes side.bytes → Shows ((Write s place bytes, Written) ∷ h) s (kept_by (record side { bytes = after }) locks)
write_after h s place bytes after side locks holds w is =
    subst (λ (p : Phase). Shows ((Write s place bytes, Written) ∷ h) s
    (record { held = locks; stamp = side.last; known = None; bytes = left_in p (record side { bytes = after }); gone = is_lost p; ended = false })) (sym holds)
    (shows_write h s place bytes (record { held = locks; stamp = side.last; known = None; bytes = side.bytes; gone = false; ended = false }) after (as_held h s side locks holds w) is)

-- a byte of a page of the range
byte_of : (place last page : ℕ) → place / PAGE ≤ page → page < last / PAGE + 1 → place ≤ last → (byte : ℕ) × (place ≤ byte) × (byte < last + 1) × (byte / PAGE ≡ page)
byte_of place last page low high some =
    ⊎_elim (λ inner. (page * PAGE, omega arith, omega arith, omega arith)) (λ outer. (place, omega arith, omega arith, omega arith)) (cases_lt place (page * PAGE))

-- whether the bytes of a range lie in held pages is whether these pages are locked
pub bytes_locked : (h : History) (s place count first n : ℕ) (locks : List Bool) (r : Bool) → ((page : ℕ) → get_or locks page false ≡ is_held h s page) → 0 < count
    → first ≡ place / PAGE → first + n ≡ (place + (count - 1)) / PAGE + 1 → (IsTrue r ↔ AreLocked locks first n) → r ≡ bytes_held h s place count
bytes_locked h s place count first n locks true told some from to is =
    let a = is.0 refl in
    sym (all_pass (λ byte. is_held h s (byte / PAGE)) place count (λ byte low high. sym (told (byte / PAGE)) ∙ a.each (byte / PAGE) (omega arith) (omega arith)))
bytes_locked h s place count first n locks false told some from to is = by_test (bytes_held h s place count) refl
  where
    last_inside : get_or locks (first + n - 1) false ≡ true → first + n ≤ length locks
    last_inside e = ⊎_elim (λ past. absurd (false≢true (sym (get_or_past locks (first + n - 1) false (omega arith)) ∙ e))) (λ near. near) (cases_lt (length locks) (first + n))

    by_test : (b : Bool) → bytes_held h s place count ≡ b → false ≡ bytes_held h s place count
    by_test false e = sym e
    by_test true e =
        let each : (page : ℕ) → first ≤ page → page < first + n → get_or locks page false ≡ true =
        λ page low high. let b = byte_of place (place + (count - 1)) page (omega arith) (omega arith) (omega arith) in
        told page ∙ ap (λ (p : ℕ). is_held h s p) (sym b.3) ∙ each_passes (λ byte. is_held h s (byte / PAGE)) place count b.0 e b.1 (omega (arith, b.2)) in
        let more : 0 < n = omega arith in
        absurd (false≢true (is.1 (record { some = more; inside = last_inside (each (first + n - 1) (omega arith) (omega arith)); each = each })))

-- a Lock that the machine takes finds its range free
can_lock_free : (h : History) (s first count : ℕ) (kept : KeptSegment) → Shows h s kept → can_lock h s first count ≡ true → AreFree kept.held first count
can_lock_free h s first count kept w e =
    let parts = and_parts (is_plain h s && nat_lt 0 count && nat_le (first + count) (pages_of h s)) (are_free h s first count) e in
    let range = and_parts (is_plain h s && nat_lt 0 count) (nat_le (first + count) (pages_of h s)) parts.0 in
    let inside = le-true (first + count) (pages_of h s) range.1 in
    let plain = (and_parts (is_plain h s) (nat_lt 0 count) range.0).0 in
    let pages = w.pages plain in
    record {
      some = ltb-true 0 count (and_parts (is_plain h s) (nat_lt 0 count) range.0).1;
      inside = omega arith;
      each = λ page low high. w.held plain page ∙ was_not (is_held h s page) (each_passes (λ p. not (is_held h s p)) first count page parts.1 low high);
    }
  where
    was_not : (b : Bool) → not b ≡ true → b ≡ false
    was_not true e = absurd (false≢true e)
    was_not false e = refl

    le-true : (a b : ℕ) → nat_le a b ≡ true → a ≤ b
    le-true a b e = grind (arith, nat_tests)

pub lock_refused : (h : History) (s first count : ℕ) (kept : KeptSegment) → Shows h s kept → (IsTrue false ↔ AreFree kept.held first count) → Misuse ≡ answer_of h (Lock s first count)
lock_refused h s first count kept w told = lock_misuse h s first count (by_test (can_lock h s first count) refl)
  where
    by_test : (b : Bool) → can_lock h s first count ≡ b → false ≡ can_lock h s first count
    by_test true e = absurd (false≢true (told.1 (can_lock_free h s first count kept w e)))
    by_test false e = sym e

pub lock_held : (h : History) (s first count : ℕ) (kept : KeptSegment) → Shows h s kept → kept.ended ≡ false → kept.gone ≡ false → (IsTrue true ↔ AreFree kept.held first count)
    → Held ≡ answer_of h (Lock s first count)
lock_held h s first count kept w plain there told =
    let a = told.0 refl in
    sym (ap (λ (b : Bool). cond b Gone Held) there)
    ∙ lock_answer h s first count kept w
    (lock_told h s first count kept true w plain a.some a.inside
    (all_pass (λ page. not (is_held h s page)) first count (λ page low high. ap not (sym (w.held (plain_told h s kept w plain) page) ∙ a.each page low high))))

pub lock_after : (h : History) (s first count : ℕ) (old new : Owned) (locks after : List Bool) → Shows h s (kept_by old locks) → AfterHold lock.Held old new → LocksRange locks after first count
    → Shows ((Lock s first count, Held) ∷ h) s (kept_by new after)
lock_after h s first count old new locks after w held locked =
    subst (λ (o : Owned). Shows ((Lock s first count, Held) ∷ h) s (kept_by o after)) (sym held.1)
    (subst (λ (g : Bool). Shows ((Lock s first count, Held) ∷ h) s
    (record { held = after; stamp = old.last; known = None; bytes = left_in old.phase old; gone = g; ended = false })) held.0
    (shows_lock h s first count (kept_by old locks) after w locked.size locked.each))
