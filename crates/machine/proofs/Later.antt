-- What stays true of a segment whatever happens later.
use Rattle.std.proofs.Common.{◌≡◌, ◌≢◌, ℕ, ◌+◌, ◌==◌, ◌<◌, ◌≤◌, nat_lt, max, Bool, true, false, not, ◌&&◌, ◌||◌, cond, List, [], ◌∷◌, ◌++◌, length, take, drop, unwrap_or, refl, sym, ap, ◌∙◌, subst, arith, eq-eqb, suc, ◌/◌, add-zero}
use Rattle.std.proofs.lemmas.Bool.{and_parts, eqb-true, false≢true}
use Rattle.std.proofs.lemmas.List.{take-append-drop, append-nil}
use Rattle.units.specs.declared.TheConstants.{PAGE}
use Rattle.machine.specs.declared.event.Event.{Event}
use Rattle.machine.specs.declared.event.Event.TheVariants.{Grant, Lock, Unlock, Write, Try, Back}
use Rattle.machine.specs.declared.event.Answer.{Answer}
use Rattle.machine.specs.declared.event.Answer.TheVariants.{Granted, Held, Gone, Idle, StillHeld, Written, Taken, Used, Counted, Purged, Misuse}
use Rattle.machine.specs.History.{History, number_of, is_begun, is_gone, is_held, stamp_of, known_of, left_of, put}
use Rattle.machine.specs.Answers.{answered, answered_after, answer_of, is_plain, can_grant, can_lock, can_unlock, can_write, can_try, can_give_back, bytes_held, held_count, staying, held, gone, stamp, left, begun}
use Rattle.machine.specs.Laws.{TakenFree, GoneStays, StampRises, LeftStays}
use Rattle.machine.proofs.Sound.{IsSound, sound, none_held, none_stays, grant_parts, unlock_parts}
use Rattle.machine.proofs.Untouched.{begun_other, held_other, left_other}
use Rattle.units.proofs.Ranges.{each_passes}
use Rattle.units.specs.Range.{is_within}

-- events go on from the history of those before
pub answered_append : (h : History) (events later : List Event) → answered_after h (events ++ later) ≡ answered_after (answered_after h events) later
unfolding answered_after
answered_append h [] later = refl
answered_append h (e ∷ events) later = answered_append ((e, answer_of h e) ∷ h) events later

-- a try that is answered Taken finds nothing held
taken_parts : (can some at_stamp : Bool) (now stamp : ℕ) → cond can (cond some (Used now) (cond at_stamp Taken (Used stamp))) Misuse ≡ Taken → some ≡ false
taken_parts true false at_stamp now stamp e = refl
taken_parts true true at_stamp now stamp e = cc
taken_parts false some at_stamp now stamp e = cc

none_counted : (n : ℕ) → nat_lt 0 n ≡ false → n ≡ 0
none_counted n e = grind arith

pub taken_free : TakenFree
unfolding answer_of
taken_free events s now e page =
    let h = answered events in
    none_held h s (sound events s)
    (none_counted (held_count h s (λ page. true))
    (taken_parts (can_try h s now) (nat_lt 0 (held_count h s (λ page. true))) (unwrap_or (known_of h s) 0 == stamp_of h s) now (stamp_of h s) e)) page

-- an event leaves a gone segment gone
gone_after : (h : History) (e : Event) (a : Answer) (s : ℕ) → is_gone h s ≡ true → is_gone ((e, a) ∷ h) s ≡ true
unfolding is_gone
gone_after h (Try id now) Taken s e = or_true (id == s) (is_gone h s) e
  where
    or_true : (a b : Bool) → b ≡ true → (a || b) ≡ true
    or_true true b e = refl
    or_true false b e = e
gone_after h (Try id now) (Granted drawn) s e = e
gone_after h (Try id now) _ s e = e
gone_after h _ _ s e = e

gone_later : (h : History) (later : List Event) (s : ℕ) → is_gone h s ≡ true → is_gone (answered_after h later) s ≡ true
unfolding answered_after
gone_later h [] s e = e
gone_later h (x ∷ later) s e = gone_later ((x, answer_of h x) ∷ h) later s (gone_after h x (answer_of h x) s e)

lock_of_gone : (can gone : Bool) → gone ≡ true → cond can (cond gone Gone Held) Misuse ≢ Misuse → cond can (cond gone Gone Held) Misuse ≡ Gone
lock_of_gone true true g other = refl
lock_of_gone true false g other = absurd (false≢true g)
lock_of_gone false gone g other = absurd (other refl)

pub gone_stays : GoneStays
unfolding answer_of
gone_stays events later s e =
    let lost : gone (events ++ later) s ≡ true
    = ap (λ h. is_gone h s) (answered_append [] events later) ∙ gone_later (answered events) later s e in
    let h = answered (events ++ later) in
    record {
      gone = lost;
      free = (sound (events ++ later) s).gone_free lost;
      locks = λ first count other. lock_of_gone (can_lock h s first count) (is_gone h s) lost other;
    }

-- no event lets the stamp fall
stamp_after : (h : History) (e : Event) (a : Answer) (s : ℕ) → stamp_of h s ≤ stamp_of ((e, a) ∷ h) s
unfolding stamp_of
stamp_after h (Unlock id first count at) (Idle stamp) s = by_test (id == s)
  where
    by_test : (b : Bool) → stamp_of h s ≤ cond b (max (stamp_of h s) at) (stamp_of h s)
    by_test true = omega arith
    by_test false = omega arith
stamp_after h (Unlock id first count at) _ s = omega arith
stamp_after h _ _ s = omega arith

stamp_later : (h : History) (later : List Event) (s : ℕ) → stamp_of h s ≤ stamp_of (answered_after h later) s
unfolding answered_after
stamp_later h [] s = omega arith
stamp_later h (e ∷ later) s =
    let one = stamp_after h e (answer_of h e) s in
    let rest = stamp_later ((e, answer_of h e) ∷ h) later s in
    omega arith

idle_parts : (can none : Bool) (stay stamp idle : ℕ) → cond can (cond none (Idle stamp) (StillHeld stay)) Misuse ≡ Idle idle → can ≡ true
idle_parts true none stay stamp idle e = refl
idle_parts false none stay stamp idle e = cc

-- an Unlock that is answered Idle leaves a moment
stamp_emptied : (h : History) (s first count at idle : ℕ) → answer_of h (Unlock s first count at) ≡ Idle idle
    → 1 ≤ stamp_of ((Unlock s first count at, answer_of h (Unlock s first count at)) ∷ h) s
unfolding answer_of stamp_of
stamp_emptied h s first count at idle e =
    let can = idle_parts (can_unlock h s first count at) (staying h s first count == 0) (staying h s first count) (max (stamp_of h s) at) idle e in
    subst (λ a. 1 ≤ stamp_of ((Unlock s first count at, a) ∷ h) s) (sym e) (stamped (unlock_parts h s first count at can).1.0)
  where
    above : (a b : ℕ) → 1 ≤ b → 1 ≤ max a b
    above a b p = omega arith

    stamped : 1 ≤ at → 1 ≤ stamp_of ((Unlock s first count at, Idle idle) ∷ h) s
    stamped some = subst (λ t. 1 ≤ t) (sym (ap (λ b. cond b (max (stamp_of h s) at) (stamp_of h s)) (eq-eqb s s refl))) (above (stamp_of h s) at some)

pub stamp_rises : (events later : List Event) (s : ℕ) → StampRises events later s
unfolding answered_after
stamp_rises events later s = record {
  rises = subst (λ h. stamp events s ≤ stamp_of h s) (sym (answered_append [] events later)) (stamp_later (answered events) later s);
  emptied = λ first count at idle e.
      let unlocked = Unlock s first count at in
      let h = answered events in
      let some : 1 ≤ stamp_of ((unlocked, answer_of h unlocked) ∷ h) s = stamp_emptied h s first count at idle e in
      let more : stamp_of ((unlocked, answer_of h unlocked) ∷ h) s ≤ stamp_of (answered_after h (unlocked ∷ later)) s
      = stamp_later ((unlocked, answer_of h unlocked) ∷ h) later s in
      let same : answered (events ++ unlocked ∷ later) ≡ answered_after h (unlocked ∷ later) = answered_append [] events (unlocked ∷ later) in
      let least : 1 ≤ stamp (events ++ unlocked ∷ later) s = subst (λ g. 1 ≤ stamp_of g s) (sym same) (omega arith) in
      (least, (sound (events ++ unlocked ∷ later) s).last);
  free = λ begun free. ((sound events s).emptied begun free, (sound events s).last);
}

-- a segment at rest: it was granted, and no page of it is held
pub record IsAtRest (h : History) (s : ℕ) : Type 0 where
  pub begun : is_begun h s ≡ true
  pub free : (page : ℕ) → is_held h s page ≡ false

-- an event keeps a segment at rest, and its bytes
pub record Rests (h g : History) (s : ℕ) : Type 0 where
  pub rest : IsAtRest g s
  pub left : left_of g s ≡ left_of h s

-- the event isn't a Lock of the segment that is answered Held
abbrev NoLock : History → Event → ℕ → Type 0
NoLock h e s = (first count : ℕ) → e ≡ Lock s first count → answer_of h (Lock s first count) ≢ Held

rests_other : (h : History) (e : Event) (a : Answer) (s : ℕ) → (number_of e == s) ≡ false → IsAtRest h s → Rests h ((e, a) ∷ h) s
rests_other h e a s ne w = record {
  rest = record { begun = begun_other h e a s ne ∙ w.begun; free = λ page. held_other h e a s page ne ∙ w.free page };
  left = left_other h e a s ne;
}

rests_same : (h g : History) (s : ℕ) → is_begun g s ≡ is_begun h s → ((page : ℕ) → is_held g s page ≡ is_held h s page) → left_of g s ≡ left_of h s → IsAtRest h s → Rests h g s
rests_same h g s begun held left w = record {
  rest = record { begun = begun ∙ w.begun; free = λ page. held page ∙ w.free page };
  left = left;
}

rests_misuse : (h : History) (e : Event) (s : ℕ) → IsAtRest h s → Rests h ((e, Misuse) ∷ h) s
unfolding is_begun is_held left_of
rests_misuse h (Grant id client pages) s w = rests_same h ((Grant id client pages, Misuse) ∷ h) s refl (λ page. refl) refl w
rests_misuse h (Lock id first count) s w = rests_same h ((Lock id first count, Misuse) ∷ h) s refl (λ page. refl) refl w
rests_misuse h (Unlock id first count at) s w = rests_same h ((Unlock id first count at, Misuse) ∷ h) s refl (λ page. refl) refl w
rests_misuse h (Write id place bytes) s w = rests_same h ((Write id place bytes, Misuse) ∷ h) s refl (λ page. refl) refl w
rests_misuse h (Try id now) s w = rests_same h ((Try id now, Misuse) ∷ h) s refl (λ page. refl) refl w
rests_misuse h (Back id) s w = rests_same h ((Back id, Misuse) ∷ h) s refl (λ page. refl) refl w

rests_grant : (h : History) (s client pages : ℕ) (can : Bool) → can_grant h s client pages ≡ can → IsAtRest h s → Rests h ((Grant s client pages, cond can (Granted s) Misuse) ∷ h) s
rests_grant h s client pages false e w = rests_misuse h (Grant s client pages) s w
rests_grant h s client pages true e w = absurd (false≢true (sym (grant_parts h s client pages e).0 ∙ w.begun))

rests_lock : (h : History) (s first count : ℕ) (can gone : Bool) → cond can (cond gone Gone Held) Misuse ≢ Held → IsAtRest h s
    → Rests h ((Lock s first count, cond can (cond gone Gone Held) Misuse) ∷ h) s
unfolding is_begun is_held left_of
rests_lock h s first count false gone other w = rests_misuse h (Lock s first count) s w
rests_lock h s first count true true other w = rests_same h ((Lock s first count, Gone) ∷ h) s refl (λ page. refl) refl w
rests_lock h s first count true false other w = absurd (other refl)

and_false_right : (a b : Bool) → b ≡ false → (a && b) ≡ b
and_false_right true b e = refl
and_false_right false b e = sym e

rests_unlock : (h : History) (s first count at : ℕ) (can none : Bool) → IsAtRest h s
    → Rests h ((Unlock s first count at, cond can (cond none (Idle (max (stamp_of h s) at)) (StillHeld (staying h s first count))) Misuse) ∷ h) s
unfolding is_begun is_held left_of
rests_unlock h s first count at false none w = rests_misuse h (Unlock s first count at) s w
rests_unlock h s first count at true true w = rests_same h ((Unlock s first count at, Idle (max (stamp_of h s) at)) ∷ h) s refl
    (λ page. and_false_right (not (s == s && is_within first count page)) (is_held h s page) (w.free page)) refl w
rests_unlock h s first count at true false w = rests_same h ((Unlock s first count at, StillHeld (staying h s first count)) ∷ h) s refl
    (λ page. and_false_right (not (s == s && is_within first count page)) (is_held h s page) (w.free page)) refl w

-- bytes that are written where nothing is held are none
none_written : (h : History) (s place : ℕ) (bytes : List ℕ) → IsAtRest h s → bytes_held h s place (length bytes) ≡ true → put place bytes (left_of h s) ≡ left_of h s
none_written h s place [] w e =
    ap (λ xs. xs ++ drop (place + 0) (left_of h s)) (append-nil (take place (left_of h s)))
    ∙ ap (λ n. take place (left_of h s) ++ drop n (left_of h s)) (add-zero place)
    ∙ take-append-drop place (left_of h s)
none_written h s place (byte ∷ bytes) w e =
    absurd (false≢true (sym (w.free (place / PAGE))
    ∙ each_passes (λ byte. is_held h s (byte / PAGE)) place (length (byte ∷ bytes)) place e (omega arith) (some (length bytes))))
  where
    some : (n : ℕ) → place < place + suc n
    some n = omega arith

rests_write : (h : History) (s place : ℕ) (bytes : List ℕ) (can : Bool) → can_write h s place bytes ≡ can → IsAtRest h s
    → Rests h ((Write s place bytes, cond can Written Misuse) ∷ h) s
unfolding is_begun is_held left_of
rests_write h s place bytes false e w = rests_misuse h (Write s place bytes) s w
rests_write h s place bytes true e w = rests_same h ((Write s place bytes, Written) ∷ h) s refl (λ page. refl)
    (ap (λ b. cond b (put place bytes (left_of h s)) (left_of h s)) (eq-eqb s s refl)
    ∙ none_written h s place bytes w (and_parts (is_plain h s) (bytes_held h s place (length bytes)) e).1) w

rests_try : (h : History) (s now : ℕ) (can some at_stamp : Bool) → IsAtRest h s
    → Rests h ((Try s now, cond can (cond some (Used now) (cond at_stamp Taken (Used (stamp_of h s)))) Misuse) ∷ h) s
unfolding is_begun is_held left_of
rests_try h s now false some at_stamp w = rests_misuse h (Try s now) s w
rests_try h s now true true at_stamp w = rests_same h ((Try s now, Used now) ∷ h) s refl (λ page. refl) refl w
rests_try h s now true false true w = rests_same h ((Try s now, Taken) ∷ h) s refl (λ page. refl) refl w
rests_try h s now true false false w = rests_same h ((Try s now, Used (stamp_of h s)) ∷ h) s refl (λ page. refl) refl w

rests_back : (h : History) (s : ℕ) (can gone : Bool) → IsAtRest h s → Rests h ((Back s, cond can (cond gone Purged Counted) Misuse) ∷ h) s
unfolding is_begun is_held left_of
rests_back h s false gone w = rests_misuse h (Back s) s w
rests_back h s true true w = rests_same h ((Back s, Purged) ∷ h) s refl (λ page. refl) refl w
rests_back h s true false w = rests_same h ((Back s, Counted) ∷ h) s refl (λ page. refl) refl w

rests_itself : (h : History) (e : Event) → NoLock h e (number_of e) → IsAtRest h (number_of e) → Rests h ((e, answer_of h e) ∷ h) (number_of e)
unfolding answer_of
rests_itself h (Grant s client pages) other w = rests_grant h s client pages (can_grant h s client pages) refl w
rests_itself h (Lock s first count) other w = rests_lock h s first count (can_lock h s first count) (is_gone h s) (other first count refl) w
rests_itself h (Unlock s first count at) other w = rests_unlock h s first count at (can_unlock h s first count at) (staying h s first count == 0) w
rests_itself h (Write s place bytes) other w = rests_write h s place bytes (can_write h s place bytes) refl w
rests_itself h (Try s now) other w =
    rests_try h s now (can_try h s now) (nat_lt 0 (held_count h s (λ page. true))) (unwrap_or (known_of h s) 0 == stamp_of h s) w
rests_itself h (Back s) other w = rests_back h s (can_give_back h s) (is_gone h s) w

rests_event : (h : History) (e : Event) (s : ℕ) → NoLock h e s → IsAtRest h s → Rests h ((e, answer_of h e) ∷ h) s
rests_event h e s other w = by_test (number_of e == s) refl
  where
    itself : number_of e ≡ s → Rests h ((e, answer_of h e) ∷ h) s
    itself is = subst (λ n. Rests h ((e, answer_of h e) ∷ h) n) is
        (rests_itself h e (subst (λ n. NoLock h e n) (sym is) other) (subst (λ n. IsAtRest h n) (sym is) w))

    by_test : (b : Bool) → (number_of e == s) ≡ b → Rests h ((e, answer_of h e) ∷ h) s
    by_test true is = itself (eqb-true (number_of e) s is)
    by_test false ne = rests_other h e (answer_of h e) s ne w

-- none of the later events is a Lock of the segment that is answered Held
abbrev NoneLocksAfter : History → List Event → ℕ → Type 0
NoneLocksAfter h later s =
    (before after : List Event) (first count : ℕ) → later ≡ before ++ Lock s first count ∷ after
    → answer_of (answered_after h before) (Lock s first count) ≢ Held

left_later : (h : History) (later : List Event) (s : ℕ) → NoneLocksAfter h later s → IsAtRest h s → left_of (answered_after h later) s ≡ left_of h s
unfolding answered_after
left_later h [] s none w = refl
left_later h (e ∷ later) s none w =
    let step = rests_event h e s (λ first count is. none [] later first count (ap (λ x. x ∷ later) is)) w in
    left_later ((e, answer_of h e) ∷ h) later s (λ before after first count is. none (e ∷ before) after first count (ap (λ xs. e ∷ xs) is)) step.rest ∙ step.left

-- an Unlock that is answered Idle leaves the segment at rest
emptied_rests : (h : History) (s first count at idle : ℕ) → answer_of h (Unlock s first count at) ≡ Idle idle → IsSound h s
    → Rests h ((Unlock s first count at, answer_of h (Unlock s first count at)) ∷ h) s
unfolding answer_of is_begun is_held left_of
emptied_rests h s first count at idle e w =
    let can = idle_parts (can_unlock h s first count at) (staying h s first count == 0) (staying h s first count) (max (stamp_of h s) at) idle e in
    let none = staying_none (can_unlock h s first count at) (staying h s first count == 0) (staying h s first count) (max (stamp_of h s) at) refl e in
    subst (λ a. Rests h ((Unlock s first count at, a) ∷ h) s) (sym e) (rests (unlock_parts h s first count at can).0 none)
  where
    staying_none : (can none : Bool) (stay last : ℕ) → (stay == 0) ≡ none → cond can (cond none (Idle last) (StillHeld stay)) Misuse ≡ Idle idle → stay ≡ 0
    staying_none true true stay last is e = eqb-true stay 0 is
    staying_none true false stay last is e = cc
    staying_none false none stay last is e = cc

    rests : is_begun h s ≡ true → staying h s first count ≡ 0 → Rests h ((Unlock s first count at, Idle idle) ∷ h) s
    rests granted none = record {
      rest = record {
        begun = granted;
        free = λ page. ap (λ b. not (b && is_within first count page) && is_held h s page) (eq-eqb s s refl)
            ∙ none_stays h s first count w none page;
      };
      left = refl;
    }

pub left_stays : LeftStays
unfolding answered_after
left_stays events later s first count at idle e none =
    let h = answered events in
    let unlocked = Unlock s first count at in
    let step = emptied_rests h s first count at idle e (sound events s) in
    let pushed : answered (events ++ unlocked ∷ []) ≡ (unlocked, answer_of h unlocked) ∷ h = answered_append [] events (unlocked ∷ []) in
    ap (λ g. left_of g s) (answered_append [] events (unlocked ∷ later))
    ∙ left_later ((unlocked, answer_of h unlocked) ∷ h) later s
    (λ before after first count is held. none before after first count is
    (ap (λ g. answer_of g (Lock s first count)) (answered_append [] (events ++ unlocked ∷ []) before ∙ ap (λ g. answered_after g before) pushed) ∙ held))
    step.rest
    ∙ step.left
