-- What holds of a segment in every history of answered events.
use Rattle.std.proofs.Common.{◌≡◌, ℕ, ◌+◌, ◌==◌, ◌<◌, ◌≤◌, nat_lt, nat_le, max, Bool, true, false, not, ◌&&◌, ◌||◌, cond, List, [], ◌∷◌, length, unwrap_or, count_by, refl, sym, ap, ◌∙◌, subst, arith, eq-eqb, zero, suc, ⊎_elim, zero-add}
use Rattle.std.specs.List.{range_with_len}
use Rattle.std.proofs.lemmas.Bool.{and_parts, cases_eq, eqb-true, leb-true, ltb-true, false≢true}
use Rattle.std.proofs.lemmas.Bool.Decides.{nat_tests}
use Rattle.std.proofs.lemmas.List.Sums.{sum_by-cons}
use Rattle.units.specs.Moment.{IsMoment, is_moment}
use Rattle.units.specs.Range.{is_within}
use Rattle.units.specs.declared.TheConstants.{LAST_MOMENT, MOST_PAGES}
use Rattle.machine.specs.declared.event.Event.{Event}
use Rattle.machine.specs.declared.event.Event.TheVariants.{Grant, Lock, Unlock, Write, Try, Back}
use Rattle.machine.specs.declared.event.Answer.{Answer}
use Rattle.machine.specs.declared.event.Answer.TheVariants.{Granted, Held, Gone, Idle, StillHeld, Written, Taken, Used, Counted, Purged, Misuse}
use Rattle.machine.specs.History.{History, number_of, is_begun, pages_of, is_ended, is_gone, is_held, stamp_of, known_of, left_of}
use Rattle.machine.specs.Answers.{answered, answered_after, answer_of, is_plain, is_live, can_grant, can_lock, can_unlock, can_write, can_try, can_give_back, are_free, are_held, held_count, staying, bytes_held}
use Rattle.machine.specs.Segments.{IsUnknown}
use Rattle.machine.proofs.Untouched.{begun_other, pages_other, gone_other, held_other, stamp_other, unknown_other, unknown_misuse}
use Rattle.machine.proofs.Whole.{none_yet}

-- held pages lie in the segment, none is held once it is gone, the stamp is a moment where none is held, and nothing
-- happened before the Grant
pub record IsSound (h : History) (s : ℕ) : Type 0 where
  pub inside : (page : ℕ) → is_held h s page ≡ true → page < pages_of h s
  pub gone_free : is_gone h s ≡ true → (page : ℕ) → is_held h s page ≡ false
  pub last : stamp_of h s ≤ LAST_MOMENT
  pub emptied : is_begun h s ≡ true → ((page : ℕ) → is_held h s page ≡ false) → 1 ≤ stamp_of h s
  pub unknown : is_begun h s ≡ false → IsUnknown h s

pub none_sound : (s : ℕ) → IsSound (answered []) s
unfolding answered_after is_begun is_ended is_gone is_held stamp_of known_of pages_of
none_sound s = record {
  inside = λ page e. absurd (false≢true e);
  gone_free = λ e. absurd (false≢true e);
  last = omega arith;
  emptied = λ e. absurd (false≢true e);
  unknown = λ e. none_yet s;
}

-- an event on another segment
pub other_sound : (h : History) (e : Event) (a : Answer) (s : ℕ) → (number_of e == s) ≡ false → IsSound h s → IsSound ((e, a) ∷ h) s
other_sound h e a s ne w = record {
  inside = λ page held. subst (λ n. page < n) (sym (pages_other h e a s ne)) (w.inside page (sym (held_other h e a s page ne) ∙ held));
  gone_free = λ gone page. held_other h e a s page ne ∙ w.gone_free (sym (gone_other h e a s ne) ∙ gone) page;
  last = subst (λ t. t ≤ LAST_MOMENT) (sym (stamp_other h e a s ne)) w.last;
  emptied = λ begun free. subst (λ t. 1 ≤ t) (sym (stamp_other h e a s ne))
      (w.emptied (sym (begun_other h e a s ne) ∙ begun) (λ page. sym (held_other h e a s page ne) ∙ free page));
  unknown = λ none. unknown_other h e a s ne (w.unknown (sym (begun_other h e a s ne) ∙ none));
}

same : (s : ℕ) → (s == s) ≡ true
same s = eq-eqb s s refl

-- an event after which the words stand as before
pub same_sound : (h g : History) (s : ℕ) → is_begun g s ≡ is_begun h s → pages_of g s ≡ pages_of h s → is_gone g s ≡ is_gone h s
    → ((page : ℕ) → is_held g s page ≡ is_held h s page) → stamp_of g s ≡ stamp_of h s → (IsUnknown h s → IsUnknown g s) → IsSound h s → IsSound g s
same_sound h g s begun pages gone held stamp unknown w = record {
  inside = λ page e. subst (λ n. page < n) (sym pages) (w.inside page (sym (held page) ∙ e));
  gone_free = λ e page. held page ∙ w.gone_free (sym gone ∙ e) page;
  last = subst (λ t. t ≤ LAST_MOMENT) (sym stamp) w.last;
  emptied = λ e free. subst (λ t. 1 ≤ t) (sym stamp) (w.emptied (sym begun ∙ e) (λ page. sym (held page) ∙ free page));
  unknown = λ none. unknown (w.unknown (sym begun ∙ none));
}

pub misuse_sound : (h : History) (e : Event) (s : ℕ) → IsSound h s → IsSound ((e, Misuse) ∷ h) s
unfolding is_begun pages_of is_ended is_gone is_held stamp_of known_of left_of
misuse_sound h (Grant id client pages) s w = same_sound h ((Grant id client pages, Misuse) ∷ h) s refl refl refl (λ page. refl) refl (unknown_misuse h (Grant id client pages) s) w
misuse_sound h (Lock id first count) s w = same_sound h ((Lock id first count, Misuse) ∷ h) s refl refl refl (λ page. refl) refl (unknown_misuse h (Lock id first count) s) w
misuse_sound h (Unlock id first count at) s w = same_sound h ((Unlock id first count at, Misuse) ∷ h) s refl refl refl (λ page. refl) refl (unknown_misuse h (Unlock id first count at) s) w
misuse_sound h (Write id place bytes) s w = same_sound h ((Write id place bytes, Misuse) ∷ h) s refl refl refl (λ page. refl) refl (unknown_misuse h (Write id place bytes) s) w
misuse_sound h (Try id now) s w = same_sound h ((Try id now, Misuse) ∷ h) s refl refl refl (λ page. refl) refl (unknown_misuse h (Try id now) s) w
misuse_sound h (Back id) s w = same_sound h ((Back id, Misuse) ∷ h) s refl refl refl (λ page. refl) refl (unknown_misuse h (Back id) s) w

was_false : (b : Bool) → not b ≡ true → b ≡ false
was_false true e = sym e
was_false false e = refl

-- a Grant that may be
pub grant_parts : (h : History) (s client pages : ℕ) → can_grant h s client pages ≡ true → (is_begun h s ≡ false) × (1 ≤ pages)
grant_parts h s client pages e =
    let few = and_parts (not (is_begun h s) && nat_lt 0 client && nat_le 1 pages) (nat_le pages MOST_PAGES) e in
    let some = and_parts (not (is_begun h s) && nat_lt 0 client) (nat_le 1 pages) few.0 in
    let new = and_parts (not (is_begun h s)) (nat_lt 0 client) some.0 in
    (was_false (is_begun h s) new.0, leb-true 1 pages some.1)

first_page : (pages : ℕ) → 1 ≤ pages → nat_lt 0 pages ≡ true
first_page pages h = grind (arith, nat_tests)

pub grant_sound : (h : History) (s client pages : ℕ) (can : Bool) → can_grant h s client pages ≡ can → IsSound h s → IsSound ((Grant s client pages, cond can (Granted s) Misuse) ∷ h) s
unfolding is_begun pages_of is_ended is_gone is_held stamp_of known_of left_of
grant_sound h s client pages false e w = misuse_sound h (Grant s client pages) s w
grant_sound h s client pages true e w =
    let parts = grant_parts h s client pages e in
    let before = w.unknown parts.0 in
    let sized : pages_of ((Grant s client pages, Granted s) ∷ h) s ≡ pages = ap (λ b. cond b pages (pages_of h s)) (same s) in
    let held : (page : ℕ) → is_held ((Grant s client pages, Granted s) ∷ h) s page ≡ nat_lt page pages
    = λ page. ap (λ b. cond b (nat_lt page pages) (is_held h s page)) (same s) in
    record {
      inside = λ page e. subst (λ n. page < n) (sym sized) (ltb-true page pages (sym (held page) ∙ e));
      gone_free = λ gone. absurd (false≢true (sym before.gone ∙ gone));
      last = w.last;
      emptied = λ begun free. absurd (false≢true (sym (free 0) ∙ held 0 ∙ first_page pages parts.1));
      unknown = λ none. absurd (false≢true (sym none ∙ ap (λ b. b || is_begun h s) (same s)));
    }

-- a Lock that may be
lock_parts : (h : History) (s first count : ℕ) → can_lock h s first count ≡ true → (is_begun h s ≡ true) × (0 < count) × (first + count ≤ pages_of h s)
lock_parts h s first count e =
    let free = and_parts (is_plain h s && nat_lt 0 count && nat_le (first + count) (pages_of h s)) (are_free h s first count) e in
    let inside = and_parts (is_plain h s && nat_lt 0 count) (nat_le (first + count) (pages_of h s)) free.0 in
    let some = and_parts (is_plain h s) (nat_lt 0 count) inside.0 in
    let plain = and_parts (is_begun h s) (not (is_ended h s)) some.0 in
    (plain.0, ltb-true 0 count some.1, leb-true (first + count) (pages_of h s) inside.1)

or_parts : (a b : Bool) → (a || b) ≡ true → (b ≡ false) → a ≡ true
or_parts true b e n = refl
or_parts false b e n = absurd (false≢true (sym n ∙ e))

within_inside : (first count page pages : ℕ) → is_within first count page ≡ true → first + count ≤ pages → page < pages
within_inside first count page pages e h =
    let parts = and_parts (nat_le first page) (nat_lt page (first + count)) e in
    let below = ltb-true page (first + count) parts.1 in
    omega arith

first_within : (first count : ℕ) → 0 < count → is_within first count first ≡ true
first_within first count h = grind (arith, nat_tests)

pub lock_sound : (h : History) (s first count : ℕ) (can gone : Bool) → can_lock h s first count ≡ can → is_gone h s ≡ gone → IsSound h s
    → IsSound ((Lock s first count, cond can (cond gone Gone Held) Misuse) ∷ h) s
unfolding is_begun pages_of is_ended is_gone is_held stamp_of known_of left_of
lock_sound h s first count false gone e g w = misuse_sound h (Lock s first count) s w
lock_sound h s first count true true e g w =
    same_sound h ((Lock s first count, Gone) ∷ h) s refl refl refl (λ page. refl) refl
    (λ u. record { begun = u.begun; pages = u.pages; held = u.held; stamp = u.stamp; known = u.known; gone = u.gone; ended = u.ended }) w
lock_sound h s first count true false e g w =
    let parts = lock_parts h s first count e in
    let held : (page : ℕ) → is_held ((Lock s first count, Held) ∷ h) s page ≡ (is_within first count page || is_held h s page)
    = λ page. ap (λ b. b && is_within first count page || is_held h s page) (same s) in
    record {
      inside = λ page e. by_test page (is_held h s page) refl (sym (held page) ∙ e);
      gone_free = λ gone. absurd (false≢true (sym g ∙ gone));
      last = w.last;
      emptied = λ begun free. absurd (false≢true (sym (free first) ∙ held first ∙ ap (λ b. b || is_held h s first) (first_within first count parts.1)));
      unknown = λ none. absurd (false≢true (sym none ∙ parts.0));
    }
  where
    by_test : (page : ℕ) (was : Bool) → is_held h s page ≡ was → (is_within first count page || is_held h s page) ≡ true → page < pages_of h s
    by_test page true before both = w.inside page before
    by_test page false before both =
        within_inside first count page (pages_of h s) (or_parts (is_within first count page) (is_held h s page) both before) (lock_parts h s first count e).2

-- an Unlock that may be
pub unlock_parts : (h : History) (s first count at : ℕ) → can_unlock h s first count at ≡ true → (is_begun h s ≡ true) × IsMoment at
unlock_parts h s first count at e =
    let moment = and_parts (is_plain h s && nat_lt 0 count && are_held h s first count) (is_moment at) e in
    let held = and_parts (is_plain h s && nat_lt 0 count) (are_held h s first count) moment.0 in
    let some = and_parts (is_plain h s) (nat_lt 0 count) held.0 in
    let plain = and_parts (is_begun h s) (not (is_ended h s)) some.0 in
    let ends = and_parts (nat_le 1 at) (nat_le at LAST_MOMENT) moment.1 in
    (plain.0, (leb-true 1 at ends.0, leb-true at LAST_MOMENT ends.1))

-- no number of a list passes a test that none passes
none_pass : (f : ℕ → Bool) (xs : List ℕ) → ((k : ℕ) → f k ≡ false) → count_by f xs ≡ 0
none_pass f [] none = refl
none_pass f (x ∷ xs) none =
    sum_by-cons (λ k. cond (f k) 1 0) x xs ∙ ap {B = ℕ} (λ b. cond b 1 0 + count_by f xs) (none x) ∙ zero-add (count_by f xs) ∙ none_pass f xs none

-- where no number of a range passes, each fails
each_fails : (f : ℕ → Bool) (first n k : ℕ) → count_by f (range_with_len first n) ≡ 0 → first ≤ k → k < first + n → f k ≡ false
each_fails f first zero k none low high = absurd (omega arith)
each_fails f first (suc n) k none low high =
    let counted : cond (f first) 1 0 + count_by f (range_with_len (first + 1) n) ≡ 0
    = sym (sum_by-cons (λ k. cond (f k) 1 0) first (range_with_len (first + 1) n)) ∙ none in
    ⊎_elim (λ same. ap f same ∙ fails (f first) (count_by f (range_with_len (first + 1) n)) counted)
    (λ other. each_fails f (first + 1) n k (rest (f first) (count_by f (range_with_len (first + 1) n)) counted) (omega arith) (omega arith))
    (cases_eq k first)
  where
    fails : (b : Bool) (n : ℕ) → cond b 1 0 + n ≡ 0 → b ≡ false
    fails true n e = absurd (omega arith)
    fails false n e = refl

    rest : (b : Bool) (n : ℕ) → cond b 1 0 + n ≡ 0 → n ≡ 0
    rest true n e = absurd (omega arith)
    rest false n e = sym (zero-add n) ∙ e

swapped : (a b : Bool) → (a && b) ≡ (b && a)
swapped true true = refl
swapped true false = refl
swapped false true = refl
swapped false false = refl

and_false_right : (a b : Bool) → b ≡ false → (a && b) ≡ false
and_false_right true b e = e
and_false_right false b e = refl

-- no page of a sound segment is held where none is counted
pub none_held : (h : History) (s : ℕ) → IsSound h s → held_count h s (λ page. true) ≡ 0 → (page : ℕ) → is_held h s page ≡ false
none_held h s w none page = by_test (is_held h s page) refl
  where
    counted : is_held h s page ≡ true → (is_held h s page && true) ≡ false
    counted e = each_fails (λ page. is_held h s page && true) 0 (pages_of h s) page none (omega arith) (subst (λ n. page < n) (sym (zero-add (pages_of h s))) (w.inside page e))

    by_test : (b : Bool) → is_held h s page ≡ b → is_held h s page ≡ false
    by_test true e = absurd (false≢true (sym (counted e) ∙ ap (λ b. b && true) e))
    by_test false e = e

-- no page of a sound segment stays held where none is counted to stay
pub none_stays : (h : History) (s first count : ℕ) → IsSound h s → staying h s first count ≡ 0 → (page : ℕ) → (not (is_within first count page) && is_held h s page) ≡ false
none_stays h s first count w none page = by_test (is_held h s page) refl
  where
    counted : is_held h s page ≡ true → (is_held h s page && not (is_within first count page)) ≡ false
    counted e = each_fails (λ page. is_held h s page && not (is_within first count page)) 0 (pages_of h s) page none (omega arith)
        (subst (λ n. page < n) (sym (zero-add (pages_of h s))) (w.inside page e))

    by_test : (b : Bool) → is_held h s page ≡ b → (not (is_within first count page) && is_held h s page) ≡ false
    by_test true e = swapped (not (is_within first count page)) (is_held h s page) ∙ counted e
    by_test false e = and_false_right (not (is_within first count page)) (is_held h s page) e

pub unlock_sound : (h : History) (s first count at : ℕ) (can none : Bool) → can_unlock h s first count at ≡ can → (staying h s first count == 0) ≡ none → IsSound h s
    → IsSound ((Unlock s first count at, cond can (cond none (Idle (max (stamp_of h s) at)) (StillHeld (staying h s first count))) Misuse) ∷ h) s
unfolding is_begun pages_of is_ended is_gone is_held stamp_of known_of left_of
unlock_sound h s first count at false none e n w = misuse_sound h (Unlock s first count at) s w
unlock_sound h s first count at true true e n w =
    let parts = unlock_parts h s first count at e in
    let held : (page : ℕ) → is_held ((Unlock s first count at, Idle (max (stamp_of h s) at)) ∷ h) s page ≡ (not (is_within first count page) && is_held h s page)
    = λ page. ap (λ b. not (b && is_within first count page) && is_held h s page) (same s) in
    let stamp : stamp_of ((Unlock s first count at, Idle (max (stamp_of h s) at)) ∷ h) s ≡ max (stamp_of h s) at
    = ap (λ b. cond b (max (stamp_of h s) at) (stamp_of h s)) (same s) in
    record {
      inside = λ page is. w.inside page (and_parts (not (is_within first count page)) (is_held h s page) (sym (held page) ∙ is)).1;
      gone_free = λ gone page. held page ∙ and_false_right (not (is_within first count page)) (is_held h s page) (w.gone_free gone page);
      last = subst (λ t. t ≤ LAST_MOMENT) (sym stamp) (max_below (stamp_of h s) at w.last parts.1.1);
      emptied = λ begun free. subst (λ t. 1 ≤ t) (sym stamp) (max_above (stamp_of h s) at parts.1.0);
      unknown = λ none. absurd (false≢true (sym none ∙ parts.0));
    }
  where
    max_below : (a b : ℕ) → a ≤ LAST_MOMENT → b ≤ LAST_MOMENT → max a b ≤ LAST_MOMENT
    max_below a b p q = omega arith

    max_above : (a b : ℕ) → 1 ≤ b → 1 ≤ max a b
    max_above a b p = omega arith
unlock_sound h s first count at true false e n w =
    let parts = unlock_parts h s first count at e in
    let held : (page : ℕ) → is_held ((Unlock s first count at, StillHeld (staying h s first count)) ∷ h) s page ≡ (not (is_within first count page) && is_held h s page)
    = λ page. ap (λ b. not (b && is_within first count page) && is_held h s page) (same s) in
    record {
      inside = λ page is. w.inside page (and_parts (not (is_within first count page)) (is_held h s page) (sym (held page) ∙ is)).1;
      gone_free = λ gone page. held page ∙ and_false_right (not (is_within first count page)) (is_held h s page) (w.gone_free gone page);
      last = w.last;
      emptied = λ begun free. absurd (false≢true (sym n ∙ eq-eqb (staying h s first count) 0
          (none_pass (λ page. is_held h s page && not (is_within first count page)) (range_with_len 0 (pages_of h s))
          (λ page. swapped (is_held h s page) (not (is_within first count page)) ∙ sym (held page) ∙ free page))));
      unknown = λ none. absurd (false≢true (sym none ∙ parts.0));
    }

-- an event that some words tell to be on a granted segment
not_unknown : (h g : History) (s : ℕ) → is_begun h s ≡ true → IsUnknown h s → IsUnknown g s
not_unknown h g s begun u = absurd (false≢true (sym u.begun ∙ begun))

pub write_sound : (h : History) (s place : ℕ) (bytes : List ℕ) (can : Bool) → can_write h s place bytes ≡ can → IsSound h s
    → IsSound ((Write s place bytes, cond can Written Misuse) ∷ h) s
unfolding is_begun pages_of is_ended is_gone is_held stamp_of known_of left_of
write_sound h s place bytes false e w = misuse_sound h (Write s place bytes) s w
write_sound h s place bytes true e w =
    let plain = and_parts (is_plain h s) (bytes_held h s place (length bytes)) e in
    let begun = and_parts (is_begun h s) (not (is_ended h s)) plain.0 in
    same_sound h ((Write s place bytes, Written) ∷ h) s refl refl refl (λ page. refl) refl (not_unknown h ((Write s place bytes, Written) ∷ h) s begun.0) w

try_parts : (h : History) (s now : ℕ) → can_try h s now ≡ true → is_begun h s ≡ true
try_parts h s now e =
    let live = and_parts (is_live h s) (is_moment now) e in
    let plain = and_parts (is_plain h s) (not (is_gone h s)) live.0 in
    (and_parts (is_begun h s) (not (is_ended h s)) plain.0).0

none_counted : (n : ℕ) → nat_lt 0 n ≡ false → n ≡ 0
none_counted n e = grind (arith, nat_tests)

pub try_sound : (h : History) (s now : ℕ) (can some at_stamp : Bool) → can_try h s now ≡ can → nat_lt 0 (held_count h s (λ page. true)) ≡ some
    → (unwrap_or (known_of h s) 0 == stamp_of h s) ≡ at_stamp → IsSound h s
    → IsSound ((Try s now, cond can (cond some (Used now) (cond at_stamp Taken (Used (stamp_of h s)))) Misuse) ∷ h) s
unfolding is_begun pages_of is_ended is_gone is_held stamp_of known_of left_of
try_sound h s now false some at_stamp e n k w = misuse_sound h (Try s now) s w
try_sound h s now true true at_stamp e n k w = same_sound h ((Try s now, Used now) ∷ h) s refl refl refl (λ page. refl) refl
    (not_unknown h ((Try s now, Used now) ∷ h) s (try_parts h s now e)) w
try_sound h s now true false false e n k w = same_sound h ((Try s now, Used (stamp_of h s)) ∷ h) s refl refl refl (λ page. refl) refl
    (not_unknown h ((Try s now, Used (stamp_of h s)) ∷ h) s (try_parts h s now e)) w
try_sound h s now true false true e n k w = record {
  inside = w.inside;
  gone_free = λ gone. none_held h s w (none_counted (held_count h s (λ page. true)) n);
  last = w.last;
  emptied = w.emptied;
  unknown = λ none. absurd (false≢true (sym none ∙ try_parts h s now e));
}

pub back_sound : (h : History) (s : ℕ) (can gone : Bool) → can_give_back h s ≡ can → is_gone h s ≡ gone → IsSound h s
    → IsSound ((Back s, cond can (cond gone Purged Counted) Misuse) ∷ h) s
unfolding is_begun pages_of is_ended is_gone is_held stamp_of known_of left_of
back_sound h s false gone e g w = misuse_sound h (Back s) s w
back_sound h s true true e g w = same_sound h ((Back s, Purged) ∷ h) s refl refl refl (λ page. refl) refl
    (not_unknown h ((Back s, Purged) ∷ h) s (and_parts (is_begun h s) (not (is_ended h s) || is_gone h s) e).0) w
back_sound h s true false e g w = same_sound h ((Back s, Counted) ∷ h) s refl refl refl (λ page. refl) refl
    (not_unknown h ((Back s, Counted) ∷ h) s (and_parts (is_begun h s) (not (is_ended h s) || is_gone h s) e).0) w

-- an event on the segment itself
itself_sound : (h : History) (e : Event) → IsSound h (number_of e) → IsSound ((e, answer_of h e) ∷ h) (number_of e)
unfolding answer_of
itself_sound h (Grant s client pages) w = grant_sound h s client pages (can_grant h s client pages) refl w
itself_sound h (Lock s first count) w = lock_sound h s first count (can_lock h s first count) (is_gone h s) refl refl w
itself_sound h (Unlock s first count at) w = unlock_sound h s first count at (can_unlock h s first count at) (staying h s first count == 0) refl refl w
itself_sound h (Write s place bytes) w = write_sound h s place bytes (can_write h s place bytes) refl w
itself_sound h (Try s now) w =
    try_sound h s now (can_try h s now) (nat_lt 0 (held_count h s (λ page. true))) (unwrap_or (known_of h s) 0 == stamp_of h s) refl refl refl w
itself_sound h (Back s) w = back_sound h s (can_give_back h s) (is_gone h s) refl refl w

pub event_sound : (h : History) (e : Event) (s : ℕ) → IsSound h s → IsSound ((e, answer_of h e) ∷ h) s
event_sound h e s w = by_test (number_of e == s) refl
  where
    by_test : (b : Bool) → (number_of e == s) ≡ b → IsSound ((e, answer_of h e) ∷ h) s
    by_test true is = subst (λ n. IsSound ((e, answer_of h e) ∷ h) n) (eqb-true (number_of e) s is)
        (itself_sound h e (subst (λ n. IsSound h n) (sym (eqb-true (number_of e) s is)) w))
    by_test false ne = other_sound h e (answer_of h e) s ne w

pub all_sound : (h : History) (events : List Event) (s : ℕ) → IsSound h s → IsSound (answered_after h events) s
unfolding answered_after
all_sound h [] s w = w
all_sound h (e ∷ events) s w = all_sound ((e, answer_of h e) ∷ h) events s (event_sound h e s w)

-- each list of events is sound
pub sound : (events : List Event) (s : ℕ) → IsSound (answered events) s
unfolding answered_after
sound events s = all_sound [] events s (none_sound s)
