-- The segment's own tests are those of the history.
use Rattle.std.proofs.Common.{◌≡◌, ℕ, ◌+◌, ◌-◌, ◌<◌, ◌≤◌, nat_lt, nat_le, max, Bool, true, false, not, ◌&&◌, ◌||◌, cond, List, [], length, get_or, unwrap_or, refl, sym, ap, ◌∙◌, arith, count_by, zero-add, add-zero, ◌++◌, take, drop}
use Rattle.std.specs.List.{range_with_len}
use Rattle.std.proofs.lemmas.Bool.{and_parts}
use Rattle.std.proofs.lemmas.Bool.Decides.{nat_tests}
use Rattle.std.proofs.Math.Bool.{and-true as and_true_right}
use Rattle.std.proofs.lemmas.List.{get_or_past, take-append-drop, append-nil}
use Rattle.units.specs.declared.TheConstants.{MOST_PAGES}
use Rattle.machine.specs.declared.event.Event.TheVariants.{Grant, Lock, Unlock, Write, Try, Back}
use Rattle.machine.specs.declared.event.Answer.TheVariants.{Granted, Held, Gone, Written, Counted, Purged, Misuse}
use Rattle.machine.specs.History.{History, is_begun, pages_of, is_ended, is_gone, is_held, stamp_of, known_of, put}
use Rattle.units.specs.Range.{is_within}
use Rattle.machine.specs.Answers.{is_plain, is_live, can_lock, can_unlock, can_write, can_try, are_free, are_held, bytes_held, held_count, staying, unlocked, tried, answer_of}
use Rattle.units.specs.Moment.{is_moment}
use Rattle.machine.specs.KeptSegment.{KeptSegment}
use Rattle.machine.specs.Segments.{Shows}
use Rattle.units.proofs.Ranges.{all_pass, one_fails, counted_flags}

and_true : (a b : Bool) → a ≡ true → b ≡ true → (a && b) ≡ true
and_true true true p q = refl
and_true true false p q = q
and_true false b p q = p

and_is : (a b r : Bool) → a ≡ true → b ≡ r → (a && b) ≡ r
and_is true b r p q = q
and_is false b r p q = cc

and_last : (a b : Bool) → b ≡ true → (a && b) ≡ a
and_last a true p = and_true_right a
and_last a false p = cc

pub plain_told : (h : History) (s : ℕ) (kept : KeptSegment) → Shows h s kept → kept.ended ≡ false → is_plain h s ≡ true
plain_told h s kept w e = and_true (is_begun h s) (not (is_ended h s)) w.begun (ap not (sym w.ended ∙ e))

-- the flags of a plain segment tell which pages are held
pub flags_told : (h : History) (s : ℕ) (kept : KeptSegment) (flags : List Bool) → Shows h s kept → is_plain h s ≡ true → kept.held ≡ flags → (page : ℕ) → get_or flags page false ≡ is_held h s page
flags_told h s kept flags w plain same page = ap (λ xs. get_or xs page false) (sym same) ∙ w.held plain page

-- the pages that they tell to be free are free
pub free_told : (h : History) (s first count : ℕ) (flags : List Bool) (r : Bool) → ((page : ℕ) → get_or flags page false ≡ is_held h s page)
    → (r ≡ true → (page : ℕ) → first ≤ page → page < first + count → get_or flags page false ≡ false)
    → (r ≡ false → (page : ℕ) × (first ≤ page) × (page < first + count) × (get_or flags page false ≡ true))
    → are_free h s first count ≡ r
free_told h s first count flags true told all some =
    all_pass (λ page. not (is_held h s page)) first count (λ page low high. ap not (sym (told page) ∙ all refl page low high))
free_told h s first count flags false told all some =
    let found = some refl in
    one_fails (λ page. not (is_held h s page)) first count found.0 found.1 found.2 (ap not (sym (told found.0) ∙ found.3))

-- and those that they tell to be held are held
pub held_told : (h : History) (s first count : ℕ) (flags : List Bool) (r : Bool) → ((page : ℕ) → get_or flags page false ≡ is_held h s page)
    → (r ≡ true → (page : ℕ) → first ≤ page → page < first + count → get_or flags page false ≡ true)
    → (r ≡ false → (page : ℕ) × (first ≤ page) × (page < first + count) × (get_or flags page false ≡ false))
    → are_held h s first count ≡ r
held_told h s first count flags true told all some =
    all_pass (λ page. is_held h s page) first count (λ page low high. sym (told page) ∙ all refl page low high)
held_told h s first count flags false told all some =
    let found = some refl in
    one_fails (λ page. is_held h s page) first count found.0 found.1 found.2 (sym (told found.0) ∙ found.3)

-- a page past the end is not held
pub past_the_end : (h : History) (s first count : ℕ) (kept : KeptSegment) → Shows h s kept → is_plain h s ≡ true → 0 < count → length kept.held < first + count → are_held h s first count ≡ false
past_the_end h s first count kept w plain more far =
    let low : first ≤ first + count - 1 = omega arith in
    let high : first + count - 1 < first + count = omega arith in
    let end : length kept.held ≤ first + count - 1 = omega arith in
    one_fails (λ page. is_held h s page) first count (first + count - 1) low high
    (sym (w.held plain (first + count - 1)) ∙ get_or_past kept.held (first + count - 1) false end)

pub lock_told : (h : History) (s first count : ℕ) (kept : KeptSegment) (r : Bool) → Shows h s kept → kept.ended ≡ false → 0 < count → first + count ≤ length kept.held
    → are_free h s first count ≡ r → r ≡ can_lock h s first count
lock_told h s first count kept r w plain some inside free =
    let pages = w.pages (plain_told h s kept w plain) in
    let more : nat_lt 0 count ≡ true = grind (arith, nat_tests) in
    let within : nat_le (first + count) (pages_of h s) ≡ true = grind (arith, nat_tests) in
    sym (and_is (is_plain h s && nat_lt 0 count && nat_le (first + count) (pages_of h s)) (are_free h s first count) r
    (and_true (is_plain h s && nat_lt 0 count) (nat_le (first + count) (pages_of h s))
    (and_true (is_plain h s) (nat_lt 0 count) (plain_told h s kept w plain) more) within)
    free)

pub unlock_told : (h : History) (s first count at : ℕ) (kept : KeptSegment) (r : Bool) → Shows h s kept → kept.ended ≡ false → 0 < count → is_moment at ≡ true
    → are_held h s first count ≡ r → r ≡ can_unlock h s first count at
unlock_told h s first count at kept r w plain some moment held =
    let more : nat_lt 0 count ≡ true = grind (arith, nat_tests) in
    sym (and_last (is_plain h s && nat_lt 0 count && are_held h s first count) (is_moment at) moment
    ∙ and_is (is_plain h s && nat_lt 0 count) (are_held h s first count) r (and_true (is_plain h s) (nat_lt 0 count) (plain_told h s kept w plain) more) held)

-- the answers by their tests
pub lock_misuse : (h : History) (s first count : ℕ) → false ≡ can_lock h s first count → Misuse ≡ answer_of h (Lock s first count)
unfolding answer_of
lock_misuse h s first count e = ap (λ b. cond b (cond (is_gone h s) Gone Held) Misuse) e

pub lock_answer : (h : History) (s first count : ℕ) (kept : KeptSegment) → Shows h s kept → true ≡ can_lock h s first count → cond kept.gone Gone Held ≡ answer_of h (Lock s first count)
unfolding answer_of
lock_answer h s first count kept w e = ap (λ b. cond b Gone Held) w.gone ∙ ap (λ b. cond b (cond (is_gone h s) Gone Held) Misuse) e

pub unlock_misuse : (h : History) (s first count at : ℕ) → false ≡ can_unlock h s first count at → Misuse ≡ answer_of h (Unlock s first count at)
unfolding answer_of
unlock_misuse h s first count at e = ap (λ b. cond b (unlocked (staying h s first count) (max (stamp_of h s) at)) Misuse) e

pub unlock_answer : (h : History) (s first count at stay : ℕ) (kept : KeptSegment) → Shows h s kept → true ≡ can_unlock h s first count at → stay ≡ staying h s first count
    → unlocked stay (max kept.stamp at) ≡ answer_of h (Unlock s first count at)
unfolding answer_of
unlock_answer h s first count at stay kept w e n =
    ap (λ k. unlocked k (max kept.stamp at)) n ∙ ap (λ t. unlocked (staying h s first count) (max t at)) w.stamp
    ∙ ap (λ b. cond b (unlocked (staying h s first count) (max (stamp_of h s) at)) Misuse) e

-- how many pages stay held is how many flags are left
pub staying_told : (h : History) (s first count : ℕ) (kept : KeptSegment) (flags : List Bool) → Shows h s kept → is_plain h s ≡ true → length flags ≡ length kept.held
    → ((page : ℕ) → get_or flags page false ≡ cond (is_within first count page) false (get_or kept.held page false))
    → staying h s first count ≡ count_by (λ b. b) flags
staying_told h s first count kept flags w plain sized written =
    ap (λ n. count_by (λ page. is_held h s page && not (is_within first count page)) (range_with_len 0 n)) (sym (w.pages plain) ∙ sym sized)
    ∙ counted_flags (λ page. is_held h s page && not (is_within first count page)) 0 flags
    (λ page. written page ∙ taken_out (is_within first count page) (get_or kept.held page false)
    ∙ ap (λ b. b && not (is_within first count page)) (w.held plain page)
    ∙ ap (λ p. is_held h s p && not (is_within first count p)) (sym (zero-add page)))
  where
    taken_out : (within was : Bool) → cond within false was ≡ (was && not within)
    taken_out true true = refl
    taken_out true false = refl
    taken_out false true = refl
    taken_out false false = refl

pub write_misuse : (h : History) (s place : ℕ) (bytes : List ℕ) → can_write h s place bytes ≡ false → Misuse ≡ answer_of h (Write s place bytes)
unfolding answer_of
write_misuse h s place bytes e = sym (ap (λ b. cond b Written Misuse) e)

pub write_answer : (h : History) (s place : ℕ) (bytes : List ℕ) → can_write h s place bytes ≡ true → Written ≡ answer_of h (Write s place bytes)
unfolding answer_of
write_answer h s place bytes e = sym (ap (λ b. cond b Written Misuse) e)

-- what is told of the pages of a segment that is not given back is told of it
pub plain_holds : (h : History) (s place count : ℕ) (kept : KeptSegment) (r : Bool) → Shows h s kept → kept.ended ≡ false → r ≡ bytes_held h s place count → r ≡ (is_plain h s && bytes_held h s place count)
plain_holds h s place count kept r w plain e = sym (and_is (is_plain h s) (bytes_held h s place count) r (plain_told h s kept w plain) (sym e))

-- the pages that an Unlock is about are those of a plain segment
pub unlock_plain : (h : History) (s first count at : ℕ) → true ≡ can_unlock h s first count at → is_plain h s ≡ true
unlock_plain h s first count at e =
    let inside = (and_parts (is_plain h s && nat_lt 0 count && are_held h s first count) (is_moment at) (sym e)).0 in
    (and_parts (is_plain h s) (nat_lt 0 count) (and_parts (is_plain h s && nat_lt 0 count) (are_held h s first count) inside).0).0

pub try_misuse : (h : History) (s now : ℕ) → false ≡ can_try h s now → Misuse ≡ answer_of h (Try s now)
unfolding answer_of
try_misuse h s now e = ap (λ b. cond b (tried (nat_lt 0 (held_count h s (λ page. true))) (stamp_of h s) (unwrap_or (known_of h s) 0) now) Misuse) e

-- how many pages are held is how many flags are set
pub held_all_told : (h : History) (s : ℕ) (kept : KeptSegment) → Shows h s kept → is_plain h s ≡ true → held_count h s (λ page. true) ≡ count_by (λ b. b) kept.held
held_all_told h s kept w plain =
    ap (λ n. count_by (λ page. is_held h s page && true) (range_with_len 0 n)) (sym (w.pages plain))
    ∙ counted_flags (λ page. is_held h s page && true) 0 kept.held
    (λ page. w.held plain page ∙ sym (and_true_right (is_held h s page)) ∙ ap (λ p. is_held h s p && true) (sym (zero-add page)))

-- a purge try is about a plain segment
try_plain : (h : History) (s now : ℕ) → true ≡ can_try h s now → is_plain h s ≡ true
try_plain h s now e = (and_parts (is_plain h s) (not (is_gone h s)) (and_parts (is_live h s) (is_moment now) (sym e)).0).0

pub try_answer : (h : History) (s now : ℕ) (kept : KeptSegment) → Shows h s kept → true ≡ can_try h s now
    → tried (nat_lt 0 (count_by (λ b. b) kept.held)) kept.stamp (unwrap_or kept.known 0) now ≡ answer_of h (Try s now)
unfolding answer_of
try_answer h s now kept w e =
    ap (λ n. tried (nat_lt 0 n) kept.stamp (unwrap_or kept.known 0) now) (sym (held_all_told h s kept w (try_plain h s now e)))
    ∙ ap (λ t. tried (nat_lt 0 (held_count h s (λ page. true))) t (unwrap_or kept.known 0) now) w.stamp
    ∙ ap (λ k. tried (nat_lt 0 (held_count h s (λ page. true))) (stamp_of h s) (unwrap_or k 0) now) w.known
    ∙ ap (λ b. cond b (tried (nat_lt 0 (held_count h s (λ page. true))) (stamp_of h s) (unwrap_or (known_of h s) 0) now) Misuse) e

back_cases : (begun ended gone : Bool) → begun ≡ true → cond gone Purged (cond ended Misuse Counted) ≡ cond (begun && (not ended || gone)) (cond gone Purged Counted) Misuse
back_cases true true true e = refl
back_cases true true false e = refl
back_cases true false true e = refl
back_cases true false false e = refl
back_cases false ended gone e = cc

pub back_answer : (h : History) (s : ℕ) (kept : KeptSegment) → Shows h s kept → cond kept.gone Purged (cond kept.ended Misuse Counted) ≡ answer_of h (Back s)
unfolding answer_of
back_answer h s kept w =
    ap (λ g. cond g Purged (cond kept.ended Misuse Counted)) w.gone ∙ ap (λ e. cond (is_gone h s) Purged (cond e Misuse Counted)) w.ended
    ∙ back_cases (is_begun h s) (is_ended h s) (is_gone h s) w.begun

-- a number that is granted is granted no more
pub grant_again : (h : History) (s client pages : ℕ) (kept : KeptSegment) → Shows h s kept → Misuse ≡ answer_of h (Grant s client pages)
unfolding answer_of
grant_again h s client pages kept w =
    sym (ap (λ b. cond (not b && nat_lt 0 client && nat_le 1 pages && nat_le pages MOST_PAGES) (Granted s) Misuse) w.begun)

-- a write of no bytes changes nothing
pub put_none : (place : ℕ) (old : List ℕ) → put place [] old ≡ old
put_none place old =
    ap (λ front. front ++ drop (place + 0) old) (append-nil (take place old))
    ∙ ap (λ n. take place old ++ drop n old) (add-zero place) ∙ take-append-drop place old
