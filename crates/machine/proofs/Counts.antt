-- Granted pages: what each event adds and takes off, and that no number is counted off twice.
use Rattle.std.proofs.Common.{◌≡◌, ◌⊎◌, ℕ, ◌+◌, ◌==◌, nat_lt, max, Bool, true, false, not, ◌&&◌, ◌||◌, cond, List, [], ◌∷◌, ◌++◌, unwrap_or, map, filter, sum, count_by, refl, sym, ap, ◌∙◌, arith, eq-eqb, zero-add, inl, inr}
use Rattle.std.proofs.lemmas.Bool.{and_parts, eqb-true, false≢true, ne_eqb}
use Rattle.std.proofs.lemmas.List.Sums.{sum_by-cons}
use Rattle.units.specs.Moment.{is_moment}
use Rattle.machine.specs.declared.event.Event.{Event}
use Rattle.machine.specs.declared.event.Event.TheVariants.{Grant, Lock, Unlock, Write, Try, Back}
use Rattle.machine.specs.declared.event.Answer.{Answer}
use Rattle.machine.specs.declared.event.Answer.TheVariants.{Granted, Held, Gone, Idle, StillHeld, Written, Taken, Used, Counted, Purged, Misuse}
use Rattle.machine.specs.History.{History, number_of, is_begun, pages_of, client_of, is_ended, is_gone, is_held, stamp_of, known_of, left_of}
use Rattle.machine.specs.Answers.{answered, answered_after, answer_of, is_plain, is_live, can_grant, can_lock, can_unlock, can_write, can_try, can_give_back, held_count, staying, granted_numbers, granted_pages}
use Rattle.machine.specs.Laws.{MisuseChangesNothing, CountedOnce, added, taken_off}
use Rattle.machine.proofs.Sound.{IsSound, sound, grant_parts}
use Rattle.machine.proofs.Later.{answered_append}

-- the pages of the numbers that pass
abbrev total : (ℕ → ℕ) → (ℕ → Bool) → List ℕ → ℕ
total pages live xs = sum (map pages (filter live xs))

total_cons : (pages : ℕ → ℕ) (live : ℕ → Bool) (x : ℕ) (xs : List ℕ) → total pages live (x ∷ xs) ≡ cond (live x) (pages x) 0 + total pages live xs
total_cons pages live x xs = by_test (live x)
  where
    by_test : (b : Bool) → sum (map pages (cond b (x ∷ filter live xs) (filter live xs))) ≡ cond b (pages x) 0 + total pages live xs
    by_test true = sum_by-cons (λ n. n) (pages x) (map pages (filter live xs))
    by_test false = sym (zero-add (total pages live xs))

-- how often a number stands in a list
abbrev times : ℕ → List ℕ → ℕ
times s xs = count_by (λ n. n == s) xs

times_cons : (s x : ℕ) (xs : List ℕ) → times s (x ∷ xs) ≡ cond (x == s) 1 0 + times s xs
times_cons s x xs = sum_by-cons (λ n. cond (n == s) 1 0) x xs

-- the same numbers pass, with the same pages, but for one that does not stand in the list
total_elsewhere : (p q : ℕ → ℕ) (l m : ℕ → Bool) (s : ℕ) (xs : List ℕ) → ((x : ℕ) → (x == s) ≡ false → p x ≡ q x) → ((x : ℕ) → (x == s) ≡ false → l x ≡ m x)
    → times s xs ≡ 0 → total p l xs ≡ total q m xs
total_elsewhere p q l m s [] pages live none = refl
total_elsewhere p q l m s (x ∷ xs) pages live none =
    let parts = by_test (x == s) (times s xs) (sym (times_cons s x xs) ∙ none) in
    total_cons p l x xs
    ∙ ap (λ n. cond (l x) n 0 + total p l xs) (pages x parts.0)
    ∙ ap {B = ℕ} (λ b. cond b (q x) 0 + total p l xs) (live x parts.0)
    ∙ ap (λ n. cond (m x) (q x) 0 + n) (total_elsewhere p q l m s xs pages live parts.1)
    ∙ sym (total_cons q m x xs)
  where
    by_test : (b : Bool) (n : ℕ) → cond b 1 0 + n ≡ 0 → (b ≡ false) × (n ≡ 0)
    by_test true n e = absurd (omega arith)
    by_test false n e = (refl, sym (zero-add n) ∙ e)

total_same : (p q : ℕ → ℕ) (l m : ℕ → Bool) (xs : List ℕ) → ((x : ℕ) → p x ≡ q x) → ((x : ℕ) → l x ≡ m x) → total p l xs ≡ total q m xs
total_same p q l m [] pages live = refl
total_same p q l m (x ∷ xs) pages live =
    total_cons p l x xs
    ∙ ap (λ n. cond (l x) n 0 + total p l xs) (pages x)
    ∙ ap {B = ℕ} (λ b. cond b (q x) 0 + total p l xs) (live x)
    ∙ ap (λ n. cond (m x) (q x) 0 + n) (total_same p q l m xs pages live)
    ∙ sym (total_cons q m x xs)

-- one number passes no more
total_less : (p : ℕ → ℕ) (l m : ℕ → Bool) (s : ℕ) (xs : List ℕ) → ((x : ℕ) → (x == s) ≡ false → l x ≡ m x) → l s ≡ true → m s ≡ false
    → times s xs ≡ 1 → total p m xs + p s ≡ total p l xs
total_less p l m s [] live was now once = absurd (omega arith)
total_less p l m s (x ∷ xs) live was now once =
    let counted = sym (times_cons s x xs) ∙ once in
    by_test (λ one. total_less p l m s xs live was now one) (x == s) refl counted
  where
    here : x ≡ s → times s xs ≡ 0 → total p m (x ∷ xs) + p s ≡ total p l (x ∷ xs)
    here is none =
        let rest : total p l xs ≡ total p m xs = total_elsewhere p p l m s xs (λ y ne. refl) live none in
        let new : total p m (x ∷ xs) ≡ total p m xs = total_cons p m x xs ∙ ap {B = ℕ} (λ b. cond b (p x) 0 + total p m xs) (ap m is ∙ now) ∙ zero-add (total p m xs) in
        let old : total p l (x ∷ xs) ≡ p x + total p l xs = total_cons p l x xs ∙ ap {B = ℕ} (λ b. cond b (p x) 0 + total p l xs) (ap l is ∙ was) in
        let same : p x ≡ p s = ap p is in
        omega arith

    later : (x == s) ≡ false → total p m xs + p s ≡ total p l xs → total p m (x ∷ xs) + p s ≡ total p l (x ∷ xs)
    later ne rest =
        let new : total p m (x ∷ xs) ≡ cond (m x) (p x) 0 + total p m xs = total_cons p m x xs in
        let old : total p l (x ∷ xs) ≡ cond (m x) (p x) 0 + total p l xs
        = total_cons p l x xs ∙ ap {B = ℕ} (λ b. cond b (p x) 0 + total p l xs) (live x ne) in
        omega arith

    by_test : (times s xs ≡ 1 → total p m xs + p s ≡ total p l xs) → (b : Bool) → (x == s) ≡ b → cond {A = ℕ} (x == s) 1 0 + times s xs ≡ 1
        → total p m (x ∷ xs) + p s ≡ total p l (x ∷ xs)
    by_test less true e counted =
        let at : 1 + times s xs ≡ 1 = ap {B = ℕ} (λ b. cond b 1 0 + times s xs) (sym e) ∙ counted in
        here (eqb-true x s e) (omega arith)
    by_test less false e counted =
        let at : 0 + times s xs ≡ 1 = ap {B = ℕ} (λ b. cond b 1 0 + times s xs) (sym e) ∙ counted in
        later e (less (omega arith))

-- Misuse changes nothing

misused : (h : History) (e : Event) → granted_pages ((e, Misuse) ∷ h) ≡ granted_pages h
unfolding is_begun is_ended is_gone pages_of granted_numbers
misused h (Grant id client pages) = refl
misused h (Lock id first count) = refl
misused h (Unlock id first count at) = refl
misused h (Write id place bytes) = refl
misused h (Try id now) = refl
misused h (Back id) = refl

-- the words of a segment after misuse are those before
record Words (h g : History) (s : ℕ) : Type 0 where
  begun : is_begun g s ≡ is_begun h s
  client : client_of g s ≡ client_of h s
  pages : pages_of g s ≡ pages_of h s
  ended : is_ended g s ≡ is_ended h s
  gone : is_gone g s ≡ is_gone h s
  held : (page : ℕ) → is_held g s page ≡ is_held h s page
  stamp : stamp_of g s ≡ stamp_of h s
  known : known_of g s ≡ known_of h s
  left : left_of g s ≡ left_of h s

words : (h : History) (e : Event) (s : ℕ) → Words h ((e, Misuse) ∷ h) s
unfolding is_begun client_of pages_of is_ended is_gone is_held stamp_of known_of left_of
words h (Grant id client pages) s = record { begun = refl; client = refl; pages = refl; ended = refl; gone = refl; held = λ page. refl; stamp = refl; known = refl; left = refl }
words h (Lock id first count) s = record { begun = refl; client = refl; pages = refl; ended = refl; gone = refl; held = λ page. refl; stamp = refl; known = refl; left = refl }
words h (Unlock id first count at) s = record { begun = refl; client = refl; pages = refl; ended = refl; gone = refl; held = λ page. refl; stamp = refl; known = refl; left = refl }
words h (Write id place bytes) s = record { begun = refl; client = refl; pages = refl; ended = refl; gone = refl; held = λ page. refl; stamp = refl; known = refl; left = refl }
words h (Try id now) s = record { begun = refl; client = refl; pages = refl; ended = refl; gone = refl; held = λ page. refl; stamp = refl; known = refl; left = refl }
words h (Back id) s = record { begun = refl; client = refl; pages = refl; ended = refl; gone = refl; held = λ page. refl; stamp = refl; known = refl; left = refl }

pub misuse_changes_nothing : MisuseChangesNothing
unfolding answered_after
misuse_changes_nothing events e s misuse =
    let h = answered events in
    let after : answered (events ++ e ∷ []) ≡ (e, Misuse) ∷ h
    = answered_append [] events (e ∷ []) ∙ ap (λ a. (e, a) ∷ h) misuse in
    let same = words h e s in
    record {
      begun = ap (λ g. is_begun g s) after ∙ same.begun;
      client = ap (λ g. client_of g s) after ∙ same.client;
      pages = ap (λ g. pages_of g s) after ∙ same.pages;
      ended = ap (λ g. is_ended g s) after ∙ same.ended;
      gone = ap (λ g. is_gone g s) after ∙ same.gone;
      held = λ page. ap (λ g. is_held g s page) after ∙ same.held page;
      stamp = ap (λ g. stamp_of g s) after ∙ same.stamp;
      known = ap (λ g. known_of g s) after ∙ same.known;
      left = ap (λ g. left_of g s) after ∙ same.left;
      granted = ap granted_pages after ∙ misused h e;
    }

-- Each number is drawn once

drawn_push : (h : History) (e : Event) (s : ℕ) → times s (granted_numbers h) ≡ cond (is_begun h s) 1 0
    → times s (granted_numbers ((e, answer_of h e) ∷ h)) ≡ cond (is_begun ((e, answer_of h e) ∷ h) s) 1 0
unfolding answer_of is_begun granted_numbers
drawn_push h (Grant id client pages) s w = by_can (can_grant h id client pages) refl
  where
    joined : (b was : Bool) → (b ≡ true → was ≡ false) → cond {A = ℕ} b 1 0 + cond was 1 0 ≡ cond (b || was) 1 0
    joined true true new = absurd (false≢true (sym (new refl)))
    joined true false new = refl
    joined false was new = zero-add (cond was 1 0)

    by_can : (can : Bool) → can_grant h id client pages ≡ can
        → times s (granted_numbers ((Grant id client pages, cond can (Granted id) Misuse) ∷ h)) ≡ cond (is_begun ((Grant id client pages, cond can (Granted id) Misuse) ∷ h) s) 1 0
    by_can false e = w
    by_can true e =
        times_cons s id (granted_numbers h) ∙ ap (λ n. cond (id == s) 1 0 + n) w
        ∙ joined (id == s) (is_begun h s) (λ is. ap (λ n. is_begun h n) (sym (eqb-true id s is)) ∙ (grant_parts h id client pages e).0)
drawn_push h (Lock id first count) s w = w
drawn_push h (Unlock id first count at) s w = w
drawn_push h (Write id place bytes) s w = w
drawn_push h (Try id now) s w = w
drawn_push h (Back id) s w = w

drawn_all : (h : History) (events : List Event) (s : ℕ) → times s (granted_numbers h) ≡ cond (is_begun h s) 1 0
    → times s (granted_numbers (answered_after h events)) ≡ cond (is_begun (answered_after h events) s) 1 0
unfolding answered_after
drawn_all h [] s w = w
drawn_all h (e ∷ events) s w = drawn_all ((e, answer_of h e) ∷ h) events s (drawn_push h e s w)

pub drawn : (events : List Event) (s : ℕ) → times s (granted_numbers (answered events)) ≡ cond (is_begun (answered events) s) 1 0
unfolding answered_after is_begun granted_numbers
drawn events s = drawn_all [] events s refl

-- What an event adds and takes off

-- what is known of a history of answered events
record Known (h : History) : Type 0 where
  sound : (s : ℕ) → IsSound h s
  drawn : (s : ℕ) → times s (granted_numbers h) ≡ cond (is_begun h s) 1 0

-- the granted pages change as an event tells
abbrev Changes : History → Event → Answer → Type 0
Changes h e a = granted_pages ((e, a) ∷ h) + taken_off h e a ≡ granted_pages h + added e a

nothing_off : (n m : ℕ) → n ≡ m → n + 0 ≡ m + 0
nothing_off n m e = ap (λ k. k + 0) e

changes_grant : (h : History) (s client pages : ℕ) (can : Bool) → can_grant h s client pages ≡ can → Known h
    → Changes h (Grant s client pages) (cond can (Granted s) Misuse)
unfolding is_begun is_ended is_gone pages_of granted_numbers
changes_grant h s client pages false e w = refl
changes_grant h s client pages true e w =
    let new = (grant_parts h s client pages e).0 in
    let before = (w.sound s).unknown new in
    let g = (Grant s client pages, Granted s) ∷ h in
    let none : times s (granted_numbers h) ≡ 0 = w.drawn s ∙ ap {B = ℕ} (λ b. cond b 1 0) new in
    let itself : (s == s) ≡ true = eq-eqb s s refl in
    let live : is_live g s ≡ true
    = ap (λ b. (b || is_begun h s) && not (is_ended h s) && not (is_gone h s)) itself
    ∙ ap (λ b. not b && not (is_gone h s)) before.ended ∙ ap not before.gone in
    let sized : pages_of g s ≡ pages = ap (λ b. cond b pages (pages_of h s)) itself in
    let rest : total (pages_of g) (is_live g) (granted_numbers h) ≡ granted_pages h
    = total_elsewhere (pages_of g) (pages_of h) (is_live g) (is_live h) s (granted_numbers h)
    (λ x ne. ap (λ b. cond b pages (pages_of h x)) (turned s x ne))
    (λ x ne. ap (λ b. (b || is_begun h x) && not (is_ended h x) && not (is_gone h x)) (turned s x ne)) none in
    let first : granted_pages g ≡ pages + total (pages_of g) (is_live g) (granted_numbers h)
    = total_cons (pages_of g) (is_live g) s (granted_numbers h)
    ∙ ap {B = ℕ} (λ b. cond b (pages_of g s) 0 + total (pages_of g) (is_live g) (granted_numbers h)) live
    ∙ ap (λ n. n + total (pages_of g) (is_live g) (granted_numbers h)) sized in
    omega arith
  where
    turned : (a b : ℕ) → (b == a) ≡ false → (a == b) ≡ false
    turned a b e = ne_eqb a b (λ is. false≢true (sym e ∙ eq-eqb b a (sym is)))

-- a segment that is live
pub live_parts : (h : History) (s : ℕ) → is_live h s ≡ true → (is_begun h s ≡ true) × (is_ended h s ≡ false) × (is_gone h s ≡ false)
live_parts h s e =
    let live = and_parts (is_plain h s) (not (is_gone h s)) e in
    let plain = and_parts (is_begun h s) (not (is_ended h s)) live.0 in
    (plain.0, was_false (is_ended h s) plain.1, was_false (is_gone h s) live.1)
  where
    was_false : (b : Bool) → not b ≡ true → b ≡ false
    was_false true e = sym e
    was_false false e = refl

changes_try : (h : History) (s now : ℕ) (can some at_stamp : Bool) → can_try h s now ≡ can → Known h
    → Changes h (Try s now) (cond can (cond some (Used now) (cond at_stamp Taken (Used (stamp_of h s)))) Misuse)
unfolding is_begun is_ended is_gone pages_of granted_numbers
changes_try h s now false some at_stamp e w = refl
changes_try h s now true true at_stamp e w = refl
changes_try h s now true false false e w = refl
changes_try h s now true false true e w =
    let live = (and_parts (is_live h s) (is_moment now) e).0 in
    let parts = live_parts h s live in
    let g = (Try s now, Taken) ∷ h in
    let less : total (pages_of h) (is_live g) (granted_numbers h) + pages_of h s ≡ granted_pages h
    = total_less (pages_of h) (is_live h) (is_live g) s (granted_numbers h)
    (λ x ne. ap (λ b. is_begun h x && not (is_ended h x) && not (b || is_gone h x)) (sym (turned s x ne)))
    live
    (last (is_plain h s) (s == s) (is_gone h s) (eq-eqb s s refl))
    (w.drawn s ∙ ap {B = ℕ} (λ b. cond b 1 0) parts.0) in
    omega arith
  where
    turned : (a b : ℕ) → (b == a) ≡ false → (a == b) ≡ false
    turned a b e = ne_eqb a b (λ is. false≢true (sym e ∙ eq-eqb b a (sym is)))

    last : (a b c : Bool) → b ≡ true → (a && not (b || c)) ≡ false
    last true true c e = refl
    last false b c e = refl
    last true false c e = absurd (false≢true e)

changes_back : (h : History) (s : ℕ) (can gone : Bool) → can_give_back h s ≡ can → is_gone h s ≡ gone → Known h
    → Changes h (Back s) (cond can (cond gone Purged Counted) Misuse)
unfolding is_begun is_ended is_gone pages_of granted_numbers
changes_back h s false gone e g w = refl
changes_back h s true true e g w =
    nothing_off (total (pages_of h) (is_live ((Back s, Purged) ∷ h)) (granted_numbers h)) (granted_pages h)
    (total_same (pages_of h) (pages_of h) (is_live ((Back s, Purged) ∷ h)) (is_live h) (granted_numbers h) (λ x. refl)
    (λ x. by_test x (s == x) refl))
  where
    dead : (a b c d : Bool) → d ≡ true → (a && not (b || c) && not d) ≡ (a && not c && not d)
    dead true true true true e = refl
    dead true true false true e = refl
    dead true false c true e = refl
    dead false b c true e = refl
    dead a b c false e = absurd (false≢true e)

    by_test : (x : ℕ) (b : Bool) → (s == x) ≡ b → (is_begun h x && not (s == x || is_ended h x) && not (is_gone h x)) ≡ is_live h x
    by_test x true is = dead (is_begun h x) (s == x) (is_ended h x) (is_gone h x) (ap (λ n. is_gone h n) (sym (eqb-true s x is)) ∙ g)
    by_test x false ne = ap (λ b. is_begun h x && not (b || is_ended h x) && not (is_gone h x)) ne
changes_back h s true false e g w =
    let parts = and_parts (is_begun h s) (not (is_ended h s) || is_gone h s) e in
    let open_still : not (is_ended h s) ≡ true = or_left (not (is_ended h s)) (is_gone h s) parts.1 g in
    let live : is_live h s ≡ true = all_true (is_begun h s) (not (is_ended h s)) (is_gone h s) parts.0 open_still g in
    let after = (Back s, Counted) ∷ h in
    let less : total (pages_of h) (is_live after) (granted_numbers h) + pages_of h s ≡ granted_pages h
    = total_less (pages_of h) (is_live h) (is_live after) s (granted_numbers h)
    (λ x ne. ap (λ b. is_begun h x && not (b || is_ended h x) && not (is_gone h x)) (sym (turned s x ne)))
    live
    (middle (is_begun h s) (s == s) (is_ended h s) (not (is_gone h s)) (eq-eqb s s refl))
    (w.drawn s ∙ ap {B = ℕ} (λ b. cond b 1 0) parts.0) in
    omega arith
  where
    turned : (a b : ℕ) → (b == a) ≡ false → (a == b) ≡ false
    turned a b e = ne_eqb a b (λ is. false≢true (sym e ∙ eq-eqb b a (sym is)))

    or_left : (a b : Bool) → (a || b) ≡ true → b ≡ false → a ≡ true
    or_left true b e f = refl
    or_left false b e f = absurd (false≢true (sym f ∙ e))

    all_true : (a b c : Bool) → a ≡ true → b ≡ true → c ≡ false → (a && b && not c) ≡ true
    all_true true true false p q r = refl
    all_true true true true p q r = absurd (false≢true (sym r))
    all_true true false c p q r = absurd (false≢true q)
    all_true false b c p q r = absurd (false≢true p)

    middle : (a b c d : Bool) → b ≡ true → (a && not (b || c) && d) ≡ false
    middle true true c d e = refl
    middle false b c d e = refl
    middle true false c d e = absurd (false≢true e)

changes_lock : (h : History) (s first count : ℕ) (can gone : Bool) → Changes h (Lock s first count) (cond can (cond gone Gone Held) Misuse)
unfolding is_begun is_ended is_gone pages_of granted_numbers
changes_lock h s first count false gone = refl
changes_lock h s first count true true = refl
changes_lock h s first count true false = refl

changes_unlock : (h : History) (s first count at stay last : ℕ) (can none : Bool) → Changes h (Unlock s first count at) (cond can (cond none (Idle last) (StillHeld stay)) Misuse)
unfolding is_begun is_ended is_gone pages_of granted_numbers
changes_unlock h s first count at stay last false none = refl
changes_unlock h s first count at stay last true true = refl
changes_unlock h s first count at stay last true false = refl

changes_write : (h : History) (s place : ℕ) (bytes : List ℕ) (can : Bool) → Changes h (Write s place bytes) (cond can Written Misuse)
unfolding is_begun is_ended is_gone pages_of granted_numbers
changes_write h s place bytes false = refl
changes_write h s place bytes true = refl

changes : (h : History) (e : Event) → Known h → Changes h e (answer_of h e)
unfolding answer_of
changes h (Grant s client pages) w = changes_grant h s client pages (can_grant h s client pages) refl w
changes h (Lock s first count) w = changes_lock h s first count (can_lock h s first count) (is_gone h s)
changes h (Unlock s first count at) w = changes_unlock h s first count at (staying h s first count) (max (stamp_of h s) at) (can_unlock h s first count at) (staying h s first count == 0)
changes h (Write s place bytes) w = changes_write h s place bytes (can_write h s place bytes)
changes h (Try s now) w = changes_try h s now (can_try h s now) (nat_lt 0 (held_count h s (λ page. true))) (unwrap_or (known_of h s) 0 == stamp_of h s) refl w
changes h (Back s) w = changes_back h s (can_give_back h s) (is_gone h s) refl refl w

-- Counted off once

-- the segment was counted off
abbrev spent : History → ℕ → Bool
spent h s = is_ended h s || is_gone h s

or_true_left : (a b : Bool) → a ≡ true → (a || b) ≡ true
or_true_left true b e = refl
or_true_left false b e = absurd (false≢true e)

or_true_right : (a b : Bool) → b ≡ true → (a || b) ≡ true
or_true_right true b e = refl
or_true_right false b e = e

spent_after : (h : History) (e : Event) (a : Answer) (s : ℕ) → spent h s ≡ true → spent ((e, a) ∷ h) s ≡ true
unfolding is_ended is_gone
spent_after h (Try id now) Taken s e = mixed (is_ended h s) (id == s) (is_gone h s) e
  where
    mixed : (a b c : Bool) → (a || c) ≡ true → (a || (b || c)) ≡ true
    mixed true b c e = refl
    mixed false b c e = or_true_right b c e
spent_after h (Back id) Counted s e = mixed (id == s) (is_ended h s) (is_gone h s) e
  where
    mixed : (b a c : Bool) → (a || c) ≡ true → (b || a || c) ≡ true
    mixed true a c e = refl
    mixed false a c e = e
spent_after h (Back id) Purged s e = mixed (id == s) (is_ended h s) (is_gone h s) e
  where
    mixed : (b a c : Bool) → (a || c) ≡ true → (b || a || c) ≡ true
    mixed true a c e = refl
    mixed false a c e = e
spent_after h (Back id) _ s e = e
spent_after h (Try id now) _ s e = e
spent_after h _ _ s e = e

spent_later : (h : History) (later : List Event) (s : ℕ) → spent h s ≡ true → spent (answered_after h later) s ≡ true
unfolding answered_after
spent_later h [] s e = e
spent_later h (x ∷ later) s e = spent_later ((x, answer_of h x) ∷ h) later s (spent_after h x (answer_of h x) s e)

-- the answer counts a segment off
abbrev is_off : Answer → Bool
is_off Taken = true
is_off Counted = true
is_off _ = false

to_off : (a : Answer) → (a ≡ Taken) ⊎ (a ≡ Counted) → is_off a ≡ true
to_off a (inl e) = ap is_off e
to_off a (inr e) = ap is_off e

-- what counts a segment off finds it live, and leaves it spent
record Offs (h : History) (e : Event) (a : Answer) (s : ℕ) : Type 0 where
  before : spent h s ≡ false
  after : spent ((e, a) ∷ h) s ≡ true

off_try : (h : History) (s now : ℕ) (can some at_stamp : Bool) → can_try h s now ≡ can
    → is_off (cond can (cond some (Used now) (cond at_stamp Taken (Used (stamp_of h s)))) Misuse) ≡ true
    → Offs h (Try s now) (cond can (cond some (Used now) (cond at_stamp Taken (Used (stamp_of h s)))) Misuse) s
unfolding is_ended is_gone
off_try h s now false some at_stamp e off = absurd (false≢true off)
off_try h s now true true at_stamp e off = absurd (false≢true off)
off_try h s now true false false e off = absurd (false≢true off)
off_try h s now true false true e off =
    let parts = live_parts h s (and_parts (is_live h s) (is_moment now) e).0 in
    record {
      before = neither (is_ended h s) (is_gone h s) parts.1 parts.2;
      after = or_true_right (is_ended h s) (s == s || is_gone h s) (or_true_left (s == s) (is_gone h s) (eq-eqb s s refl));
    }
  where
    neither : (a b : Bool) → a ≡ false → b ≡ false → (a || b) ≡ false
    neither true b p q = absurd (false≢true (sym p))
    neither false b p q = q

off_back : (h : History) (s : ℕ) (can gone : Bool) → can_give_back h s ≡ can → is_gone h s ≡ gone
    → is_off (cond can (cond gone Purged Counted) Misuse) ≡ true → Offs h (Back s) (cond can (cond gone Purged Counted) Misuse) s
unfolding is_ended is_gone
off_back h s false gone e g off = absurd (false≢true off)
off_back h s true true e g off = absurd (false≢true off)
off_back h s true false e g off =
    record {
      before = neither (is_ended h s) (is_gone h s) (and_parts (is_begun h s) (not (is_ended h s) || is_gone h s) e).1 g;
      after = or_true_left (s == s || is_ended h s) (is_gone h s) (or_true_left (s == s) (is_ended h s) (eq-eqb s s refl));
    }
  where
    neither : (a b : Bool) → (not a || b) ≡ true → b ≡ false → (a || b) ≡ false
    neither true b p q = absurd (false≢true (sym q ∙ p))
    neither false b p q = q

off_lock : (can gone : Bool) → is_off (cond can (cond gone Gone Held) Misuse) ≡ true → ⊥
off_lock false gone off = false≢true off
off_lock true true off = false≢true off
off_lock true false off = false≢true off

off_unlock : (can none : Bool) (stay last : ℕ) → is_off (cond can (cond none (Idle last) (StillHeld stay)) Misuse) ≡ true → ⊥
off_unlock false none stay last off = false≢true off
off_unlock true true stay last off = false≢true off
off_unlock true false stay last off = false≢true off

off_grant : (can : Bool) (s : ℕ) → is_off (cond can (Granted s) Misuse) ≡ true → ⊥
off_grant false s off = false≢true off
off_grant true s off = false≢true off

off_write : (can : Bool) → is_off (cond can Written Misuse) ≡ true → ⊥
off_write false off = false≢true off
off_write true off = false≢true off

offs : (h : History) (e : Event) → is_off (answer_of h e) ≡ true → Offs h e (answer_of h e) (number_of e)
unfolding answer_of
offs h (Grant s client pages) off = absurd (off_grant (can_grant h s client pages) s off)
offs h (Lock s first count) off = absurd (off_lock (can_lock h s first count) (is_gone h s) off)
offs h (Unlock s first count at) off = absurd (off_unlock (can_unlock h s first count at) (staying h s first count == 0) (staying h s first count) (max (stamp_of h s) at) off)
offs h (Write s place bytes) off = absurd (off_write (can_write h s place bytes) off)
offs h (Try s now) off = off_try h s now (can_try h s now) (nat_lt 0 (held_count h s (λ page. true))) (unwrap_or (known_of h s) 0 == stamp_of h s) refl off
offs h (Back s) off = off_back h s (can_give_back h s) (is_gone h s) refl refl off

pub counted_once : (events : List Event) (e : Event) → CountedOnce events e
unfolding answered_after
counted_once events e =
    let h = answered events in
    let known : Known h = record { sound = sound events; drawn = drawn events } in
    record {
      sum = ap (λ g. granted_pages g + taken_off h e (answer_of h e)) (answered_append [] events (e ∷ [])) ∙ changes h e known;
      once = λ off later next same again.
          let first = offs h e (to_off (answer_of h e) off) in
          let g = answered (events ++ e ∷ later) in
          let second = offs g next (to_off (answer_of g next) again) in
          let stays : spent g (number_of e) ≡ true
          = ap (λ k. spent k (number_of e)) (answered_append [] events (e ∷ later))
          ∙ spent_later ((e, answer_of h e) ∷ h) later (number_of e) first.after in
          false≢true (sym second.before ∙ ap (λ n. spent g n) same ∙ stays);
    }
