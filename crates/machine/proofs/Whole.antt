-- All segments together, after a history.
use Rattle.std.proofs.Common.{◌≡◌, ℕ, ◌==◌, ◌+◌, ◌<◌, ◌≤◌, nat_lt, nat_le, nat_cmp, max, Bool, true, false, not, ◌&&◌, ◌||◌, cond, List, [], ◌∷◌, ◌++◌, length, Option, Some, None, MatchOption, unwrap_or, refl, sym, ap, ◌∙◌, subst, ⊎_elim, eq-eqb, arith, get_or, replicate, suc, zero}
use Rattle.std.specs.BTreeMap.{is_at}
use Rattle.std.proofs.lemmas.Bool.{cases_eq, ne_eqb}
use Rattle.std.proofs.lemmas.List.{get_or_past, length-replicate}
use Rattle.std.proofs.lemmas.Bool.Decides.{nat_tests}
use Rattle.units.specs.declared.TheConstants.{MOST_PAGES}
use Rattle.machine.specs.declared.event.Event.{Event}
use Rattle.machine.specs.declared.event.Event.TheVariants.{Grant, Lock, Unlock, Write, Try, Back}
use Rattle.machine.specs.declared.event.Answer.{Answer}
use Rattle.machine.specs.declared.event.Answer.TheVariants.{Granted, Held, Gone, Written, Counted, Purged, Misuse}
use Rattle.machine.specs.History.{History, number_of, is_begun, pages_of, is_ended, is_gone, is_held, stamp_of, known_of}
use Rattle.machine.specs.Answers.{answered_after, answered, answer_of, are_free, are_held, bytes_held, staying, held_count, unlocked, tried}
use Rattle.units.specs.Moment.{is_moment}
use Rattle.machine.specs.KeptSegment.{KeptSegment}
use Rattle.machine.specs.Segments.{Shows, IsUnknown, ShowsAll, fresh, kept_at}
use Rattle.machine.proofs.Untouched.{shows_other, unknown_other, shows_misuse, unknown_misuse}
use Rattle.machine.proofs.Steps.{shows_grant}

-- one more event is answered after those before
pub answered_push : (h : History) (events : List Event) (e : Event) → answered_after h (events ++ e ∷ []) ≡ (e, answer_of (answered_after h events) e) ∷ answered_after h events
unfolding answered_after
answered_push h [] e = refl
answered_push h (x ∷ events) e = answered_push ((x, answer_of h x) ∷ h) events e

-- before any event no number is known
pub none_yet : (s : ℕ) → IsUnknown (answered []) s
unfolding answered_after is_begun pages_of is_ended is_gone is_held stamp_of known_of
none_yet s = record { begun = refl; pages = refl; held = λ page. refl; stamp = refl; known = refl; gone = refl; ended = refl }

-- what a history makes of a number, where there is something of it or not
abbrev pub ShowsAt : History → ℕ → Option KeptSegment → Type 0
ShowsAt h s found = MatchOption found (IsUnknown h s) (λ kept. Shows h s kept)

pub at_other : (h : History) (e : Event) (a : Answer) (s : ℕ) (found : Option KeptSegment) → (number_of e == s) ≡ false → ShowsAt h s found → ShowsAt ((e, a) ∷ h) s found
at_other h e a s None ne w = unknown_other h e a s ne w
at_other h e a s (Some kept) ne w = shows_other h e a s kept ne w

pub at_misuse : (h : History) (e : Event) (s : ℕ) (found : Option KeptSegment) → ShowsAt h s found → ShowsAt ((e, Misuse) ∷ h) s found
at_misuse h e s None w = unknown_misuse h e s w
at_misuse h e s (Some kept) w = shows_misuse h e s kept w

-- a map's own test of two numbers
at_is : (a b : ℕ) → is_at (nat_cmp a) b ≡ (a == b)
at_is a b = grind (arith, nat_tests)

-- the segments after an event on one of them
pub all_after : (h : History) (e : Event) (a : Answer) (old new : List (ℕ × KeptSegment)) (id : ℕ) (kept : KeptSegment) → id ≡ number_of e
    → ((q : ℕ) → kept_at new q ≡ cond (is_at (nat_cmp id) q) (Some kept) (kept_at old q))
    → ShowsAll h old → Shows ((e, a) ∷ h) id kept → ShowsAll ((e, a) ∷ h) new
all_after h e a old new id kept number updates w shows s =
    ⊎_elim
    (λ same. subst (λ found. ShowsAt ((e, a) ∷ h) s found)
    (sym (updates s ∙ ap (λ b. cond b (Some kept) (kept_at old s)) (at_is id s ∙ eq-eqb id s same)))
    (subst (λ n. Shows ((e, a) ∷ h) n kept) same shows))
    (λ other. subst (λ found. ShowsAt ((e, a) ∷ h) s found)
    (sym (updates s ∙ ap (λ b. cond b (Some kept) (kept_at old s)) (at_is id s ∙ ne_eqb id s other)))
    (at_other h e a s (kept_at old s) (ap (λ n. n == s) (sym number) ∙ ne_eqb id s other) (w s)))
    (cases_eq id s)

-- what is found under a number is what the history made of it
pub shows_found : (h : History) (segments : List (ℕ × KeptSegment)) (id : ℕ) (kept : KeptSegment) → Some kept ≡ kept_at segments id → ShowsAll h segments → Shows h id kept
shows_found h segments id kept found w = subst (λ at. ShowsAt h id at) (sym found) (w id)

pub unknown_found : (h : History) (segments : List (ℕ × KeptSegment)) (id : ℕ) → kept_at segments id ≡ None → ShowsAll h segments → IsUnknown h id
unknown_found h segments id found w = subst (λ at. ShowsAt h id at) found (w id)

-- an event on a number that was not granted is a misuse, but a Grant that may be
pub unknown_misused : (h : History) (e : Event) → IsUnknown h (number_of e) → ((id client pages : ℕ) → e ≡ Grant id client pages → ⊥) → Misuse ≡ answer_of h e
unfolding answer_of
unknown_misused h (Grant id client pages) w other = absurd (other id client pages refl)
unknown_misused h (Lock id first count) w other =
    sym (ap (λ b. cond (b && not (is_ended h id) && nat_lt 0 count && nat_le (first + count) (pages_of h id) && are_free h id first count) (cond (is_gone h id) Gone Held) Misuse) w.begun)
unknown_misused h (Unlock id first count at) w other =
    sym (ap (λ b. cond (b && not (is_ended h id) && nat_lt 0 count && are_held h id first count && is_moment at) (unlocked (staying h id first count) (max (stamp_of h id) at)) Misuse) w.begun)
unknown_misused h (Write id place bytes) w other = sym (ap (λ b. cond (b && not (is_ended h id) && bytes_held h id place (length bytes)) Written Misuse) w.begun)
unknown_misused h (Try id now) w other =
    sym (ap (λ b. cond (b && not (is_ended h id) && not (is_gone h id) && is_moment now) (tried (nat_lt 0 (held_count h id (λ page. true))) (stamp_of h id) (unwrap_or (known_of h id) 0) now) Misuse) w.begun)
unknown_misused h (Back id) w other = sym (ap (λ b. cond (b && (not (is_ended h id) || is_gone h id)) (cond (is_gone h id) Purged Counted) Misuse) w.begun)

-- a Grant of a new number
pub grant_misused : (h : History) (id client pages : ℕ) → (nat_lt 0 client && nat_le 1 pages && nat_le pages MOST_PAGES) ≡ false → Misuse ≡ answer_of h (Grant id client pages)
unfolding answer_of
grant_misused h id client pages e = sym (ap (λ b. cond b (Granted id) Misuse) (out (not (is_begun h id)) (nat_lt 0 client) (nat_le 1 pages) (nat_le pages MOST_PAGES) e))
  where
    out : (a b c d : Bool) → (b && c && d) ≡ false → (a && b && c && d) ≡ false
    out true b c d e = e
    out false b c d e = refl

pub granted : (h : History) (id client pages : ℕ) → IsUnknown h id → 0 < client → 1 ≤ pages → pages ≤ MOST_PAGES → Granted id ≡ answer_of h (Grant id client pages)
unfolding answer_of
granted h id client pages w some least most =
    let a : nat_lt 0 client ≡ true = grind (arith, nat_tests) in
    let b : nat_le 1 pages ≡ true = grind (arith, nat_tests) in
    let c : nat_le pages MOST_PAGES ≡ true = grind (arith, nat_tests) in
    sym (ap (λ b. cond b (Granted id) Misuse) (all (is_begun h id) (nat_lt 0 client) (nat_le 1 pages) (nat_le pages MOST_PAGES) w.begun a b c))
  where
    all : (a b c d : Bool) → a ≡ false → b ≡ true → c ≡ true → d ≡ true → (not a && b && c && d) ≡ true
    all false true true true p q r s = refl
    all true b c d p q r s = cc
    all false false c d p q r s = cc
    all false true false d p q r s = cc
    all false true true false p q r s = cc

-- each page of a new segment is held
held_fresh : (pages page : ℕ) → get_or (replicate pages true) page false ≡ nat_lt page pages
held_fresh zero page = get_or_past [] page false (omega arith) ∙ sym (none page)
  where
    none : (page : ℕ) → nat_lt page 0 ≡ false
    none page = grind (arith, nat_tests)
held_fresh (suc pages) zero = first pages
  where
    first : (n : ℕ) → true ≡ nat_lt 0 (suc n)
    first n = grind (arith, nat_tests)
held_fresh (suc pages) (suc page) = held_fresh pages page ∙ one_less page pages
  where
    one_less : (a b : ℕ) → nat_lt a b ≡ nat_lt (suc a) (suc b)
    one_less a b = grind (arith, nat_tests)

pub shows_fresh : (h : History) (s client pages : ℕ) (kept : KeptSegment) → IsUnknown h s → kept ≡ fresh pages → Shows ((Grant s client pages, Granted s) ∷ h) s kept
shows_fresh h s client pages kept w new =
    subst (λ k. Shows ((Grant s client pages, Granted s) ∷ h) s k) (sym new)
    (shows_grant h s client pages (fresh pages) w (length-replicate pages true) (held_fresh pages) refl refl refl refl refl)
