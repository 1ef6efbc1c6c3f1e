-- What is kept of the granted segments follows each event.
use Rattle.std.proofs.Common.{◌≡◌, ◌≢◌, ℕ, ◌+◌, ◌-◌, ◌<◌, ◌==◌, Bool, true, false, ◌||◌, cond, List, [], ◌∷◌, ◌++◌, length, set, Some, None, slice_get, count_by, zero, suc, zero-add, refl, sym, ap, ◌∙◌, subst, arith, eq-eqb, inl, inr}
use Rattle.std.proofs.lemmas.Bool.{eqb-true, false≢true}
use Rattle.std.proofs.lemmas.Bool.Decides.{nat_tests}
use Rattle.std.proofs.lemmas.List.{length-set, length_push}
use Rattle.std.proofs.Math.Numerals.{add-one}
use Rattle.std.proofs.lemmas.List.Sums.{sum_by-append}
use Rattle.machine.specs.declared.event.Event.{Event}
use Rattle.machine.specs.declared.event.Event.TheVariants.{Grant, Try, Back}
use Rattle.machine.specs.declared.event.Answer.{Answer}
use Rattle.machine.specs.declared.event.Answer.TheVariants.{Granted, Taken, Used, Counted, Purged, Misuse}
use Rattle.machine.specs.History.{History, number_of, is_begun, pages_of, client_of, is_ended, is_gone, known_of}
use Rattle.machine.specs.Answers.{answer, answered, answered_after, granted_numbers, granted}
use Rattle.machine.specs.Laws.{added, taken_off}
use Rattle.machine.proofs.Whole.{answered_push}
use Rattle.machine.proofs.Counts.{counted_once}
use Rattle.machine.proofs.Sound.{sound}
use Rattle.replay_plain.specs.declared.segment.KnownSegment.{KnownSegment}
use Rattle.replay_plain.specs.Rows.{KnownView}
use Rattle.replay_plain.specs.State.{is_grant}
use Rattle.replay_plain.specs.Known.{Tells, TellsAll, is_drawn, numbers_to}
use Rattle.replay_plain.proofs.Places.{get_set_same, get_set_other, get_push_same, get_push_other, some_is}
use Rattle.replay_plain.proofs.Effects.{tells_other, is_quiet, tells_quiet, tells_used, tells_taken, tells_returned, tells_granted, tried_live, live_begun, returned_begun, numbers_same, begun_same}

-- the history after one event more, whose answer is this
pub pushed : (events : List Event) (e : Event) (a : Answer) → answer events e ≡ a → answered (events ++ e ∷ []) ≡ (e, a) ∷ answered events
pushed events e a is = answered_push [] events e ∙ ap (λ x. (e, x) ∷ answered events) is

counted_more : (events : List Event) (e : Event) → count_by is_grant (events ++ e ∷ []) ≡ count_by is_grant events + cond {A = ℕ} (is_grant e) 1 0
counted_more events e = sum_by-append (λ x. cond {A = ℕ} (is_grant x) 1 0) events (e ∷ []) ∙ ap (λ n. count_by is_grant events + n) (zero-add (cond {A = ℕ} (is_grant e) 1 0))

pub no_more : (events : List Event) (e : Event) → is_grant e ≡ false → count_by is_grant (events ++ e ∷ []) ≡ count_by is_grant events
no_more events e is =
    let more = counted_more events e in
    let none : cond {A = ℕ} (is_grant e) 1 0 ≡ 0 = ap {B = ℕ} (λ b. cond b 1 0) is in
    omega arith

-- granted pages, where an event adds these and takes off those
pub pages_after : (events : List Event) (e : Event) (a : Answer) → answer events e ≡ a
    → granted (events ++ e ∷ []) + taken_off (answered events) e a ≡ granted events + added e a
pages_after events e a is = subst (λ x. granted (events ++ e ∷ []) + taken_off (answered events) e x ≡ granted events + added e x) is (counted_once events e).sum

quiet_sums : (h : History) (e : Event) (a : Answer) → is_quiet e a ≡ true → (taken_off h e a ≡ 0) × (added e a ≡ 0)
unfolding is_quiet
quiet_sums h (Grant id client pages) (Granted drawn) q = absurd (false≢true q)
quiet_sums h (Try id now) Taken q = absurd (false≢true q)
quiet_sums h (Back id) Counted q = absurd (false≢true q)
quiet_sums h _ _ q = (refl, refl)

-- an event that changes nothing that is kept
pub all_quiet : (events : List Event) (e : Event) (a : Answer) (kept : KnownView) → is_grant e ≡ false → answer events e ≡ a → is_quiet e a ≡ true
    → TellsAll events kept → TellsAll (events ++ e ∷ []) kept
all_quiet events e a kept no_grant is q w =
    let h = answered events in
    let after = pushed events e a is in
    let sums = quiet_sums h e a q in
    let off = sums.0 in
    let on = sums.1 in
    let sum = pages_after events e a is in
    let pages = w.pages in
    record {
      drawn = w.drawn ∙ ap (λ n. n + 1) (sym (no_more events e no_grant));
      numbers = ap granted_numbers after ∙ numbers_same h e a no_grant ∙ w.numbers ∙ ap numbers_to (sym (no_more events e no_grant));
      begun = λ s. ap (λ g. is_begun g s) after ∙ begun_same h e a s no_grant ∙ w.begun s;
      each = λ s segment at. subst (λ g. Tells g s segment) (sym after) (tells_quiet h e a s segment q (w.each s segment at));
      pages = omega arith;
    }

-- an event that changes what is kept of its number, and grants nothing
pub all_changed : (events : List Event) (e : Event) (a : Answer) (id : ℕ) (old new : KnownView) (after : KnownSegment)
    → number_of e ≡ id → is_grant e ≡ false → answer events e ≡ a → id < length old.items
    → new.items ≡ set old.items id after
    → Tells ((e, a) ∷ answered events) id after
    → new.pages ≡ granted (events ++ e ∷ [])
    → TellsAll events old → TellsAll (events ++ e ∷ []) new
all_changed events e a id old new after number no_grant is inside changed tells pages w =
    let h = answered events in
    let next = pushed events e a is in
    let same : length new.items ≡ length old.items = ap length changed ∙ length-set old.items id after in
    record {
      drawn = same ∙ w.drawn ∙ ap (λ n. n + 1) (sym (no_more events e no_grant));
      numbers = ap granted_numbers next ∙ numbers_same h e a no_grant ∙ w.numbers ∙ ap numbers_to (sym (no_more events e no_grant));
      begun = λ s. ap (λ g. is_begun g s) next ∙ begun_same h e a s no_grant ∙ w.begun s ∙ ap (λ n. is_drawn n s) (sym same);
      each = λ s segment at. subst (λ g. Tells g s segment) (sym next)
          (by_test s segment (ap (λ xs. slice_get xs s) (sym changed) ∙ at) (id == s) refl);
      pages = pages;
    }
  where
    by_test : (s : ℕ) (segment : KnownSegment) → slice_get (set old.items id after) s ≡ Some segment → (b : Bool) → (id == s) ≡ b
        → Tells ((e, a) ∷ answered events) s segment
    by_test s segment at true e1 =
        let here : id ≡ s = eqb-true id s e1 in
        let found : slice_get (set old.items id after) s ≡ Some after
        = ap (λ n. slice_get (set old.items id after) n) (sym here) ∙ get_set_same old.items id after inside in
        subst (λ n. Tells ((e, a) ∷ answered events) n segment) here
        (subst (λ (k : KnownSegment). Tells ((e, a) ∷ answered events) id k) (some_is after segment (sym found ∙ at)) tells)
    by_test s segment at false e1 =
        tells_other (answered events) e a s segment (ap (λ n. n == s) number ∙ e1)
        (w.each s segment (sym (get_set_other old.items id s after (λ same. false≢true (sym e1 ∙ eq-eqb id s (sym same)))) ∙ at))

-- a number that was granted has a place
pub has_place : (events : List Event) (kept : KnownView) (s : ℕ) → TellsAll events kept → is_begun (answered events) s ≡ true → s < length kept.items
has_place events kept s w begun =
    let drawn : is_drawn (length kept.items) s ≡ true = sym (w.begun s) ∙ begun in
    grind (arith, nat_tests)

pub used_not_misuse : (known : ℕ) → Used known ≢ Misuse
used_not_misuse known e = cc

pub taken_not_misuse : Taken ≢ Misuse
taken_not_misuse e = cc

pub counted_not_misuse : Counted ≢ Misuse
counted_not_misuse e = cc

pub purged_not_misuse : Purged ≢ Misuse
purged_not_misuse e = cc

-- a try that finds the segment used
pub all_used : (events : List Event) (id now known : ℕ) (old new : KnownView) (segment : KnownSegment) → TellsAll events old → answer events (Try id now) ≡ Used known
    → slice_get old.items id ≡ Some segment
    → new.items ≡ set old.items id (record segment { known = known }) → new.pages ≡ old.pages
    → TellsAll (events ++ Try id now ∷ []) new
all_used events id now known old new segment w is at changed pages =
    let h = answered events in
    let begun = live_begun h id (tried_live h id now (Used known) is (used_not_misuse known)) in
    let sum = pages_after events (Try id now) (Used known) is in
    let before = w.pages in
    all_changed events (Try id now) (Used known) id old new (record segment { known = known }) refl refl is (has_place events old id w begun) changed
    (tells_used h id now known segment (w.each id segment at)) (omega arith) w

-- a try that takes the segment
pub all_taken : (events : List Event) (id now : ℕ) (old new : KnownView) (segment : KnownSegment) → TellsAll events old → answer events (Try id now) ≡ Taken
    → slice_get old.items id ≡ Some segment
    → new.items ≡ set old.items id (record segment { live = false }) → new.pages ≡ old.pages - segment.pages
    → TellsAll (events ++ Try id now ∷ []) new
all_taken events id now old new segment w is at changed pages =
    let h = answered events in
    let begun = live_begun h id (tried_live h id now Taken is taken_not_misuse) in
    let sum = pages_after events (Try id now) Taken is in
    let before = w.pages in
    let tells = w.each id segment at in
    let its = tells.pages in
    all_changed events (Try id now) Taken id old new (record segment { live = false }) refl refl is (has_place events old id w begun) changed
    (tells_taken h id now segment tells) (omega arith) w

-- a live segment is given back
pub all_counted : (events : List Event) (id : ℕ) (old new : KnownView) (segment : KnownSegment) → TellsAll events old → answer events (Back id) ≡ Counted
    → slice_get old.items id ≡ Some segment
    → new.items ≡ set old.items id (record segment { live = false; plain = false }) → new.pages ≡ old.pages - segment.pages
    → TellsAll (events ++ Back id ∷ []) new
all_counted events id old new segment w is at changed pages =
    let h = answered events in
    let begun = returned_begun h id Counted is counted_not_misuse in
    let sum = pages_after events (Back id) Counted is in
    let before = w.pages in
    let tells = w.each id segment at in
    let its = tells.pages in
    all_changed events (Back id) Counted id old new (record segment { live = false; plain = false }) refl refl is (has_place events old id w begun) changed
    (tells_returned h id segment Counted (inl refl) tells) (omega arith) w

-- a purged segment is given back
pub all_returned : (events : List Event) (id : ℕ) (old new : KnownView) (segment : KnownSegment) → TellsAll events old → answer events (Back id) ≡ Purged
    → slice_get old.items id ≡ Some segment
    → new.items ≡ set old.items id (record segment { live = false; plain = false }) → new.pages ≡ old.pages
    → TellsAll (events ++ Back id ∷ []) new
all_returned events id old new segment w is at changed pages =
    let h = answered events in
    let begun = returned_begun h id Purged is purged_not_misuse in
    let sum = pages_after events (Back id) Purged is in
    let before = w.pages in
    let tells = w.each id segment at in
    all_changed events (Back id) Purged id old new (record segment { live = false; plain = false }) refl refl is (has_place events old id w begun) changed
    (tells_returned h id segment Purged (inr refl) tells) (omega arith) w

-- nothing is kept of it, so the number was not granted
pub not_kept : (events : List Event) (kept : KnownView) (s : ℕ) → TellsAll events kept → slice_get kept.items s ≡ None → is_begun (answered events) s ≡ true → ⊥
not_kept events kept s w none begun = there kept.items s (has_place events kept s w begun) none
  where
    there : (xs : List KnownSegment) (i : ℕ) → i < length xs → slice_get xs i ≡ None → ⊥
    there [] i inside e = absurd (omega (arith, inside))
    there (x ∷ xs) zero inside e = cc
    there (x ∷ xs) (suc i) inside e = there xs i (omega (arith, inside)) e

-- the next number is granted
pub all_granted : (events : List Event) (id client pages : ℕ) (old new : KnownView) → TellsAll events old → answer events (Grant id client pages) ≡ Granted id
    → id ≡ length old.items
    → new.items ≡ old.items ++ (record { client = client; pages = pages; known = 0; live = true; plain = true }) ∷ []
    → new.pages ≡ old.pages + pages
    → TellsAll (events ++ Grant id client pages ∷ []) new
unfolding is_begun granted_numbers
all_granted events id client pages old new w is number grown paged =
    let h = answered events in
    let e = Grant id client pages in
    let next = pushed events e (Granted id) is in
    let sum = pages_after events e (Granted id) is in
    let before = w.pages in
    let count = counted_more events e in
    let drawn = w.drawn in
    let longer : length new.items ≡ length old.items + 1 = ap length grown ∙ length_push old.items _ in
    record {
      drawn = omega arith;
      numbers = ap granted_numbers next ∙ ap (λ xs. id ∷ xs) w.numbers
          ∙ first (count_by is_grant events) id (omega arith) ∙ ap numbers_to (sym count);
      begun = λ s. ap (λ g. is_begun g s) next ∙ ap (λ b. id == s || b) (w.begun s)
          ∙ ap (λ n. n == s || is_drawn (length old.items) s) number
          ∙ one_more (length old.items) s (omega arith) ∙ ap (λ n. is_drawn n s) (sym longer);
      each = λ s segment at. subst (λ g. Tells g s segment) (sym next)
          (by_test s segment (ap (λ xs. slice_get xs s) (sym grown) ∙ at) (id == s) refl);
      pages = omega arith;
    }
  where
    fresh : KnownSegment
    fresh = record { client = client; pages = pages; known = 0; live = true; plain = true }

    first : (n i : ℕ) → i ≡ n + 1 → i ∷ numbers_to n ≡ numbers_to (n + 1)
    first n i e = ap (λ k. k ∷ numbers_to n) e ∙ (ap (λ k. k ∷ numbers_to n) (add-one n) ∙ ap numbers_to (sym (add-one n)))

    one_more : (n s : ℕ) → 0 < n → (n == s || is_drawn n s) ≡ is_drawn (n + 1) s
    one_more n s some = grind (arith, nat_tests)

    not_begun : is_begun (answered events) id ≡ false
    not_begun =
        let drawn = w.begun id in
        let out : is_drawn (length old.items) id ≡ false = grind (arith, nat_tests) in
        drawn ∙ out

    by_test : (s : ℕ) (segment : KnownSegment) → slice_get (old.items ++ fresh ∷ []) s ≡ Some segment → (b : Bool) → (id == s) ≡ b
        → Tells ((Grant id client pages, Granted id) ∷ answered events) s segment
    by_test s segment at true e1 =
        let here : id ≡ s = eqb-true id s e1 in
        let found = get_push_same old.items s fresh (sym here ∙ number) in
        subst (λ n. Tells ((Grant id client pages, Granted id) ∷ answered events) n segment) here
        (subst (λ (k : KnownSegment). Tells ((Grant id client pages, Granted id) ∷ answered events) id k) (some_is fresh segment (sym found ∙ at))
        (tells_granted (answered events) id client pages ((sound events id).unknown not_begun)))
    by_test s segment at false e1 =
        tells_other (answered events) (Grant id client pages) (Granted id) s segment e1
        (w.each s segment (sym (get_push_other old.items s fresh (λ same. false≢true (sym e1 ∙ eq-eqb id s (number ∙ sym same)))) ∙ at))

-- nothing is kept before the first event
pub none_kept : (kept : KnownView) → kept.items ≡ (record { client = 0; pages = 0; known = 0; live = false; plain = false }) ∷ [] → kept.pages ≡ 0
    → TellsAll [] kept
unfolding answered_after is_begun pages_of client_of is_ended is_gone known_of granted_numbers
none_kept kept items pages =
    record {
      drawn = ap length items;
      numbers = refl;
      begun = λ s. sym (ap (λ n. is_drawn n s) (ap length items) ∙ none s);
      each = λ s segment at. by_place s segment (ap (λ xs. slice_get xs s) (sym items) ∙ at);
      pages = pages;
    }
  where
    none : (s : ℕ) → is_drawn 1 s ≡ false
    none s = grind (arith, nat_tests)

    blank : KnownSegment
    blank = record { client = 0; pages = 0; known = 0; live = false; plain = false }

    by_place : (s : ℕ) (segment : KnownSegment) → slice_get (blank ∷ []) s ≡ Some segment → Tells (answered []) s segment
    by_place zero segment at = subst (λ (k : KnownSegment). Tells [] 0 k) (some_is blank segment at) (record { client = refl; pages = refl; known = refl; live = refl; plain = refl })
    by_place (suc s) segment at = absurd (cc)
