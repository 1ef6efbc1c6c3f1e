-- What an event makes of what is kept of one number.
use Rattle.std.proofs.Common.{◌≡◌, ◌≢◌, ◌⊎◌, ℕ, ◌==◌, Bool, true, false, not, ◌&&◌, ◌||◌, cond, ◌∷◌, Some, unwrap_or, refl, sym, ap, ◌∙◌, subst, eq-eqb, inl, inr}
use Rattle.std.proofs.lemmas.Bool.{false≢true}
use Rattle.machine.specs.declared.event.Event.{Event}
use Rattle.machine.specs.declared.event.Event.TheVariants.{Grant, Try, Back}
use Rattle.machine.specs.declared.event.Answer.{Answer}
use Rattle.machine.specs.declared.event.Answer.TheVariants.{Granted, Taken, Used, Counted, Purged, Misuse}
use Rattle.machine.specs.History.{History, number_of, is_begun, pages_of, client_of, is_ended, is_gone, known_of}
use Rattle.machine.specs.Answers.{answer_of, is_plain, is_live, can_try, can_give_back, granted_numbers}
use Rattle.machine.specs.Segments.{IsUnknown}
use Rattle.machine.proofs.Untouched.{begun_other, pages_other, ended_other, gone_other, known_other}
use Rattle.replay_plain.specs.declared.segment.KnownSegment.{KnownSegment}
use Rattle.replay_plain.specs.State.{is_grant}
use Rattle.replay_plain.specs.Known.{Tells}

pub client_other : (h : History) (e : Event) (a : Answer) (s : ℕ) → (number_of e == s) ≡ false → client_of ((e, a) ∷ h) s ≡ client_of h s
unfolding client_of
client_other h (Grant id client pages) (Granted drawn) s ne = ap (λ b. cond b client (client_of h s)) ne
client_other h _ _ s ne = refl

pub plain_other : (h : History) (e : Event) (a : Answer) (s : ℕ) → (number_of e == s) ≡ false → is_plain ((e, a) ∷ h) s ≡ is_plain h s
plain_other h e a s ne =
    ap (λ b. b && not (is_ended ((e, a) ∷ h) s)) (begun_other h e a s ne) ∙ ap (λ b. is_begun h s && not b) (ended_other h e a s ne)

-- an event tells nothing of another number
pub tells_other : (h : History) (e : Event) (a : Answer) (s : ℕ) (kept : KnownSegment) → (number_of e == s) ≡ false → Tells h s kept → Tells ((e, a) ∷ h) s kept
tells_other h e a s kept ne w =
    let gone = gone_other h e a s ne in
    let plain = plain_other h e a s ne in
    record {
      client = w.client ∙ sym (client_other h e a s ne);
      pages = w.pages ∙ sym (pages_other h e a s ne);
      known = w.known ∙ ap (λ k. unwrap_or k 0) (sym (known_other h e a s ne));
      live = w.live ∙ sym (ap (λ b. b && not (is_gone ((e, a) ∷ h) s)) plain ∙ ap (λ b. is_plain h s && not b) gone);
      plain = w.plain ∙ sym plain;
    }

-- whether an event with this answer changes nothing that is kept
unfoldable pub is_quiet : Event → Answer → Bool
is_quiet (Grant id client pages) (Granted drawn) = false
is_quiet (Try id now) Taken = false
is_quiet (Try id now) (Used known) = false
is_quiet (Back id) Counted = false
is_quiet (Back id) Purged = false
is_quiet _ _ = true

pub tells_quiet : (h : History) (e : Event) (a : Answer) (s : ℕ) (kept : KnownSegment) → is_quiet e a ≡ true → Tells h s kept → Tells ((e, a) ∷ h) s kept
unfolding is_begun pages_of client_of is_ended is_gone known_of is_quiet
tells_quiet h (Grant id client pages) (Granted drawn) s kept q w = absurd (false≢true q)
tells_quiet h (Try id now) Taken s kept q w = absurd (false≢true q)
tells_quiet h (Try id now) (Used known) s kept q w = absurd (false≢true q)
tells_quiet h (Back id) Counted s kept q w = absurd (false≢true q)
tells_quiet h (Back id) Purged s kept q w = absurd (false≢true q)
tells_quiet h _ _ s kept q w = record { client = w.client; pages = w.pages; known = w.known; live = w.live; plain = w.plain }

-- a try that finds the segment used tells when
pub tells_used : (h : History) (s now found : ℕ) (kept : KnownSegment) → Tells h s kept
    → Tells ((Try s now, Used found) ∷ h) s (record kept { known = found })
unfolding is_begun pages_of client_of is_ended is_gone known_of
tells_used h s now found kept w =
    record {
      client = w.client;
      pages = w.pages;
      known = sym (ap (λ b. unwrap_or (cond b (Some found) (known_of h s)) 0) (eq-eqb s s refl));
      live = w.live;
      plain = w.plain;
    }

-- a try that takes the segment
pub tells_taken : (h : History) (s now : ℕ) (kept : KnownSegment) → Tells h s kept
    → Tells ((Try s now, Taken) ∷ h) s (record kept { live = false })
unfolding is_begun pages_of client_of is_ended is_gone known_of
tells_taken h s now kept w =
    record {
      client = w.client;
      pages = w.pages;
      known = w.known;
      live = sym (ap (λ b. is_plain h s && not (b || is_gone h s)) (eq-eqb s s refl) ∙ by_test (is_plain h s));
      plain = w.plain;
    }
  where
    by_test : (b : Bool) → (b && false) ≡ false
    by_test true = refl
    by_test false = refl

-- a segment that is given back
pub tells_returned : (h : History) (s : ℕ) (kept : KnownSegment) (a : Answer) → (a ≡ Counted) ⊎ (a ≡ Purged) → Tells h s kept
    → Tells ((Back s, a) ∷ h) s (record kept { live = false; plain = false })
unfolding is_begun pages_of client_of is_ended is_gone known_of
tells_returned h s kept a (inl is) w =
    subst (λ x. Tells ((Back s, x) ∷ h) s (record kept { live = false; plain = false })) (sym is)
    (record {
      client = w.client;
      pages = w.pages;
      known = w.known;
      live = sym (ap (λ b. is_begun h s && not (b || is_ended h s) && not (is_gone h s)) (eq-eqb s s refl) ∙ dead (is_begun h s) (is_gone h s));
      plain = sym (ap (λ b. is_begun h s && not (b || is_ended h s)) (eq-eqb s s refl) ∙ over (is_begun h s));
    })
  where
    over : (b : Bool) → (b && false) ≡ false
    over true = refl
    over false = refl

    dead : (b c : Bool) → (b && false && not c) ≡ false
    dead true c = refl
    dead false c = refl
tells_returned h s kept a (inr is) w =
    subst (λ x. Tells ((Back s, x) ∷ h) s (record kept { live = false; plain = false })) (sym is)
    (record {
      client = w.client;
      pages = w.pages;
      known = w.known;
      live = sym (ap (λ b. is_begun h s && not (b || is_ended h s) && not (is_gone h s)) (eq-eqb s s refl) ∙ dead (is_begun h s) (is_gone h s));
      plain = sym (ap (λ b. is_begun h s && not (b || is_ended h s)) (eq-eqb s s refl) ∙ over (is_begun h s));
    })
  where
    over : (b : Bool) → (b && false) ≡ false
    over true = refl
    over false = refl

    dead : (b c : Bool) → (b && false && not c) ≡ false
    dead true c = refl
    dead false c = refl

-- a segment that is granted, of which nothing is known yet
pub tells_granted : (h : History) (s client pages : ℕ) → IsUnknown h s
    → Tells ((Grant s client pages, Granted s) ∷ h) s (record { client = client; pages = pages; known = 0; live = true; plain = true })
unfolding is_begun pages_of client_of is_ended is_gone known_of
tells_granted h s client pages unknown =
    let itself : (s == s) ≡ true = eq-eqb s s refl in
    let plain : ((s == s || is_begun h s) && not (is_ended h s)) ≡ true
    = ap (λ b. (b || is_begun h s) && not (is_ended h s)) itself ∙ ap not unknown.ended in
    record {
      client = sym (ap (λ b. cond b client (client_of h s)) itself);
      pages = sym (ap (λ b. cond b pages (pages_of h s)) itself);
      known = sym (ap (λ k. unwrap_or k 0) unknown.known);
      live = sym (ap (λ b. b && not (is_gone h s)) plain ∙ ap not unknown.gone);
      plain = sym plain;
    }

-- An event on a number that was not granted is misuse, but for a Grant

can_be : (can : Bool) (x a : Answer) → cond can x Misuse ≡ a → a ≢ Misuse → can ≡ true
can_be true x a e good = refl
can_be false x a e good = absurd (good (sym e))

first_of_and : (a b : Bool) → (a && b) ≡ true → a ≡ true
first_of_and true b e = refl
first_of_and false b e = absurd (false≢true e)

second_of_and : (a b : Bool) → (a && b) ≡ true → b ≡ true
second_of_and true b e = e
second_of_and false b e = absurd (false≢true e)

-- a try that is no misuse is on a live segment
pub tried_live : (h : History) (s now : ℕ) (a : Answer) → answer_of h (Try s now) ≡ a → a ≢ Misuse → is_live h s ≡ true
unfolding answer_of
tried_live h s now a e good = first_of_and (is_live h s) _ (can_be (can_try h s now) _ a e good)

pub live_begun : (h : History) (s : ℕ) → is_live h s ≡ true → is_begun h s ≡ true
live_begun h s e = first_of_and (is_begun h s) _ (first_of_and (is_plain h s) _ e)

-- a return that is no misuse is of a granted segment
pub returned_begun : (h : History) (s : ℕ) (a : Answer) → answer_of h (Back s) ≡ a → a ≢ Misuse → is_begun h s ≡ true
unfolding answer_of
returned_begun h s a e good = first_of_and (is_begun h s) _ (can_be (can_give_back h s) _ a e good)

-- What an event makes of the numbers that were granted

pub numbers_same : (h : History) (e : Event) (a : Answer) → is_grant e ≡ false → granted_numbers ((e, a) ∷ h) ≡ granted_numbers h
unfolding granted_numbers
numbers_same h (Grant id client pages) a no_grant = absurd (false≢true (sym no_grant))
numbers_same h _ a no_grant = refl

pub begun_same : (h : History) (e : Event) (a : Answer) (s : ℕ) → is_grant e ≡ false → is_begun ((e, a) ∷ h) s ≡ is_begun h s
unfolding is_begun
begun_same h (Grant id client pages) a s no_grant = absurd (false≢true (sym no_grant))
begun_same h _ a s no_grant = refl
