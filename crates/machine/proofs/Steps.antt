-- What each answered event on a segment makes of it.
use Rattle.std.proofs.Common.{◌≡◌, ℕ, ◌==◌, ◌*◌, nat_lt, max, Bool, true, false, true≢false, not, ◌&&◌, ◌||◌, cond, List, [], ◌∷◌, length, get_or, Some, None, replicate, refl, sym, ap, ◌∙◌, eq-eqb}
use Rattle.std.proofs.lemmas.Bool.{and_parts}
use Rattle.units.specs.declared.TheConstants.{PAGE}
use Rattle.machine.specs.declared.event.Event.TheVariants.{Grant, Lock, Unlock, Write, Try, Back}
use Rattle.machine.specs.declared.event.Answer.TheVariants.{Granted, Held, Gone, Idle, StillHeld, Written, Taken, Used, Counted, Purged}
use Rattle.machine.specs.History.{History, is_begun, pages_of, is_ended, is_gone, is_held, stamp_of, known_of, put, left_of}
use Rattle.units.specs.Range.{is_within}
use Rattle.machine.specs.KeptSegment.{KeptSegment}
use Rattle.machine.specs.Segments.{Shows, IsUnknown}

-- a number is itself
same : (s : ℕ) → (s == s) ≡ true
same s = eq-eqb s s refl

pub shows_grant : (h : History) (s client pages : ℕ) (kept : KeptSegment) → IsUnknown h s → length kept.held ≡ pages → ((page : ℕ) → get_or kept.held page false ≡ nat_lt page pages)
    → kept.stamp ≡ 0 → kept.known ≡ None → kept.bytes ≡ replicate (PAGE * pages) 0 → kept.gone ≡ false → kept.ended ≡ false
    → Shows ((Grant s client pages, Granted s) ∷ h) s kept
unfolding is_begun pages_of is_ended is_gone is_held stamp_of known_of left_of
shows_grant h s client pages kept w sized held stamp known bytes gone ended = record {
  begun = ap (λ b. b || is_begun h s) (same s);
  pages = λ plain. sized ∙ sym (ap (λ b. cond b pages (pages_of h s)) (same s));
  held = λ plain page. held page ∙ sym (ap (λ b. cond b (nat_lt page pages) (is_held h s page)) (same s));
  stamp = stamp ∙ sym w.stamp;
  known = known ∙ sym w.known;
  bytes = λ live. bytes ∙ sym (ap (λ b. cond b (replicate (PAGE * pages) 0) (left_of h s)) (same s));
  gone = gone ∙ sym w.gone;
  ended = ended ∙ sym w.ended;
}

-- a page that a range locks
held_or : (within was : Bool) → cond within true was ≡ (within || was)
held_or true was = refl
held_or false was = refl

pub shows_lock : (h : History) (s first count : ℕ) (kept : KeptSegment) (held : List Bool) → Shows h s kept → length held ≡ length kept.held
    → ((page : ℕ) → get_or held page false ≡ cond (is_within first count page) true (get_or kept.held page false))
    → Shows ((Lock s first count, Held) ∷ h) s (record kept { held = held })
unfolding is_begun pages_of is_ended is_gone is_held stamp_of known_of left_of
shows_lock h s first count kept held w sized written = record {
  begun = w.begun;
  pages = λ plain. sized ∙ w.pages plain;
  held = λ plain page. written page ∙ held_or (is_within first count page) (get_or kept.held page false)
      ∙ ap (λ b. is_within first count page || b) (w.held plain page)
      ∙ sym (ap (λ b. b && is_within first count page || is_held h s page) (same s));
  stamp = w.stamp;
  known = w.known;
  bytes = w.bytes;
  gone = w.gone;
  ended = w.ended;
}

pub shows_lock_gone : (h : History) (s first count : ℕ) (kept : KeptSegment) → Shows h s kept → Shows ((Lock s first count, Gone) ∷ h) s kept
unfolding is_begun pages_of is_ended is_gone is_held stamp_of known_of left_of
shows_lock_gone h s first count kept w = record { begun = w.begun; pages = w.pages; held = w.held; stamp = w.stamp; known = w.known; bytes = w.bytes; gone = w.gone; ended = w.ended }

-- a page that a range unlocks
held_not : (within was : Bool) → cond within false was ≡ (not within && was)
held_not true was = refl
held_not false was = refl

pub shows_still_held : (h : History) (s first count at stay : ℕ) (kept : KeptSegment) (held : List Bool) → Shows h s kept → length held ≡ length kept.held
    → ((page : ℕ) → get_or held page false ≡ cond (is_within first count page) false (get_or kept.held page false))
    → Shows ((Unlock s first count at, StillHeld stay) ∷ h) s (record kept { held = held })
unfolding is_begun pages_of is_ended is_gone is_held stamp_of known_of left_of
shows_still_held h s first count at stay kept held w sized written = record {
  begun = w.begun;
  pages = λ plain. sized ∙ w.pages plain;
  held = λ plain page. written page ∙ held_not (is_within first count page) (get_or kept.held page false)
      ∙ ap (λ b. not (is_within first count page) && b) (w.held plain page)
      ∙ sym (ap (λ b. not (b && is_within first count page) && is_held h s page) (same s));
  stamp = w.stamp;
  known = w.known;
  bytes = w.bytes;
  gone = w.gone;
  ended = w.ended;
}

pub shows_idle : (h : History) (s first count at stamp : ℕ) (kept : KeptSegment) (held : List Bool) → Shows h s kept → length held ≡ length kept.held
    → ((page : ℕ) → get_or held page false ≡ cond (is_within first count page) false (get_or kept.held page false)) → stamp ≡ max kept.stamp at
    → Shows ((Unlock s first count at, Idle stamp) ∷ h) s (record kept { held = held; stamp = stamp })
unfolding is_begun pages_of is_ended is_gone is_held stamp_of known_of left_of
shows_idle h s first count at stamp kept held w sized written later = record {
  begun = w.begun;
  pages = λ plain. sized ∙ w.pages plain;
  held = λ plain page. written page ∙ held_not (is_within first count page) (get_or kept.held page false)
      ∙ ap (λ b. not (is_within first count page) && b) (w.held plain page)
      ∙ sym (ap (λ b. not (b && is_within first count page) && is_held h s page) (same s));
  stamp = later ∙ ap (λ t. max t at) w.stamp ∙ sym (ap (λ b. cond b (max (stamp_of h s) at) (stamp_of h s)) (same s));
  known = w.known;
  bytes = w.bytes;
  gone = w.gone;
  ended = w.ended;
}

pub shows_write : (h : History) (s place : ℕ) (bytes : List ℕ) (kept : KeptSegment) (after : List ℕ) → Shows h s kept → after ≡ put place bytes kept.bytes
    → Shows ((Write s place bytes, Written) ∷ h) s (record kept { bytes = after })
unfolding is_begun pages_of is_ended is_gone is_held stamp_of known_of left_of
shows_write h s place bytes kept after w written = record {
  begun = w.begun;
  pages = w.pages;
  held = w.held;
  stamp = w.stamp;
  known = w.known;
  bytes = λ live. written ∙ ap (λ old. put place bytes old) (w.bytes live) ∙ sym (ap (λ b. cond b (put place bytes (left_of h s)) (left_of h s)) (same s));
  gone = w.gone;
  ended = w.ended;
}

-- a test that fails where another passes
and_not : (a b : Bool) → b ≡ true → (a && not b) ≡ true → ⊥
and_not true true passes e = true≢false (sym e)
and_not false b passes e = true≢false (sym e)
and_not true false passes e = true≢false (sym passes)

-- a purge lets the bytes go
pub shows_taken : (h : History) (s now : ℕ) (kept : KeptSegment) → Shows h s kept → Shows ((Try s now, Taken) ∷ h) s (record kept { bytes = []; gone = true })
unfolding is_begun pages_of is_ended is_gone is_held stamp_of known_of left_of
shows_taken h s now kept w = record {
  begun = w.begun;
  pages = w.pages;
  held = w.held;
  stamp = w.stamp;
  known = w.known;
  bytes = λ live. absurd (and_not (is_begun h s && not (is_ended h s)) (s == s || is_gone h s) (ap (λ b. b || is_gone h s) (same s)) live);
  gone = sym (ap (λ b. b || is_gone h s) (same s));
  ended = w.ended;
}

pub shows_used : (h : History) (s now found : ℕ) (kept : KeptSegment) → Shows h s kept → Shows ((Try s now, Used found) ∷ h) s (record kept { known = Some found })
unfolding is_begun pages_of is_ended is_gone is_held stamp_of known_of left_of
shows_used h s now found kept w = record {
  begun = w.begun;
  pages = w.pages;
  held = w.held;
  stamp = w.stamp;
  known = sym (ap (λ b. cond b (Some found) (known_of h s)) (same s));
  bytes = w.bytes;
  gone = w.gone;
  ended = w.ended;
}

-- a segment that was given back is not plain
not_plain_after : (h : History) (s : ℕ) → (is_begun h s && not (s == s || is_ended h s)) ≡ true → ⊥
not_plain_after h s = and_not (is_begun h s) (s == s || is_ended h s) (ap (λ b. b || is_ended h s) (same s))

-- nor live
not_live_after : (h : History) (s : ℕ) → ((is_begun h s && not (s == s || is_ended h s)) && not (is_gone h s)) ≡ true → ⊥
not_live_after h s live = not_plain_after h s (and_parts (is_begun h s && not (s == s || is_ended h s)) (not (is_gone h s)) live).0

pub shows_counted : (h : History) (s : ℕ) (kept : KeptSegment) → Shows h s kept → Shows ((Back s, Counted) ∷ h) s (record kept { held = []; bytes = []; ended = true })
unfolding is_begun pages_of is_ended is_gone is_held stamp_of known_of left_of
shows_counted h s kept w = record {
  begun = w.begun;
  pages = λ plain. absurd (not_plain_after h s plain);
  held = λ plain page. absurd (not_plain_after h s plain);
  stamp = w.stamp;
  known = w.known;
  bytes = λ live. absurd (not_live_after h s live);
  gone = w.gone;
  ended = sym (ap (λ b. b || is_ended h s) (same s));
}

pub shows_purged : (h : History) (s : ℕ) (kept : KeptSegment) → Shows h s kept → Shows ((Back s, Purged) ∷ h) s (record kept { held = []; bytes = []; ended = true })
unfolding is_begun pages_of is_ended is_gone is_held stamp_of known_of left_of
shows_purged h s kept w = record {
  begun = w.begun;
  pages = λ plain. absurd (not_plain_after h s plain);
  held = λ plain page. absurd (not_plain_after h s plain);
  stamp = w.stamp;
  known = w.known;
  bytes = λ live. absurd (not_live_after h s live);
  gone = w.gone;
  ended = sym (ap (λ b. b || is_ended h s) (same s));
}
