-- An event on another segment changes nothing of a segment, and neither does a misuse.
use Rattle.std.proofs.Common.{◌≡◌, ℕ, ◌==◌, ◌*◌, nat_lt, max, false, not, ◌&&◌, ◌||◌, cond, ◌∷◌, Some, replicate, refl, sym, ap, ◌∙◌}
use Rattle.units.specs.declared.TheConstants.{PAGE}
use Rattle.machine.specs.declared.event.Event.{Event}
use Rattle.machine.specs.declared.event.Event.TheVariants.{Grant, Lock, Unlock, Write, Try, Back}
use Rattle.machine.specs.declared.event.Answer.{Answer}
use Rattle.machine.specs.declared.event.Answer.TheVariants.{Granted, Held, Idle, StillHeld, Written, Taken, Used, Counted, Purged, Misuse}
use Rattle.machine.specs.History.{History, is_begun, pages_of, is_ended, is_gone, is_held, stamp_of, known_of, put, left_of, number_of}
use Rattle.units.specs.Range.{is_within}
use Rattle.machine.specs.Answers.{is_plain, is_live}
use Rattle.machine.specs.KeptSegment.{KeptSegment}
use Rattle.machine.specs.Segments.{Shows, IsUnknown}

pub begun_other : (h : History) (e : Event) (a : Answer) (s : ℕ) → (number_of e == s) ≡ false → is_begun ((e, a) ∷ h) s ≡ is_begun h s
unfolding is_begun
begun_other h (Grant id client pages) (Granted drawn) s ne = ap (λ b. b || is_begun h s) ne
begun_other h _ _ s ne = refl

pub pages_other : (h : History) (e : Event) (a : Answer) (s : ℕ) → (number_of e == s) ≡ false → pages_of ((e, a) ∷ h) s ≡ pages_of h s
unfolding pages_of
pages_other h (Grant id client pages) (Granted drawn) s ne = ap (λ b. cond b pages (pages_of h s)) ne
pages_other h _ _ s ne = refl

pub ended_other : (h : History) (e : Event) (a : Answer) (s : ℕ) → (number_of e == s) ≡ false → is_ended ((e, a) ∷ h) s ≡ is_ended h s
unfolding is_ended
ended_other h (Back id) Counted s ne = ap (λ b. b || is_ended h s) ne
ended_other h (Back id) Purged s ne = ap (λ b. b || is_ended h s) ne
ended_other h _ _ s ne = refl

pub gone_other : (h : History) (e : Event) (a : Answer) (s : ℕ) → (number_of e == s) ≡ false → is_gone ((e, a) ∷ h) s ≡ is_gone h s
unfolding is_gone
gone_other h (Try id now) Taken s ne = ap (λ b. b || is_gone h s) ne
gone_other h _ _ s ne = refl

pub held_other : (h : History) (e : Event) (a : Answer) (s page : ℕ) → (number_of e == s) ≡ false → is_held ((e, a) ∷ h) s page ≡ is_held h s page
unfolding is_held
held_other h (Grant id client pages) (Granted drawn) s page ne = ap (λ b. cond b (nat_lt page pages) (is_held h s page)) ne
held_other h (Lock id first count) Held s page ne = ap (λ b. b && is_within first count page || is_held h s page) ne
held_other h (Unlock id first count at) (Idle stamp) s page ne = ap (λ b. not (b && is_within first count page) && is_held h s page) ne
held_other h (Unlock id first count at) (StillHeld stay) s page ne = ap (λ b. not (b && is_within first count page) && is_held h s page) ne
held_other h _ _ s page ne = refl

pub stamp_other : (h : History) (e : Event) (a : Answer) (s : ℕ) → (number_of e == s) ≡ false → stamp_of ((e, a) ∷ h) s ≡ stamp_of h s
unfolding stamp_of
stamp_other h (Unlock id first count at) (Idle stamp) s ne = ap (λ b. cond b (max (stamp_of h s) at) (stamp_of h s)) ne
stamp_other h _ _ s ne = refl

pub known_other : (h : History) (e : Event) (a : Answer) (s : ℕ) → (number_of e == s) ≡ false → known_of ((e, a) ∷ h) s ≡ known_of h s
unfolding known_of
known_other h (Try id now) (Used known) s ne = ap (λ b. cond b (Some known) (known_of h s)) ne
known_other h _ _ s ne = refl

pub left_other : (h : History) (e : Event) (a : Answer) (s : ℕ) → (number_of e == s) ≡ false → left_of ((e, a) ∷ h) s ≡ left_of h s
unfolding left_of
left_other h (Grant id client pages) (Granted drawn) s ne = ap (λ b. cond b (replicate (PAGE * pages) 0) (left_of h s)) ne
left_other h (Write id place bytes) Written s ne = ap (λ b. cond b (put place bytes (left_of h s)) (left_of h s)) ne
left_other h _ _ s ne = refl

pub plain_other : (h : History) (e : Event) (a : Answer) (s : ℕ) → (number_of e == s) ≡ false → is_plain ((e, a) ∷ h) s ≡ is_plain h s
plain_other h e a s ne =
    ap (λ b. b && not (is_ended ((e, a) ∷ h) s)) (begun_other h e a s ne) ∙ ap (λ b. is_begun h s && not b) (ended_other h e a s ne)

pub live_other : (h : History) (e : Event) (a : Answer) (s : ℕ) → (number_of e == s) ≡ false → is_live ((e, a) ∷ h) s ≡ is_live h s
live_other h e a s ne =
    ap (λ b. b && not (is_gone ((e, a) ∷ h) s)) (plain_other h e a s ne) ∙ ap (λ b. is_plain h s && not b) (gone_other h e a s ne)

pub shows_other : (h : History) (e : Event) (a : Answer) (s : ℕ) (kept : KeptSegment) → (number_of e == s) ≡ false → Shows h s kept → Shows ((e, a) ∷ h) s kept
shows_other h e a s kept ne w = record {
  begun = begun_other h e a s ne ∙ w.begun;
  pages = λ plain. w.pages (sym (plain_other h e a s ne) ∙ plain) ∙ sym (pages_other h e a s ne);
  held = λ plain page. w.held (sym (plain_other h e a s ne) ∙ plain) page ∙ sym (held_other h e a s page ne);
  stamp = w.stamp ∙ sym (stamp_other h e a s ne);
  known = w.known ∙ sym (known_other h e a s ne);
  bytes = λ live. w.bytes (sym (live_other h e a s ne) ∙ live) ∙ sym (left_other h e a s ne);
  gone = w.gone ∙ sym (gone_other h e a s ne);
  ended = w.ended ∙ sym (ended_other h e a s ne);
}

pub unknown_other : (h : History) (e : Event) (a : Answer) (s : ℕ) → (number_of e == s) ≡ false → IsUnknown h s → IsUnknown ((e, a) ∷ h) s
unknown_other h e a s ne w = record {
  begun = begun_other h e a s ne ∙ w.begun;
  pages = pages_other h e a s ne ∙ w.pages;
  held = λ page. held_other h e a s page ne ∙ w.held page;
  stamp = stamp_other h e a s ne ∙ w.stamp;
  known = known_other h e a s ne ∙ w.known;
  gone = gone_other h e a s ne ∙ w.gone;
  ended = ended_other h e a s ne ∙ w.ended;
}

pub shows_misuse : (h : History) (e : Event) (s : ℕ) (kept : KeptSegment) → Shows h s kept → Shows ((e, Misuse) ∷ h) s kept
unfolding is_begun pages_of is_ended is_gone is_held stamp_of known_of left_of
shows_misuse h (Grant id client pages) s kept w = record { begun = w.begun; pages = w.pages; held = w.held; stamp = w.stamp; known = w.known; bytes = w.bytes; gone = w.gone; ended = w.ended }
shows_misuse h _ s kept w = record { begun = w.begun; pages = w.pages; held = w.held; stamp = w.stamp; known = w.known; bytes = w.bytes; gone = w.gone; ended = w.ended }

pub unknown_misuse : (h : History) (e : Event) (s : ℕ) → IsUnknown h s → IsUnknown ((e, Misuse) ∷ h) s
unfolding is_begun pages_of is_ended is_gone is_held stamp_of known_of left_of
unknown_misuse h (Grant id client pages) s w = record { begun = w.begun; pages = w.pages; held = w.held; stamp = w.stamp; known = w.known; gone = w.gone; ended = w.ended }
unknown_misuse h _ s w = record { begun = w.begun; pages = w.pages; held = w.held; stamp = w.stamp; known = w.known; gone = w.gone; ended = w.ended }
