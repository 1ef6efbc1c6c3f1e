-- Each step on the word is an event of the machine: what a history with it stands for.
use Rattle.std.proofs.Common.{◌≡◌, ◌≢◌, ℕ, ◌+◌, ◌*◌, ◌/◌, ◌≤◌, ◌==◌, nat_lt, nat_le, ◌<◌, zero, suc, max, replicate, count_by, ⊎_elim, Bool, true, false, true≢false, not, ◌&&◌, ◌||◌, cond, List, [], ◌∷◌, Option, Some, None, unwrap_or, refl, sym, ap, ◌∙◌, subst, eq-eqb, ne_eqb, arith}
use Rattle.std.specs.List.{range_with_len}
use Rattle.std.proofs.lemmas.Bool.{cases_eq}
use Rattle.std.proofs.lemmas.Bool.Decides.{nat_tests}
use Rattle.std.proofs.lemmas.List.Sums.{sum_by-cons}
use Rattle.units.specs.declared.TheConstants.{PAGE, LAST_MOMENT}
use Rattle.units.specs.Moment.{IsMoment, is_moment}
use Rattle.units.specs.Range.{is_within}
use Rattle.units.proofs.Ranges.{all_pass}
use Rattle.machine.specs.declared.event.Event.TheVariants.{Grant, Lock, Unlock, Write, Try}
use Rattle.machine.specs.declared.event.Answer.TheVariants as answer
use Rattle.machine.specs.History.{History, is_begun, is_ended, is_held, pages_of, is_gone, stamp_of, known_of, left_of, put}
use Rattle.machine.specs.Answers.{is_plain, can_try, can_lock, can_unlock, can_write, are_free, held_count, staying, answer_of}
use Rattle.machine.specs.Segments.{IsUnknown}
use Rattle.machine.specs.Word as word
use Rattle.machine.specs.Word.{word_of, some_held, state_after}
use Rattle.segment_rule.specs.declared.view.Stage.{Stage}
use Rattle.segment_rule.specs.declared.view.Stage.TheVariants.{New, Held, Idle, Gone}
use Rattle.segment_rule.specs.Views.{known_use, expected_word, owner_holds, owner_loses, owner_rests, owner_stays, warden_tries}
use Rattle.segment_rule.specs.Rule.{Segment, IsAtHome, IsLawful, is_out, has_block}
use Rattle.segment_rule.specs.Kinds.{made}
use Rattle.segment_rule.specs.Standing.{StandsAfter}
use Rattle.segment_rule.proofs.Stages.{unlike}
use Rattle.segment_rule.proofs.StepsKeepTheRule.{finds}

-- a number is itself
same : (s : ℕ) → (s == s) ≡ true
same s = eq-eqb s s refl

by_bool : (b : Bool) → (b ≡ true → ⊥) → b ≡ false
by_bool true never = absurd (never refl)
by_bool false never = refl

by_bool_true : (b : Bool) → (b ≡ false → ⊥) → b ≡ true
by_bool_true true never = refl
by_bool_true false never = absurd (never refl)

-- what a warden finds in a segment that is not gone, of whole segments
found_idle : (g : Segment) → IsLawful g → g.warden.taken ≡ false → g.word ≢ 1 → (g.owner.phase ≡ Idle) × IsAtHome g
found_idle g law free even = finds g.warden g.owner g.word g.home free law g.owner.phase refl even

-- the word of the state, from its three tests
word_gone : (h : History) (s : ℕ) → is_gone h s ≡ true → 0 ≡ word_of (state_after h s)
word_gone h s lost = sym (ap (λ b. word_of (cond b word.Gone (cond (some_held h s) word.Held (word.Idle (stamp_of h s))))) lost)

word_held : (h : History) (s : ℕ) → is_gone h s ≡ false → some_held h s ≡ true → 1 ≡ word_of (state_after h s)
word_held h s there some = sym (λ i. word_of (cond (there i) word.Gone (cond (some i) word.Held (word.Idle (stamp_of h s)))))

word_idle : (h : History) (s : ℕ) → is_gone h s ≡ false → some_held h s ≡ false → 2 * stamp_of h s ≡ word_of (state_after h s)
word_idle h s there none = sym (λ i. word_of (cond (there i) word.Gone (cond (none i) word.Held (word.Idle (stamp_of h s)))))

-- Tries.

can : (h : History) (s now : ℕ) → is_plain h s ≡ true → is_gone h s ≡ false → IsMoment now → can_try h s now ≡ true
can h s now plain there moment =
    let low : 1 ≤ now = moment.0 in
    let high : now ≤ LAST_MOMENT = moment.1 in
    let timely : is_moment now ≡ true = grind (arith, nat_tests) in
    ap (λ b. (b && not (is_gone h s)) && is_moment now) plain ∙ (ap (λ b. not b && is_moment now) there ∙ timely)

-- the machine's answer to a Try on a live segment
try_told : (h : History) (s now : ℕ) (pages_held same_use : Bool) → is_plain h s ≡ true → is_gone h s ≡ false → IsMoment now
    → some_held h s ≡ pages_held → (unwrap_or (known_of h s) 0 == stamp_of h s) ≡ same_use
    → answer_of h (Try s now) ≡ cond pages_held (answer.Used now) (cond same_use answer.Taken (answer.Used (stamp_of h s)))
unfolding answer_of
try_told h s now pages_held same_use plain there moment held_there usage =
    ap (λ b. cond b (cond (some_held h s) (answer.Used now) (cond (unwrap_or (known_of h s) 0 == stamp_of h s) answer.Taken (answer.Used (stamp_of h s)))) answer.Misuse) (can h s now plain there moment)
    ∙ (ap (λ b. cond b (answer.Used now) (cond (unwrap_or (known_of h s) 0 == stamp_of h s) answer.Taken (answer.Used (stamp_of h s)))) held_there
    ∙ ap (λ b. cond pages_held (answer.Used now) (cond b answer.Taken (answer.Used (stamp_of h s)))) usage)

-- the known use under which a try wins stays the known use
guessed : (n : ℕ) (usage : Option ℕ) → n ≢ 0 → n ≡ 2 * unwrap_or usage 0 → n ≢ 1 → Some (cond (n == 1) 0 (n / 2)) ≡ usage
guessed n None there hit even = absurd (there hit)
guessed n (Some k) there hit even = let half : n / 2 ≡ k = omega arith in ap (λ b. Some (cond b 0 (n / 2))) (ne_eqb n 1 even) ∙ ap Some half

-- the segment after a try that won, and after one that lost
abbrev pub taken_away : ℕ → Segment → Segment
taken_away now g = record g { warden = warden_tries now g.word true g.warden; word = 0; home = is_out }

abbrev pub used : ℕ → Segment → Segment
used now g = record g { warden = warden_tries now g.word false g.warden }

taken_stands : (h : History) (g : Segment) (now : ℕ) (bytes : List ℕ) → StandsAfter h g bytes → known_use (warden_tries now g.word true g.warden).tries ≡ known_of h g.owner.id
    → StandsAfter ((Try g.owner.id now, answer.Taken) ∷ h) (taken_away now g) bytes
unfolding is_begun is_ended is_gone is_held pages_of stamp_of known_of left_of
taken_stands h g now bytes st usage =
    let now_gone : (g.owner.id == g.owner.id || is_gone h g.owner.id) ≡ true = ap (λ b. b || is_gone h g.owner.id) (same g.owner.id) in
    record {
      plain = st.plain;
      pages = st.pages;
      word = word_gone ((Try g.owner.id now, answer.Taken) ∷ h) g.owner.id now_gone;
      holds = st.holds;
      rests = st.rests;
      lost = λ _. now_gone;
      stamp = st.stamp;
      taken = sym now_gone;
      known = usage;
    }

used_stands : (h : History) (g : Segment) (now k : ℕ) (bytes : List ℕ) → StandsAfter h g bytes → g.warden.taken ≡ false → known_use (warden_tries now g.word false g.warden).tries ≡ Some k
    → StandsAfter ((Try g.owner.id now, answer.Used k) ∷ h) (used now g) bytes
unfolding is_begun is_ended is_gone is_held pages_of stamp_of known_of left_of
used_stands h g now k bytes st free usage = record {
  plain = st.plain;
  pages = st.pages;
  word = st.word;
  holds = st.holds;
  rests = st.rests;
  lost = st.lost;
  stamp = st.stamp;
  taken = sym free ∙ st.taken;
  known = usage ∙ sym (ap (λ b. cond b (Some k) (known_of h g.owner.id)) (same g.owner.id));
}

pub try_wins : (h : History) (g : Segment) (now : ℕ) (bytes : List ℕ) → StandsAfter h g bytes → IsLawful g → g.owner.apart ≡ true → g.warden.taken ≡ false → IsMoment now → g.word ≡ expected_word g.warden.tries
    → (answer_of h (Try g.owner.id now) ≡ answer.Taken) × StandsAfter ((Try g.owner.id now, answer.Taken) ∷ h) (taken_away now g) bytes
try_wins h g now bytes st law apart free moment hit =
    let n : ℕ = g.word in
    let twice : n ≡ 2 * unwrap_or (known_use g.warden.tries) 0 = hit in
    let even : n ≢ 1 = λ e. absurd (omega arith) in
    let found = found_idle g law free even in
    let there : n ≢ 0 = law.there free in
    let stamped : n ≡ 2 * g.owner.last = found.1.stamped in
    let last : g.owner.last ≡ stamp_of h g.owner.id = st.stamp (law.made apart) in
    let usage : known_use g.warden.tries ≡ known_of h g.owner.id = st.known in
    let guess : Some (cond (n == 1) 0 (n / 2)) ≡ known_use g.warden.tries = guessed n (known_use g.warden.tries) there twice even in
    let odd : (n == 1) ≡ false = ne_eqb n 1 even in
    let agree : unwrap_or (known_of h g.owner.id) 0 ≡ stamp_of h g.owner.id =
    let a : unwrap_or (known_use g.warden.tries) 0 ≡ g.owner.last = omega arith in ap (λ (x : Option ℕ). unwrap_or x 0) (sym usage) ∙ (a ∙ last) in (
      try_told h g.owner.id now false true st.plain (sym st.taken ∙ free) moment (st.rests found.0).0 (eq-eqb (unwrap_or (known_of h g.owner.id) 0) (stamp_of h g.owner.id) agree),
      taken_stands h g now bytes st
          (ap (λ b. Some (cond b now (n / 2))) odd ∙ (sym (ap (λ b. Some (cond b 0 (n / 2))) odd) ∙ (guess ∙ usage))),
    )

pub try_loses : (h : History) (g : Segment) (now : ℕ) (bytes : List ℕ) → StandsAfter h g bytes → IsLawful g → g.owner.apart ≡ true → g.warden.taken ≡ false → IsMoment now → g.word ≢ expected_word g.warden.tries
    → (k : ℕ) × (known_use (warden_tries now g.word false g.warden).tries ≡ Some k) × (answer_of h (Try g.owner.id now) ≡ answer.Used k) × StandsAfter ((Try g.owner.id now, answer.Used k) ∷ h) (used now g) bytes
try_loses h g now bytes st law apart free moment miss = loses (g.word == 1) refl
  where
    stamped_or : g.word ≢ 1 → g.word ≡ 2 * stamp_of h g.owner.id
    stamped_or even = (found_idle g law free even).1.stamped ∙ ap (λ (t : ℕ). 2 * t) (st.stamp (law.made apart))

    held_at : (phase : Stage) → g.owner.phase ≡ phase → g.word ≡ 1 → some_held h g.owner.id ≡ true
    held_at New e one = absurd (law.made apart e)
    held_at Held e one = (st.holds e).0
    held_at Idle e one = let h0 : g.word ≡ 2 * g.owner.last = ((law.idle e).1 (law.there free)).stamped in absurd (omega arith)
    held_at Gone e one = let z : g.word ≡ 0 = law.gone e in absurd (omega arith)

    loses : (test : Bool) → (g.word == 1) ≡ test
        → (k : ℕ) × (known_use (warden_tries now g.word false g.warden).tries ≡ Some k) × (answer_of h (Try g.owner.id now) ≡ answer.Used k) × StandsAfter ((Try g.owner.id now, answer.Used k) ∷ h) (used now g) bytes
    loses true is =
        let m : ℕ = g.word in
        let usage : known_use (warden_tries now g.word false g.warden).tries ≡ Some now = ap (λ b. Some (cond b now (g.word / 2))) is in
        let one : m ≡ 1 = grind (arith, nat_tests) in
        let holds : some_held h g.owner.id ≡ true = held_at g.owner.phase refl one in
        (now, usage, try_told h g.owner.id now true _ st.plain (sym st.taken ∙ free) moment holds refl, used_stands h g now now bytes st free usage)
    loses false is =
        let m : ℕ = g.word in
        let even : m ≢ 1 = grind (arith, nat_tests) in
        let stamped : m ≡ 2 * stamp_of h g.owner.id = stamped_or even in
        let half : m / 2 ≡ stamp_of h g.owner.id = omega arith in
        let found = found_idle g law free even in
        let usage : known_use (warden_tries now g.word false g.warden).tries ≡ Some (stamp_of h g.owner.id) = ap (λ b. Some (cond b now (g.word / 2))) is ∙ ap Some half in
        let other : unwrap_or (known_of h g.owner.id) 0 ≢ stamp_of h g.owner.id = λ e. miss (stamped ∙ ap (λ (t : ℕ). 2 * t) (sym e ∙ ap (λ (x : Option ℕ). unwrap_or x 0) (sym st.known))) in (
          stamp_of h g.owner.id,
          usage,
          try_told h g.owner.id now false false st.plain (sym st.taken ∙ free) moment (st.rests found.0).0 (ne_eqb (unwrap_or (known_of h g.owner.id) 0) (stamp_of h g.owner.id) other),
          used_stands h g now (stamp_of h g.owner.id) bytes st free usage,
        )

-- Counting pages.

zero_cond : (b : Bool) → ◌≡◌ {A = ℕ} (cond b 1 0) 0 → b ≡ false
zero_cond true e = absurd (omega arith)
zero_cond false e = refl

-- a test that no number of a range passes
none_counted : (f : ℕ → Bool) (from n k : ℕ) → count_by f (range_with_len from n) ≡ 0 → from ≤ k → k < from + n → f k ≡ false
none_counted f from zero k e low high = absurd (omega arith)
none_counted f from (suc n) k e low high =
    let parts : cond (f from) 1 0 + count_by f (range_with_len (from + 1) n) ≡ 0 = sym (sum_by-cons (λ j. cond (f j) 1 0) from (range_with_len (from + 1) n)) ∙ e in
    ⊎_elim (λ here. ap f here ∙ zero_cond (f from) (omega arith))
    (λ other. none_counted f (from + 1) n k (omega arith) (omega arith) (omega arith))
    (cases_eq k from)

-- a test that some number of a range passes
some_counted : (f : ℕ → Bool) (n k : ℕ) → k < n → f k ≡ true → nat_lt 0 (count_by f (range_with_len 0 n)) ≡ true
some_counted f n k high e = by_test (nat_lt 0 (count_by f (range_with_len 0 n))) refl
  where
    by_test : (b : Bool) → nat_lt 0 (count_by f (range_with_len 0 n)) ≡ b → nat_lt 0 (count_by f (range_with_len 0 n)) ≡ true
    by_test true is = is
    by_test false is =
        let c : ℕ = count_by f (range_with_len 0 n) in
        let none : c ≡ 0 = grind (arith, nat_tests) in
        absurd (true≢false (sym e ∙ none_counted f 0 n k none (omega arith) (omega arith)))

and_unit : (b : Bool) → (b && true) ≡ b
and_unit true = refl
and_unit false = refl

-- where no page is held, this one is not
page_free : (h : History) (s page : ℕ) → some_held h s ≡ false → page < pages_of h s → is_held h s page ≡ false
page_free h s page none high =
    let zero_held : held_count h s (λ p. true) ≡ 0 = let c : ℕ = held_count h s (λ p. true) in let e : nat_lt 0 c ≡ false = none in grind (arith, nat_tests) in
    sym (and_unit (is_held h s page)) ∙ none_counted (λ p. is_held h s p && true) 0 (pages_of h s) page zero_held (omega arith) (omega arith)

-- some page is held once this one is
page_held : (h : History) (s page : ℕ) → page < pages_of h s → is_held h s page ≡ true → some_held h s ≡ true
page_held h s page inside is = some_counted (λ p. is_held h s p && true) (pages_of h s) page inside (ap (λ b. b && true) is)

-- Locks.

lockable : (h : History) (s first count : ℕ) → is_plain h s ≡ true → some_held h s ≡ false → 1 ≤ count → first + count ≤ pages_of h s → can_lock h s first count ≡ true
lockable h s first count plain none low high =
    let free : are_free h s first count ≡ true = all_pass (λ p. not (is_held h s p)) first count (λ k a b. ap not (page_free h s k none (omega arith))) in
    let some_pages : nat_lt 0 count ≡ true = grind (arith, nat_tests) in
    let inside : nat_le (first + count) (pages_of h s) ≡ true = let p : ℕ = pages_of h s in let q : first + count ≤ p = high in grind (arith, nat_tests) in
    (λ i. plain i && some_pages i && inside i && free i)

-- the machine's answer to a Lock of free pages
lock_told : (h : History) (s first count : ℕ) (lost : Bool) → can_lock h s first count ≡ true → is_gone h s ≡ lost → answer_of h (Lock s first count) ≡ cond lost answer.Gone answer.Held
unfolding answer_of
lock_told h s first count lost can_now is = (λ i. cond (can_now i) (cond (is i) answer.Gone answer.Held) answer.Misuse)

-- a page of a range that a Lock holds
page_locked : (h : History) (s first count : ℕ) → 0 < count → first + count ≤ pages_of h s → some_held ((Lock s first count, answer.Held) ∷ h) s ≡ true
unfolding is_held pages_of
page_locked h s first count low high =
    let within : is_within first count first ≡ true = grind (arith, nat_tests) in
    let inside : first < pages_of h s = omega arith in
    page_held ((Lock s first count, answer.Held) ∷ h) s first inside (λ i. same s i && within i || is_held h s first)

-- the segment after a lock that won, and after a step that found it gone
abbrev pub locked_up : Segment → Segment
locked_up g = record g { owner = owner_holds g.owner; word = 1; home = is_out }

abbrev pub lost_to : Segment → Segment
lost_to g = record g { owner = owner_loses g.owner }

lock_lost_stands : (h : History) (g : Segment) (first count : ℕ) (bytes : List ℕ) → StandsAfter h g bytes → g.owner.phase ≡ Idle → is_gone h g.owner.id ≡ true
    → StandsAfter ((Lock g.owner.id first count, answer.Gone) ∷ h) (lost_to g) bytes
unfolding is_begun is_ended is_gone is_held pages_of stamp_of known_of left_of
lock_lost_stands h g first count bytes st idle lost = record {
  plain = st.plain;
  pages = st.pages;
  word = st.word;
  holds = λ e. absurd (unlike Gone Gone Held refl (λ k. omega arith) e);
  rests = λ e. absurd (unlike Gone Gone Idle refl (λ k. omega arith) e);
  lost = λ _. lost;
  stamp = λ _. st.stamp (unlike g.owner.phase Idle New idle (λ k. omega arith));
  taken = st.taken;
  known = st.known;
}

pub lock_loses : (h : History) (g : Segment) (first count : ℕ) (bytes : List ℕ) → StandsAfter h g bytes → IsLawful g → g.owner.phase ≡ Idle → g.word ≡ 0 → 1 ≤ count → first + count ≤ g.owner.pages
    → (answer_of h (Lock g.owner.id first count) ≡ answer.Gone) × StandsAfter ((Lock g.owner.id first count, answer.Gone) ∷ h) (lost_to g) bytes
lock_loses h g first count bytes st law idle zero_there low high =
    let lost : is_gone h g.owner.id ≡ true = sym st.taken ∙ by_bool_true g.warden.taken (λ e. law.there e zero_there) in (
      lock_told h g.owner.id first count true (lockable h g.owner.id first count st.plain (st.rests idle).0 low (subst (λ (k : ℕ). first + count ≤ k) (sym st.pages) high)) lost,
      lock_lost_stands h g first count bytes st idle lost,
    )

lock_won_stands : (h : History) (g : Segment) (first count : ℕ) (bytes : List ℕ) → StandsAfter h g bytes → g.owner.phase ≡ Idle → is_gone h g.owner.id ≡ false
    → some_held ((Lock g.owner.id first count, answer.Held) ∷ h) g.owner.id ≡ true → StandsAfter ((Lock g.owner.id first count, answer.Held) ∷ h) (locked_up g) g.owner.left
unfolding is_begun is_ended is_gone is_held pages_of stamp_of known_of left_of
lock_won_stands h g first count bytes st idle there some_now = record {
  plain = st.plain;
  pages = st.pages;
  word = word_held ((Lock g.owner.id first count, answer.Held) ∷ h) g.owner.id there some_now;
  holds = λ _. (some_now, (st.rests idle).1);
  rests = λ e. absurd (unlike Held Held Idle refl (λ k. omega arith) e);
  lost = λ e. absurd (unlike Held Held Gone refl (λ k. omega arith) e);
  stamp = λ _. st.stamp (unlike g.owner.phase Idle New idle (λ k. omega arith));
  taken = st.taken;
  known = st.known;
}

pub lock_wins : (h : History) (g : Segment) (first count : ℕ) (bytes : List ℕ) → StandsAfter h g bytes → IsLawful g → g.owner.phase ≡ Idle → g.word ≢ 0 → 1 ≤ count → first + count ≤ g.owner.pages
    → (answer_of h (Lock g.owner.id first count) ≡ answer.Held) × StandsAfter ((Lock g.owner.id first count, answer.Held) ∷ h) (locked_up g) g.owner.left
lock_wins h g first count bytes st law idle there low high =
    let inside : first + count ≤ pages_of h g.owner.id = subst (λ (k : ℕ). first + count ≤ k) (sym st.pages) high in
    let kept : is_gone h g.owner.id ≡ false = sym st.taken ∙ by_bool g.warden.taken (λ e. there (law.taken e).0) in (
      lock_told h g.owner.id first count false (lockable h g.owner.id first count st.plain (st.rests idle).0 low inside) kept,
      lock_won_stands h g first count bytes st idle kept (page_locked h g.owner.id first count low inside),
    )

-- Looks.

pub look_loses : (h : History) (g : Segment) (bytes : List ℕ) → StandsAfter h g bytes → IsLawful g → g.owner.phase ≡ Idle → g.word ≡ 0 → StandsAfter h (lost_to g) bytes
look_loses h g bytes st law idle zero_there = record {
  plain = st.plain;
  pages = st.pages;
  word = st.word;
  holds = λ e. absurd (unlike Gone Gone Held refl (λ k. omega arith) e);
  rests = λ e. absurd (unlike Gone Gone Idle refl (λ k. omega arith) e);
  lost = λ _. sym st.taken ∙ by_bool_true g.warden.taken (λ e. law.there e zero_there);
  stamp = λ _. st.stamp (unlike g.owner.phase Idle New idle (λ k. omega arith));
  taken = st.taken;
  known = st.known;
}

pub look_stays : (h : History) (g : Segment) (bytes : List ℕ) → StandsAfter h g bytes → StandsAfter h (record g { owner = owner_stays g.owner }) bytes
look_stays h g bytes st = record { plain = st.plain; pages = st.pages; word = st.word; holds = st.holds; rests = st.rests; lost = st.lost; stamp = st.stamp; taken = st.taken; known = st.known }

-- Unlocks.

-- a page that is held after an Unlock
left_over : (mine within was : Bool) → mine ≡ true → ((not (mine && within) && was) && true) ≡ (was && not within)
left_over true true true e = refl
left_over true true false e = refl
left_over true false true e = refl
left_over true false false e = refl
left_over false within was e = absurd (true≢false (sym e))

-- the segment after an unlock
abbrev pub laid_down : ℕ → List ℕ → Segment → Segment
laid_down stamp bytes g = record g { owner = owner_rests stamp bytes g.owner; word = 2 * stamp; home = has_block bytes }

unlock_stands : (h : History) (g : Segment) (first count at stamp : ℕ) (bytes : List ℕ) → StandsAfter h g bytes → g.owner.phase ≡ Held → is_gone h g.owner.id ≡ false
    → staying h g.owner.id first count ≡ 0 → stamp ≡ max g.owner.last at
    → StandsAfter ((Unlock g.owner.id first count at, answer.Idle stamp) ∷ h) (laid_down stamp bytes g) []
unfolding is_begun is_ended is_gone is_held pages_of stamp_of known_of left_of
unlock_stands h g first count at stamp bytes st held there none later =
    let id : ℕ = g.owner.id in
    let counted : held_count ((Unlock g.owner.id first count at, answer.Idle stamp) ∷ h) g.owner.id (λ p. true) ≡ staying h g.owner.id first count =
    (λ i. count_by (λ p. left_over (g.owner.id == g.owner.id) (is_within first count p) (is_held h g.owner.id p) (same g.owner.id) i) (range_with_len 0 (pages_of h g.owner.id))) in
    let none_now : some_held ((Unlock g.owner.id first count at, answer.Idle stamp) ∷ h) g.owner.id ≡ false = ap (λ c. nat_lt 0 c) (counted ∙ none) in
    let before : g.owner.last ≡ stamp_of h g.owner.id = st.stamp (unlike g.owner.phase Held New held (λ k. omega arith)) in
    let now : stamp ≡ stamp_of ((Unlock g.owner.id first count at, answer.Idle stamp) ∷ h) g.owner.id =
    later ∙ (ap (λ t. max t at) before ∙ sym (ap (λ b. cond b (max (stamp_of h g.owner.id) at) (stamp_of h g.owner.id)) (same g.owner.id))) in
    record {
      plain = st.plain;
      pages = st.pages;
      word = ap (λ t. 2 * t) now ∙ word_idle ((Unlock g.owner.id first count at, answer.Idle stamp) ∷ h) g.owner.id there none_now;
      holds = λ e. absurd (unlike Idle Idle Held refl (λ k. omega arith) e);
      rests = λ _. (none_now, (st.holds held).1);
      lost = λ e. absurd (unlike Idle Idle Gone refl (λ k. omega arith) e);
      stamp = λ _. now;
      taken = st.taken;
      known = st.known;
    }

held_kept : (g : Segment) → IsLawful g → g.owner.phase ≡ Held → g.warden.taken ≡ false
held_kept g law held = by_bool g.warden.taken (λ t. let one : g.word ≡ 1 = (law.held held).0 in let z : g.word ≡ 0 = (law.taken t).0 in absurd (omega arith))

unlock_told : (h : History) (s first count at : ℕ) → can_unlock h s first count at ≡ true → staying h s first count ≡ 0
    → answer_of h (Unlock s first count at) ≡ answer.Idle (max (stamp_of h s) at)
unfolding answer_of
unlock_told h s first count at can_now none = (λ i. cond (can_now i) (cond (none i == 0) (answer.Idle (max (stamp_of h s) at)) (answer.StillHeld (none i))) answer.Misuse)

pub unlocks : (h : History) (g : Segment) (first count at : ℕ) (bytes : List ℕ) → StandsAfter h g bytes → IsLawful g → g.owner.phase ≡ Held → can_unlock h g.owner.id first count at ≡ true → staying h g.owner.id first count ≡ 0
    → (answer_of h (Unlock g.owner.id first count at) ≡ answer.Idle (max g.owner.last at))
    × StandsAfter ((Unlock g.owner.id first count at, answer.Idle (max g.owner.last at)) ∷ h) (laid_down (max g.owner.last at) bytes g) []
unlocks h g first count at bytes st law held can_now none =
    let there : is_gone h g.owner.id ≡ false = sym st.taken ∙ held_kept g law held in
    let before : g.owner.last ≡ stamp_of h g.owner.id = st.stamp (unlike g.owner.phase Held New held (λ k. omega arith)) in (
      unlock_told h g.owner.id first count at can_now none ∙ ap (λ t. answer.Idle (max t at)) (sym before),
      unlock_stands h g first count at (max g.owner.last at) bytes st held there none refl,
    )

-- Making.

grant_stands : (h : History) (s client pages : ℕ) → IsUnknown h s → 1 ≤ pages
    → StandsAfter ((Grant s client pages, answer.Granted s) ∷ h) (made s pages) (replicate (PAGE * pages) 0)
unfolding is_begun is_ended is_gone is_held pages_of stamp_of known_of left_of
grant_stands h s client pages unknown low =
    let new : History = (Grant s client pages, answer.Granted s) ∷ h in
    let size : pages_of new s ≡ pages = ap (λ b. cond b pages (pages_of h s)) (same s) in
    let first_page : nat_lt 0 pages ≡ true = grind (arith, nat_tests) in
    let inside : 0 < pages_of new s = subst (λ (k : ℕ). 0 < k) (sym size) (omega arith) in
    let some_now : some_held new s ≡ true = page_held new s 0 inside (λ i. cond (same s i) (first_page i) (is_held h s 0)) in
    record {
      plain = (λ i. (same s i || is_begun h s) && not (unknown.ended i));
      pages = size;
      word = word_held new s unknown.gone some_now;
      holds = λ _. (some_now, sym (ap (λ b. cond b (replicate (PAGE * pages) 0) (left_of h s)) (same s)));
      rests = λ e. absurd (unlike Held Held Idle refl (λ k. omega arith) e);
      lost = λ e. absurd (unlike Held Held Gone refl (λ k. omega arith) e);
      stamp = λ _. sym unknown.stamp;
      taken = sym unknown.gone;
      known = sym unknown.known;
    }

pub make_stands : (h : History) (s client pages : ℕ) → IsUnknown h s → 1 ≤ pages → StandsAfter ((Grant s client pages, answer.Granted s) ∷ h) (made s pages) (replicate (PAGE * pages) 0)
make_stands = grant_stands

-- Acts while the owner holds.

held_lock_stands : (h : History) (g : Segment) (first count : ℕ) (bytes : List ℕ) → StandsAfter h g bytes → g.owner.phase ≡ Held → is_gone h g.owner.id ≡ false → g.word ≡ 1
    → some_held ((Lock g.owner.id first count, answer.Held) ∷ h) g.owner.id ≡ true → StandsAfter ((Lock g.owner.id first count, answer.Held) ∷ h) g bytes
unfolding is_begun is_ended is_gone is_held pages_of stamp_of known_of left_of
held_lock_stands h g first count bytes st held there one some_now = record {
  plain = st.plain;
  pages = st.pages;
  word = one ∙ word_held ((Lock g.owner.id first count, answer.Held) ∷ h) g.owner.id there some_now;
  holds = λ e. (some_now, (st.holds e).1);
  rests = λ e. absurd (unlike g.owner.phase Held Idle held (λ k. omega arith) e);
  lost = λ e. absurd (unlike g.owner.phase Held Gone held (λ k. omega arith) e);
  stamp = st.stamp;
  taken = st.taken;
  known = st.known;
}

write_stands : (h : History) (g : Segment) (place : ℕ) (piece bytes : List ℕ) → StandsAfter h g bytes → g.owner.phase ≡ Held
    → StandsAfter ((Write g.owner.id place piece, answer.Written) ∷ h) g (put place piece bytes)
unfolding is_begun is_ended is_gone is_held pages_of stamp_of known_of left_of
write_stands h g place piece bytes st held = record {
  plain = st.plain;
  pages = st.pages;
  word = st.word;
  holds = λ e. ((st.holds e).0, ap (λ (b : List ℕ). put place piece b) (st.holds e).1 ∙ sym (ap (λ b. cond b (put place piece (left_of h g.owner.id)) (left_of h g.owner.id)) (same g.owner.id)));
  rests = λ e. absurd (unlike g.owner.phase Held Idle held (λ k. omega arith) e);
  lost = st.lost;
  stamp = st.stamp;
  taken = st.taken;
  known = st.known;
}

write_told : (h : History) (s place : ℕ) (piece : List ℕ) → can_write h s place piece ≡ true → answer_of h (Write s place piece) ≡ answer.Written
unfolding answer_of
write_told h s place piece can_now = ap (λ b. cond b answer.Written answer.Misuse) can_now

pub held_write : (h : History) (g : Segment) (place : ℕ) (piece bytes : List ℕ) → StandsAfter h g bytes → g.owner.phase ≡ Held → can_write h g.owner.id place piece ≡ true
    → (answer_of h (Write g.owner.id place piece) ≡ answer.Written) × StandsAfter ((Write g.owner.id place piece, answer.Written) ∷ h) g (put place piece bytes)
held_write h g place piece bytes st held can_now = (write_told h g.owner.id place piece can_now, write_stands h g place piece bytes st held)

both : (a b : Bool) → (a && b) ≡ true → (a ≡ true) × (b ≡ true)
both true true e = (refl, refl)
both true false e = absurd (true≢false (sym e))
both false b e = absurd (true≢false (sym e))

-- what a Lock that is no misuse asks of its range
range_of : (h : History) (s first count : ℕ) → can_lock h s first count ≡ true → (0 < count) × (first + count ≤ pages_of h s)
range_of h s first count e =
    let p : ℕ = pages_of h s in
    let front : ((is_plain h s && nat_lt 0 count) && nat_le (first + count) p) ≡ true = (both ((is_plain h s && nat_lt 0 count) && nat_le (first + count) p) (are_free h s first count) e).0 in
    let high : nat_le (first + count) p ≡ true = (both (is_plain h s && nat_lt 0 count) (nat_le (first + count) p) front).1 in
    let low : nat_lt 0 count ≡ true = (both (is_plain h s) (nat_lt 0 count) (both (is_plain h s && nat_lt 0 count) (nat_le (first + count) p) front).0).1 in
    (grind (arith, nat_tests), grind (arith, nat_tests))

pub held_lock : (h : History) (g : Segment) (first count : ℕ) (bytes : List ℕ) → StandsAfter h g bytes → IsLawful g → g.owner.phase ≡ Held → can_lock h g.owner.id first count ≡ true
    → (answer_of h (Lock g.owner.id first count) ≡ answer.Held) × StandsAfter ((Lock g.owner.id first count, answer.Held) ∷ h) g bytes
held_lock h g first count bytes st law held can_now =
    let there : is_gone h g.owner.id ≡ false = sym st.taken ∙ held_kept g law held in
    let asked : (0 < count) × (first + count ≤ pages_of h g.owner.id) = range_of h g.owner.id first count can_now in (
      lock_told h g.owner.id first count false can_now there,
      held_lock_stands h g first count bytes st held there (law.held held).0 (page_locked h g.owner.id first count asked.0 asked.1),
    )

still_told : (h : History) (s first count at : ℕ) → can_unlock h s first count at ≡ true → staying h s first count ≢ 0
    → answer_of h (Unlock s first count at) ≡ answer.StillHeld (staying h s first count)
unfolding answer_of
still_told h s first count at can_now some =
    (λ i. cond (can_now i) (cond (ne_eqb (staying h s first count) 0 some i) (answer.Idle (max (stamp_of h s) at)) (answer.StillHeld (staying h s first count))) answer.Misuse)

still_stands : (h : History) (g : Segment) (first count at stay : ℕ) (bytes : List ℕ) → StandsAfter h g bytes → g.owner.phase ≡ Held → is_gone h g.owner.id ≡ false → g.word ≡ 1
    → staying h g.owner.id first count ≡ stay → stay ≢ 0 → StandsAfter ((Unlock g.owner.id first count at, answer.StillHeld stay) ∷ h) g bytes
unfolding is_begun is_ended is_gone is_held pages_of stamp_of known_of left_of
still_stands h g first count at stay bytes st held there one stays some =
    let counted : held_count ((Unlock g.owner.id first count at, answer.StillHeld stay) ∷ h) g.owner.id (λ p. true) ≡ staying h g.owner.id first count =
    (λ i. count_by (λ p. left_over (g.owner.id == g.owner.id) (is_within first count p) (is_held h g.owner.id p) (same g.owner.id) i) (range_with_len 0 (pages_of h g.owner.id))) in
    let more : nat_lt 0 stay ≡ true = grind (arith, nat_tests) in
    let some_now : some_held ((Unlock g.owner.id first count at, answer.StillHeld stay) ∷ h) g.owner.id ≡ true = ap (λ c. nat_lt 0 c) (counted ∙ stays) ∙ more in
    record {
      plain = st.plain;
      pages = st.pages;
      word = one ∙ word_held ((Unlock g.owner.id first count at, answer.StillHeld stay) ∷ h) g.owner.id there some_now;
      holds = λ e. (some_now, (st.holds e).1);
      rests = λ e. absurd (unlike g.owner.phase Held Idle held (λ k. omega arith) e);
      lost = λ e. absurd (unlike g.owner.phase Held Gone held (λ k. omega arith) e);
      stamp = st.stamp;
      taken = st.taken;
      known = st.known;
    }

pub held_unlock : (h : History) (g : Segment) (first count at : ℕ) (bytes : List ℕ) → StandsAfter h g bytes → IsLawful g → g.owner.phase ≡ Held → can_unlock h g.owner.id first count at ≡ true → staying h g.owner.id first count ≢ 0
    → (answer_of h (Unlock g.owner.id first count at) ≡ answer.StillHeld (staying h g.owner.id first count))
    × StandsAfter ((Unlock g.owner.id first count at, answer.StillHeld (staying h g.owner.id first count)) ∷ h) g bytes
held_unlock h g first count at bytes st law held can_now some = (
  still_told h g.owner.id first count at can_now some,
  still_stands h g first count at (staying h g.owner.id first count) bytes st held (sym st.taken ∙ held_kept g law held) (law.held held).0 refl some,
)
