-- A reduction keeps in step with the history, and ends within its limit or with each segment used late.
use Rattle.std.proofs.Common.{◌≡◌, ◌≢◌, ℕ, ◌+◌, ◌*◌, ◌/◌, ◌==◌, ◌≤◌, nat_lt, nat_le, max, Bool, true, false, not, ◌&&◌, ◌||◌, cond, List, [], ◌∷◌, ◌++◌, Some, None, unwrap_or, option_and_then, map, filter, sum, count_by, refl, sym, ap, ◌∙◌, subst, arith, eq-eqb, zero-add, inl, inr}
use Rattle.std.proofs.lemmas.Bool.{eqb-true, leb-true, false≢true, ne_eqb}
use Rattle.std.proofs.lemmas.Bool.Decides.{nat_tests}
use Rattle.std.proofs.lemmas.List.Sums.{sum_by-cons}
use Rattle.units.specs.Moment.{IsMoment, is_moment}
use Rattle.machine.specs.declared.event.Event.{Event}
use Rattle.machine.specs.declared.event.Event.TheVariants.{Grant, Lock, Unlock, Write, Try, Back}
use Rattle.machine.specs.declared.event.Answer.TheVariants.{Held, Gone, Idle, StillHeld, Written, Taken, Used, Misuse}
use Rattle.machine.specs.History.{History, is_begun, pages_of, is_ended, is_gone, stamp_of, known_of}
use Rattle.machine.specs.Answers.{answered, answered_after, answer_of, is_plain, is_live, can_lock, can_unlock, can_write, can_try, staying, tried, granted_numbers, live}
use Rattle.machine.specs.Word as WordState
use Rattle.machine.specs.Word.{word_of, state_after, some_held}
use Rattle.machine.specs.Reduction.{Candidate, use_of, comes_first, least_of, least, is_late, has_ended, without, known_at, with_known, after_try, candidates, is_owners, reduced, word_found, words_found, Reduces, IsReduction, IsReduced}
use Rattle.machine.proofs.Later.{answered_append}
use Rattle.machine.proofs.Counts.{live_parts, drawn}

-- a segment as it stands in a history
abbrev candidate : History → ℕ → Candidate
candidate h s = record { id = s; pages = pages_of h s; known = known_of h s }

-- An owner's event changes no live segment

owners_lock : (h : History) (s first count : ℕ) (can gone : Bool) → candidates ((Lock s first count, cond can (cond gone Gone Held) Misuse) ∷ h) ≡ candidates h
unfolding is_begun is_ended is_gone pages_of known_of granted_numbers
owners_lock h s first count false gone = refl
owners_lock h s first count true true = refl
owners_lock h s first count true false = refl

owners_unlock : (h : History) (s first count at stay last : ℕ) (can none : Bool)
    → candidates ((Unlock s first count at, cond can (cond none (Idle last) (StillHeld stay)) Misuse) ∷ h) ≡ candidates h
unfolding is_begun is_ended is_gone pages_of known_of granted_numbers
owners_unlock h s first count at stay last false none = refl
owners_unlock h s first count at stay last true true = refl
owners_unlock h s first count at stay last true false = refl

owners_write : (h : History) (s place : ℕ) (bytes : List ℕ) (can : Bool) → candidates ((Write s place bytes, cond can Written Misuse) ∷ h) ≡ candidates h
unfolding is_begun is_ended is_gone pages_of known_of granted_numbers
owners_write h s place bytes false = refl
owners_write h s place bytes true = refl

owners_same : (h : History) (e : Event) → is_owners e ≡ true → candidates ((e, answer_of h e) ∷ h) ≡ candidates h
unfolding answer_of
owners_same h (Lock s first count) owns = owners_lock h s first count (can_lock h s first count) (is_gone h s)
owners_same h (Unlock s first count at) owns =
    owners_unlock h s first count at (staying h s first count) (max (stamp_of h s) at) (can_unlock h s first count at) (staying h s first count == 0)
owners_same h (Write s place bytes) owns = owners_write h s place bytes (can_write h s place bytes)
owners_same h (Grant s client pages) owns = absurd (false≢true owns)
owners_same h (Try s now) owns = absurd (false≢true owns)
owners_same h (Back s) owns = absurd (false≢true owns)

-- A try changes its segment alone

map_filter_cons : {A : Type 0} (f : ℕ → A) (l : ℕ → Bool) (x : ℕ) (xs : List ℕ)
    → map f (filter l (x ∷ xs)) ≡ cond (l x) (f x ∷ map f (filter l xs)) (map f (filter l xs))
map_filter_cons f l x xs = by_test (l x)
  where
    by_test : (b : Bool) → map f (cond b (x ∷ filter l xs) (filter l xs)) ≡ cond b (f x ∷ map f (filter l xs)) (map f (filter l xs))
    by_test true = refl
    by_test false = refl

-- one segment is live no more
fewer : (f g : ℕ → Candidate) (l m : ℕ → Bool) (s : ℕ) (xs : List ℕ) → ((x : ℕ) → (f x).id ≡ x) → ((x : ℕ) → g x ≡ f x) → ((x : ℕ) → m x ≡ (l x && not (x == s)))
    → map g (filter m xs) ≡ without s (map f (filter l xs))
fewer f g l m s [] named same live = refl
fewer f g l m s (x ∷ xs) named same live =
    map_filter_cons g m x xs
    ∙ ap (λ b. cond b (g x ∷ map g (filter m xs)) (map g (filter m xs))) (live x)
    ∙ ap (λ c. cond (l x && not (x == s)) (c ∷ map g (filter m xs)) (map g (filter m xs))) (same x)
    ∙ ap (λ cs. cond (l x && not (x == s)) (f x ∷ cs) cs) (fewer f g l m s xs named same live)
    ∙ by_test (l x)
    ∙ ap (without s) (sym (map_filter_cons f l x xs))
  where
    rest : List Candidate
    rest = map f (filter l xs)

    kept : (b : Bool) → (x == s) ≡ b → cond (not b) (f x ∷ without s rest) (without s rest) ≡ without s (f x ∷ rest)
    kept b e = ap (λ c. cond (not c) (f x ∷ without s rest) (without s rest)) (sym e ∙ ap (λ n. n == s) (sym (named x)))

    by_test : (b : Bool) → cond (b && not (x == s)) (f x ∷ without s rest) (without s rest) ≡ without s (cond b (f x ∷ rest) rest)
    by_test true = kept (x == s) refl
    by_test false = refl

-- one segment has another known use
pub newer : (f g : ℕ → Candidate) (l : ℕ → Bool) (s moment : ℕ) (xs : List ℕ)
    → ((x : ℕ) → g x ≡ known_at s moment (f x))
    → map g (filter l xs) ≡ with_known s moment (map f (filter l xs))
newer f g l s moment [] changed = refl
newer f g l s moment (x ∷ xs) changed =
    map_filter_cons g l x xs
    ∙ ap (λ c. cond (l x) (c ∷ map g (filter l xs)) (map g (filter l xs))) (changed x)
    ∙ ap (λ cs. cond (l x) (known_at s moment (f x) ∷ cs) cs) (newer f g l s moment xs changed)
    ∙ by_test (l x)
    ∙ ap (with_known s moment) (sym (map_filter_cons f l x xs))
  where
    rest : List Candidate
    rest = map f (filter l xs)

    by_test : (b : Bool) → cond b (known_at s moment (f x) ∷ with_known s moment rest) (with_known s moment rest)
        ≡ with_known s moment (cond b (f x ∷ rest) rest)
    by_test true = refl
    by_test false = refl

flip : (a b : ℕ) → (a == b) ≡ (b == a)
flip a b = by_test (a == b) refl
  where
    by_test : (t : Bool) → (a == b) ≡ t → (a == b) ≡ (b == a)
    by_test true e = e ∙ sym (eq-eqb b a (sym (eqb-true a b e)))
    by_test false e = e ∙ sym (ne_eqb b a (λ is. false≢true (sym e ∙ eq-eqb a b (sym is))))

even_not_one : (n : ℕ) → (2 * n == 1) ≡ false
even_not_one n = ne_eqb (2 * n) 1 (λ e. omega arith)

one_not_even : (n : ℕ) → (1 == 2 * n) ≡ false
one_not_even n = ne_eqb 1 (2 * n) (λ e. omega arith)

half : (n : ℕ) → 2 * n / 2 ≡ n
half n = omega arith

twice : (a b : ℕ) (t : Bool) → (b == a) ≡ t → (2 * a == 2 * b) ≡ t
twice a b true e = let same = eqb-true b a e in eq-eqb (2 * a) (2 * b) (omega arith)
twice a b false e = ne_eqb (2 * a) (2 * b) (λ same. false≢true (sym e ∙ eq-eqb b a (omega arith)))

-- a try that finds the segment held
try_held : (h : History) (s now : ℕ) (cs : List Candidate) → cs ≡ candidates h
    → candidates ((Try s now, Used now) ∷ h) ≡ after_try now 1 (candidate h s) cs
unfolding is_begun is_ended is_gone pages_of known_of granted_numbers
try_held h s now cs same =
    newer (candidate h) (candidate ((Try s now, Used now) ∷ h)) (is_live h) s now (granted_numbers h)
    (λ x. ap (λ b. record { id = x; pages = pages_of h x; known = cond b (Some now) (known_of h x) }) (flip s x) ∙ by_test x (x == s))
    ∙ ap (with_known s now) (sym same)
    ∙ sym (ap (λ b. cond b (without s cs) (with_known s now cs)) (one_not_even (use_of (candidate h s))))
  where
    by_test : (x : ℕ) (b : Bool) → record { id = x; pages = pages_of h x; known = cond b (Some now) (known_of h x) }
        ≡ cond {A = Candidate} b (record { id = x; pages = pages_of h x; known = Some now }) (record { id = x; pages = pages_of h x; known = known_of h x })
    by_test x true = refl
    by_test x false = refl

-- a try that finds the segment idle since another moment than it knows
try_used : (h : History) (s now stamp : ℕ) (cs : List Candidate) → cs ≡ candidates h → (use_of (candidate h s) == stamp) ≡ false
    → candidates ((Try s now, Used stamp) ∷ h) ≡ after_try now (2 * stamp) (candidate h s) cs
unfolding is_begun is_ended is_gone pages_of known_of granted_numbers
try_used h s now stamp cs same other =
    newer (candidate h) (candidate ((Try s now, Used stamp) ∷ h)) (is_live h) s stamp (granted_numbers h)
    (λ x. ap (λ b. record { id = x; pages = pages_of h x; known = cond b (Some stamp) (known_of h x) }) (flip s x) ∙ by_test x (x == s))
    ∙ ap (with_known s stamp) (sym same)
    ∙ ap (λ n. with_known s n cs) (sym (half stamp))
    ∙ sym (ap (λ b. with_known s (cond b now (2 * stamp / 2)) cs) (even_not_one stamp))
    ∙ sym (ap (λ b. cond b (without s cs) (with_known s (cond (2 * stamp == 1) now (2 * stamp / 2)) cs)) (twice stamp (use_of (candidate h s)) false other))
  where
    by_test : (x : ℕ) (b : Bool) → record { id = x; pages = pages_of h x; known = cond b (Some stamp) (known_of h x) }
        ≡ cond {A = Candidate} b (record { id = x; pages = pages_of h x; known = Some stamp }) (record { id = x; pages = pages_of h x; known = known_of h x })
    by_test x true = refl
    by_test x false = refl

-- a try that finds the segment idle since the moment that it knows
try_taken : (h : History) (s now stamp : ℕ) (cs : List Candidate) → cs ≡ candidates h → (use_of (candidate h s) == stamp) ≡ true
    → candidates ((Try s now, Taken) ∷ h) ≡ after_try now (2 * stamp) (candidate h s) cs
unfolding is_begun is_ended is_gone pages_of known_of granted_numbers
try_taken h s now stamp cs same at =
    fewer (candidate h) (candidate ((Try s now, Taken) ∷ h)) (is_live h) (is_live ((Try s now, Taken) ∷ h)) s (granted_numbers h)
    (λ x. refl) (λ x. refl)
    (λ x. ap (λ b. is_plain h x && not (b || is_gone h x)) (flip s x) ∙ by_tests (is_plain h x) (x == s) (is_gone h x))
    ∙ ap (without s) (sym same)
    ∙ sym (ap (λ b. cond b (without s cs) (with_known s (cond (2 * stamp == 1) now (2 * stamp / 2)) cs)) (twice stamp (use_of (candidate h s)) true at))
  where
    by_tests : (a b c : Bool) → (a && not (b || c)) ≡ (a && not c && not b)
    by_tests true true true = refl
    by_tests true true false = refl
    by_tests true false true = refl
    by_tests true false false = refl
    by_tests false b c = refl

-- a try on a live segment makes of the live segments what the word that it finds says
pub try_step : (h : History) (s now : ℕ) (cs : List Candidate) → cs ≡ candidates h → is_live h s ≡ true → is_moment now ≡ true
    → candidates ((Try s now, answer_of h (Try s now)) ∷ h) ≡ after_try now (word_of (state_after h s)) (candidate h s) cs
unfolding answer_of
try_step h s now cs same live moment =
    let can : can_try h s now ≡ true = both (is_live h s) (is_moment now) live moment in
    ap (λ b. candidates ((Try s now, cond b (tried (some_held h s) (stamp_of h s) (unwrap_or (known_of h s) 0) now) Misuse) ∷ h)) can
    ∙ by_word (some_held h s) (unwrap_or (known_of h s) 0 == stamp_of h s) refl
    ∙ ap (λ b. after_try now (word_of (cond b WordState.Gone (cond (some_held h s) WordState.Held (WordState.Idle (stamp_of h s))))) (candidate h s) cs)
    (sym (live_parts h s live).2)
  where
    both : (a b : Bool) → a ≡ true → b ≡ true → (a && b) ≡ true
    both true b p q = q
    both false b p q = absurd (false≢true p)

    by_word : (some at : Bool) → (unwrap_or (known_of h s) 0 == stamp_of h s) ≡ at
        → candidates ((Try s now, cond some (Used now) (cond (unwrap_or (known_of h s) 0 == stamp_of h s) Taken (Used (stamp_of h s)))) ∷ h)
        ≡ after_try now (word_of (cond some WordState.Held (WordState.Idle (stamp_of h s)))) (candidate h s) cs
    by_word true at e = try_held h s now cs same
    by_word false true e =
        ap (λ b. candidates ((Try s now, cond b Taken (Used (stamp_of h s))) ∷ h)) e ∙ try_taken h s now (stamp_of h s) cs same e
    by_word false false e =
        ap (λ b. candidates ((Try s now, cond b Taken (Used (stamp_of h s))) ∷ h)) e ∙ try_used h s now (stamp_of h s) cs same e

-- The least of a list

-- each segment of a list is so
abbrev Each : (Candidate → Type 0) → List Candidate → Type 0
Each P [] = Unit {0}
Each P (c ∷ cs) = P c × Each P cs

least_of_each : (P : Candidate → Type 0) (c : Candidate) (cs : List Candidate) → P c → Each P cs → P (least_of c cs)
least_of_each P c [] first rest = first
least_of_each P c (d ∷ cs) first rest = least_of_each P (cond (comes_first d c) d c) cs (by_test (comes_first d c)) rest.1
  where
    by_test : (b : Bool) → P (cond b d c)
    by_test true = rest.0
    by_test false = first

least_each : (P : Candidate → Type 0) (cs : List Candidate) (c : Candidate) → Each P cs → least cs ≡ Some c → P c
least_each P [] c each e = cc
least_each P (d ∷ cs) c each e = subst P (some_is e) (least_of_each P d cs each.0 each.1)
  where
    some_is : Some (least_of d cs) ≡ Some c → least_of d cs ≡ c
    some_is e = cc

-- the least comes no later than any
first_no_later : (d c : Candidate) → (use_of (cond (comes_first d c) d c) ≤ use_of d) × (use_of (cond (comes_first d c) d c) ≤ use_of c)
first_no_later d c = by_test (comes_first d c) refl
  where
    first : (a b m n : ℕ) → (nat_lt a b || a == b && nat_lt m n) ≡ true → a ≤ b
    first a b m n e = grind (arith, nat_tests)

    second : (a b m n : ℕ) → (nat_lt a b || a == b && nat_lt m n) ≡ false → b ≤ a
    second a b m n e = grind (arith, nat_tests)

    by_test : (b : Bool) → comes_first d c ≡ b → (use_of (cond b d c) ≤ use_of d) × (use_of (cond b d c) ≤ use_of c)
    by_test true e = (omega arith, first (use_of d) (use_of c) d.id c.id e)
    by_test false e = (second (use_of d) (use_of c) d.id c.id e, omega arith)

later_each : (t u : ℕ) (cs : List Candidate) → t ≤ u → Each (λ d. u ≤ use_of d) cs → Each (λ d. t ≤ use_of d) cs
later_each t u [] low each = each
later_each t u (d ∷ cs) low each = (let le = each.0 in omega arith, later_each t u cs low each.1)

least_is : (c : Candidate) (cs : List Candidate) → (use_of (least_of c cs) ≤ use_of c) × Each (λ d. use_of (least_of c cs) ≤ use_of d) cs
least_is c [] = (omega arith, _)
least_is c (d ∷ cs) =
    let e = cond (comes_first d c) d c in
    let rest = least_is e cs in
    let two = first_no_later d c in
    let low = rest.0 in
    let left = two.0 in
    let right = two.1 in
    (omega arith, (omega arith, rest.1))

all_late : (now : ℕ) (cs : List Candidate) → is_late now (least cs) ≡ true → Each (λ d. now ≤ use_of d) cs
all_late now [] e = _
all_late now (c ∷ cs) e =
    let low = leb-true now (use_of (least_of c cs)) e in
    let is = least_is c cs in
    let first = is.0 in
    (omega arith, later_each now (use_of (least_of c cs)) cs low is.1)

-- The live segments of a history

-- a segment that is live, as it stands in the history
abbrev StandsLive : History → Candidate → Type 0
StandsLive h c = (is_live h c.id ≡ true) × (c ≡ candidate h c.id)

all_live : (h : History) (xs : List ℕ) → Each (StandsLive h) (map (candidate h) (filter (is_live h) xs))
all_live h [] = _
all_live h (x ∷ xs) =
    subst (Each (StandsLive h)) (sym (map_filter_cons (candidate h) (is_live h) x xs)) (by_test (is_live h x) refl (all_live h xs))
  where
    rest : List Candidate
    rest = map (candidate h) (filter (is_live h) xs)

    by_test : (b : Bool) → is_live h x ≡ b → Each (StandsLive h) rest → Each (StandsLive h) (cond b (candidate h x ∷ rest) rest)
    by_test true e each = ((e, refl), each)
    by_test false e each = each

-- each live number of the list stands among them
found : (h : History) (P : Candidate → Type 0) (s : ℕ) (xs : List ℕ) → is_live h s ≡ true → count_by (λ n. n == s) xs ≢ 0
    → Each P (map (candidate h) (filter (is_live h) xs)) → P (candidate h s)
found h P s [] live some each = absurd (some refl)
found h P s (x ∷ xs) live some each =
    by_test (λ more rest. found h P s xs live more rest) (x == s) refl (subst (Each P) (map_filter_cons (candidate h) (is_live h) x xs) each)
  where
    rest : List Candidate
    rest = map (candidate h) (filter (is_live h) xs)

    tail : (b : Bool) → Each P (cond b (candidate h x ∷ rest) rest) → Each P rest
    tail true each = each.1
    tail false each = each

    head : (b : Bool) → b ≡ true → Each P (cond b (candidate h x ∷ rest) rest) → P (candidate h x)
    head true e each = each.0
    head false e each = absurd (false≢true e)

    by_test : (count_by (λ n. n == s) xs ≢ 0 → Each P rest → P (candidate h s)) → (b : Bool) → (x == s) ≡ b
        → Each P (cond (is_live h x) (candidate h x ∷ rest) rest) → P (candidate h s)
    by_test more true e all =
        let is = eqb-true x s e in
        subst (λ n. P (candidate h n)) is (head (is_live h x) (ap (is_live h) is ∙ live) all)
    by_test more false e all =
        more (λ none. some (sum_by-cons (λ n. cond (n == s) 1 0) x xs ∙ ap {B = ℕ} (λ b. cond b 1 0 + count_by (λ n. n == s) xs) e
        ∙ zero-add (count_by (λ n. n == s) xs) ∙ none)) (tail (is_live h x) all)

-- the pages of the live segments are the granted ones
pages_same : (h : History) (xs : List ℕ) → sum (map (λ c. c.pages) (map (candidate h) xs)) ≡ sum (map (pages_of h) xs)
pages_same h [] = refl
pages_same h (x ∷ xs) =
    sum_by-cons (λ n. n) (pages_of h x) (map (λ c. c.pages) (map (candidate h) xs))
    ∙ ap (λ n. pages_of h x + n) (pages_same h xs)
    ∙ sym (sum_by-cons (λ n. n) (pages_of h x) (map (pages_of h) xs))

-- A reduction

moment_is : (t : ℕ) → IsMoment t → is_moment t ≡ true
moment_is t m = let low = m.0 in let high = m.1 in grind (arith, nat_tests)

reduces_ends : (limit now : ℕ) (h : History) (cs : List Candidate) (events : List Event) → IsMoment now → cs ≡ candidates h
    → Reduces limit now h cs events → has_ended limit now (candidates (answered_after h events)) ≡ true
unfolding answered_after
reduces_ends limit now h cs [] moment same ends = ap (has_ended limit now) (sym same) ∙ ends
reduces_ends limit now h cs (e ∷ events) moment same (inl owns) =
    reduces_ends limit now ((e, answer_of h e) ∷ h) cs events moment (same ∙ sym (owners_same h e owns.0)) owns.1
reduces_ends limit now h cs (e ∷ events) moment same (inr (going, (c, is_least, tries, rest))) =
    let stands : StandsLive h c = least_each (StandsLive h) cs c (subst (Each (StandsLive h)) (sym same) (all_live h (granted_numbers h))) is_least in
    reduces_ends limit now ((e, answer_of h e) ∷ h) (after_try now (word_of (state_after h c.id)) c cs) events moment
    (ap (λ d. after_try now (word_of (state_after h c.id)) d cs) stands.1
    ∙ sym (try_step h c.id now cs same stands.0 (moment_is now moment))
    ∙ ap (λ x. candidates ((x, answer_of h x) ∷ h)) (sym tries))
    rest

-- an owner's event finds no word
owners_find_none : (h : History) (e : Event) → is_owners e ≡ true → word_found h e ≡ []
owners_find_none h (Lock s first count) owns = refl
owners_find_none h (Unlock s first count at) owns = refl
owners_find_none h (Write s place bytes) owns = refl
owners_find_none h (Grant s client pages) owns = refl
owners_find_none h (Try s now) owns = absurd (false≢true owns)
owners_find_none h (Back s) owns = refl

-- the words that the tries find leave the segments that are live at the end
reduces_words : (limit now : ℕ) (h : History) (cs : List Candidate) (events : List Event) → IsMoment now → cs ≡ candidates h
    → Reduces limit now h cs events → reduced limit now cs (words_found h events) ≡ Some (candidates (answered_after h events))
unfolding answered_after reduced
reduces_words limit now h cs [] moment same ends = ap (λ b. cond b (Some cs) None) ends ∙ ap (λ l. Some l) same
reduces_words limit now h cs (e ∷ events) moment same (inl owns) =
    ap (λ (found : List ℕ). reduced limit now cs (found ++ words_found ((e, answer_of h e) ∷ h) events)) (owners_find_none h e owns.0)
    ∙ reduces_words limit now ((e, answer_of h e) ∷ h) cs events moment (same ∙ sym (owners_same h e owns.0)) owns.1
reduces_words limit now h cs (e ∷ events) moment same (inr (going, (c, is_least, tries, rest))) =
    let word = word_of (state_after h c.id) in
    let later = words_found ((e, answer_of h e) ∷ h) events in
    let stands : StandsLive h c = least_each (StandsLive h) cs c (subst (Each (StandsLive h)) (sym same) (all_live h (granted_numbers h))) is_least in
    let more = reduces_words limit now ((e, answer_of h e) ∷ h) (after_try now word c cs) events moment
    (ap (λ d. after_try now word d cs) stands.1
    ∙ sym (try_step h c.id now cs same stands.0 (moment_is now moment))
    ∙ ap (λ x. candidates ((x, answer_of h x) ∷ h)) (sym tries))
    rest in
    ap (λ (found : List ℕ). reduced limit now cs (found ++ later)) (ap (word_found h) tries)
    ∙ ap (λ b. cond b None (option_and_then (λ d. reduced limit now (after_try now word d cs) later) (least cs))) going
    ∙ ap (λ o. option_and_then (λ d. reduced limit now (after_try now word d cs) later) o) is_least
    ∙ more

pub reduction_leaves : (before events : List Event) (limit now : ℕ) → IsMoment now → IsReduction before limit now events
    → reduced limit now (candidates (answered before)) (words_found (answered before) events) ≡ Some (candidates (answered (before ++ events)))
unfolding answered_after
reduction_leaves before events limit now moment reduces =
    reduces_words limit now (answered before) (candidates (answered before)) events moment refl reduces
    ∙ ap (λ g. Some (candidates g)) (sym (answered_append [] before events))

pub reduction_ends : (before events : List Event) (limit now : ℕ) → IsMoment now → IsReduction before limit now events → IsReduced (before ++ events) limit now
unfolding answered_after
reduction_ends before events limit now moment reduces =
    let h = answered (before ++ events) in
    let ended : has_ended limit now (candidates h) ≡ true
    = ap (λ g. has_ended limit now (candidates g)) (answered_append [] before events)
    ∙ reduces_ends limit now (answered before) (candidates (answered before)) events moment refl reduces in
    by_test (nat_le (sum (map (λ c. c.pages) (candidates h))) limit) refl ended
  where
    h : History
    h = answered (before ++ events)

    late : is_late now (least (candidates h)) ≡ true → (s : ℕ) → is_live h s ≡ true → now ≤ unwrap_or (known_of h s) 0
    late e s lives =
        let granted_once = drawn (before ++ events) s ∙ ap {B = ℕ} (λ b. cond b 1 0) (live_parts h s lives).0 in
        found h (λ d. now ≤ use_of d) s (granted_numbers h) lives (λ none. absurd (one (sym granted_once ∙ none))) (all_late now (candidates h) e)
      where
        one : ◌≡◌ {A = ℕ} 1 0 → ⊥
        one e = omega arith

    by_test : (b : Bool) → nat_le (sum (map (λ c. c.pages) (candidates h))) limit ≡ b
        → (nat_le (sum (map (λ c. c.pages) (candidates h))) limit || is_late now (least (candidates h))) ≡ true → IsReduced (before ++ events) limit now
    by_test true e ended = inl (subst (λ n. n ≤ limit) (pages_same h (filter (is_live h) (granted_numbers h))) (leb-true (sum (map (λ c. c.pages) (candidates h))) limit e))
    by_test false e ended = inr (late (ap (λ b. b || is_late now (least (candidates h))) (sym e) ∙ ended))
