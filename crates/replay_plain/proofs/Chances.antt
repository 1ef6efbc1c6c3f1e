-- The tries of a reduction, where nothing else happens, are a reduction: each leaves fewer chances.
use Rattle.std.proofs.Common.{◌≡◌, ◌≢◌, ℕ, ◌+◌, ◌*◌, ◌<◌, ◌≤◌, ◌==◌, nat_le, zero, suc, Bool, true, false, not, ◌&&◌, ◌||◌, cond, List, [], ◌∷◌, ◌++◌, length, map, filter, Option, Some, None, option_map, unwrap_or, count_by, refl, sym, ap, ◌∙◌, subst, arith, eq-eqb, zero-add, inr}
use Rattle.std.specs.List.{sum_by}
use Rattle.std.proofs.lemmas.Bool.{eqb-true, false≢true, ne_eqb}
use Rattle.std.proofs.lemmas.Bool.Decides.{nat_tests}
use Rattle.std.proofs.lemmas.List.Sums.{sum_by-cons}
use Rattle.units.specs.Moment.{IsMoment, is_moment}
use Rattle.machine.specs.declared.event.Event.{Event}
use Rattle.machine.specs.declared.event.Event.TheVariants.{Try}
use Rattle.machine.specs.declared.event.Answer.TheVariants.{Taken, Used, Misuse}
use Rattle.machine.specs.History.{History, is_begun, pages_of, is_ended, is_gone, is_held, stamp_of, known_of}
use Rattle.machine.specs.Answers.{answered, answer_of, is_live, is_plain, granted_numbers, can_try, tried}
use Rattle.machine.specs.Word.{word_of, state_after, some_held}
use Rattle.machine.specs.Reduction.{Candidate, use_of, comes_first, least_of, least, is_late, has_ended, after_try, candidates, Reduces, IsReduction}
use Rattle.machine.proofs.Counts.{drawn}
use Rattle.machine.proofs.Reducing.{try_step}
use Rattle.replay_plain.specs.Reductions.{live_segments, tries_within, most_tries, reduction}
use Rattle.replay_plain.proofs.Effects.{live_begun}
use Rattle.replay_plain.proofs.Following.{pushed}

-- The least live segment is live

abbrev candidate : History → ℕ → Candidate
candidate h s = record { id = s; pages = pages_of h s; known = known_of h s }

abbrev StandsLive : History → Candidate → Type 0
StandsLive h c = (is_live h c.id ≡ true) × (c ≡ candidate h c.id)

least_stands : (h : History) (xs : List ℕ) (c : Candidate) → StandsLive h c → StandsLive h (least_of c (map (candidate h) (filter (is_live h) xs)))
least_stands h [] c w = w
least_stands h (x ∷ xs) c w = by_live (least_stands h xs) (is_live h x) refl
  where
    rest : List Candidate
    rest = map (candidate h) (filter (is_live h) xs)

    pick : (b : Bool) → StandsLive h (candidate h x) → StandsLive h (cond b (candidate h x) c)
    pick true lives = lives
    pick false lives = w

    by_live : ((d : Candidate) → StandsLive h d → StandsLive h (least_of d rest)) → (b : Bool) → is_live h x ≡ b
        → StandsLive h (least_of c (map (candidate h) (cond b (x ∷ filter (is_live h) xs) (filter (is_live h) xs))))
    by_live more true e = more (cond (comes_first (candidate h x) c) (candidate h x) c) (pick (comes_first (candidate h x) c) (e, refl))
    by_live more false e = more c w

least_live : (h : History) (xs : List ℕ) (c : Candidate) → least (map (candidate h) (filter (is_live h) xs)) ≡ Some c → StandsLive h c
least_live h [] c e = cc
least_live h (x ∷ xs) c e = by_live (least_live h xs c) (is_live h x) refl e
  where
    some_is : (d : Candidate) → Some d ≡ Some c → d ≡ c
    some_is d e = cc

    by_live : (least (map (candidate h) (filter (is_live h) xs)) ≡ Some c → StandsLive h c) → (b : Bool) → is_live h x ≡ b
        → least (map (candidate h) (cond b (x ∷ filter (is_live h) xs) (filter (is_live h) xs))) ≡ Some c → StandsLive h c
    by_live more true lives is = subst (StandsLive h) (some_is _ is) (least_stands h xs (candidate h x) (lives, refl))
    by_live more false dead is = more is

-- The chances of a segment: how many tries it can still have

-- the known use as a number
abbrev use_at : History → ℕ → ℕ
use_at h s = unwrap_or (known_of h s) 0

-- none where its use is late, one where a try would take it, else two
abbrev chances_by : ℕ → ℕ → Bool → ℕ → ℕ
chances_by now known held stamp = cond (nat_le now known) 0 (cond (not held && known == stamp) 1 2)

abbrev chances : ℕ → History → ℕ → ℕ
chances now h s = cond (is_live h s) (chances_by now (use_at h s) (some_held h s) (stamp_of h s)) 0

-- the chances of all
abbrev all_chances : ℕ → History → ℕ
all_chances now h = sum_by (chances now h) (granted_numbers h)

few_chances : (now : ℕ) (h : History) (s : ℕ) → chances now h s ≤ 2
few_chances now h s = by_tests (is_live h s) (nat_le now (use_at h s)) (not (some_held h s) && use_at h s == stamp_of h s)
  where
    by_tests : (a b c : Bool) → cond a (cond b 0 (cond c 1 2)) 0 ≤ 2
    by_tests false b c = omega arith
    by_tests true true c = omega arith
    by_tests true false true = omega arith
    by_tests true false false = omega arith

sum_few : (f : ℕ → ℕ) (xs : List ℕ) → ((x : ℕ) → f x ≤ 2) → sum_by f xs ≤ 2 * length xs
sum_few f [] few = omega arith
sum_few f (x ∷ xs) few =
    let here = few x in
    let rest = sum_few f xs few in
    let all = sum_by-cons f x xs in
    omega arith

sum_not_more : (f g : ℕ → ℕ) (xs : List ℕ) → ((x : ℕ) → g x ≤ f x) → sum_by g xs ≤ sum_by f xs
sum_not_more f g [] le = omega arith
sum_not_more f g (x ∷ xs) le =
    let here = le x in
    let rest = sum_not_more f g xs le in
    let one = sum_by-cons f x xs in
    let other = sum_by-cons g x xs in
    omega arith

-- one of them has less, and the others as much
sum_less : (f g : ℕ → ℕ) (s : ℕ) (xs : List ℕ) → ((x : ℕ) → (x == s) ≡ false → g x ≡ f x) → g s < f s → count_by (λ n. n == s) xs ≢ 0
    → sum_by g xs < sum_by f xs
sum_less f g s [] same less some = absurd (some refl)
sum_less f g s (x ∷ xs) same less some = by_test (sum_less f g s xs same less) (x == s) refl
  where
    le : (y : ℕ) (b : Bool) → (y == s) ≡ b → g y ≤ f y
    le y true e = subst (λ n. g n ≤ f n) (sym (eqb-true y s e)) (omega (arith, less))
    le y false e = let eq = same y e in omega arith

    by_test : (count_by (λ n. n == s) xs ≢ 0 → sum_by g xs < sum_by f xs) → (b : Bool) → (x == s) ≡ b → sum_by g (x ∷ xs) < sum_by f (x ∷ xs)
    by_test more true e =
        let here : g x < f x = subst (λ n. g n < f n) (sym (eqb-true x s e)) less in
        let rest = sum_not_more f g xs (λ y. le y (y == s) refl) in
        let one = sum_by-cons f x xs in
        let other = sum_by-cons g x xs in
        omega arith
    by_test more false e =
        let here = same x e in
        let rest = more (λ none. some (sum_by-cons (λ n. cond (n == s) 1 0) x xs
        ∙ ap {B = ℕ} (λ b. cond b 1 0 + count_by (λ n. n == s) xs) e ∙ zero-add (count_by (λ n. n == s) xs) ∙ none)) in
        let one = sum_by-cons f x xs in
        let other = sum_by-cons g x xs in
        omega arith

turned : (a b : ℕ) → (a == b) ≡ false → (b == a) ≡ false
turned a b e = ne_eqb b a (λ is. false≢true (sym e ∙ eq-eqb a b (sym is)))

-- a try changes no chances of another segment
held_other : (now : ℕ) (h : History) (s x found : ℕ) → (x == s) ≡ false → chances now ((Try s now, Used found) ∷ h) x ≡ chances now h x
unfolding is_begun is_ended is_gone pages_of known_of stamp_of is_held
held_other now h s x found ne = ap (λ b. cond (is_live h x) (chances_by now (unwrap_or (cond b (Some found) (known_of h x)) 0) (some_held h x) (stamp_of h x)) 0) (turned x s ne)

taken_other : (now : ℕ) (h : History) (s x : ℕ) → (x == s) ≡ false → chances now ((Try s now, Taken) ∷ h) x ≡ chances now h x
unfolding is_begun is_ended is_gone pages_of known_of stamp_of is_held
taken_other now h s x ne = ap (λ b. cond (is_plain h x && not (b || is_gone h x)) (chances_by now (use_at h x) (some_held h x) (stamp_of h x)) 0) (turned x s ne)

-- a try on a live segment whose use is early leaves it fewer chances
used_less : (now : ℕ) (h : History) (s found : ℕ) → is_live h s ≡ true → nat_le now (use_at h s) ≡ false
    → chances_by now found (some_held h s) (stamp_of h s) < chances_by now (use_at h s) (some_held h s) (stamp_of h s)
    → chances now ((Try s now, Used found) ∷ h) s < chances now h s
unfolding is_begun is_ended is_gone pages_of known_of stamp_of is_held
used_less now h s found lives early less =
    let new : chances now ((Try s now, Used found) ∷ h) s ≡ chances_by now found (some_held h s) (stamp_of h s)
    = ap (λ b. cond b (chances_by now (unwrap_or (cond (s == s) (Some found) (known_of h s)) 0) (some_held h s) (stamp_of h s)) 0) lives
    ∙ ap (λ b. chances_by now (unwrap_or (cond b (Some found) (known_of h s)) 0) (some_held h s) (stamp_of h s)) (eq-eqb s s refl) in
    let old : chances now h s ≡ chances_by now (use_at h s) (some_held h s) (stamp_of h s)
    = ap (λ b. cond b (chances_by now (use_at h s) (some_held h s) (stamp_of h s)) 0) lives in
    omega arith

taken_less : (now : ℕ) (h : History) (s : ℕ) → is_live h s ≡ true → 0 < chances_by now (use_at h s) (some_held h s) (stamp_of h s)
    → chances now ((Try s now, Taken) ∷ h) s < chances now h s
unfolding is_begun is_ended is_gone pages_of known_of stamp_of is_held
taken_less now h s lives some =
    let gone : (is_plain h s && not (s == s || is_gone h s)) ≡ false = ap (λ b. is_plain h s && not (b || is_gone h s)) (eq-eqb s s refl) ∙ by_test (is_plain h s) in
    let new : chances now ((Try s now, Taken) ∷ h) s ≡ 0
    = ap (λ b. cond b (chances_by now (use_at h s) (some_held h s) (stamp_of h s)) 0) gone in
    let old : chances now h s ≡ chances_by now (use_at h s) (some_held h s) (stamp_of h s)
    = ap (λ b. cond b (chances_by now (use_at h s) (some_held h s) (stamp_of h s)) 0) lives in
    omega arith
  where
    by_test : (b : Bool) → (b && false) ≡ false
    by_test true = refl
    by_test false = refl

at_moment : (now : ℕ) → nat_le now now ≡ true
at_moment now = grind (arith, nat_tests)

-- what is less, where the try finds the segment held, used or free
chances_less : (now known stamp : ℕ) (held : Bool) → nat_le now known ≡ false
    → (held ≡ true → chances_by now now held stamp < chances_by now known held stamp)
    × (held ≡ false → (known == stamp) ≡ false → chances_by now stamp held stamp < chances_by now known held stamp)
    × (0 < chances_by now known held stamp)
chances_less now known stamp held early = (when_held held, when_used held, some held)
  where
    when_held : (b : Bool) → b ≡ true → chances_by now now b stamp < chances_by now known b stamp
    when_held true e =
        let new : chances_by now now true stamp ≡ 0 = ap (λ t. cond t 0 2) (at_moment now) in
        let old : chances_by now known true stamp ≡ 2 = ap (λ t. cond t 0 2) early in
        omega arith
    when_held false e = absurd (false≢true e)

    one_at_most : (t : Bool) → cond t 0 1 < 2
    one_at_most true = omega arith
    one_at_most false = omega arith

    when_used : (b : Bool) → b ≡ false → (known == stamp) ≡ false → chances_by now stamp b stamp < chances_by now known b stamp
    when_used true e ne = absurd (false≢true (sym e))
    when_used false e ne =
        let new : chances_by now stamp false stamp ≡ cond (nat_le now stamp) 0 1 = ap (λ t. cond (nat_le now stamp) 0 (cond t 1 2)) (eq-eqb stamp stamp refl) in
        let old : chances_by now known false stamp ≡ 2 = ap (λ t. cond t 0 (cond (known == stamp) 1 2)) early ∙ ap (λ t. cond t 1 2) ne in
        let most = one_at_most (nat_le now stamp) in
        omega arith

    two : (t : Bool) → 0 < cond t 1 2
    two true = omega arith
    two false = omega arith

    some : (b : Bool) → 0 < chances_by now known b stamp
    some b =
        let old : chances_by now known b stamp ≡ cond (not b && known == stamp) 1 2 = ap (λ t. cond t 0 (cond (not b && known == stamp) 1 2)) early in
        let most = two (not b && known == stamp) in
        omega arith

-- a try on a live segment whose use is early leaves fewer chances of all
try_less : (now : ℕ) (h : History) (s : ℕ) → is_live h s ≡ true → is_moment now ≡ true → nat_le now (use_at h s) ≡ false
    → count_by (λ n. n == s) (granted_numbers h) ≢ 0
    → all_chances now ((Try s now, answer_of h (Try s now)) ∷ h) < all_chances now h
unfolding answer_of granted_numbers
try_less now h s lives moment early some =
    let can : can_try h s now ≡ true = both (is_live h s) (is_moment now) lives moment in
    let less = chances_less now (use_at h s) (stamp_of h s) (some_held h s) early in
    subst (λ b. all_chances now ((Try s now, cond b (tried (some_held h s) (stamp_of h s) (use_at h s) now) Misuse) ∷ h) < all_chances now h) (sym can)
    (by_word less.0 less.1 less.2 (some_held h s) refl (use_at h s == stamp_of h s) refl)
  where
    both : (a b : Bool) → a ≡ true → b ≡ true → (a && b) ≡ true
    both true b p q = q
    both false b p q = absurd (false≢true p)

    by_word : (some_held h s ≡ true → chances_by now now (some_held h s) (stamp_of h s) < chances_by now (use_at h s) (some_held h s) (stamp_of h s))
        → (some_held h s ≡ false → (use_at h s == stamp_of h s) ≡ false
        → chances_by now (stamp_of h s) (some_held h s) (stamp_of h s) < chances_by now (use_at h s) (some_held h s) (stamp_of h s))
        → 0 < chances_by now (use_at h s) (some_held h s) (stamp_of h s)
        → (held : Bool) → some_held h s ≡ held → (at : Bool) → (use_at h s == stamp_of h s) ≡ at
        → all_chances now ((Try s now, cond held (Used now) (cond (use_at h s == stamp_of h s) Taken (Used (stamp_of h s)))) ∷ h) < all_chances now h
    by_word when_held when_used any true is at e =
        sum_less (chances now h) (chances now ((Try s now, Used now) ∷ h)) s (granted_numbers h) (λ x ne. held_other now h s x now ne)
        (used_less now h s now lives early (when_held is)) some
    by_word when_held when_used any false is true e =
        subst (λ b. all_chances now ((Try s now, cond b Taken (Used (stamp_of h s))) ∷ h) < all_chances now h) (sym e)
        (sum_less (chances now h) (chances now ((Try s now, Taken) ∷ h)) s (granted_numbers h) (λ x ne. taken_other now h s x ne)
        (taken_less now h s lives any) some)
    by_word when_held when_used any false is false e =
        subst (λ b. all_chances now ((Try s now, cond b Taken (Used (stamp_of h s))) ∷ h) < all_chances now h) (sym e)
        (sum_less (chances now h) (chances now ((Try s now, Used (stamp_of h s)) ∷ h)) s (granted_numbers h) (λ x ne. held_other now h s x (stamp_of h s) ne)
        (used_less now h s (stamp_of h s) lives early (when_used is e)) some)

-- The tries

moment_is : (t : ℕ) → IsMoment t → is_moment t ≡ true
moment_is t m = let low = m.0 in let high = m.1 in grind (arith, nat_tests)

or_false : (a b : Bool) → (a || b) ≡ false → b ≡ false
or_false true b e = absurd (false≢true (sym e))
or_false false b e = e

tries_from : ℕ → ℕ → ℕ → List Event → Option ℕ → List Event
tries_from most limit now events o = unwrap_or (option_map (λ id. Try id now ∷ tries_within most limit now (events ++ Try id now ∷ [])) o) []

going_tries : (most limit now : ℕ) (events : List Event) (c : Candidate) → has_ended limit now (live_segments events) ≡ false → least (live_segments events) ≡ Some c
    → tries_within (suc most) limit now events ≡ Try c.id now ∷ tries_within most limit now (events ++ Try c.id now ∷ [])
unfolding tries_within tries_from
going_tries most limit now events c going is =
    ap (λ b. tries_from most limit now events (cond b None (option_map (λ d. d.id) (least (live_segments events))))) going
    ∙ ap (λ o. tries_from most limit now events (option_map (λ d. d.id) o)) is

ended_tries : (most limit now : ℕ) (events : List Event) → has_ended limit now (live_segments events) ≡ true → tries_within most limit now events ≡ []
unfolding tries_within tries_from
ended_tries zero limit now events ended = refl
ended_tries (suc most) limit now events ended =
    ap (λ b. tries_from most limit now events (cond b None (option_map (λ d. d.id) (least (live_segments events))))) ended

-- what is known of the least where the reduction goes on
record Goes (now : ℕ) (events : List Event) (c : Candidate) : Type 0 where
  stands : StandsLive (answered events) c
  early : nat_le now (use_at (answered events) c.id) ≡ false
  granted : count_by (λ n. n == c.id) (granted_numbers (answered events)) ≢ 0

goes : (limit now : ℕ) (events : List Event) (c : Candidate) → has_ended limit now (live_segments events) ≡ false → least (live_segments events) ≡ Some c → Goes now events c
goes limit now events c going is =
    let h = answered events in
    let stands = least_live h (granted_numbers h) c is in
    let late : is_late now (least (live_segments events)) ≡ false = or_false _ (is_late now (least (live_segments events))) going in
    record {
      stands = stands;
      early = ap (λ (d : Candidate). nat_le now (use_of d)) (sym stands.1) ∙ ap (is_late now) (sym is) ∙ late;
      granted = λ none. one (sym (drawn events c.id ∙ ap {B = ℕ} (λ b. cond b 1 0) (live_begun h c.id stands.0)) ∙ none);
    }
  where
    one : ◌≡◌ {A = ℕ} 1 0 → ⊥
    one e = omega arith

abbrev tried_once : List Event → ℕ → Candidate → List Event
tried_once events now c = events ++ Try c.id now ∷ []

fewer : (limit now : ℕ) (events : List Event) (c : Candidate) → IsMoment now → Goes now events c
    → all_chances now (answered (tried_once events now c)) < all_chances now (answered events)
fewer limit now events c moment goes =
    subst (λ g. all_chances now g < all_chances now (answered events)) (sym (pushed events (Try c.id now) _ refl))
    (try_less now (answered events) c.id goes.stands.0 (moment_is now moment) goes.early goes.granted)

-- one try more
reduces_more : (most limit now : ℕ) (events : List Event) (c : Candidate) → IsMoment now → has_ended limit now (live_segments events) ≡ false
    → least (live_segments events) ≡ Some c → Goes now events c
    → Reduces limit now (answered (tried_once events now c)) (live_segments (tried_once events now c)) (tries_within most limit now (tried_once events now c))
    → Reduces limit now (answered events) (live_segments events) (tries_within (suc most) limit now events)
reduces_more most limit now events c moment going is goes more =
    let h = answered events in
    let e = Try c.id now in
    let later = tries_within most limit now (tried_once events now c) in
    let word = word_of (state_after h c.id) in
    let step = try_step h c.id now (live_segments events) refl goes.stands.0 (moment_is now moment)
    ∙ ap (λ d. after_try now word d (live_segments events)) (sym goes.stands.1) in
    let rest = subst (λ cs. Reduces limit now ((e, answer_of h e) ∷ h) cs later) step
    (subst (λ g. Reduces limit now g (candidates g) later) (pushed events e _ refl) more) in
    subst (Reduces limit now h (live_segments events)) (sym (going_tries most limit now events c going is))
    (inr (going, (c, is, refl, rest)))

-- either it has ended, or there is a least live segment
by_least : (limit now : ℕ) (events : List Event) (P : Type 0) → (has_ended limit now (live_segments events) ≡ true → P)
    → ((c : Candidate) → has_ended limit now (live_segments events) ≡ false → least (live_segments events) ≡ Some c → P) → P
by_least limit now events P ended goes_on = by_end (has_ended limit now (live_segments events)) refl
  where
    by_found : (o : Option Candidate) → least (live_segments events) ≡ o → has_ended limit now (live_segments events) ≡ false → P
    by_found None none going = absurd (false≢true (sym (or_false _ (is_late now (least (live_segments events))) going) ∙ ap (is_late now) none))
    by_found (Some c) is going = goes_on c going is

    by_end : (b : Bool) → has_ended limit now (live_segments events) ≡ b → P
    by_end true e = ended e
    by_end false e = by_found (least (live_segments events)) refl e

reduces : (most limit now : ℕ) (events : List Event) → IsMoment now → all_chances now (answered events) ≤ most
    → Reduces limit now (answered events) (live_segments events) (tries_within most limit now events)
reduces zero limit now events moment few =
    by_least limit now events (Reduces limit now (answered events) (live_segments events) (tries_within 0 limit now events))
    (λ ended. subst (Reduces limit now (answered events) (live_segments events)) (sym (ended_tries 0 limit now events ended)) ended)
    (λ c going is.
    let less = fewer limit now events c moment (goes limit now events c going is) in
    absurd (omega arith))
reduces (suc most) limit now events moment few =
    by_least limit now events (Reduces limit now (answered events) (live_segments events) (tries_within (suc most) limit now events))
    (λ ended. subst (Reduces limit now (answered events) (live_segments events)) (sym (ended_tries (suc most) limit now events ended)) ended)
    (λ c going is.
    let on = goes limit now events c going is in
    let less = fewer limit now events c moment on in
    reduces_more most limit now events c moment going is on (reduces most limit now (tried_once events now c) moment (omega arith)))

pub reduction_is : (events : List Event) (limit now : ℕ) → IsMoment now → IsReduction events limit now (reduction limit now events)
reduction_is events limit now moment =
    reduces (most_tries events) limit now events moment (sum_few (chances now (answered events)) (granted_numbers (answered events)) (few_chances now (answered events)))
