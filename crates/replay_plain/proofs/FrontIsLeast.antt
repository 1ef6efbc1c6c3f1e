-- What stands at the front of the queue of known uses is the least live segment.
use Rattle.std.proofs.Common.{◌≡◌, ◌≢◌, ◌⊎◌, ℕ, ◌+◌, ◌<◌, ◌≤◌, Bool, true, false, cond, List, [], ◌∷◌, length, map, filter, Option, Some, None, option_map, slice_get, zero, suc, inl, inr, refl, sym, ap, ap₂, ◌∙◌, subst, arith}
use Rattle.std.proofs.lemmas.Bool.{cases_eq}
use Rattle.std.proofs.lemmas.Bool.Decides.{nat_tests}
use Rattle.std.proofs.lemmas.List.Elements.{All-contains}
use Rattle.machine.specs.declared.event.Event.{Event}
use Rattle.machine.specs.History.{History, pages_of, known_of}
use Rattle.machine.specs.Answers.{answered, is_live}
use Rattle.machine.specs.Reduction.{Candidate, use_of, least}
use Rattle.replay_plain.specs.Rows.{KnownView}
use Rattle.use_queue.specs.Entries.{entry_of, GoesFirst, IsFirst, IsSoundQueue}
use Rattle.use_queue.proofs.Least.{Among, GoesBefore, least_by}
use Rattle.replay_plain.specs.Rows.{live_use_of, IsLiveUse}
use Rattle.replay_plain.specs.Known.{least_told, TellsAll, is_drawn, numbers_to}
use Rattle.replay_plain.specs.Reductions.{live_segments}
use Rattle.replay_plain.proofs.Effects.{live_begun}
use Rattle.replay_plain.proofs.Places.{some_is, none_not_some}
use Rattle.replay_plain.proofs.LiveRows.{live_row, no_entry}

-- the entry of the least is what is told of it
told_by : (k : ℕ × ℕ) (cs : List Candidate) → option_map entry_of (least cs) ≡ Some k → Some (record { id = k.1; known = k.0 }) ≡ option_map least_told (least cs)
told_by k cs is = by (least cs) is
  where
    by : (o : Option Candidate) → option_map entry_of o ≡ Some k → Some (record { id = k.1; known = k.0 }) ≡ option_map least_told o
    by None e = absurd (none_not_some k e)
    by (Some c) e = ap (λ (o : ℕ × ℕ). Some (record { id = o.1; known = o.0 })) (some_is k (entry_of c) (sym e))

-- The live segments by their numbers

abbrev candidate : History → ℕ → Candidate
candidate h s = record { id = s; pages = pages_of h s; known = known_of h s }

-- the live segments up to this number
abbrev live_to : History → ℕ → List Candidate
live_to h n = map (candidate h) (filter (is_live h) (numbers_to n))

-- with one more, by whether it is live
abbrev with_next : Bool → History → ℕ → List Candidate
with_next b h n = cond b (candidate h (suc n) ∷ live_to h n) (live_to h n)

live_next : (h : History) (n : ℕ) (b : Bool) → is_live h (suc n) ≡ b → live_to h (suc n) ≡ with_next b h n
live_next h n b is = ap (λ t. map (candidate h) (cond t (suc n ∷ filter (is_live h) (numbers_to n)) (filter (is_live h) (numbers_to n)))) is ∙ by_test b
  where
    by_test : (t : Bool) → map (candidate h) (cond t (suc n ∷ filter (is_live h) (numbers_to n)) (filter (is_live h) (numbers_to n))) ≡ with_next t h n
    by_test true = refl
    by_test false = refl

among_to : (h : History) (n : ℕ) (k : ℕ × ℕ) → 0 < k.1 → k.1 ≤ n → is_live h k.1 ≡ true → use_of (candidate h k.1) ≡ k.0 → Among k (live_to h n)
among_to h zero k some within live used = absurd (omega arith)
among_to h (suc n) k some within live used =
    subst (Among k) (sym (live_next h n (is_live h (suc n)) refl))
    (by_number (is_live h (suc n)) refl (λ less. among_to h n k some less live used) (cases_eq k.1 (suc n)))
  where
    by_number : (b : Bool) → is_live h (suc n) ≡ b → (k.1 ≤ n → Among k (live_to h n)) → (k.1 ≡ suc n) ⊎ (k.1 ≢ suc n) → Among k (with_next b h n)
    by_number true is later (inl number) = inl (ap₂ (λ (a b : ℕ). (a, b)) (ap (λ s. use_of (candidate h s)) (sym number) ∙ used) (sym number))
    by_number false is later (inl number) = let e : true ≡ false = sym live ∙ ap (is_live h) number ∙ is in cc
    by_number true is later (inr other) = inr (later (omega (arith, within, other)))
    by_number false is later (inr other) = later (omega (arith, within, other))

before_to : (h : History) (n : ℕ) (k : ℕ × ℕ) → ((s : ℕ) → s ≤ n → is_live h s ≡ true → GoesFirst k (use_of (candidate h s), s)) → GoesBefore k (live_to h n)
before_to h zero k first = tt
before_to h (suc n) k first =
    subst (GoesBefore k) (sym (live_next h n (is_live h (suc n)) refl))
    (by_test (is_live h (suc n)) refl (before_to h n k (λ s within live. first s (omega (arith, within)) live)))
  where
    by_test : (b : Bool) → is_live h (suc n) ≡ b → GoesBefore k (live_to h n) → GoesBefore k (with_next b h n)
    by_test true is rest = (first (suc n) (omega arith) is, rest)
    by_test false is rest = rest

none_to : (h : History) (n : ℕ) → ((s : ℕ) → s ≤ n → is_live h s ≡ true → ⊥) → live_to h n ≡ []
none_to h zero none = refl
none_to h (suc n) none = live_next h n (is_live h (suc n)) refl ∙ by_test (is_live h (suc n)) refl (none_to h n (λ s within live. none s (omega (arith, within)) live))
  where
    by_test : (b : Bool) → is_live h (suc n) ≡ b → live_to h n ≡ [] → with_next b h n ≡ []
    by_test true is rest = absurd (none (suc n) (omega arith) is)
    by_test false is rest = rest

-- What the rows tell

at_place : {A : Type 0} (xs : List A) (i : ℕ) → i < length xs → (x : A) × (slice_get xs i ≡ Some x)
at_place [] i inside = absurd (omega (arith, inside))
at_place (x ∷ xs) zero inside = (x, refl)
at_place (x ∷ xs) (suc i) inside = at_place xs i (omega (arith, inside))

-- a live segment has its known use
live_entry : (events : List Event) (kept : KnownView) (s : ℕ) → TellsAll events kept → s < length kept.items → is_live (answered events) s ≡ true
    → IsLiveUse kept.items (use_of (candidate (answered events) s), s)
live_entry events kept s w inside live =
    let found = at_place kept.items s inside in
    let tells = w.each s found.0 found.1 in
    ap live_use_of found.1
    ∙ ap (λ b. cond b (Some found.0.known) None) (tells.live ∙ live)
    ∙ ap (λ n. Some n) tells.known

same_live : (events : List Event) (kept : KnownView) (n : ℕ) → TellsAll events kept → n + 1 ≡ length kept.items → live_segments events ≡ live_to (answered events) n
same_live events kept n w long =
    let drawn = w.drawn in
    ap (λ xs. map (candidate (answered events)) (filter (is_live (answered events)) xs)) (w.numbers ∙ ap numbers_to (omega (arith, long, drawn)))

positive : (next s : ℕ) → is_drawn next s ≡ true → 0 < s
positive next s e = grind (arith, nat_tests, e)

below : (next s : ℕ) → is_drawn next s ≡ true → s < next
below next s e = grind (arith, nat_tests, e)

pub front_is_least : (events : List Event) (kept : KnownView) (n : ℕ) (k : ℕ × ℕ) (entries : List (ℕ × ℕ)) → TellsAll events kept → n + 1 ≡ length kept.items
    → IsSoundQueue (IsLiveUse kept.items) entries → IsFirst k entries
    → Some (record { id = k.1; known = k.0 }) ≡ option_map least_told (least (live_segments events))
front_is_least events kept n k entries w long sound first =
    let h = answered events in
    let row = live_row kept.items k (sound.front k first) in
    let tells = w.each k.1 row.segment row.at in
    let live : is_live h k.1 ≡ true = sym tells.live ∙ row.live in
    let drawn : is_drawn (length kept.items) k.1 ≡ true = sym (w.begun k.1) ∙ live_begun h k.1 live in
    let some : 0 < k.1 = positive (length kept.items) k.1 drawn in
    let less : k.1 < length kept.items = below (length kept.items) k.1 drawn in
    told_by k (live_to h n) (least_by k (live_to h n) (among_to h n k some (omega (arith, less, long)) live (sym tells.known ∙ row.known))
    (before_to h n k (λ s within is. All-contains (GoesFirst k) entries (use_of (candidate h s), s) first.1
    (sound.each (use_of (candidate h s), s) (live_entry events kept s w (omega (arith, within, long)) is)))))
    ∙ ap (λ cs. option_map least_told (least cs)) (sym (same_live events kept n w long))

pub none_is_live : (events : List Event) (kept : KnownView) (n : ℕ) (entries : List (ℕ × ℕ)) → TellsAll events kept → n + 1 ≡ length kept.items
    → IsSoundQueue (IsLiveUse kept.items) entries → entries ≡ [] → None ≡ option_map least_told (least (live_segments events))
none_is_live events kept n entries w long sound none =
    let h = answered events in
    ap (λ cs. option_map least_told (least cs)) (sym (same_live events kept n w long ∙ none_to h n (λ s within is.
    no_entry entries (use_of (candidate h s), s) none (sound.each (use_of (candidate h s), s) (live_entry events kept s w (omega (arith, within, long)) is)))))
