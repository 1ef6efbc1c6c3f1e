-- An order by its queue: the least, and what each change leaves.
use Rattle.std.proofs.Common.{◌≡◌, ◌≢◌, ◌⊎◌, ℕ, ◌+◌, ◌*◌, ◌<◌, ◌==◌, nat_le, Bool, true, false, not, cond, List, [], ◌∷◌, length, get_or, map, Option, Some, None, option_map, inl, inr, zero, suc, refl, sym, ap, ◌∙◌, subst, arith}
use Rattle.std.specs.List.{Contains, remove}
use Rattle.std.proofs.lemmas.Bool.Decides.{nat_tests}
use Rattle.std.proofs.lemmas.List.{get_or_read, length-map}
use Rattle.std.proofs.lemmas.List.Edits.{length-remove}
use Rattle.std.proofs.lemmas.List.Elements.{All-weaker, All-filter, All-contains, All-contains_itself, Contains-get_or}
use Rattle.machine.specs.Reduction.{Candidate, use_of, comes_first, least_of, least}
use Rattle.segment.specs.Warded.{Warded}
use Rattle.segment.specs.declared.warden.Purge.TheVariants.{Taken, Used}
use Rattle.discard_book.specs.Live.{has_number}
use Rattle.lru_reduce.specs.Wards.{Wards, number_of, AreLive, IsNew, candidate_of, candidates_of, segments_of, total_pages, without_ward, noted_at, used_after}
use Rattle.lru_reduce.specs.Calls.{told, placed, IsKnownUse, TakesNumber, TakesOut, TriesOne}
use Rattle.use_queue.specs.Entries.{entry_of, IsFirst, HoldsEach, HoldsOthers, IsSoundQueue}
use Rattle.lru_reduce.specs.Uses.{entry_for, uses_of}
use Rattle.lru_reduce.specs.Turns.{IsDueOn, IsPlaceOf, LosesAt, Loses, Wins, stood_as}
use Rattle.lru_reduce.proofs.Keyed.{same_yes, same_no, remove-but, rising_apart}
use Rattle.use_queue.proofs.Firsts.{head_in}
use Rattle.use_queue.proofs.Least.{first_of_live, first_is_least}
use Rattle.lru_reduce.proofs.Uses.{from_map, in_map, number_in, has_place, has_warden, live_none, same_uses}
use Rattle.lru_reduce.proofs.Placed.{All-placed}

-- The least

some_is : {X : Type 0} (a b : X) → Some a ≡ Some b → a ≡ b
some_is a b e = cc

-- what stands at the front is the least
pub told_first : (k : ℕ × ℕ) (sides : List Warded) (entries : List (ℕ × ℕ)) → IsSoundQueue (Contains (uses_of sides)) entries → IsFirst k entries → option_map told (least (candidates_of sides)) ≡ Some (k.1, k.0)
told_first k sides entries sound first = by (least (candidates_of sides)) (first_is_least k (candidates_of sides) (rw (same_uses sides) (first_of_live k (uses_of sides) entries sound first)))
  where
    by : (o : Option Candidate) → option_map entry_of o ≡ Some k → option_map told o ≡ Some (k.1, k.0)
    by None e = cc
    by (Some c) e = ap (λ (o : ℕ × ℕ). Some (o.1, o.0)) (some_is (entry_of c) k e)

pub use_first : (k : ℕ × ℕ) (sides : List Warded) (entries : List (ℕ × ℕ)) → IsSoundQueue (Contains (uses_of sides)) entries → IsFirst k entries → option_map use_of (least (candidates_of sides)) ≡ Some k.0
use_first k sides entries sound first = by (least (candidates_of sides)) (told_first k sides entries sound first)
  where
    by : (o : Option Candidate) → option_map told o ≡ Some (k.1, k.0) → option_map use_of o ≡ Some k.0
    by None e = cc
    by (Some c) e = ap (λ (o : ℕ × ℕ). Some o.1) (some_is (told c) (k.1, k.0) e)

-- nothing stands there where nothing is live
pub none_first : (sides : List Warded) (entries : List (ℕ × ℕ)) → IsSoundQueue (Contains (uses_of sides)) entries → entries ≡ [] → sides ≡ []
none_first [] entries sound e = refl
none_first (w ∷ sides) [] sound e = let l = (sound.each (entry_for w) (head_in (entry_for w) (uses_of sides))).1 in absurd (omega (arith, l))
none_first (w ∷ sides) (k ∷ entries) sound e = cc

pub none_least : {X : Type 0} (f : Candidate → X) (sides : List Warded) (entries : List (ℕ × ℕ)) → IsSoundQueue (Contains (uses_of sides)) entries → entries ≡ [] → option_map f (least (candidates_of sides)) ≡ None
none_least f sides entries sound e = ap (λ (ws : List Warded). option_map f (least (candidates_of ws))) (none_first sides entries sound e)

-- the number at the front is live
pub front_live : (k : ℕ × ℕ) (sides : List Warded) (entries : List (ℕ × ℕ)) → IsSoundQueue (Contains (uses_of sides)) entries → IsFirst k entries → false ≡ has_number (segments_of sides) k.1 → ⊥
front_live k sides entries sound first none = live_none k.1 k.0 sides (sym none) (sound.front k first)

-- Two of the same number are one

pub only_one : (sides : List Warded) (v w : Warded) → AreLive sides → Contains sides v → Contains sides w → v.id ≡ w.id → v ≡ w
only_one sides v w ok (i, inside, here) (j, within, there) same =
    let first : v ≡ get_or sides i v = sym here in
    let second : w ≡ get_or sides j v = get_or_read sides j w within (sym there) v in
    let one : i ≡ j = rising_apart number_of sides i j v ok.rising inside within (ap (λ (o : Warded). o.id) (sym first) ∙ same ∙ ap (λ (o : Warded). o.id) second) in
    first ∙ ap (λ (n : ℕ). get_or sides n v) one ∙ sym second

best_in : (b : Candidate) (rest : List Candidate) → Contains (b ∷ rest) (least_of b rest)
best_in b [] = head_in b []
best_in b (d ∷ rest) = by (comes_first d b) (best_in (cond (comes_first d b) d b) rest)
  where
    more : (x o : Candidate) → Contains (x ∷ rest) o → ((x ≡ b) ⊎ (x ≡ d)) → Contains (b ∷ d ∷ rest) o
    more x o (zero, inside, here) (inl is) = (0, omega arith, sym is ∙ here)
    more x o (zero, inside, here) (inr is) = (1, omega arith, sym is ∙ here)
    more x o (suc i, inside, here) is = (suc (suc i), omega (arith, inside), here)

    by : (t : Bool) → Contains (cond t d b ∷ rest) (least_of (cond t d b) rest) → Contains (b ∷ d ∷ rest) (least_of (cond t d b) rest)
    by true there = more d (least_of d rest) there (inr refl)
    by false there = more b (least_of b rest) there (inl refl)

pub least_in : (cs : List Candidate) (c : Candidate) → least cs ≡ Some c → Contains cs c
least_in [] c e = cc
least_in (b ∷ rest) c e = subst (λ (o : Candidate). Contains (b ∷ rest) o) (let s : least_of b rest ≡ c = cc in s) (best_in b rest)

-- the least is the warden of the number that is told
pub least_is : (id known : ℕ) (w : Warded) (sides : List Warded) → AreLive sides → Contains sides w → w.id ≡ id → option_map told (least (candidates_of sides)) ≡ Some (id, known) → least (candidates_of sides) ≡ Some (candidate_of w)
least_is id known w sides ok there number e = by (least (candidates_of sides)) refl e
  where
    by : (o : Option Candidate) → least (candidates_of sides) ≡ o → option_map told o ≡ Some (id, known) → o ≡ Some (candidate_of w)
    by None is f = cc
    by (Some c) is f =
        let from = from_map candidate_of sides c (least_in (candidates_of sides) c is) in
        let n : c.id ≡ id = ap (λ (o : ℕ × ℕ). o.0) (some_is (told c) (id, known) f) in
        let same : from.from.id ≡ w.id = ap (λ (d : Candidate). d.id) from.is ∙ n ∙ sym number in
        ap (λ (d : Candidate). Some d) (sym from.is) ∙ ap (λ (v : Warded). Some (candidate_of v)) (only_one sides from.from w ok from.there there same)

pub takes_out : (id known spare entries after : ℕ) (w : Warded) (sides new : List Warded) → AreLive sides → TakesNumber id w sides new → option_map told (least (candidates_of sides)) ≡ Some (id, known)
    → TakesOut w (record { sides = sides; spare = spare; entries = entries }) (record { sides = new; spare = spare + 1; entries = after })
takes_out id known spare entries after w sides new ok takes e = record {
  stood = takes.stood;
  first = least_is id known w sides ok takes.stood takes.number e;
  free = takes.free;
  sides = takes.sides ∙ ap (λ (n : ℕ). without_ward n sides) (sym takes.number);
  spare = refl;
}

pub place_has : (id place : ℕ) (sides : List Warded) → IsPlaceOf id place sides → has_number (segments_of sides) id ≡ true
place_has id place [] is = let l = is.inside in absurd (omega (arith, l))
place_has id place (w ∷ sides) is =
    let v : Warded = get_or (w ∷ sides) place w in
    sym (ap (λ (n : ℕ). has_number (segments_of (w ∷ sides)) n) (is.number w)) ∙ number_in v (w ∷ sides) (Contains-get_or (w ∷ sides) place w is.inside)

pub left_long : (id : ℕ) (w : Warded) (old new : List Warded) → AreLive old → TakesNumber id w old new → length new + 1 ≡ length old
left_long id w old new ok takes =
    let i : ℕ = takes.stood.0 in
    let inside : i < length old = takes.stood.1 in
    let is : remove old i ≡ without_ward id old = remove-but number_of old i w ok.rising inside ∙ ap (λ (n : ℕ). without_ward n old) (ap (λ (v : Warded). v.id) takes.stood.2 ∙ takes.number) in
    let long : length new ≡ length (remove old i) = ap (λ (ws : List Warded). length ws) (takes.sides ∙ sym is) in
    let fewer = length-remove old i inside in
    omega (arith, long, fewer)

-- what a try that won leaves
pub record Left (id : ℕ) (old new : List Warded) : Type 0 where
  pub sides : new ≡ without_ward id old
  pub long : length new + 1 ≡ length old

pub left_won : (id now pages known : ℕ) (block : List ℕ) (old new : List Warded) → has_number (segments_of old) id ≡ true → Wins id now pages known block old new → Left id old new
left_won id now pages known block old new there wins =
    let found = has_place id old there in
    let won = wins found.place found.is in
    record {
      sides = won.sides ∙ ap (λ (b : Bool). cond b (without_ward id old) (map (noted_at now (2 * known) id) old)) (same_yes (2 * known) (2 * known) refl);
      long = won.fewer;
    }

-- a try of one number, by its outcome
pub tries_won : (id now pages known : ℕ) (block : List ℕ) (old new : Wards) → has_number (segments_of old.sides) id ≡ true → Wins id now pages known block old.sides new.sides → new.spare ≡ old.spare → TriesOne id now (Some (Taken block)) old new
tries_won id now pages known block old new there wins spare =
    let found = has_place id old.sides there in
    let one = has_warden id old.sides there in
    let won = wins found.place found.is in
    let w : Warded = get_or old.sides found.place one.warden in
    let c = stood_as id pages known in
    let stood : Contains (candidates_of old.sides) c = subst (λ (o : Candidate). Contains (candidates_of old.sides) o) (won.stood one.warden) (in_map candidate_of old.sides w (Contains-get_or old.sides found.place one.warden found.is.inside)) in
    (there, record { word = 2 * known; segment = c; stood = stood; number = refl; told = (refl, won.sized, won.moment); sides = won.sides; spare = spare })

pub tries_lost : (id now known : ℕ) (old new : Wards) → has_number (segments_of old.sides) id ≡ true → Loses id now known old.sides new.sides → new.spare ≡ old.spare → TriesOne id now (Some (Used known)) old new
tries_lost id now known old new there loses spare =
    let found = has_place id old.sides there in
    let one = has_warden id old.sides there in
    let lost = loses found.place found.is in
    let w : Warded = get_or old.sides found.place one.warden in
    let stood : Contains (candidates_of old.sides) lost.at = subst (λ (o : Candidate). Contains (candidates_of old.sides) o) (lost.stood one.warden) (in_map candidate_of old.sides w (Contains-get_or old.sides found.place one.warden found.is.inside)) in
    let number : lost.at.id ≡ id = sym (ap (λ (o : Candidate). o.id) (lost.stood one.warden)) ∙ found.is.number one.warden in
    (there, record { word = lost.word; segment = lost.at; stood = stood; number = number; told = (lost.other, lost.renewed); sides = lost.sides; spare = spare })

-- a turn is due on the number that is told
pub due_on : (limit now id known granted : ℕ) (sides : List Warded) → option_map told (least (candidates_of sides)) ≡ Some (id, known) → granted ≡ total_pages sides → limit < granted → known < now → IsDueOn limit now id sides
due_on limit now id known granted sides e total above early = by (least (candidates_of sides)) refl e
  where
    by : (o : Option Candidate) → least (candidates_of sides) ≡ o → option_map told o ≡ Some (id, known) → IsDueOn limit now id sides
    by None is f = cc
    by (Some c) is f =
        let from = from_map candidate_of sides c (least_in (candidates_of sides) c is) in
        let w = from.from in
        let n : c.id ≡ id = ap (λ (o : ℕ × ℕ). o.0) (some_is (told c) (id, known) f) in
        let u : use_of c ≡ known = ap (λ (o : ℕ × ℕ). o.1) (some_is (told c) (id, known) f) in
        let read : (d : Warded) → w ≡ get_or sides from.there.0 d = λ d. get_or_read sides from.there.0 w from.there.1 (sym from.there.2) d in
        let over : nat_le (total_pages sides) limit ≡ false = grind (arith, nat_tests, above, total) in
        let late : nat_le now (use_of c) ≡ false = grind (arith, nat_tests, early, u) in
        record {
          place = from.there.0;
          stands = record { inside = from.there.1; number = λ d. ap (λ (v : Warded). v.id) (sym (read d)) ∙ ap (λ (o : Candidate). o.id) from.is ∙ n };
          due = record {
            inside = from.there.1;
            going = rw (over, is) late;
            first = λ d. is ∙ ap (λ (o : Candidate). Some o) (sym from.is) ∙ ap (λ (v : Warded). Some (candidate_of v)) (read d);
            early = λ d. let a = ap (λ (v : Warded). use_of (candidate_of v)) (read d) in let b = ap use_of from.is in omega (arith, a, b, u, early);
          };
        }

-- What changes leave of the entries

pub each_left : (id : ℕ) (old new : List Warded) (entries : List (ℕ × ℕ)) → new ≡ without_ward id old → HoldsEach (Contains (uses_of old)) entries → HoldsEach (Contains (uses_of new)) entries
each_left id old new entries is each k live =
    let from = from_map entry_for new k live in
    let w = from.from in
    let stayed : Contains old w =
    All-contains (Contains old) (without_ward id old) w (All-filter (λ (v : Warded). not (v.id == id)) (Contains old) old (All-contains_itself old)) (subst (λ (ws : List Warded). Contains ws w) is from.there) in
    subst (Contains entries) from.is (each (entry_for w) (in_map entry_for old w stayed))

pub others_placed : (w : Warded) (old new : List Warded) (entries : List (ℕ × ℕ)) → new ≡ placed w old → HoldsEach (Contains (uses_of old)) entries → HoldsOthers w.id (Contains (uses_of new)) entries
others_placed w old new entries is each k live other =
    let from = from_map entry_for new k live in
    let v = from.from in
    subst (Contains entries) from.is
    (All-contains (λ (o : Warded). o.id ≢ w.id → Contains entries (entry_for o)) (placed w old) v
    (All-placed (λ (o : Warded). o.id ≢ w.id → Contains entries (entry_for o)) w old (λ not_it. absurd (not_it refl))
    (All-weaker (Contains old) (λ (o : Warded). o.id ≢ w.id → Contains entries (entry_for o)) (λ o there _. each (entry_for o) (in_map entry_for old o there)) old (All-contains_itself old)))
    (subst (λ (ws : List Warded). Contains ws v) is from.there) (λ same. other (ap (λ (o : ℕ × ℕ). o.1) (sym from.is) ∙ same)))

pub known_placed : (w : Warded) (old new : List Warded) → new ≡ placed w old → IsNew w.id old → IsKnownUse w.id (use_of (candidate_of w)) new
known_placed w old new is fresh c there number =
    let from = from_map candidate_of new c there in
    let v = from.from in
    sym (ap use_of from.is)
    ∙ All-contains (λ (o : Warded). o.id ≡ w.id → use_of (candidate_of o) ≡ use_of (candidate_of w)) (placed w old) v
    (All-placed (λ (o : Warded). o.id ≡ w.id → use_of (candidate_of o) ≡ use_of (candidate_of w)) w old (λ _. refl) (All-weaker (λ (o : Warded). o.id ≢ w.id) (λ (o : Warded). o.id ≡ w.id → use_of (candidate_of o) ≡ use_of (candidate_of w)) (λ o other same. absurd (other same)) old fresh))
    (subst (λ (ws : List Warded). Contains ws v) is from.there) (ap (λ (o : Candidate). o.id) from.is ∙ number)

noted_other : (now word id : ℕ) (w : Warded) → w.id ≢ id → noted_at now word id w ≡ w
noted_other now word id w other = ap (λ (b : Bool). cond b (record w { tries = (now, word) ∷ w.tries }) w) (same_no w.id id other)

noted_same : (now word id : ℕ) (w : Warded) → w.id ≡ id → noted_at now word id w ≡ record w { tries = (now, word) ∷ w.tries }
noted_same now word id w same = ap (λ (b : Bool). cond b (record w { tries = (now, word) ∷ w.tries }) w) (same_yes w.id id same)

noted_id : (now word id : ℕ) (w : Warded) → (noted_at now word id w).id ≡ w.id
noted_id now word id w = elim (w.id == id) as (λ (b : Bool). (cond b (record w { tries = (now, word) ∷ w.tries }) w).id ≡ w.id) [ true ↦ refl | false ↦ refl ]

-- what a try that lost made of them
pub record Noted (id now known : ℕ) (old new : List Warded) : Type 0 where
  pub word : ℕ
  pub told : known ≡ used_after now word
  pub sides : new ≡ map (noted_at now word id) old

pub long_noted : (id now known : ℕ) (old new : List Warded) → Noted id now known old new → length new ≡ length old
long_noted id now known old new noted = ap (λ (ws : List Warded). length ws) noted.sides ∙ length-map old (noted_at now noted.word id)

noted_by : (id now known place : ℕ) (old new : List Warded) → IsPlaceOf id place old → LosesAt now place known old new → Noted id now known old new
noted_by id now known place [] new of lost = let l = of.inside in absurd (omega (arith, l))
noted_by id now known place (w ∷ old) new of lost =
    let number : lost.at.id ≡ id = sym (ap (λ (o : Candidate). o.id) (lost.stood w)) ∙ of.number w in
    record {
      word = lost.word;
      told = lost.renewed;
      sides = lost.sides ∙ ap (λ (b : Bool). cond b (without_ward lost.at.id (w ∷ old)) (map (noted_at now lost.word lost.at.id) (w ∷ old))) (same_no lost.word (2 * use_of lost.at) lost.other)
          ∙ ap (λ (n : ℕ). map (noted_at now lost.word n) (w ∷ old)) number;
    }

pub noted_is : (id now known : ℕ) (old new : List Warded) → has_number (segments_of old) id ≡ true → Loses id now known old new → Noted id now known old new
noted_is id now known old new there loses = let found = has_place id old there in noted_by id now known found.place old new found.is (loses found.place found.is)

pub others_noted : (id now known : ℕ) (old new : List Warded) (entries : List (ℕ × ℕ)) → Noted id now known old new → HoldsEach (Contains (uses_of old)) entries → HoldsOthers id (Contains (uses_of new)) entries
others_noted id now known old new entries noted each k live other =
    let at = from_map entry_for new k live in
    let from = from_map (noted_at now noted.word id) old at.from (subst (λ (ws : List Warded). Contains ws at.from) noted.sides at.there) in
    let u = from.from in
    let number : u.id ≢ id = λ same. other (ap (λ (o : ℕ × ℕ). o.1) (sym at.is) ∙ ap (λ (o : Warded). o.id) (sym from.is) ∙ noted_id now noted.word id u ∙ same) in
    let is : entry_for u ≡ k = ap entry_for (sym (noted_other now noted.word id u number) ∙ from.is) ∙ at.is in
    subst (Contains entries) is (each (entry_for u) (in_map entry_for old u from.there))

pub known_noted : (id now known : ℕ) (old new : List Warded) → Noted id now known old new → IsKnownUse id known new
known_noted id now known old new noted c there number =
    let first = from_map candidate_of new c there in
    let from = from_map (noted_at now noted.word id) old first.from (subst (λ (ws : List Warded). Contains ws first.from) noted.sides first.there) in
    let u = from.from in
    let same : u.id ≡ id = sym (noted_id now noted.word id u) ∙ ap (λ (o : Warded). o.id) from.is ∙ ap (λ (o : Candidate). o.id) first.is ∙ number in
    sym (ap use_of first.is) ∙ sym (ap (λ (o : Warded). use_of (candidate_of o)) from.is) ∙ ap (λ (o : Warded). use_of (candidate_of o)) (noted_same now noted.word id u same) ∙ sym noted.told
