-- What one more try adds to the tries of a reduction.
use Rattle.std.proofs.Common.{◌≡◌, ℕ, ◌*◌, ◌==◌, ◌||◌, Bool, true, false, not, cond, List, [], ◌∷◌, ◌++◌, map, filter, Option, Some, None, unwrap_or, option_map, option_and_then, refl, sym, ap, ap₂, ◌∙◌, subst, arith}
use Rattle.std.specs.List.{list_any}
use Rattle.std.proofs.lemmas.Bool.Decides.{nat_tests}
use Rattle.std.proofs.lemmas.List.{append-nil, map-append, reverse-append}
use Rattle.std.proofs.lemmas.List.Elements.{filter-append}
use Rattle.std.proofs.lemmas.List.Folds.{list_any-append}
use Rattle.machine.specs.Reduction.{Candidate, use_of, least, has_ended, after_try, without, with_known, reduced, tries, found_on, purged_by}
use Rattle.segment.specs.Warded.{Warded}
use Rattle.lru_reduce.specs.Wards.{candidate_of, candidates_of, noted_at, wards_after, without_ward, used_after}
use Rattle.lru_reduce.specs.Reducing.{latest_first, gained, is_purged, left_after}

pub turned : (a b : ℕ) → (a == b) ≡ (b == a)
turned a b = grind (arith, nat_tests)

-- The definition, by its tries

-- these tries lead from some segments to others: each is on the least, where the reduction goes on
abbrev pub Runs : ℕ → ℕ → List Candidate → List (Candidate × ℕ) → List Candidate → Type 0
Runs limit now cs [] end = end ≡ cs
Runs limit now cs (t ∷ more) end = (has_ended limit now cs ≡ false) × (least cs ≡ Some t.0) × Runs limit now (after_try now t.1 t.0 cs) more end

abbrev pub words_of : List (Candidate × ℕ) → List ℕ
words_of found = map (λ (t : Candidate × ℕ). t.1) found

pub reduced_by : (limit now : ℕ) (cs : List Candidate) (found : List (Candidate × ℕ)) (end : List Candidate) → Runs limit now cs found end → has_ended limit now end ≡ true
    → reduced limit now cs (words_of found) ≡ Some end
unfolding reduced
reduced_by limit now cs [] end runs ended =
    subst (λ (es : List Candidate). cond (has_ended limit now cs) (Some cs) None ≡ Some es) (sym runs) (ap (λ (b : Bool). cond b (Some cs) None) (subst (λ (es : List Candidate). has_ended limit now es ≡ true) runs ended))
reduced_by limit now cs (t ∷ found) end runs ended =
    ap (λ (b : Bool). cond b None (option_and_then (λ (c : Candidate). reduced limit now (after_try now t.1 c cs) (words_of found)) (least cs))) runs.0
    ∙ ap (λ (o : Option Candidate). option_and_then (λ (c : Candidate). reduced limit now (after_try now t.1 c cs) (words_of found)) o) runs.1
    ∙ reduced_by limit now (after_try now t.1 t.0 cs) found end runs.2 ended

pub tries_by : (limit now : ℕ) (cs : List Candidate) (found : List (Candidate × ℕ)) (end : List Candidate) → Runs limit now cs found end → tries now cs (words_of found) ≡ found
unfolding tries
tries_by limit now cs [] end runs = refl
tries_by limit now cs (t ∷ found) end runs =
    ap (λ (o : Option Candidate). unwrap_or (option_map (λ (c : Candidate). (c, t.1) ∷ tries now (after_try now t.1 c cs) (words_of found)) o) []) runs.1
    ∙ ap (λ (more : List (Candidate × ℕ)). (t.0, t.1) ∷ more) (tries_by limit now (after_try now t.1 t.0 cs) found end runs.2)

pub runs_on : (limit now word : ℕ) (e : Candidate) (cs : List Candidate) (found : List (Candidate × ℕ)) (end : List Candidate) → Runs limit now cs found end
    → has_ended limit now end ≡ false → least end ≡ Some e → Runs limit now cs (found ++ (e, word) ∷ []) (after_try now word e end)
runs_on limit now word e cs [] end runs going first =
    (subst (λ (es : List Candidate). has_ended limit now es ≡ false) runs going, subst (λ (es : List Candidate). least es ≡ Some e) runs first, ap (λ (es : List Candidate). after_try now word e es) runs)
runs_on limit now word e cs (t ∷ found) end runs going first =
    (runs.0, runs.1, runs_on limit now word e (after_try now t.1 t.0 cs) found end runs.2 going first)

-- The segments that were purged

pub purged-more : (e : Candidate) (word : ℕ) (found : List (Candidate × ℕ)) → purged_by (found ++ (e, word) ∷ []) ≡ purged_by found ++ purged_by ((e, word) ∷ [])
purged-more e word found =
    ap (λ (ts : List (Candidate × ℕ)). map (λ (t : Candidate × ℕ). t.0) ts) (filter-append (λ (t : Candidate × ℕ). t.1 == 2 * use_of t.0) found ((e, word) ∷ []))
    ∙ map-append (λ (t : Candidate × ℕ). t.0) (filter (λ (t : Candidate × ℕ). t.1 == 2 * use_of t.0) found) (filter (λ (t : Candidate × ℕ). t.1 == 2 * use_of t.0) ((e, word) ∷ []))

pub purged-won : (e : Candidate) (word : ℕ) (found : List (Candidate × ℕ)) → (word == 2 * use_of e) ≡ true → purged_by (found ++ (e, word) ∷ []) ≡ purged_by found ++ e ∷ []
purged-won e word found won =
    purged-more e word found ∙ ap (λ (b : Bool). purged_by found ++ map (λ (t : Candidate × ℕ). t.0) (cond b ((e, word) ∷ []) [])) won

pub purged-lost : (e : Candidate) (word : ℕ) (found : List (Candidate × ℕ)) → (word == 2 * use_of e) ≡ false → purged_by (found ++ (e, word) ∷ []) ≡ purged_by found
purged-lost e word found lost =
    purged-more e word found ∙ ap (λ (b : Bool). purged_by found ++ map (λ (t : Candidate × ℕ). t.0) (cond b ((e, word) ∷ []) [])) lost ∙ append-nil (purged_by found)

-- The words that were found on one number

found-more : (id : ℕ) (e : Candidate) (word : ℕ) (found : List (Candidate × ℕ)) → found_on id (found ++ (e, word) ∷ []) ≡ found_on id found ++ cond (e.id == id) (word ∷ []) []
found-more id e word found =
    ap (λ (ts : List (Candidate × ℕ)). map (λ (t : Candidate × ℕ). t.1) ts) (filter-append (λ (t : Candidate × ℕ). t.0.id == id) found ((e, word) ∷ []))
    ∙ map-append (λ (t : Candidate × ℕ). t.1) (filter (λ (t : Candidate × ℕ). t.0.id == id) found) (filter (λ (t : Candidate × ℕ). t.0.id == id) ((e, word) ∷ []))
    ∙ ap (λ (ws : List ℕ). found_on id found ++ ws) (by_test (e.id == id))
  where
    by_test : (b : Bool) → map (λ (t : Candidate × ℕ). t.1) (cond b ((e, word) ∷ []) []) ≡ cond b (word ∷ []) []
    by_test true = refl
    by_test false = refl

-- a warden after one more try: it notes the try where it is on its number
gained-more : (now word : ℕ) (e : Candidate) (found : List (Candidate × ℕ)) (w : Warded) → gained now (found ++ (e, word) ∷ []) w ≡ noted_at now word e.id (gained now found w)
gained-more now word e found w =
    ap (λ (ws : List ℕ). record w { tries = latest_first now ws ++ w.tries }) (found-more w.id e word found)
    ∙ ap (λ (b : Bool). record w { tries = latest_first now (found_on w.id found ++ cond b (word ∷ []) []) ++ w.tries }) (turned e.id w.id)
    ∙ by_test (w.id == e.id)
  where
    before : List ℕ
    before = found_on w.id found

    by_test : (b : Bool) → record w { tries = latest_first now (before ++ cond b (word ∷ []) []) ++ w.tries }
        ≡ cond {A = Warded} b (record w { tries = (now, word) ∷ (latest_first now before ++ w.tries) }) (record w { tries = latest_first now before ++ w.tries })
    by_test true = ap (λ (ws : List ℕ). record w { tries = map (λ word. (now, word)) ws ++ w.tries }) (reverse-append before (word ∷ []))
    by_test false = ap (λ (ws : List ℕ). record w { tries = latest_first now ws ++ w.tries }) (append-nil before)

-- The wardens that are left

-- a map over a filter, one element at a time
map_filter : {X Y : Type 0} (f : X → Y) (p : X → Bool) (x : X) (xs : List X) → map f (filter p (x ∷ xs)) ≡ cond (p x) (f x ∷ map f (filter p xs)) (map f (filter p xs))
map_filter f p x xs = elim (p x) as (λ b. map f (cond b (x ∷ filter p xs) (filter p xs)) ≡ cond b (f x ∷ map f (filter p xs)) (map f (filter p xs))) [
  | true ↦ refl
  | false ↦ refl
]

fewer : (f g : Warded → Warded) (p q : Warded → Bool) (id : ℕ) (sides : List Warded) → ((w : Warded) → (f w).id ≡ w.id)
    → ((w : Warded) → q w ≡ (p w || (w.id == id))) → ((w : Warded) → (w.id == id) ≡ false → g w ≡ f w)
    → map g (filter (λ (w : Warded). not (q w)) sides) ≡ without_ward id (map f (filter (λ (w : Warded). not (p w)) sides))
fewer f g p q id [] named tests same = refl
fewer f g p q id (w ∷ sides) named tests same =
    map_filter g (λ (v : Warded). not (q v)) w sides
    ∙ ap₂ (λ (b : Bool) (ws : List Warded). cond (not b) (g w ∷ ws) ws) (tests w) (fewer f g p q id sides named tests same)
    ∙ by_tests (p w) (w.id == id) refl
    ∙ ap (λ (ws : List Warded). without_ward id ws) (sym (map_filter f (λ (v : Warded). not (p v)) w sides))
  where
    rest : List Warded
    rest = map f (filter (λ (v : Warded). not (p v)) sides)

    by_tests : (a b : Bool) → (w.id == id) ≡ b → cond (not (a || b)) (g w ∷ without_ward id rest) (without_ward id rest) ≡ without_ward id (cond (not a) (f w ∷ rest) rest)
    by_tests true b e = refl
    by_tests false true e = sym (ap (λ (c : Bool). cond (not c) (f w ∷ without_ward id rest) (without_ward id rest)) (ap (λ (n : ℕ). n == id) (named w) ∙ e))
    by_tests false false e =
        ap (λ (v : Warded). v ∷ without_ward id rest) (same w e)
        ∙ sym (ap (λ (c : Bool). cond (not c) (f w ∷ without_ward id rest) (without_ward id rest)) (ap (λ (n : ℕ). n == id) (named w) ∙ e))

newer : (f g h : Warded → Warded) (p q : Warded → Bool) (sides : List Warded) → ((w : Warded) → q w ≡ p w) → ((w : Warded) → g w ≡ h (f w))
    → map g (filter (λ (w : Warded). not (q w)) sides) ≡ map h (map f (filter (λ (w : Warded). not (p w)) sides))
newer f g h p q [] tests same = refl
newer f g h p q (w ∷ sides) tests same =
    map_filter g (λ (v : Warded). not (q v)) w sides
    ∙ ap₂ (λ (b : Bool) (ws : List Warded). cond (not b) (g w ∷ ws) ws) (tests w) (newer f g h p q sides tests same)
    ∙ ap (λ (v : Warded). cond (not (p w)) (v ∷ map h rest) (map h rest)) (same w)
    ∙ by_test (p w)
    ∙ ap (λ (ws : List Warded). map h ws) (sym (map_filter f (λ (v : Warded). not (p v)) w sides))
  where
    rest : List Warded
    rest = map f (filter (λ (v : Warded). not (p v)) sides)

    by_test : (a : Bool) → cond (not a) (h (f w) ∷ map h rest) (map h rest) ≡ map h (cond (not a) (f w ∷ rest) rest)
    by_test true = refl
    by_test false = refl

or_no : (b : Bool) → (b || false) ≡ b
or_no true = refl
or_no false = refl

is_purged-won : (id word : ℕ) (e : Candidate) (found : List (Candidate × ℕ)) → (word == 2 * use_of e) ≡ true → is_purged (found ++ (e, word) ∷ []) id ≡ (is_purged found id || (id == e.id))
is_purged-won id word e found won =
    ap (λ (cs : List Candidate). list_any (λ (c : Candidate). c.id == id) cs) (purged-won e word found won)
    ∙ list_any-append (λ (c : Candidate). c.id == id) (purged_by found) (e ∷ [])
    ∙ ap (λ (b : Bool). is_purged found id || b) (or_no (e.id == id) ∙ turned e.id id)

is_purged-lost : (id word : ℕ) (e : Candidate) (found : List (Candidate × ℕ)) → (word == 2 * use_of e) ≡ false → is_purged (found ++ (e, word) ∷ []) id ≡ is_purged found id
is_purged-lost id word e found lost = ap (λ (cs : List Candidate). list_any (λ (c : Candidate). c.id == id) cs) (purged-lost e word found lost)

left_by : (t : Bool) (now word : ℕ) (e : Candidate) (found : List (Candidate × ℕ)) (sides : List Warded) → (word == 2 * use_of e) ≡ t
    → left_after now (found ++ (e, word) ∷ []) sides ≡ cond t (without_ward e.id (left_after now found sides)) (map (noted_at now word e.id) (left_after now found sides))
left_by true now word e found sides won =
    fewer (gained now found) (gained now (found ++ (e, word) ∷ [])) (λ (w : Warded). is_purged found w.id) (λ (w : Warded). is_purged (found ++ (e, word) ∷ []) w.id) e.id sides
    (λ w. refl)
    (λ w. is_purged-won w.id word e found won)
    (λ w other. gained-more now word e found w ∙ ap (λ (b : Bool). cond b (record (gained now found w) { tries = (now, word) ∷ (gained now found w).tries }) (gained now found w)) other)
left_by false now word e found sides lost =
    newer (gained now found) (gained now (found ++ (e, word) ∷ [])) (noted_at now word e.id) (λ (w : Warded). is_purged found w.id) (λ (w : Warded). is_purged (found ++ (e, word) ∷ []) w.id) sides
    (λ w. is_purged-lost w.id word e found lost)
    (λ w. gained-more now word e found w)

pub left-more : (now word : ℕ) (e : Candidate) (found : List (Candidate × ℕ)) (sides : List Warded) → left_after now (found ++ (e, word) ∷ []) sides ≡ wards_after now word e (left_after now found sides)
left-more now word e found sides = left_by (word == 2 * use_of e) now word e found sides refl

pub left-none : (now : ℕ) (sides : List Warded) → left_after now [] sides ≡ sides
left-none now [] = refl
left-none now (w ∷ sides) = ap (λ (ws : List Warded). w ∷ ws) (left-none now sides)

-- What it does to the segments

candidates-but : (id : ℕ) (sides : List Warded) → candidates_of (without_ward id sides) ≡ without id (candidates_of sides)
candidates-but id [] = refl
candidates-but id (w ∷ sides) = elim (w.id == id) as (λ b. candidates_of (cond (not b) (w ∷ without_ward id sides) (without_ward id sides)) ≡ cond (not b) (candidate_of w ∷ without id (candidates_of sides)) (without id (candidates_of sides))) [
  | true ↦ candidates-but id sides
  | false ↦ ap (λ (more : List Candidate). candidate_of w ∷ more) (candidates-but id sides)
]

candidate-noted : (now word id : ℕ) (w : Warded) → candidate_of (noted_at now word id w) ≡ cond (w.id == id) (record (candidate_of w) { known = Some (used_after now word) }) (candidate_of w)
candidate-noted now word id w = elim (w.id == id) as (λ b. candidate_of (cond b (record w { tries = (now, word) ∷ w.tries }) w) ≡ cond b (record (candidate_of w) { known = Some (used_after now word) }) (candidate_of w)) [
  | true ↦ refl
  | false ↦ refl
]

candidates-noted : (now word id : ℕ) (sides : List Warded) → candidates_of (map (noted_at now word id) sides) ≡ with_known id (used_after now word) (candidates_of sides)
candidates-noted now word id [] = refl
candidates-noted now word id (w ∷ sides) = ap₂ (λ (c : Candidate) (more : List Candidate). c ∷ more) (candidate-noted now word id w) (candidates-noted now word id sides)

pub candidates-after : (now word : ℕ) (e : Candidate) (sides : List Warded) → candidates_of (wards_after now word e sides) ≡ after_try now word e (candidates_of sides)
candidates-after now word e sides = elim (word == 2 * use_of e) as (λ b. candidates_of (cond b (without_ward e.id sides) (map (noted_at now word e.id) sides))
    ≡ cond b (without e.id (candidates_of sides)) (with_known e.id (used_after now word) (candidates_of sides))) [
      | true ↦ candidates-but e.id sides
      | false ↦ candidates-noted now word e.id sides
    ]
