-- The run that a search takes stands in the list of its class.
use Rattle.std.proofs.Common.{◌≡◌, ℕ, suc, ◌+◌, ◌<◌, ◌≤◌, min, Bool, true, false, not, ◌&&◌, cond, eqb, List, [], ◌∷◌, ◌++◌, length, map, get_or, Option, Some, None, MatchOption, refl, sym, ◌∙◌, ap, subst, arith, inl, inr, append_assoc}
use Rattle.std.specs.List.{filter, All, last_or, count_by}
use Rattle.std.proofs.lemmas.List.{map-append, append-nil, get_or_past}
use Rattle.std.proofs.lemmas.List.Elements.{All-head, All-tail, All-cons, All-nil, All-map}
use Rattle.std.proofs.lemmas.List.Sums.{sum_by-cons, sum_by-append}
use Rattle.std.proofs.lemmas.Bool.{cases_eq, cases_lt, cases_Bool, eq-eqb, ne_eqb, eqb-true, and_parts, both_ways, leb-true, le-leb, and_from}
use Rattle.free_lists.specs.Lists.{Classes, list_of, class_of_run}
use Rattle.span_heap.specs.declared.run.Run.{Run}
use Rattle.span_heap.specs.Pick.{fits, is_long, least_length, exact_length, pick}
use Rattle.span_heap.specs.Placed.{run_at, IsByClass, IsDistinct, rank}
use Rattle.span_heap.proofs.SearchTakesThePick.{takes_fitting, skips_unfitting, skips_longer, pick-none, pick_has_pages}

-- the last of a list
last_or-there : (x : ℕ) (xs : List ℕ) → last_or (Some x) xs ≡ None → ⊥
last_or-there x [] none = no_some none
  where
    no_some : Some x ≡ None → ⊥
    no_some e = cc
last_or-there x (y ∷ ys) none = last_or-there y ys none

pub last_or-none : (xs : List ℕ) → last_or None xs ≡ None → xs ≡ []
last_or-none [] none = refl
last_or-none (x ∷ xs) none = absurd (last_or-there x xs none)

last_or-from : (x : ℕ) (xs : List ℕ) (y : ℕ) → last_or (Some x) xs ≡ Some y → (older : List ℕ) × (x ∷ xs ≡ older ++ y ∷ [])
last_or-from x [] y is =
    let same : x ≡ y = cc in
    ([], ap (λ z. z ∷ []) same)
last_or-from x (z ∷ xs) y is =
    let rest = last_or-from z xs y is in
    (x ∷ rest.0, ap (λ zs. x ∷ zs) rest.1)

pub last_or-some : (xs : List ℕ) (y : ℕ) → last_or None xs ≡ Some y → (older : List ℕ) × (xs ≡ older ++ y ∷ [])
last_or-some [] y is = absurd (no_some is)
  where
    no_some : None ≡ Some y → ⊥
    no_some e = cc
last_or-some (x ∷ xs) y is = last_or-from x xs y is

-- how far a place stands from the front
one_there : (older newer : List ℕ) (place : ℕ) → 1 ≤ count_by (λ other. eqb other place) (older ++ place ∷ newer)
one_there older newer place =
    let one : cond {A = ℕ} (eqb place place) 1 0 ≡ 1 = rw (eq-eqb place place refl) refl in
    omega (
      arith,
      one,
      sum_by-append (λ other. cond {A = ℕ} (eqb other place) 1 0) older (place ∷ newer),
      sum_by-cons (λ other. cond {A = ℕ} (eqb other place) 1 0) place newer,
    )

rank_most : (older newer : List ℕ) (place : ℕ) → rank (older ++ place ∷ newer) (Some place) ≤ length older + 1
rank_most [] newer place = rw (eq-eqb place place refl) (omega arith)
rank_most (other ∷ older) newer place = go (eqb other place) (rank_most older newer place)
  where
    go : (b : Bool) → rank (older ++ place ∷ newer) (Some place) ≤ length older + 1 → cond b 1 (suc (rank (older ++ place ∷ newer) (Some place))) ≤ length (other ∷ older) + 1
    go true low = omega arith
    go false low = omega (arith, low)

rank_least : (older newer : List ℕ) (place : ℕ) → count_by (λ other. eqb other place) (older ++ place ∷ newer) ≤ 1 → length older + 1 ≤ rank (older ++ place ∷ newer) (Some place)
rank_least [] newer place few = rw (eq-eqb place place refl) (omega arith)
rank_least (other ∷ older) newer place few =
    let sum = sum_by-cons (λ x. cond {A = ℕ} (eqb x place) 1 0) other (older ++ place ∷ newer) in
    elim (cases_eq other place) [
      | inl same ↦
          let one : cond {A = ℕ} (eqb other place) 1 0 ≡ 1 = rw (eq-eqb other place same) refl in
          absurd (omega (arith, sum, one, few, one_there older newer place))
      | inr differs ↦
          let none : cond {A = ℕ} (eqb other place) 1 0 ≡ 0 = rw (ne_eqb other place differs) refl in
          rw (ne_eqb other place differs) (omega (arith, rank_least older newer place (omega (arith, sum, none, few))))
    ]

rank_before : (list older newer : List ℕ) (before : Option ℕ) → list ≡ older ++ newer → before ≡ last_or None older → rank list before ≤ length older
rank_before list older newer None is last = omega arith
rank_before list older newer (Some place) is last =
    let cut = last_or-some older place (sym last) in
    let same : list ≡ cut.0 ++ place ∷ newer = is ∙ (ap (λ xs. xs ++ newer) cut.1 ∙ append_assoc cut.0 (place ∷ []) newer) in
    rw same (omega (arith, rank_most cut.0 newer place, ap length cut.1, length_of cut.0))
  where
    length_of : (xs : List ℕ) → length (xs ++ place ∷ []) ≡ length xs + 1
    length_of [] = omega arith
    length_of (x ∷ xs) = omega (arith, length_of xs)

pub rank_falls : (list older newer : List ℕ) (place : ℕ) (before : Option ℕ) → IsDistinct list → list ≡ older ++ place ∷ newer → before ≡ last_or None older
    → rank list before < rank list (Some place)
rank_falls list older newer place before distinct is last =
    omega (arith, rank_before list older (place ∷ newer) before is last, rw (← is) at (rank_least older newer place (rw is at (distinct place))))

-- a fitting run, than which no fitting run is shorter, and those behind it are longer
least_of_all : (m : ℕ) (runs : List Run) (n slack : ℕ) → m ≤ 256 → All (λ run. fits n slack run ≡ true → m ≤ min run.pages 256) runs → m ≤ exact_length runs n slack
least_of_all m [] n slack low all = low
least_of_all m (run ∷ runs) n slack low all =
    go (fits n slack run && not (is_long run)) refl
    (least_of_all m runs n slack low (All-tail (λ (x : Run). fits n slack x ≡ true → m ≤ min x.pages 256) run runs all))
    (All-head (λ (x : Run). fits n slack x ≡ true → m ≤ min x.pages 256) run runs all)
  where
    go : (b : Bool) → (fits n slack run && not (is_long run)) ≡ b → m ≤ exact_length runs n slack → (fits n slack run ≡ true → m ≤ min run.pages 256)
        → m ≤ least_length (cond b (run ∷ filter (λ x. fits n slack x && not (is_long x)) runs) (filter (λ x. fits n slack x && not (is_long x)) runs))
    go true is rest here = omega (arith, rest, here ((and_parts _ _ is).0))
    go false is rest here = rest

later : (m : ℕ) (run : Run) (n slack : ℕ) (newer older : List Run) → m < 257 → (exact_length older n slack ≡ m) × (pick older n slack ≡ Some run)
    → All (λ other. fits n slack other ≡ true → m < min other.pages 256) newer → pick (older ++ newer) n slack ≡ Some run
later m run n slack [] older low picked all = rw (append-nil older) picked.1
later m run n slack (other ∷ newer) older low picked all =
    rw (← append_assoc older (other ∷ []) newer)
    (later m run n slack newer (older ++ other ∷ []) low
    (elim (cases_Bool (fits n slack other)) [
      | inl fit ↦
          let more = All-head (λ (x : Run). fits n slack x ≡ true → m < min x.pages 256) other newer all fit in
          let same = skips_longer older other n slack (omega (arith, more, picked.0)) in
          (same.0 ∙ picked.0, same.1 ∙ picked.1)
      | inr unfit ↦
          let same = skips_unfitting older other n slack unfit in
          (same.0 ∙ picked.0, same.1 ∙ picked.1)
    ])
    (All-tail (λ (x : Run). fits n slack x ≡ true → m < min x.pages 256) other newer all))

pick-cut : (run : Run) (n slack : ℕ) (older newer : List Run) → fits n slack run ≡ true → All (λ other. fits n slack other ≡ true → min run.pages 256 ≤ min other.pages 256) older
    → All (λ other. fits n slack other ≡ true → min run.pages 256 < min other.pages 256) newer → pick (older ++ run ∷ newer) n slack ≡ Some run
pick-cut run n slack older newer fit before behind =
    rw (← append_assoc older (run ∷ []) newer)
    (later (min run.pages 256) run n slack newer (older ++ run ∷ []) (omega arith)
    (takes_fitting older run n slack fit (least_of_all (min run.pages 256) older n slack (omega arith) before)) behind)

-- where a filtered list is cut, the list is cut
pub filter_cut : (test : ℕ → Bool) (xs older newer : List ℕ) (y : ℕ) → filter test xs ≡ older ++ y ∷ newer
    → (before : List ℕ) × (behind : List ℕ) × (xs ≡ before ++ y ∷ behind) × (filter test behind ≡ newer) × (test y ≡ true)
filter_cut test [] [] newer y is = absurd (nothing is)
  where
    nothing : [] ≡ y ∷ newer → ⊥
    nothing e = omega (arith, ap length e)
filter_cut test [] (z ∷ older) newer y is = absurd (nothing is)
  where
    nothing : [] ≡ z ∷ (older ++ y ∷ newer) → ⊥
    nothing e = omega (arith, ap length e)
filter_cut test (x ∷ xs) older newer y is = go (test x) refl older (filter_cut test xs) is
  where
    go : (b : Bool) → test x ≡ b → (older : List ℕ)
        → ((older newer : List ℕ) (y : ℕ) → filter test xs ≡ older ++ y ∷ newer → (before : List ℕ) × (behind : List ℕ) × (xs ≡ before ++ y ∷ behind) × (filter test behind ≡ newer) × (test y ≡ true))
        → cond b (x ∷ filter test xs) (filter test xs) ≡ older ++ y ∷ newer
        → (before : List ℕ) × (behind : List ℕ) × (x ∷ xs ≡ before ++ y ∷ behind) × (filter test behind ≡ newer) × (test y ≡ true)
    go false passes older rest e =
        let cut = rest older newer y e in
        (x ∷ cut.0, cut.1, ap (λ zs. x ∷ zs) cut.2, cut.3, cut.4)
    go true passes [] rest e =
        let same : x ≡ y = cc in
        let tail : filter test xs ≡ newer = cc in
        ([], xs, ap (λ z. z ∷ xs) same, tail, ap test (sym same) ∙ passes)
    go true passes (z ∷ older) rest e =
        let tail : filter test xs ≡ older ++ y ∷ newer = cc in
        let cut = rest older newer y tail in
        (x ∷ cut.0, cut.1, ap (λ zs. x ∷ zs) cut.2, cut.3, cut.4)

-- what holds of all that pass
All-passed : (P : ℕ → Type 0) (test : ℕ → Bool) (xs : List ℕ) → All P (filter test xs) → All (λ x. test x ≡ true → P x) xs
All-passed P test [] all = All-nil (λ x. test x ≡ true → P x)
All-passed P test (x ∷ xs) all = go (test x) refl (All-passed P test xs) all
  where
    go : (b : Bool) → test x ≡ b → (All P (filter test xs) → All (λ y. test y ≡ true → P y) xs) → All P (cond b (x ∷ filter test xs) (filter test xs)) → All (λ y. test y ≡ true → P y) (x ∷ xs)
    go true is rest all = All-cons (λ y. test y ≡ true → P y) x xs (λ e. All-head P x (filter test xs) all) (rest (All-tail P x (filter test xs) all))
    go false is rest all = All-cons (λ y. test y ≡ true → P y) x xs (λ e. absurd (both_ways (test x) is e)) (rest all)

All-front : (P : ℕ → Type 0) (xs ys : List ℕ) → All P (xs ++ ys) → All P xs
All-front P [] ys all = All-nil P
All-front P (x ∷ xs) ys all = All-cons P x xs (All-head P x (xs ++ ys) all) (All-front P xs ys (All-tail P x (xs ++ ys) all))

All-back : (P : ℕ → Type 0) (xs ys : List ℕ) → All P (xs ++ ys) → All P ys
All-back P [] ys all = all
All-back P (x ∷ xs) ys all = All-back P xs ys (All-tail P x (xs ++ ys) all)

class : List Run → ℕ → ℕ
class runs place = class_of_run (run_at runs place).pages

-- where the lists of lesser classes are empty, no fitting run is of such a class
no_less : (lists : Classes) (runs : List Run) (order : List ℕ) (n slack c : ℕ) → IsByClass lists runs order → 1 ≤ n → c ≤ 256
    → ((k : ℕ) → n ≤ k → k ≤ n + slack → k < c → list_of lists k ≡ [])
    → All (λ place. fits n slack (run_at runs place) ≡ true → c ≤ min (run_at runs place).pages 256) order
no_less lists runs order n slack c by_class some most empty =
    λ k d within fit.
    elim (cases_lt (min (run_at runs (get_or order k d)).pages 256) c) [
      | inr high ↦ high
      | inl low ↦
          let parts = and_parts _ _ fit in
          let same : min (run_at runs (get_or order k d)).pages 256 ≡ (run_at runs (get_or order k d)).pages = omega (arith, low, most) in
          let from = leb-true n (run_at runs (get_or order k d)).pages parts.0 in
          let to = leb-true (run_at runs (get_or order k d)).pages (n + slack) parts.1 in
          let is_empty = sym (by_class (min (run_at runs (get_or order k d)).pages 256)) ∙ empty (min (run_at runs (get_or order k d)).pages 256) (omega (arith, same, from)) (omega (arith, same, to)) low in
          let none = All-passed (λ p. ⊥) (λ p. eqb (min (run_at runs p).pages 256) (min (run_at runs (get_or order k d)).pages 256)) order (subst (All (λ p. ⊥)) (sym is_empty) (All-nil (λ p. ⊥))) in
          absurd (none k d within (eq-eqb _ _ refl))
    ]

pub picks : (lists : Classes) (runs : List Run) (order : List ℕ) (n slack c place : ℕ) (older newer : List ℕ) → IsByClass lists runs order → 1 ≤ n → 1 ≤ c → c ≤ 256
    → ((k : ℕ) → n ≤ k → k ≤ n + slack → k < c → list_of lists k ≡ []) → list_of lists c ≡ older ++ place ∷ newer
    → (min (run_at runs place).pages 256 ≡ c → fits n slack (run_at runs place) ≡ true) → All (λ other. fits n slack (run_at runs other) ≡ false) newer
    → pick (map (run_at runs) order) n slack ≡ Some (run_at runs place)
picks lists runs order n slack c place older newer by_class some one most empty is fit unfit =
    let test : ℕ → Bool = λ p. eqb (min (run_at runs p).pages 256) c in
    let cut = filter_cut test order older newer place (sym (by_class c) ∙ is) in
    let of_class : min (run_at runs place).pages 256 ≡ c = eqb-true _ _ cut.4 in
    let least = subst (All (λ p. fits n slack (run_at runs p) ≡ true → c ≤ min (run_at runs p).pages 256)) cut.2 (no_less lists runs order n slack c by_class some most empty) in
    let before = All-front (λ p. fits n slack (run_at runs p) ≡ true → c ≤ min (run_at runs p).pages 256) cut.0 (place ∷ cut.1) least in
    let behind = All-tail (λ p. fits n slack (run_at runs p) ≡ true → c ≤ min (run_at runs p).pages 256) place cut.1
    (All-back (λ p. fits n slack (run_at runs p) ≡ true → c ≤ min (run_at runs p).pages 256) cut.0 (place ∷ cut.1) least) in
    let others = All-passed (λ p. fits n slack (run_at runs p) ≡ false) test cut.1 (subst (All (λ p. fits n slack (run_at runs p) ≡ false)) (sym cut.3) unfit) in
    rw (cut.2, map-append (run_at runs) cut.0 (place ∷ cut.1))
    (pick-cut (run_at runs place) n slack (map (run_at runs) cut.0) (map (run_at runs) cut.1) (fit of_class)
    (All-map (λ (other : Run). fits n slack other ≡ true → min (run_at runs place).pages 256 ≤ min other.pages 256) (run_at runs) cut.0
    (λ k d within e. omega (arith, of_class, before k d within e)))
    (All-map (λ (other : Run). fits n slack other ≡ true → min (run_at runs place).pages 256 < min other.pages 256) (run_at runs) cut.1
    (λ k d within e. elim (cases_eq (min (run_at runs (get_or cut.1 k d)).pages 256) c) [
      | inl same ↦ absurd (both_ways _ (others k d within (eq-eqb _ _ same)) e)
      | inr differs ↦ omega (arith, of_class, behind k d within e, differs)
    ])))

pub nothing_picked : (lists : Classes) (runs : List Run) (order : List ℕ) (n slack : ℕ) → IsByClass lists runs order → 1 ≤ n
    → ((k : ℕ) → n ≤ k → k ≤ n + slack → k < 256 → list_of lists k ≡ []) → All (λ other. fits n slack (run_at runs other) ≡ false) (list_of lists 256)
    → pick (map (run_at runs) order) n slack ≡ None
nothing_picked lists runs order n slack by_class some empty unfit =
    let least = no_less lists runs order n slack 256 by_class some (omega arith) empty in
    let others = All-passed (λ p. fits n slack (run_at runs p) ≡ false) (λ p. eqb (min (run_at runs p).pages 256) 256) order
    (subst (All (λ p. fits n slack (run_at runs p) ≡ false)) (by_class 256) unfit) in
    (pick-none (map (run_at runs) order) n slack).1
    (All-map (λ (other : Run). fits n slack other ≡ false) (run_at runs) order
    (λ k d within. elim (cases_Bool (fits n slack (run_at runs (get_or order k d)))) [
      | inr unfits ↦ unfits
      | inl fit ↦ others k d within (eq-eqb _ _ (omega (arith, least k d within fit)))
    ]))

-- a run of its class below 256 fits where that class does
pub fits_exact : (runs : List Run) (n slack c place : ℕ) → n ≤ c → c ≤ n + slack → c < 256 → min (run_at runs place).pages 256 ≡ c → fits n slack (run_at runs place) ≡ true
fits_exact runs n slack c place low high short of_class =
    and_from _ _ (le-leb n (run_at runs place).pages (omega (arith, low, of_class, short))) (le-leb (run_at runs place).pages (n + slack) (omega (arith, high, of_class, short)))

-- the place at hand stands at the end of what is still to be seen
pub at_cut : (list older newer : List ℕ) (at : Option ℕ) (place : ℕ) → list ≡ older ++ newer → at ≡ last_or None older → at ≡ Some place
    → (before : List ℕ) × (list ≡ before ++ place ∷ newer)
at_cut list older newer at place is last here =
    let cut = last_or-some older place (sym last ∙ here) in
    (cut.0, is ∙ (ap (λ xs. xs ++ newer) cut.1 ∙ append_assoc cut.0 (place ∷ []) newer))

pub All-cut : (P : ℕ → Type 0) (list before newer : List ℕ) (place : ℕ) → list ≡ before ++ place ∷ newer → All P list → P place
All-cut P list before newer place is all = All-head P place newer (All-back P before (place ∷ newer) (subst (All P) is all))

pub match_to : (P P' : Type 0) (Q Q' : ℕ → Type 0) (r : Option ℕ) → (P → P') → ((place : ℕ) → Q place → Q' place) → MatchOption r P Q → MatchOption r P' Q'
match_to P P' Q Q' None none some met = none met
match_to P P' Q Q' (Some place) none some met = some place met

-- a picked run is kept under its place
pub picked_within : (runs : List Run) (order : List ℕ) (n slack place : ℕ) → 1 ≤ n → pick (map (run_at runs) order) n slack ≡ Some (run_at runs place) → place < length runs
picked_within runs order n slack place some picked =
    elim (cases_lt place (length runs)) [
      | inl low ↦ low
      | inr past ↦
          absurd (omega (
            arith,
            some,
            pick_has_pages (map (run_at runs) order) n slack (run_at runs place) picked,
            ap {B = ℕ} (λ (run : Run). run.pages) (get_or_past runs place (record { segment = 0; first = 0; pages = 0 }) past),
          ))
    ]
