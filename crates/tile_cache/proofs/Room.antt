-- Runs of as many pages each, of which no two share a page, and which lie in some segments: no more than have room there.
use Rattle.std.proofs.Common.{◌≡◌, ℕ, zero, suc, ◌+◌, ◌-◌, ◌*◌, ◌/◌, ◌≤◌, ◌==◌, min, Bool, true, false, not, ◌&&◌, ◌||◌, cond, List, [], ◌∷◌, length, refl, sym, arith, ltb, leb}
use Rattle.std.specs.List.{All, filter, count_by, list_any}
use Rattle.std.specs.Prelude.{nat_le}
use Rattle.std.proofs.lemmas.Bool.{eqb-true, eq-eqb, leb-true, leb-false, ltb-true, ltb-false, and_parts, not-true, true≢false}
use Rattle.std.proofs.lemmas.Nat.{le-div}
use Rattle.std.proofs.lemmas.List.Elements.{All-head, All-tail, All-cons, All-nil, All-weaker}
use Rattle.std.proofs.lemmas.List.Filters.{sum_by-filter_both, length-filter_both}
use Rattle.std.proofs.lemmas.List.Sums.{sum_by-cons}
use Rattle.segment.specs.Owned.{Owned}
use Rattle.span_heap.specs.declared.run.Run.{Run}
use Rattle.span_heap.specs.Run.{has_page}
use Rattle.tile_cache.specs.Cached.{ShareNoPage}
use Rattle.tile_cache.specs.Bound.{room_in}

abbrev sum_below : (ℕ → ℕ) → ℕ → ℕ
sum_below f zero = 0
sum_below f (suc n) = sum_below f n + f n

below_none : (f : ℕ → ℕ) → ((k : ℕ) → f k ≡ 0) → (n : ℕ) → sum_below f n ≡ 0
below_none f none zero = refl
below_none f none (suc n) = omega (arith, below_none f none n, none n)

below_both : (f g h : ℕ → ℕ) → ((k : ℕ) → f k ≡ g k + h k) → (n : ℕ) → sum_below f n ≡ sum_below g n + sum_below h n
below_both f g h both zero = refl
below_both f g h both (suc n) = omega (arith, below_both f g h both n, both n)

below_once : (f : ℕ → ℕ) → ((k : ℕ) → f k ≤ 1) → (n : ℕ) → sum_below f n ≤ n
below_once f once zero = omega arith
below_once f once (suc n) = omega (arith, below_once f once n, once n)

-- how many pages below p are among those from first on
covered : (here : Bool) (first pages p : ℕ) → here ≡ true → sum_below (λ k. cond {A = ℕ} (here && (leb first k && ltb k (first + pages))) 1 0) p ≡ min p (first + pages) - min p first
covered false first pages p is = cc
covered true first pages zero is = omega arith
covered true first pages (suc p) is = go (leb first p) (ltb p (first + pages)) refl refl (covered true first pages p refl)
  where
    sum : ℕ
    sum = sum_below (λ k. cond {A = ℕ} (leb first k && ltb k (first + pages)) 1 0) p

    go : (a b : Bool) → leb first p ≡ a → ltb p (first + pages) ≡ b → sum ≡ min p (first + pages) - min p first → sum + cond {A = ℕ} (a && b) 1 0 ≡ min (suc p) (first + pages) - min (suc p) first
    go true true low high rest = omega (arith, rest, leb-true first p low, ltb-true p (first + pages) high)
    go true false low high rest = omega (arith, rest, leb-true first p low, ltb-false p (first + pages) high)
    go false b low high rest = omega (arith, rest, leb-false first p low)

-- the run lies within the segment of the side
abbrev pub holds : Owned → Run → Bool
holds side run = (side.id == run.segment) && nat_le (run.first + run.pages) side.pages

abbrev has_all : Owned → ℕ → List Run → Type 0
has_all side pages runs = All (λ (run : Run). (run.pages ≡ pages) × (holds side run ≡ true)) runs

-- the pages of runs within one segment, page by page
all_pages : (side : Owned) (pages : ℕ) (runs : List Run) → has_all side pages runs → sum_below (λ k. count_by (has_page side.id k) runs) side.pages ≡ length runs * pages
all_pages side pages [] all = omega (arith, below_none (λ k. count_by (has_page side.id k) []) (λ k. refl) side.pages)
all_pages side pages (run ∷ runs) all =
    let first = All-head (λ (run : Run). (run.pages ≡ pages) × (holds side run ≡ true)) run runs all in
    let parts = and_parts (side.id == run.segment) (nat_le (run.first + run.pages) side.pages) first.1 in
    let here : (run.segment == side.id) ≡ true = eq-eqb run.segment side.id (sym (eqb-true side.id run.segment parts.0)) in
    let less : run.first + run.pages ≤ side.pages = leb-true (run.first + run.pages) side.pages parts.1 in
    let both = below_both (λ k. count_by (has_page side.id k) (run ∷ runs)) (λ k. cond {A = ℕ} (has_page side.id k run) 1 0) (λ k. count_by (has_page side.id k) runs) (λ k. sum_by-cons (λ r. cond {A = ℕ} (has_page side.id k r) 1 0) run runs) side.pages in
    let one = covered (run.segment == side.id) run.first run.pages side.pages here in
    let rest = all_pages side pages runs (All-tail (λ (run : Run). (run.pages ≡ pages) × (holds side run ≡ true)) run runs all) in
    let more : suc (length runs) * pages ≡ pages + length runs * pages = omega arith in
    omega (arith, both, one, rest, less, first.0, more)

in_one : (side : Owned) (pages : ℕ) (runs : List Run) → 1 ≤ pages → has_all side pages runs → ShareNoPage runs → length runs ≤ side.pages / pages
in_one side pages runs some all once =
    let filled = below_once (λ k. count_by (has_page side.id k) runs) (λ k. once side.id k) side.pages in
    le-div (length runs) side.pages pages (omega (arith, some)) (omega (arith, filled, all_pages side pages runs all))

filter_all : {X : Type 0} (P : X → Type 0) (p : X → Bool) (xs : List X) → All P xs → All (λ x. P x × (p x ≡ true)) (filter p xs)
filter_all P p [] all = All-nil (λ x. P x × (p x ≡ true))
filter_all P p (x ∷ xs) all = go (p x) refl (filter_all P p xs (All-tail P x xs all))
  where
    go : (b : Bool) → p x ≡ b → All (λ x. P x × (p x ≡ true)) (filter p xs) → All (λ x. P x × (p x ≡ true)) (cond b (x ∷ filter p xs) (filter p xs))
    go true is rest = All-cons (λ x. P x × (p x ≡ true)) x (filter p xs) (All-head P x xs all, is) rest
    go false is rest = rest

once_in : (p : Run → Bool) (runs : List Run) → ShareNoPage runs → ShareNoPage (filter p runs) × ShareNoPage (filter (λ run. not (p run)) runs)
once_in p runs once = (
  λ id page. omega (arith, once id page, both id page),
  λ id page. omega (arith, once id page, both id page),
)
  where
    both : (id page : ℕ) → count_by (has_page id page) (filter p runs) + count_by (has_page id page) (filter (λ run. not (p run)) runs) ≡ count_by (has_page id page) runs
    both id page = sum_by-filter_both p (λ run. not (p run)) (λ _. refl) (λ run. cond {A = ℕ} (has_page id page run) 1 0) runs

-- each of the runs has these pages, and lies within one of the segments
abbrev pub HaveRoom : ℕ → List Owned → List Run → Type 0
HaveRoom pages sides runs = All (λ (run : Run). (run.pages ≡ pages) × (list_any (λ side. holds side run) sides ≡ true)) runs

pub room_for : (pages : ℕ) (sides : List Owned) (runs : List Run) → 1 ≤ pages → HaveRoom pages sides runs → ShareNoPage runs → length runs ≤ room_in pages sides
room_for pages [] [] some all once = omega arith
room_for pages [] (run ∷ runs) some all once = absurd (true≢false (sym (All-head (λ (run : Run). (run.pages ≡ pages) × (list_any (λ side. holds side run) [] ≡ true)) run runs all).1))
room_for pages (side ∷ sides) runs some all once =
    let split = length-filter_both (holds side) (λ run. not (holds side run)) (λ _. refl) runs in
    let apart = once_in (holds side) runs once in
    let inside = All-weaker (λ (run : Run). ((run.pages ≡ pages) × (list_any (λ side. holds side run) (side ∷ sides) ≡ true)) × (holds side run ≡ true)) (λ (run : Run). (run.pages ≡ pages) × (holds side run ≡ true)) (λ run is. (is.0.0, is.1)) (filter (holds side) runs)
    (filter_all (λ (run : Run). (run.pages ≡ pages) × (list_any (λ side. holds side run) (side ∷ sides) ≡ true)) (holds side) runs all) in
    let others = All-weaker (λ (run : Run). ((run.pages ≡ pages) × (list_any (λ side. holds side run) (side ∷ sides) ≡ true)) × (not (holds side run) ≡ true)) (λ (run : Run). (run.pages ≡ pages) × (list_any (λ side. holds side run) sides ≡ true))
    (λ run is. (is.0.0, elsewhere (holds side run) (list_any (λ side. holds side run) sides) is.0.1 (not-true (holds side run) is.1))) (filter (λ run. not (holds side run)) runs)
    (filter_all (λ (run : Run). (run.pages ≡ pages) × (list_any (λ side. holds side run) (side ∷ sides) ≡ true)) (λ run. not (holds side run)) runs all) in
    let here = in_one side pages (filter (holds side) runs) some inside apart.0 in
    let there = room_for pages sides (filter (λ run. not (holds side run)) runs) some others apart.1 in
    omega (arith, split, here, there, sum_by-cons (λ (side : Owned). side.pages / pages) side sides)
  where
    elsewhere : (a b : Bool) → (a || b) ≡ true → a ≡ false → b ≡ true
    elsewhere true b is none = cc
    elsewhere false b is none = is
