-- Sums and counts over lists, and how often a page is covered.
use Rattle.std.proofs.Common.{◌≡◌, ℕ, ◌+◌, ◌≤◌, Bool, true, false, not, ◌||◌, cond, List, [], ◌∷◌, length, get_or, refl, sym, ◌∙◌, ap, arith, ◌⊎◌, inl, inr, ◌&&◌, ltb, leb, eqb}
use Rattle.std.specs.List.{sum_by, count_by, filter, Contains, All}
use Rattle.std.proofs.lemmas.List.Sums.{sum_by-cons, get_or-le-sum_by, length-filter}
use Rattle.std.proofs.lemmas.List.Elements.{All-head, All-tail, filter_passes}
use Rattle.std.proofs.lemmas.Bool.Decides.{nat_tests}

sum_of_filtered_head : {X : Type 0} (f : X → ℕ) (p : X → Bool) (x : X) (xs : List X) (b : Bool) → sum_by f (cond b (x ∷ filter p xs) (filter p xs)) ≡ cond b (f x) 0 + sum_by f (filter p xs)
sum_of_filtered_head f p x xs true = sum_by-cons f x (filter p xs)
sum_of_filtered_head f p x xs false = omega arith

-- a sum over what passes a test
pub sum_by-filter : {X : Type 0} (f : X → ℕ) (p : X → Bool) (xs : List X) → sum_by f (filter p xs) ≡ sum_by (λ x. cond (p x) (f x) 0) xs
sum_by-filter f p [] = refl
sum_by-filter f p (x ∷ xs) =
    sum_of_filtered_head f p x xs (p x) ∙ (ap (λ n. cond (p x) (f x) 0 + n) (sum_by-filter f p xs) ∙ sym (sum_by-cons (λ y. cond (p y) (f y) 0) x xs))

-- sums of equal terms
pub sum_by-same : {X : Type 0} (f g : X → ℕ) (xs : List X) → ((x : X) → f x ≡ g x) → sum_by f xs ≡ sum_by g xs
sum_by-same f g [] same = refl
sum_by-same f g (x ∷ xs) same =
    omega (arith, sum_by-cons f x xs, sum_by-cons g x xs, same x, sum_by-same f g xs same)

-- a sum of nothing
pub sum_by-none : {X : Type 0} (f : X → ℕ) (xs : List X) → ((x : X) → f x ≡ 0) → sum_by f xs ≡ 0
sum_by-none f [] none = refl
sum_by-none f (x ∷ xs) none = omega (arith, sum_by-cons f x xs, none x, sum_by-none f xs none)

pub cond-le-cond : (a b : Bool) → (a ≡ true → b ≡ true) → cond a 1 0 ≤ cond b 1 0
cond-le-cond true b gives = rw (gives refl) (omega arith)
cond-le-cond false b gives = omega arith

-- a count of what is rarer, among elements that have P
pub count_by-le-count_by : {X : Type 0} (P : X → Type 0) (p q : X → Bool) (xs : List X) → All P xs → ((x : X) → P x → p x ≡ true → q x ≡ true) → count_by p xs ≤ count_by q xs
count_by-le-count_by P p q [] all gives = omega arith
count_by-le-count_by P p q (x ∷ xs) all gives =
    omega (
      arith,
      sum_by-cons (λ y. cond (p y) 1 0) x xs,
      sum_by-cons (λ y. cond (q y) 1 0) x xs,
      cond-le-cond (p x) (q x) (gives x (All-head P x xs all)),
      count_by-le-count_by P p q xs (All-tail P x xs all) gives,
    )

-- an element that passes is counted
pub counted : {X : Type 0} (p : X → Bool) (xs : List X) (x : X) → Contains xs x → p x ≡ true → 1 ≤ count_by p xs
counted {X} p xs x (k, within, is) passes =
    let f : X → ℕ = λ y. cond (p y) 1 0 in
    let one : f (get_or xs k x) ≡ 1 = rw is (rw passes refl) in
    omega (arith, one, get_or-le-sum_by f xs k x within)

at_most_one : {X : Type 0} (p : X → Bool) (ys : List X) → length ys ≤ 1 → All (λ x. p x ≡ true) ys → (ys ≡ []) ⊎ ((x : X) × (ys ≡ x ∷ []) × (p x ≡ true))
at_most_one p [] short passes = inl refl
at_most_one p (y ∷ []) short passes = inr (y, refl, All-head (λ x. p x ≡ true) y [] passes)
at_most_one p (y ∷ (z ∷ zs)) short passes = absurd (omega arith)

-- at most one element passes
pub filter_at_most_one : {X : Type 0} (p : X → Bool) (xs : List X) → count_by p xs ≤ 1 → (filter p xs ≡ []) ⊎ ((x : X) × (filter p xs ≡ x ∷ []) × (p x ≡ true))
filter_at_most_one p xs few = at_most_one p (filter p xs) (omega (arith, length-filter p xs)) (filter_passes p xs)

three_parts : (n : ℕ) (a b : Bool) → (a ≡ true → b ≡ false) → cond (not (a || b)) n 0 + (cond a n 0 + cond b n 0) ≡ n
three_parts n true b apart = rw (apart refl) (omega arith)
three_parts n false true apart = omega arith
three_parts n false false apart = omega arith

-- a list is what passes neither of two tests that no element passes both, what passes the first, and what passes the second
pub sum_of_three_parts : {X : Type 0} (f : X → ℕ) (p q : X → Bool) → ((x : X) → p x ≡ true → q x ≡ false) → (xs : List X)
    → sum_by f (filter (λ x. not (p x || q x)) xs) + (sum_by f (filter p xs) + sum_by f (filter q xs)) ≡ sum_by f xs
sum_of_three_parts f p q apart [] = refl
sum_of_three_parts f p q apart (x ∷ xs) =
    let rest = sum_of_three_parts f p q apart xs in
    let one = three_parts (f x) (p x) (q x) (apart x) in
    omega (
      arith,
      rest,
      one,
      sum_by-cons f x xs,
      sum_of_filtered_head f (λ y. not (p y || q y)) x xs (not (p x || q x)),
      sum_of_filtered_head f p x xs (p x),
      sum_of_filtered_head f q x xs (q x),
    )

-- 1 where the page is from a up to b in this segment, else 0
abbrev pub within : ℕ → ℕ → ℕ → ℕ → ℕ → ℕ
within id page segment a b = cond (eqb segment id && (leb a page && ltb page b)) 1 0

pub within-split : (id page segment a m b : ℕ) → a ≤ m → m ≤ b → within id page segment a b ≡ within id page segment a m + within id page segment m b
within-split id page segment a m b low high = grind (arith, nat_tests)

pub within-none : (id page segment a : ℕ) → within id page segment a a ≡ 0
within-none id page segment a = grind (arith, nat_tests)

pub within-empty : (id page segment a b : ℕ) → a ≡ b → within id page segment a b ≡ 0
within-empty id page segment a b e = ap (within id page segment a) (sym e) ∙ within-none id page segment a

pub within-same : (id page segment segment' a a' b b' : ℕ) → segment ≡ segment' → a ≡ a' → b ≡ b' → within id page segment a b ≡ within id page segment' a' b'
within-same id page segment segment' a a' b b' s e f =
    ap (λ x. within id page x a b) s ∙ (ap (λ x. within id page segment' x b) e ∙ ap (within id page segment' a') f)

pub cond-sum : (b : Bool) (x y z : ℕ) → x ≡ y + z → cond b x 0 ≡ cond b y 0 + cond b z 0
cond-sum true x y z e = e
cond-sum false x y z e = omega arith
