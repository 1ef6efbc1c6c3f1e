-- Decimal digits, read from the front.
use Rattle.std.proofs.Common.{◌≡◌, ℕ, zero, suc, ◌+◌, ◌-◌, ◌*◌, ◌^◌, ◌<◌, ◌≤◌, Bool, true, false, cond, ltb, ◌&&◌, List, [], ◌∷◌, ◌++◌, length, take, drop, get_or, Some, None, refl, sym, ap, ◌∙◌, arith, length-append}
use Rattle.std.proofs.lemmas.List.{take_more, take-append-drop, take_all}
use Rattle.std.proofs.lemmas.List.Folds.{list_all_more}
use Rattle.std.proofs.lemmas.Nat.{pow-add}
use Rattle.std.proofs.lemmas.Bool.{le-ltb, lt-ltb}
use Rattle.std.specs.Char.{is_ascii_digit}
use Rattle.std.specs.List.{list_all}
use Rattle.line_text.specs.Number.{decimal_value, decimal_of}

regroup : (d p q v w : ℕ) → d * (p * q) + (v * q + w) ≡ (d * p + v) * q + w
regroup d p q v w = omega arith

-- the value of digits in two parts
pub decimal_value-append : (xs ys : List ℕ) → decimal_value (xs ++ ys) ≡ decimal_value xs * 10 ^ length ys + decimal_value ys
decimal_value-append [] ys = omega arith
decimal_value-append (b ∷ xs) ys =
    let power : 10 ^ length (xs ++ ys) ≡ 10 ^ length xs * 10 ^ length ys =
    ap (λ (n : ℕ). 10 ^ n) (length-append xs ys) ∙ pow-add 10 (length xs) (length ys) in
    rw (power, decimal_value-append xs ys) (regroup (b - 48) (10 ^ length xs) (10 ^ length ys) (decimal_value xs) (decimal_value ys))

-- the value of the first digits, with one more
pub decimal_value_more : (xs : List ℕ) (i : ℕ) → i < length xs → decimal_value (take (i + 1) xs) ≡ decimal_value (take i xs) * 10 + (get_or xs i 0 - 48)
decimal_value_more xs i h =
    ap decimal_value (take_more xs i 0 h) ∙ (decimal_value-append (take i xs) (get_or xs i 0 ∷ []) ∙ omega arith)

pub raised : (v p : ℕ) → 1 ≤ p → v ≤ v * p
raised v zero h = absurd (omega arith)
raised v (suc p) h = omega arith

pub power_positive : (n : ℕ) → 1 ≤ 10 ^ n
power_positive zero = omega arith
power_positive (suc n) = let ih = power_positive n in omega arith

-- the first digits are worth no more than all
pub decimal_value_grows : (xs : List ℕ) (i : ℕ) → decimal_value (take i xs) ≤ decimal_value xs
decimal_value_grows xs i =
    let parts = decimal_value-append (take i xs) (drop i xs) in
    let whole = ap decimal_value (take-append-drop i xs) in
    omega (arith, raised (decimal_value (take i xs)) (10 ^ length (drop i xs)) (power_positive (length (drop i xs))))

none_if_false : (b t : Bool) (v : ℕ) → t ≡ false → cond (b && t) (Some v) None ≡ None
none_if_false b false v h = elim b as (λ c. cond (c && false) (Some v) None ≡ None) [ true ↦ refl | false ↦ refl ]
none_if_false b true v h = absurd cc

-- one more digit
pub digits_more : (xs : List ℕ) (i : ℕ) (r : Bool) → i < length xs → list_all is_ascii_digit (take i xs) ≡ true → r ≡ is_ascii_digit (get_or xs i 0) → r ≡ true → list_all is_ascii_digit (take (i + 1) xs) ≡ true
digits_more xs i r h before e is_one = list_all_more is_ascii_digit xs i 0 h ∙ rw (before, ← e, is_one) refl

-- digits that pass the end of u64 are no number
pub decimal_of_large : (xs : List ℕ) (i : ℕ) → i < length xs → 2 ^ 64 ≤ decimal_value (take i xs) * 10 + (get_or xs i 0 - 48) → decimal_of xs ≡ None
decimal_of_large xs i h large =
    let one_more = decimal_value_more xs i h in
    let grows = decimal_value_grows xs (i + 1) in
    none_if_false (list_all is_ascii_digit xs) (ltb (decimal_value xs) (2 ^ 64)) (decimal_value xs) (le-ltb (decimal_value xs) (2 ^ 64) (omega arith))

-- all bytes are digits
pub decimal_of_all : (xs : List ℕ) (i value : ℕ) → length xs ≤ i → list_all is_ascii_digit (take i xs) ≡ true → value ≡ decimal_value (take i xs) → value < 2 ^ 64 → Some value ≡ decimal_of xs
decimal_of_all xs i value all digits e fits =
    let same : take i xs ≡ xs = take_all i xs all in
    let tested : list_all is_ascii_digit xs ≡ true = ap (list_all is_ascii_digit) (sym same) ∙ digits in
    let worth : value ≡ decimal_value xs = e ∙ ap decimal_value same in
    rw (tested, ← worth) (ap (λ (b : Bool). cond b (Some value) None) (sym (lt-ltb value (2 ^ 64) fits)))
