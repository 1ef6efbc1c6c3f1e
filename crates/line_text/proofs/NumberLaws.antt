-- A word is a number exactly where it is how that number is written.
use Rattle.std.proofs.Common.{◌≡◌, ◌≢◌, ℕ, zero, suc, ◌+◌, ◌-◌, ◌*◌, ◌/◌, ◌%◌, ◌^◌, ◌<◌, ◌≤◌, Bool, true, false, cond, ltb, leb, eqb, ◌&&◌, List, [], ◌∷◌, ◌++◌, length, take, get_or, Option, Some, None, refl, sym, ap, ◌∙◌, arith, length-append}
use Rattle.std.specs.Char.{is_ascii_digit}
use Rattle.std.specs.Fmt.{decimal}
use Rattle.std.specs.List.{list_all}
use Rattle.std.proofs.lemmas.Bool.{and_parts, le-leb, leb-true, lt-ltb, ltb-true, eqb-false}
use Rattle.std.proofs.lemmas.Bool.Decides.{nat_tests}
use Rattle.std.proofs.lemmas.Fmt.{decimal_by_steps, decimal_digit, decimal_step}
use Rattle.std.proofs.lemmas.List.{take_more, take_all, length-take-le, get_or-take, get_or_append_left}
use Rattle.std.proofs.lemmas.List.Folds.{list_all-append}
use Rattle.std.proofs.lemmas.Option.{cond_some}
use Rattle.line_text.specs.Number.{decimal_value, decimal_of, number_of}
use Rattle.line_text.proofs.Decimal.{decimal_value-append, decimal_value_more, raised, power_positive}

is_digit : (c : ℕ) → 48 ≤ c → c ≤ 57 → is_ascii_digit c ≡ true
is_digit c low high = rw (le-leb 48 c low, le-leb c 57 high) refl

digit_bounds : (c : ℕ) → is_ascii_digit c ≡ true → (48 ≤ c) × (c ≤ 57)
digit_bounds c e = let parts = and_parts (leb 48 c) (leb c 57) e in (leb-true 48 c parts.0, leb-true c 57 parts.1)

-- digits of this worth, with no zero in front of others
record IsPlain (n : ℕ) (ds : List ℕ) : Type 0 where
  digits : list_all is_ascii_digit ds ≡ true
  worth : decimal_value ds ≡ n
  some : 0 < length ds
  first : 1 < length ds → 48 < get_or ds 0 0

-- the same, and no zero in front of a number above 0
record IsWritten (n : ℕ) (ds : List ℕ) : Type 0 where
  plain : IsPlain n ds
  lead : 0 < n → 48 < get_or ds 0 0

one_digit : (n : ℕ) → n < 10 → IsWritten n ((48 + n) ∷ [])
one_digit n h = record {
  plain = record { digits = rw (is_digit (48 + n) (omega arith) (omega arith)) refl; worth = omega arith; some = omega arith; first = λ p. absurd (omega arith) };
  lead = λ p. omega arith;
}

digit_more : (n : ℕ) (ds : List ℕ) → 10 ≤ n → IsWritten (n / 10) ds → IsWritten n (ds ++ ((48 + n % 10) ∷ []))
digit_more n ds h w =
    let c = 48 + n % 10 in
    let digit : is_ascii_digit c ≡ true = is_digit c (omega arith) (omega arith) in
    let front : get_or (ds ++ c ∷ []) 0 0 ≡ get_or ds 0 0 = get_or_append_left ds (c ∷ []) 0 0 w.plain.some in
    let lead = w.lead (omega arith) in
    record {
      plain = record {
        digits = list_all-append is_ascii_digit ds (c ∷ []) ∙ rw (w.plain.digits, digit) refl;
        worth = decimal_value-append ds (c ∷ []) ∙ omega (arith, w.plain.worth);
        some = omega (arith, length-append ds (c ∷ []));
        first = λ p. omega (arith, front, lead);
      };
      lead = λ p. omega (arith, front, lead);
    }

decimal_of_is : (ds : List ℕ) (n : ℕ) → list_all is_ascii_digit ds ≡ true → decimal_value ds ≡ n → n < 2 ^ 64 → decimal_of ds ≡ Some n
decimal_of_is ds n digits worth fits = rw (digits, worth) (ap (λ (b : Bool). cond b (Some n) None) (lt-ltb n (2 ^ 64) fits))

number_of_plain : (ds : List ℕ) (n : ℕ) → IsPlain n ds → n < 2 ^ 64 → number_of ds ≡ Some n
number_of_plain [] n w fits = absurd (omega (arith, w.some))
number_of_plain (b ∷ []) n w fits = decimal_of_is (b ∷ []) n w.digits w.worth fits
number_of_plain (b ∷ c ∷ bs) n w fits =
    let first = w.first (omega arith) in
    let no_zero : eqb b 48 ≡ false = grind (arith, nat_tests) in
    rw no_zero (decimal_of_is (b ∷ c ∷ bs) n w.digits w.worth fits)

pub number_of-decimal : (n : ℕ) → n < 2 ^ 64 → number_of (decimal n) ≡ Some n
number_of-decimal n fits =
    let P : ℕ → List ℕ → Type 0 = λ m ds. IsWritten m ds in
    number_of_plain (decimal n) n (decimal_by_steps P one_digit digit_more n fits).plain fits

-- what a number shows of its word
decimal_parts : (ds : List ℕ) (n : ℕ) → decimal_of ds ≡ Some n → (list_all is_ascii_digit ds ≡ true) × (decimal_value ds ≡ n) × (n < 2 ^ 64)
decimal_parts ds n e =
    let found = cond_some (list_all is_ascii_digit ds && ltb (decimal_value ds) (2 ^ 64)) (decimal_value ds) n e in
    let tests = and_parts (list_all is_ascii_digit ds) (ltb (decimal_value ds) (2 ^ 64)) found.0 in
    let fits = ltb-true (decimal_value ds) (2 ^ 64) tests.1 in
    (tests.0, found.1, omega (arith, found.1))

no_zero_first : (t : Bool) (o : Option ℕ) (n : ℕ) → cond t None o ≡ Some n → (t ≡ false) × (o ≡ Some n)
no_zero_first true o n e = absurd cc
no_zero_first false o n e = (refl, e)

plain_number : (ds : List ℕ) (n : ℕ) → number_of ds ≡ Some n → IsPlain n ds × (n < 2 ^ 64)
plain_number [] n e = absurd cc
plain_number (b ∷ []) n e =
    let p = decimal_parts (b ∷ []) n e in
    (record { digits = p.0; worth = p.1; some = omega arith; first = λ h. absurd (omega arith) }, p.2)
plain_number (b ∷ c ∷ bs) n e =
    let q = no_zero_first (eqb b 48) (decimal_of (b ∷ c ∷ bs)) n e in
    let p = decimal_parts (b ∷ c ∷ bs) n q.1 in
    let bounds = digit_bounds b (and_parts (is_ascii_digit b) (list_all is_ascii_digit (c ∷ bs)) p.0).0 in
    let no_zero : b ≢ 48 = eqb-false b 48 q.0 in
    (record { digits = p.0; worth = p.1; some = omega arith; first = λ h. omega (arith, bounds.0, no_zero) }, p.2)

lead_counts : (xs : List ℕ) → 48 < get_or xs 0 0 → 1 ≤ decimal_value xs
lead_counts [] h = absurd (omega arith)
lead_counts (b ∷ bs) h = omega (arith, raised (b - 48) (10 ^ length bs) (power_positive (length bs)))

only_digit : (ds : List ℕ) (n : ℕ) → length ds ≡ 1 → IsPlain n ds → ds ≡ decimal n
only_digit [] n h w = absurd (omega arith)
only_digit (b ∷ c ∷ bs) n h w = absurd (omega arith)
only_digit (b ∷ []) n h w =
    let worth : (b - 48) * 1 + 0 ≡ n = w.worth in
    let bounds = digit_bounds b (and_parts (is_ascii_digit b) true w.digits).0 in
    let same : b ≡ 48 + n = omega (arith, bounds.0) in
    ap (λ (x : ℕ). x ∷ []) same ∙ sym (decimal_digit n (omega (arith, bounds.1)))

one_spelling : (k : ℕ) (ds : List ℕ) (n : ℕ) → length ds ≡ suc k → IsPlain n ds → n < 2 ^ 64 → ds ≡ decimal n
one_spelling zero ds n h w fits = only_digit ds n h w
one_spelling (suc k) ds n h w fits =
    let i = suc k in
    let d = get_or ds i 0 in
    let init = take i ds in
    let whole : ds ≡ init ++ d ∷ [] = sym (take_all (i + 1) ds (omega arith)) ∙ take_more ds i 0 (omega arith) in
    let all = sym (list_all-append is_ascii_digit init (d ∷ [])) ∙ (sym (ap (list_all is_ascii_digit) whole) ∙ w.digits) in
    let parts = and_parts (list_all is_ascii_digit init) (is_ascii_digit d && true) all in
    let bounds = digit_bounds d (and_parts (is_ascii_digit d) true parts.1).0 in
    let worth : n ≡ decimal_value init * 10 + (d - 48) = sym w.worth ∙ (ap decimal_value (sym (take_all (i + 1) ds (omega arith))) ∙ decimal_value_more ds i (omega arith)) in
    let long : length init ≡ suc k = length-take-le i ds (omega arith) in
    let front : get_or init 0 0 ≡ get_or ds 0 0 = get_or-take i ds 0 0 (omega arith) in
    let lead : 48 < get_or init 0 0 = rw front (w.first (omega arith)) in
    let counts = lead_counts init lead in
    let v = decimal_value init in
    let again : init ≡ decimal v = one_spelling k init v long (record { digits = parts.0; worth = refl; some = omega arith; first = λ p. lead }) (omega arith) in
    let quotient : n / 10 ≡ v = omega (arith, worth, bounds.0, bounds.1) in
    let last : 48 + n % 10 ≡ d = omega (arith, worth, bounds.0, bounds.1) in
    whole ∙ (ap (λ (xs : List ℕ). xs ++ d ∷ []) (again ∙ ap decimal (sym quotient)) ∙ (ap (λ (c : ℕ). decimal (n / 10) ++ c ∷ []) (sym last) ∙ sym (decimal_step n (omega (arith, worth, counts)) fits)))

length_from_some : (ds : List ℕ) → 0 < length ds → (k : ℕ) × (length ds ≡ suc k)
length_from_some [] h = absurd (omega arith)
length_from_some (b ∷ bs) h = (length bs, refl)

pub decimal-number_of : (word : List ℕ) (n : ℕ) → number_of word ≡ Some n → (n < 2 ^ 64) × (word ≡ decimal n)
decimal-number_of word n e =
    let plain = plain_number word n e in
    let size = length_from_some word plain.0.some in
    (plain.1, one_spelling size.0 word n size.1 plain.0 plain.1)
