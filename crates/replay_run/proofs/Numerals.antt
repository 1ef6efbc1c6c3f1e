-- Decimal numerals: none has a separator, and two numbers are not written the same.
use Rattle.std.proofs.Common.{◌≡◌, ℕ, ◌+◌, ◌-◌, ◌*◌, ◌/◌, ◌%◌, ◌^◌, ◌<◌, ◌==◌, nat_lt, zero, suc, Bool, true, false, ◌||◌, cond, List, [], ◌∷◌, decimal, refl, sym, ap, ◌∙◌, arith}
use Rattle.std.specs.List.{list_any}
use Rattle.std.specs.Fmt.{digits, digits_onto, digit_glyph}
use Rattle.std.proofs.Math.Nat.{pow-succ'}
use Rattle.std.proofs.lemmas.Bool.{ne_eqb, eqb-true, lt-ltb}

-- no byte of these is the separator
abbrev pub HasNo : ℕ → List ℕ → Type 0
HasNo mark bytes = list_any (λ byte. byte == mark) bytes ≡ false

neither : (a b : Bool) → a ≡ false → b ≡ false → (a || b) ≡ false
neither true b p q = p
neither false b p q = q

glyph_not : (mark d : ℕ) → mark < 48 → (digit_glyph false d == mark) ≡ false
glyph_not mark d low = by_test (nat_lt d 10)
  where
    by_test : (b : Bool) → (cond b (48 + d) (cond false (55 + d) (87 + d)) == mark) ≡ false
    by_test true = ne_eqb (48 + d) mark (λ e. omega arith)
    by_test false = ne_eqb (87 + d) mark (λ e. omega arith)

onto_not : (mark k n : ℕ) (acc : List ℕ) → mark < 48 → HasNo mark acc → HasNo mark (digits_onto k 10 false n acc)
onto_not mark zero n acc low p = p
onto_not mark (suc k) n acc low p =
    by_test (n / 10 == 0) (onto_not mark k (n / 10) (digit_glyph false (n % 10) ∷ acc) low (neither _ _ (glyph_not mark (n % 10) low) p))
  where
    by_test : (b : Bool) → HasNo mark (digits_onto k 10 false (n / 10) (digit_glyph false (n % 10) ∷ acc))
        → HasNo mark (cond b (digit_glyph false (n % 10) ∷ acc) (digits_onto k 10 false (n / 10) (digit_glyph false (n % 10) ∷ acc)))
    by_test true q = neither _ _ (glyph_not mark (n % 10) low) p
    by_test false q = q

pub decimal_not : (mark n : ℕ) → mark < 48 → HasNo mark (decimal n)
unfolding digits
decimal_not mark n low = onto_not mark 64 n [] low refl

-- what digits are worth behind a number
worth : ℕ → List ℕ → ℕ
worth front [] = front
worth front (c ∷ cs) = worth (front * 10 + (c - 48)) cs

glyph_is : (d : ℕ) → d < 10 → digit_glyph false d ≡ 48 + d
glyph_is d low = ap (λ b. cond b (48 + d) (cond false (55 + d) (87 + d))) (lt-ltb d 10 low)

worth_onto : (k n : ℕ) (acc : List ℕ) → n < 10 ^ k → worth 0 (digits_onto k 10 false n acc) ≡ worth n acc
unfolding worth
worth_onto zero n acc low = ap (λ m. worth m acc) (omega arith)
worth_onto (suc k) n acc low =
    let more = pow-succ' 10 k in
    by_test (worth_onto k (n / 10) (digit_glyph false (n % 10) ∷ acc) (omega arith)) (n / 10 == 0) refl
  where
    glyph : digit_glyph false (n % 10) ≡ 48 + n % 10
    glyph = glyph_is (n % 10) (omega arith)

    by_test : worth 0 (digits_onto k 10 false (n / 10) (digit_glyph false (n % 10) ∷ acc)) ≡ worth (n / 10) (digit_glyph false (n % 10) ∷ acc)
        → (b : Bool) → (n / 10 == 0) ≡ b
        → worth 0 (cond b (digit_glyph false (n % 10) ∷ acc) (digits_onto k 10 false (n / 10) (digit_glyph false (n % 10) ∷ acc))) ≡ worth n acc
    by_test rest true e =
        let none : n / 10 ≡ 0 = eqb-true (n / 10) 0 e in
        ap (λ m. worth m acc) (omega (arith, glyph))
    by_test rest false e = rest ∙ ap (λ m. worth m acc) (omega (arith, glyph))

pub decimal_differs : (m n : ℕ) → m < 2 ^ 128 → n < 2 ^ 128 → decimal m ≡ decimal n → m ≡ n
unfolding digits worth
decimal_differs m n p q e = sym (worth_onto 64 m [] (omega arith)) ∙ ap (worth 0) e ∙ worth_onto 64 n [] (omega arith)
