use Rattle.std.proofs.Common.{◌≡◌, ℕ, ◌+◌, ◌*◌, ◌^◌, ◌≤◌, ◌%◌, arith, ◌∙◌, ap, sym, lit<}
use Rattle.std.proofs.lemmas.Nat.{pow-add, mul-pow, one_shl}
use Rattle.std.proofs.Math.Nat.{pow-le-pow_right}
use Rattle.tile_source.specs.declared.limits.TheConstants.{MOST_MAXVAL}

pub square_of_side : (z : ℕ) → 2 ^ (2 * z) ≡ 2 ^ z * 2 ^ z
square_of_side z =
    let e : 2 * z ≡ z + z = omega arith in
    ap (λ n. 2 ^ n) e ∙ pow-add 2 z z

pub four_to : (z : ℕ) → 4 ^ z ≡ 2 ^ z * 2 ^ z
four_to z = mul-pow 2 2 z

-- the number of samples that make one pixel, as code computes it
pub shifted : (z : ℕ) → z ≤ 6 → 1 * 2 ^ (2 * z) % 2 ^ 32 ≡ 4 ^ z
shifted z h = one_shl (2 * z) 32 (omega arith) ∙ (square_of_side z ∙ sym (four_to z))

pub four_to_low : (z : ℕ) → z ≤ 6 → 4 ^ z ≤ 4096
four_to_low z h = pow-le-pow_right (lit< tt) h

-- a bound on the sum of a square, by the zoom
pub bounded : (all n z : ℕ) → n ≡ 2 ^ z → all ≤ MOST_MAXVAL * n * n → all ≤ MOST_MAXVAL * 4 ^ z
bounded all n z scale h =
    let area : 4 ^ z ≡ n * n = four_to z ∙ ap (λ m. m * m) (sym scale) in
    rw area (omega arith)
