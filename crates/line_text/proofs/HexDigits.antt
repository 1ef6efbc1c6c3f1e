-- The kit's decoder reads the bytes of a word of hexadecimal digits.
use Rattle.std.proofs.Common.{◌≡◌, ℕ, ◌+◌, ◌*◌, ◌%◌, ◌≤◌, Bool, true, false, cond, eqb, List, [], ◌∷◌, length, Option, Some, None, Result, Ok, Err, refl, sym, ap, ◌∙◌, arith}
use Rattle.std.specs.Result.{result_ok}
use Rattle.std.proofs.lemmas.Bool.{eqb-true, le-leb}
use Rattle.hex.specs.Hex as kit
use Rattle.hex.specs.declared.error.FromHexError.{FromHexError}
use Rattle.hex.specs.declared.error.FromHexError.TheVariants.{OddLength}
use Rattle.line_text.specs.declared.limits.TheConstants.{MOST_MOVED_BYTES}
use Rattle.line_text.specs.Hex.{◌>>=◌, hex_digit, hex_bytes, hex_of}

-- one pair of digits, and what stands behind it
pair_first : (high low i : ℕ) (h l : Option ℕ) (rest : Result (List ℕ) FromHexError)
    → result_ok (kit.◌>>=◌ (kit.◌>>=◌ (kit.digit_or_error high i h) (λ x. kit.◌>>=◌ (kit.digit_or_error low (i + 1) l) (λ y. Ok (x * 16 + y)))) (λ byte. kit.◌>>=◌ rest (λ bytes. Ok (byte ∷ bytes))))
    ≡ (h >>= λ x. l >>= λ y. result_ok rest >>= λ bytes. Some ((x * 16 + y) ∷ bytes))
pair_first high low i None l rest = refl
pair_first high low i (Some x) None rest = refl
pair_first high low i (Some x) (Some y) (Ok bytes) = refl
pair_first high low i (Some x) (Some y) (Err e) = refl

-- pairs of digits, from whatever place
result_ok-decode_pairs : (i : ℕ) (word : List ℕ) → result_ok (kit.decode_pairs i word) ≡ hex_bytes word
unfolding kit.decode_pairs
result_ok-decode_pairs i [] = refl
result_ok-decode_pairs i (digit ∷ []) = refl
result_ok-decode_pairs i (high ∷ low ∷ rest) =
    pair_first high low i (hex_digit high) (hex_digit low) (kit.decode_pairs (i + 2) rest)
    ∙ ap (λ (bytes : Option (List ℕ)). hex_digit high >>= λ x. hex_digit low >>= λ y. bytes >>= λ b. Some ((x * 16 + y) ∷ b)) (result_ok-decode_pairs (i + 2) rest)

none_behind : (h l : Option ℕ) (bytes : Option (List ℕ)) → bytes ≡ None → (h >>= λ x. l >>= λ y. bytes >>= λ b. Some ((x * 16 + y) ∷ b)) ≡ None
none_behind None l bytes e = refl
none_behind (Some x) None bytes e = refl
none_behind (Some x) (Some y) bytes e = rw e refl

-- an odd number of digits are no bytes
hex_bytes_odd : (word : List ℕ) → length word % 2 ≡ 1 → hex_bytes word ≡ None
hex_bytes_odd [] h = absurd cc
hex_bytes_odd (digit ∷ []) h = refl
hex_bytes_odd (high ∷ low ∷ rest) h = none_behind (hex_digit high) (hex_digit low) (hex_bytes rest) (hex_bytes_odd rest (omega arith))

is_even_or_odd : (word : List ℕ) (b : Bool) → eqb (length word % 2) 1 ≡ b → result_ok (cond b (Err OddLength) (kit.decode_pairs 0 word)) ≡ hex_bytes word
is_even_or_odd word true e = sym (hex_bytes_odd word (eqb-true (length word % 2) 1 e))
is_even_or_odd word false e = result_ok-decode_pairs 0 word

-- what the kit's decoder answers, but for the errors
pub result_ok-decode_of : (word : List ℕ) → result_ok (kit.decode_of word) ≡ hex_bytes word
result_ok-decode_of word = is_even_or_odd word (eqb (length word % 2) 1) refl

-- a word of a lawful length
pub hex_of_sized : (word : List ℕ) → 2 ≤ length word → length word ≤ 2 * MOST_MOVED_BYTES → hex_of word ≡ hex_bytes word
hex_of_sized word low high = rw (le-leb 2 (length word) low, le-leb (length word) (2 * MOST_MOVED_BYTES) high) refl
