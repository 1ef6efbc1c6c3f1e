-- Bytes in hexadecimal digits.
use Rattle.std.specs.Prelude.{ℕ, ◌+◌, ◌-◌, ◌*◌, ◌&&◌, nat_le, if◌then◌else◌, List, [], ◌∷◌, length, Option, Some, None, option_and_then}
use Rattle.line_text.specs.declared.limits.TheConstants.{MOST_MOVED_BYTES}

-- the second step, if the first gave a value
infixl 10 ◌>>=◌
abbrev pub ◌>>=◌ : {A B : Type 0} → Option A → (A → Option B) → Option B
o >>= f = option_and_then f o

-- the value of a hexadecimal digit of either case: 65 is `A`, 97 is `a` and 48 is `0`
abbrev pub hex_digit : ℕ → Option ℕ
hex_digit c =
    if nat_le 65 c && nat_le c 70 then Some (c - 55)
    else if nat_le 97 c && nat_le c 102 then Some (c - 87)
    else if nat_le 48 c && nat_le c 57 then Some (c - 48)
    else None

-- the bytes that pairs of digits stand for, the high digit of each pair first
abbrev pub hex_bytes : List ℕ → Option (List ℕ)
hex_bytes [] = Some []
hex_bytes (digit ∷ []) = None
hex_bytes (high ∷ low ∷ digits) = do
  h ← hex_digit high
  l ← hex_digit low
  bytes ← hex_bytes digits
  Some ((h * 16 + l) ∷ bytes)

-- the bytes that a word of hexadecimal digits stands for, if it is one
abbrev pub hex_of : List ℕ → Option (List ℕ)
hex_of word =
    if nat_le 2 (length word) && nat_le (length word) (2 * MOST_MOVED_BYTES) then hex_bytes word
    else None
