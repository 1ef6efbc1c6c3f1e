-- Numbers in decimal digits.
use Rattle.std.specs.Prelude.{ℕ, ◌+◌, ◌-◌, ◌*◌, ◌^◌, ◌&&◌, ◌==◌, nat_lt, nat_le, if◌then◌else◌, List, [], ◌∷◌, length, Option, Some, None}
use Rattle.std.specs.Char.{is_ascii_digit}
use Rattle.std.specs.List.{list_all}

-- the value of decimal digits: each counts as often as ten to the number of digits behind it says
abbrev pub decimal_value : List ℕ → ℕ
decimal_value [] = 0
decimal_value (b ∷ bs) = (b - 48) * 10 ^ length bs + decimal_value bs

-- the value, if all bytes are digits and it is at most 18446744073709551615
abbrev pub decimal_of : List ℕ → Option ℕ
decimal_of word =
    if list_all is_ascii_digit word && nat_lt (decimal_value word) (2 ^ 64)
    then Some (decimal_value word) else None

-- the number that a word is, if it is one: one or more digits, with no zero in front of others
abbrev pub number_of : List ℕ → Option ℕ
number_of [] = None
number_of (b ∷ []) = decimal_of (b ∷ [])
number_of (b ∷ c ∷ bs) = if b == 48 then None else decimal_of (b ∷ c ∷ bs)

-- a number, if it lies from least to most
abbrev pub within : ℕ → ℕ → Option ℕ → Option ℕ
within least most None = None
within least most (Some n) = if nat_le least n && nat_le n most then Some n else None

-- the number from least to most that a word is, if it is one
abbrev pub number_in : List ℕ → ℕ → ℕ → Option ℕ
number_in word least most = within least most (number_of word)
