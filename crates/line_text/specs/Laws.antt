-- What the law of numbers says.
use Rattle.std.specs.Fmt.{decimal}
use Rattle.std.specs.Prelude.{◌≡◌, ◌<◌, ◌^◌, ℕ, List, ◌↔◌, Some}
use Rattle.line_text.specs.Number.{number_of}

-- a word is a number exactly where it is how that number is written, and the number is below 2^64
abbrev pub EachNumberHasOneSpelling : Type 0
EachNumberHasOneSpelling = (word : List ℕ) (n : ℕ)
    → ((number_of word ≡ Some n) ↔ ((n < 2 ^ 64) × (word ≡ decimal n)))
