-- The words behind a command: positional words, and options with their values.
use Rattle.std.specs.Prelude.{ℕ, ◌==◌, ◌&&◌, Bool, true, false, not, if◌then◌else◌, List, [], ◌∷◌, drop, codes, nat_eq, bytes_eq, string_bytes, String, map, Option, Some, None, option_map, option_and_then, is_some}
use Rattle.std.specs.Borrow.{Bor}
use Rattle.std.specs.List.{starts_with, before_first, after_first, position}

-- the bytes of each word
abbrev pub texts : {A : Type 0} → List (String A) → List (List ℕ)
texts words = map string_bytes words

-- the bytes of each name
abbrev pub texts_of : List (Bor (List ℕ)) → List (List ℕ)
texts_of names = map (λ name. name.now) names

-- what words give: the positional words and the options in their order, each option as its name and its value
pub record GivenWords : Type 0 where
  pub positional : List (List ℕ)
  pub options : List (List ℕ × List ℕ)

-- these words are positional, and there is no option
abbrev pub only_positional : List (List ℕ) → GivenWords
only_positional words = record { positional = words; options = [] }

-- one positional word in front of what the words behind it give
abbrev pub with_positional : List ℕ → Option GivenWords → Option GivenWords
with_positional word given = option_map {T = GivenWords} (λ g. record g { positional = word ∷ g.positional }) given

-- one option in front of what the words behind it give
abbrev pub with_option : List ℕ → List ℕ → Option GivenWords → Option GivenWords
with_option name value given = option_map {T = GivenWords} (λ g. record g { options = (name, value) ∷ g.options }) given

-- the byte `=`
abbrev pub is_equals : ℕ → Bool
is_equals byte = byte == 61

-- the word ends the options
abbrev pub is_end : List ℕ → Bool
is_end word = bytes_eq word (codes "--")

-- the name in a word that begins with `--`: what stands in front of the first `=`, or all
abbrev pub name_in : List ℕ → List ℕ
name_in word = before_first is_equals (drop 2 word)

-- the place of a name among these
abbrev pub place_in : List (List ℕ) → List ℕ → Option ℕ
place_in names name = position (λ known. bytes_eq known name) names

-- the word is `--name` or `--name=value` with a known name
abbrev pub is_option : List (List ℕ) → List ℕ → Bool
is_option names word = starts_with nat_eq word (codes "--") && is_some (place_in names (name_in word))

-- the word of an option has its value behind the `=`
abbrev pub has_value : List ℕ → Bool
has_value word = is_some (position is_equals (drop 2 word))

-- the value behind the first `=`
abbrev pub value_in : List ℕ → List ℕ
value_in word = after_first is_equals (drop 2 word)

-- the word begins with `-` and has more than one byte
abbrev pub is_dashed : List ℕ → Bool
is_dashed [] = false
is_dashed (byte ∷ []) = false
is_dashed (byte ∷ second ∷ rest) = byte == 45

-- What words give, read from left to right, where the options have these names. `asked` is an option that has just been
-- named, so that the first word is its value, whatever it is. None where a word is refused, or an option has no value.
abbrev pub given_from : List (List ℕ) → Option (List ℕ) → List (List ℕ) → Option GivenWords
given_from names None [] = Some (only_positional [])
given_from names (Some asked) [] = None
given_from names (Some asked) (value ∷ rest) = with_option asked value (given_from names None rest)
given_from names None (word ∷ rest) =
    if is_end word then Some (only_positional rest)
    else if is_option names word then
    (if has_value word then with_option (name_in word) (value_in word) (given_from names None rest)
    else given_from names (Some (name_in word)) rest)
    else if is_dashed word then None
    else with_positional word (given_from names None rest)

-- the value of the first option with this name
abbrev pub value_of : List ℕ → List (List ℕ × List ℕ) → Option (List ℕ)
value_of name [] = None
value_of name (option ∷ options) = if bytes_eq option.0 name then Some option.1 else value_of name options

-- an option with this name stands among them
abbrev pub has_option : List ℕ → List (List ℕ × List ℕ) → Bool
has_option name options = is_some (value_of name options)

-- no option stands twice
abbrev pub stand_once : List (List ℕ × List ℕ) → Bool
stand_once [] = true
stand_once (option ∷ options) = not (has_option option.0 options) && stand_once options

-- what the words behind a command give, or None where a word is refused, where an option has no value, or where one stands
-- twice
abbrev pub words_given : List (List ℕ) → List (List ℕ) → Option GivenWords
words_given names words = option_and_then (λ given. if stand_once given.options then Some given else None) (given_from names None words)
