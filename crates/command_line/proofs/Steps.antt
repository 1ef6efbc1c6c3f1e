-- One word of a walk by `clap`.
use Rattle.std.proofs.Common.{◌≡◌, ℕ, Bool, true, false, ◌&&◌, ◌||◌, List, [], ◌∷◌, Option, Some, None, is_some, refl, sym, ◌∙◌, bytes_eq, true≢false}
use Rattle.std.specs.Prelude.{slice_get}
use Rattle.std.specs.Str.{chars}
use Rattle.clap.specs.Lexer.{long_of, short_of}
use Rattle.clap.specs.Walk.{Held, Row, Text, Waiting, Walk, idle, option, positional, settled_rows, subcommand_met, used, walked}
use Rattle.clap.specs.Kinds.{Kinds, or_else}
use Rattle.clap.specs.Faults.{flags_fault, settle_fault, turn_fault, use_fault}
use Rattle.command_line.specs.Words.{is_end, place_in}
use Rattle.command_line.specs.ClapWords.{positional_id}
use Rattle.command_line.proofs.Options.{same_text}
use Rattle.command_line.proofs.Rules.{by_id, by_index, by_long, by_no_long, by_short, filled_option, rules_for, shape_for}

abbrev pub Pending : Type 0
Pending = Option (Text × List Text)

abbrev pub held : List Row → Pending → Held
held rows pending = record { rows = rows; pending = pending; skip = 0 }

-- where a walk stands between two words
abbrev pub at : List Row → Pending → Waiting → Bool → Walk
at rows pending waiting is_trailing = record { held = held rows pending; waiting = waiting; position = 1; is_trailing = is_trailing; stopped = None }

-- the rows once the argument that is being read is used, and how that fails
unfoldable pub rows_then : List (List ℕ) → List Row → Pending → List Row
rows_then names rows pending = settled_rows (rules_for names) pending rows

unfoldable pub fault_then : List (List ℕ) → List Row → Pending → Kinds
fault_then names rows pending = settle_fault (rules_for names) false (held rows pending)

-- the walk after one more word, and how the word fails
unfoldable pub step : List (List ℕ) → Walk → List ℕ → Walk
step names w word = walked (rules_for names) [] w word

unfoldable pub turn : List (List ℕ) → Walk → List ℕ → Kinds
turn names w word = turn_fault (shape_for names) [] w word

-- there is a fault
abbrev pub fails : Kinds → Bool
fails [] = false
fails (k ∷ ks) = true

pub fails_or : (a b : Kinds) → fails (or_else a b) ≡ (fails a || fails b)
fails_or [] b = refl
fails_or (k ∷ ks) b = refl

pub or_nothing : (a : Kinds) → or_else a [] ≡ a
or_nothing [] = refl
or_nothing (k ∷ ks) = refl

pub fails_first : (a b : Kinds) → fails a ≡ true → fails (or_else a b) ≡ true
fails_first a b first = fails_or a b ∙ rw first refl

and_false : (b : Bool) → (b && false) ≡ false
and_false true = refl
and_false false = refl

no_subcommand : (waiting : Waiting) (word : Text) → subcommand_met [] waiting word ≡ None
no_subcommand idle word = refl
no_subcommand (option id) word = refl
no_subcommand positional word = refl

-- no option waits for a value
abbrev pub is_free : Waiting → Bool
is_free idle = true
is_free positional = true
is_free (option id) = false

-- ---- positional words

-- behind `--`, each word is positional
pub positional_behind : (names : List (List ℕ)) (rows : List Row) (pending : Pending) (waiting : Waiting) (word : List ℕ)
    → (step names (at rows pending waiting true) word ≡ at (rows_then names rows pending) (Some (positional_id, word ∷ [])) positional true) × (turn names (at rows pending waiting true) word ≡ fault_then names rows pending)
unfolding walked rows_then fault_then step turn
positional_behind names rows pending waiting word = (rw (by_index names, and_false) refl, rw (by_index names, and_false) refl)

pub positional_word : (names : List (List ℕ)) (rows : List Row) (pending : Pending) (waiting : Waiting) (word : List ℕ) → is_free waiting ≡ true → is_end word ≡ false → long_of word ≡ None → short_of word ≡ None
    → (step names (at rows pending waiting false) word ≡ at (rows_then names rows pending) (Some (positional_id, word ∷ [])) positional false) × (turn names (at rows pending waiting false) word ≡ fault_then names rows pending)
unfolding walked rows_then fault_then step turn
positional_word names rows pending idle word free end long short = (rw (end, long, short, by_index names, and_false) refl, rw (end, long, short, by_index names, and_false) refl)
positional_word names rows pending positional word free end long short = (rw (end, long, short, by_index names, and_false) refl, rw (end, long, short, by_index names, and_false) refl)
positional_word names rows pending (option id) word free end long short = absurd (true≢false (sym free))

-- ---- `--`, options and words that are refused

pub end_word : (names : List (List ℕ)) (rows : List Row) (pending : Pending) (waiting : Waiting) (word : List ℕ) → is_end word ≡ true
    → (step names (at rows pending waiting false) word ≡ at rows pending waiting true) × (turn names (at rows pending waiting false) word ≡ [])
unfolding walked step turn
end_word names rows pending waiting word end = (rw (no_subcommand waiting word, end) refl, rw (no_subcommand waiting word, end) refl)

pub assigned_word : (names : List (List ℕ)) (rows : List Row) (pending : Pending) (waiting : Waiting) (word name given : List ℕ) → is_end word ≡ false → is_some (place_in names name) ≡ true → long_of word ≡ Some (name, Some given)
    → (step names (at rows pending waiting false) word ≡ at (used (filled_option name) (given ∷ []) (rows_then names rows pending)) None idle false)
    × (turn names (at rows pending waiting false) word ≡ or_else (fault_then names rows pending) (use_fault false (filled_option name) (given ∷ []) (rows_then names rows pending)))
unfolding walked rows_then fault_then step turn
assigned_word names rows pending waiting word name given end known long =
    (rw (no_subcommand waiting word, end, long, by_long names name known) refl, rw (no_subcommand waiting word, end, long, by_long names name known) (or_nothing _))

pub named_word : (names : List (List ℕ)) (rows : List Row) (pending : Pending) (waiting : Waiting) (word name : List ℕ) → is_end word ≡ false → is_some (place_in names name) ≡ true → long_of word ≡ Some (name, None)
    → (step names (at rows pending waiting false) word ≡ at (rows_then names rows pending) (Some (name, [])) (option name) false) × (turn names (at rows pending waiting false) word ≡ fault_then names rows pending)
unfolding walked rows_then fault_then step turn
named_word names rows pending waiting word name end known long =
    (rw (no_subcommand waiting word, end, long, by_long names name known) refl, rw (no_subcommand waiting word, end, long, by_long names name known) (or_nothing _))

pub unknown_word : (names : List (List ℕ)) (rows : List Row) (pending : Pending) (waiting : Waiting) (word name : List ℕ) (given : Option (List ℕ)) → is_end word ≡ false → is_some (place_in names name) ≡ false → long_of word ≡ Some (name, given)
    → fails (turn names (at rows pending waiting false) word) ≡ true
unfolding turn
unknown_word names rows pending waiting word name given end unknown long = rw (no_subcommand waiting word, end, long, by_no_long names name unknown) refl

pub short_word : (names : List (List ℕ)) (rows : List Row) (pending : Pending) (waiting : Waiting) (word : List ℕ) (byte : ℕ) (bytes : List ℕ) (letter : ℕ) → is_end word ≡ false → long_of word ≡ None → short_of word ≡ Some (byte ∷ bytes) → slice_get (chars (byte ∷ bytes)) 0 ≡ Some letter
    → fails (turn names (at rows pending waiting false) word) ≡ true
unfolding turn flags_fault
short_word names rows pending waiting word byte bytes letter end long short first = rw (no_subcommand waiting word, end, long, short, first, by_short names letter) refl

-- ---- the value of an option

pub value_word : (names : List (List ℕ)) (rows : List Row) (name word : List ℕ) → bytes_eq positional_id name ≡ false → is_some (place_in names name) ≡ true → is_end word ≡ false → long_of word ≡ None → short_of word ≡ None
    → (step names (at rows (Some (name, [])) (option name) false) word ≡ at rows (Some (name, word ∷ [])) idle false) × (turn names (at rows (Some (name, [])) (option name) false) word ≡ [])
unfolding walked step turn
value_word names rows name word apart known end long short =
    (rw (end, long, short, by_id names name apart known, same_text name) refl, rw (end, long, short) refl)
