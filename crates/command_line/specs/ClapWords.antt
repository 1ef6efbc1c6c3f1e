-- What `clap` is asked, and how its matches have what words give.
use Rattle.std.specs.Prelude.{◌≡◌, ◌⊎◌, ℕ, true, false, List, [], ◌∷◌, map, codes, bytes_eq, Option, Some, None, option_map, is_some}
use Rattle.clap.specs.Walk.{Row, Rule, all_of, rows_of}
use Rattle.clap.specs.Simple.{App, new_rule, new_shape}
use Rattle.clap.specs.Matches.{found_of}
use Rattle.clap.specs.declared.parser.matches.ArgMatches.{ArgMatches}
use Rattle.clap.specs.declared.builder.action.ArgAction.TheVariants.{Append, Set}
use Rattle.command_line.specs.Words.{GivenWords, place_in, value_of, is_dashed}

-- what the positional words stand under
abbrev pub positional_id : List ℕ
positional_id = codes "words"

-- the argument that takes all positional words
abbrev pub positional_rule : Rule
positional_rule = record (new_rule positional_id) { action = Some Append }

-- the argument for an option, which stands at most once
abbrev pub option_rule : List ℕ → Rule
option_rule name = record (new_rule name) { long = Some name; action = Some Set }

-- a command whose options have these names, with no help, no version, no short names and no subcommands
abbrev pub simple_app : List (List ℕ) → App
simple_app names = record {
  top = record (new_shape (codes "discard")) { rules = positional_rule ∷ map option_rule names; no_binary_name = true; disable_help_flag = true };
  subs = [];
}

-- the values of an argument, which has a row only where it has a value
abbrev pub if_any : List (List ℕ) → Option (List (List ℕ))
if_any [] = None
if_any (value ∷ values) = Some (value ∷ values)

-- these rows hold what words give
pub record HoldGiven (rows : List Row) (given : GivenWords) : Type 0 where
  pub positional : all_of positional_id rows ≡ if_any given.positional
  pub options : (name : List ℕ) → bytes_eq positional_id name ≡ false → all_of name rows ≡ option_map (λ value. value ∷ []) (value_of name given.options)

-- these matches have what words give
abbrev pub IsGiven : ArgMatches → GivenWords → Type 0
IsGiven matches given = HoldGiven (rows_of (found_of matches)) given

-- the words give something, and these rows hold it
pub record Gives (rows : List Row) (said : Option GivenWords) : Type 0 where
  pub given : GivenWords
  pub is : said ≡ Some given
  pub holds : HoldGiven rows given

-- the words give something, but an option has a value that begins with `-` and has more than one byte
pub record HasDashedValue (names : List (List ℕ)) (said : Option GivenWords) : Type 0 where
  pub given : GivenWords
  pub is : said ≡ Some given
  pub name : List ℕ
  pub known : is_some (place_in names name) ≡ true
  pub value : List ℕ
  pub has : value_of name given.options ≡ Some value
  pub dashed : is_dashed value ≡ true

-- `clap` refuses words that give nothing, and values that begin with `-`, which are no numbers
abbrev pub MayBeRefused : List (List ℕ) → Option GivenWords → Type 0
MayBeRefused names said = (said ≡ None) ⊎ HasDashedValue names said

-- what `clap` found is what the words give
abbrev pub AreRead : List (List ℕ) → Option ArgMatches → Option GivenWords → Type 0
AreRead names None said = MayBeRefused names said
AreRead names (Some matches) said = Gives (rows_of (found_of matches)) said
