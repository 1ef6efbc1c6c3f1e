-- What the matches of `clap` hold.
use Rattle.std.proofs.Common.{◌≡◌, ℕ, false, List, [], ◌∷◌, ◌++◌, map, Option, Some, None, option_map, refl, sym, ap, ◌∙◌, bytes_eq, Bor, take, get_or, length, ◌+◌, ◌<◌}
use Rattle.std.specs.Prelude.{option_and_then, slice_get}
use Rattle.std.specs.List.{find}
use Rattle.std.proofs.lemmas.List.{take_more, map-append}
use Rattle.clap.specs.Walk.{Row, Text, all_of, first_of, rows_of}
use Rattle.clap.specs.Matches.{first_value, matched_of, raw_values}
use Rattle.clap.specs.Simple.{with_rule}
use Rattle.clap.specs.declared.parser.matches.Found.{Found}
use Rattle.clap.proofs.WalkLemmas.{first_value-rows, raw_values-rows}
use Rattle.command_line.specs.Words.{GivenWords, texts_of, value_of}
use Rattle.command_line.specs.ClapWords.{HoldGiven, if_any, option_rule, positional_id, positional_rule, simple_app}

first_is : (rows : List Row) (name : Text) → first_of name rows ≡ option_and_then (λ (values : List Text). slice_get values 0) (all_of name rows)
first_is rows name = go (find (λ (r : Row). bytes_eq r.id name) rows)
  where
    go : (o : Option Row) → option_and_then (λ (r : Row). slice_get r.values 0) o ≡ option_and_then (λ (values : List Text). slice_get values 0) (option_map (λ (r : Row). r.values) o)
    go None = refl
    go (Some r) = refl

one_value : (o : Option (List ℕ)) → option_and_then (λ (values : List Text). slice_get values 0) (option_map (λ (value : List ℕ). value ∷ []) o) ≡ o
one_value None = refl
one_value (Some value) = refl

-- the value of an option
pub value_found : (f : Found) (all : GivenWords) (name : List ℕ) → HoldGiven (rows_of f) all → bytes_eq positional_id name ≡ false → first_value f name ≡ value_of name all.options
value_found f all name holds apart =
    first_value-rows f name ∙ first_is (rows_of f) name ∙ ap (option_and_then (λ (values : List Text). slice_get values 0)) (holds.options name apart) ∙ one_value (value_of name all.options)

-- the positional words
pub words_found : (f : Found) (all : GivenWords) (words : Option (Bor (List (Bor (List ℕ))))) → HoldGiven (rows_of f) all
    → option_map (λ s. map (λ v. v.now) s.now) words ≡ option_map raw_values (matched_of f positional_id) → option_map (λ s. texts_of s.now) words ≡ if_any all.positional
words_found f all words holds is = is ∙ raw_values-rows f positional_id ∙ holds.positional

-- the command with one option more
pub app_more : (names : List (List ℕ)) (name : List ℕ) → with_rule (simple_app names) (option_rule name) ≡ simple_app (names ++ name ∷ [])
app_more names name =
    ap (λ rules. record { top = record (simple_app names).top { rules = positional_rule ∷ rules }; subs = [] }) (sym (map-append option_rule names (name ∷ [])))

pub names_more : (names : List (Bor (List ℕ))) (n : ℕ) (d : Bor (List ℕ)) → n < length names → texts_of (take (n + 1) names) ≡ texts_of (take n names) ++ (get_or names n d).now ∷ []
names_more names n d h = ap texts_of (take_more names n d h) ∙ map-append (λ (name : Bor (List ℕ)). name.now) (take n names) (get_or names n d ∷ [])
