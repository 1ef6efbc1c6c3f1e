-- The arguments of a command, once `clap` has built it.
use Rattle.std.proofs.Common.{◌≡◌, ℕ, Bool, true, false, ◌||◌, cond, List, [], ◌∷◌, map, Some, None, is_some, refl, sym, ap, ◌∙◌, bytes_eq, codes}
use Rattle.std.specs.List.{find, list_any}
use Rattle.clap.specs.Walk.{Rule, Row, arg_by_id, arg_by_index, arg_by_long, arg_by_short, has_row}
use Rattle.clap.specs.Simple.{App, Shape, built, filled, filled_from, index_after, new_shape, with_index}
use Rattle.clap.specs.Faults.{use_fault}
use Rattle.clap.specs.declared.error.kind.ErrorKind.TheVariants as kind
use Rattle.command_line.specs.Words.{place_in}
use Rattle.command_line.specs.ClapWords.{option_rule, positional_id, positional_rule, simple_app}
use Rattle.command_line.proofs.Options.{any_position, one_text}

abbrev pub filled_positional : Rule
filled_positional = with_index 1 (filled positional_rule)

abbrev pub filled_option : List ℕ → Rule
filled_option name = filled (option_rule name)

unfoldable pub rules_for : List (List ℕ) → List Rule
rules_for names = filled_positional ∷ map filled_option names

abbrev pub shape_for : List (List ℕ) → Shape
shape_for names = record (new_shape (codes "discard")) {
  rules = rules_for names;
  no_binary_name = true;
  disable_help_flag = true;
  disable_help_subcommand = true;
  is_built = true;
}

options_filled : (i : ℕ) (names : List (List ℕ)) → filled_from i (map option_rule names) ≡ map filled_option names
options_filled i [] = refl
options_filled i (name ∷ names) = ap (λ rules. filled_option name ∷ rules) (options_filled i names)

pub built_is : (names : List (List ℕ)) → built (simple_app names) ≡ record { top = shape_for names; subs = [] }
unfolding rules_for
built_is names = ap (λ (rules : List Rule). app_with (filled_positional ∷ rules)) (options_filled (index_after 1 positional_rule) names)
  where
    app_with : List Rule → App
    app_with rules = record { top = record (shape_for names) { rules = rules }; subs = [] }

-- ---- tests of the command

options_are : (p : Rule → Bool) → ((name : List ℕ) → p (filled_option name) ≡ true) → (names : List (List ℕ)) → Rattle.std.specs.List.list_all p (map filled_option names) ≡ true
options_are p each [] = refl
options_are p each (name ∷ names) = rw (each name) (options_are p each names)

-- ---- looked up

option_of : (names : List (List ℕ)) (name : List ℕ) → find (λ (a : Rule). bytes_eq a.id name) (map filled_option names) ≡ cond (list_any (λ known. bytes_eq known name) names) (Some (filled_option name)) None
option_of [] name = refl
option_of (n ∷ names) name = go (bytes_eq n name) refl (option_of names name)
  where
    go : (t : Bool) → bytes_eq n name ≡ t → find (λ (a : Rule). bytes_eq a.id name) (map filled_option names) ≡ cond (list_any (λ known. bytes_eq known name) names) (Some (filled_option name)) None
        → cond t (Some (filled_option n)) (find (λ (a : Rule). bytes_eq a.id name) (map filled_option names)) ≡ cond (t || list_any (λ known. bytes_eq known name) names) (Some (filled_option name)) None
    go true is more = ap (λ (x : List ℕ). Some (filled_option x)) (one_text n name is)
    go false is more = more

long_of_option : (names : List (List ℕ)) (name : List ℕ) → arg_by_long (map filled_option names) name ≡ cond (list_any (λ known. bytes_eq known name) names) (Some (filled_option name)) None
long_of_option [] name = refl
long_of_option (n ∷ names) name = go (bytes_eq n name) refl (long_of_option names name)
  where
    go : (t : Bool) → bytes_eq n name ≡ t → arg_by_long (map filled_option names) name ≡ cond (list_any (λ known. bytes_eq known name) names) (Some (filled_option name)) None
        → cond (t || false) (Some (filled_option n)) (arg_by_long (map filled_option names) name) ≡ cond (t || list_any (λ known. bytes_eq known name) names) (Some (filled_option name)) None
    go true is more = ap (λ (x : List ℕ). Some (filled_option x)) (one_text n name is)
    go false is more = more

no_short : (names : List (List ℕ)) (letter : ℕ) → arg_by_short (map filled_option names) letter ≡ None
no_short [] letter = refl
no_short (name ∷ names) letter = no_short names letter

is_listed : (names : List (List ℕ)) (name : List ℕ) (t : Bool) → is_some (place_in names name) ≡ t → list_any (λ known. bytes_eq known name) names ≡ t
is_listed names name t is = sym (any_position (λ known. bytes_eq known name) names) ∙ is

pub by_index : (names : List (List ℕ)) → arg_by_index (rules_for names) 1 ≡ Some filled_positional
unfolding rules_for
by_index names = refl

pub by_positional_id : (names : List (List ℕ)) → arg_by_id (rules_for names) positional_id ≡ Some filled_positional
unfolding rules_for
by_positional_id names = refl

pub by_id : (names : List (List ℕ)) (name : List ℕ) → bytes_eq positional_id name ≡ false → is_some (place_in names name) ≡ true → arg_by_id (rules_for names) name ≡ Some (filled_option name)
unfolding rules_for
by_id names name apart known = rw apart (option_of names name ∙ rw (is_listed names name true known) refl)

pub by_long : (names : List (List ℕ)) (name : List ℕ) → is_some (place_in names name) ≡ true → arg_by_long (rules_for names) name ≡ Some (filled_option name)
unfolding rules_for
by_long names name known = long_of_option names name ∙ rw (is_listed names name true known) refl

pub by_no_long : (names : List (List ℕ)) (name : List ℕ) → is_some (place_in names name) ≡ false → arg_by_long (rules_for names) name ≡ None
unfolding rules_for
by_no_long names name unknown = long_of_option names name ∙ rw (is_listed names name false unknown) refl

pub by_short : (names : List (List ℕ)) (letter : ℕ) → arg_by_short (rules_for names) letter ≡ None
unfolding rules_for
by_short names letter = no_short names letter

-- ---- uses

pub positional_passes : (word : List ℕ) (rows : List Row) → use_fault false filled_positional (word ∷ []) rows ≡ []
positional_passes word rows = refl

pub option_passes : (name value : List ℕ) (rows : List Row) → has_row name rows ≡ false → use_fault false (filled_option name) (value ∷ []) rows ≡ []
option_passes name value rows none = rw none refl

pub option_repeats : (name value : List ℕ) (rows : List Row) → has_row name rows ≡ true → use_fault false (filled_option name) (value ∷ []) rows ≡ kind.ArgumentConflict ∷ []
option_repeats name value rows again = rw again refl

pub option_lacks : (name : List ℕ) (rows : List Row) → use_fault false (filled_option name) [] rows ≡ kind.InvalidValue ∷ []
option_lacks name rows = refl
