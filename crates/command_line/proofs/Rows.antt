-- The rows that `clap` makes hold what words give.
use Rattle.std.proofs.Common.{◌≡◌, ℕ, Bool, true, false, ◌||◌, cond, List, [], ◌∷◌, ◌++◌, Option, Some, None, is_some, option_map, refl, sym, ap, ◌∙◌, subst, bytes_eq}
use Rattle.std.specs.List.{find}
use Rattle.std.proofs.lemmas.Bool.{true≢false}
use Rattle.clap.specs.Walk.{Row, Text, all_of, has_row, with_values, without}
use Rattle.clap.specs.declared.builder.value_parser.Reading.{Reading}
use Rattle.clap.specs.declared.parser.matches.ValueSource.TheVariants.{CommandLine}
use Rattle.command_line.specs.Words.{GivenWords, only_positional, value_of, has_option}
use Rattle.command_line.specs.ClapWords.{HoldGiven, if_any, positional_id}
use Rattle.command_line.proofs.Options.{same_text, one_text, other_way, value_behind, front_value, none_of}

abbrev pub or_none : Option (List Text) → List Text
or_none None = []
or_none (Some values) = values

-- ---- rows by their ids

-- values join those of their id
pub added_here : (id : Text) (how : Reading) (values : List Text) (rows : List Row) → all_of id (with_values id how CommandLine values rows) ≡ Some (or_none (all_of id rows) ++ values)
added_here id how values [] = rw (same_text id) refl
added_here id how values (r ∷ rs) = go (bytes_eq r.id id) refl (added_here id how values rs)
  where
    go : (t : Bool) → bytes_eq r.id id ≡ t → all_of id (with_values id how CommandLine values rs) ≡ Some (or_none (all_of id rs) ++ values)
        → all_of id (with_values id how CommandLine values (r ∷ rs)) ≡ Some (or_none (all_of id (r ∷ rs)) ++ values)
    go true is more = rw (is, is) refl
    go false is more = rw (is, is) more

-- and leave other ids alone
pub added_apart : (id name : Text) (how : Reading) (values : List Text) (rows : List Row) → bytes_eq id name ≡ false → all_of name (with_values id how CommandLine values rows) ≡ all_of name rows
added_apart id name how values [] apart = rw apart refl
added_apart id name how values (r ∷ rs) apart = go (bytes_eq r.id id) refl (added_apart id name how values rs apart)
  where
    behind : (t : Bool) (a b : List Row) → all_of name a ≡ all_of name b → option_map (λ (x : Row). x.values) (cond t (Some r) (find (λ (x : Row). bytes_eq x.id name) a)) ≡ option_map (λ (x : Row). x.values) (cond t (Some r) (find (λ (x : Row). bytes_eq x.id name) b))
    behind true a b is = refl
    behind false a b is = is

    go : (t : Bool) → bytes_eq r.id id ≡ t → all_of name (with_values id how CommandLine values rs) ≡ all_of name rs
        → all_of name (with_values id how CommandLine values (r ∷ rs)) ≡ all_of name (r ∷ rs)
    go true is more =
        let other : bytes_eq r.id name ≡ false = subst (λ (text : Text). bytes_eq text name ≡ false) (sym (one_text r.id id is)) apart in
        rw (is, other) refl
    go false is more = rw is (behind (bytes_eq r.id name) (with_values id how CommandLine values rs) rs more)

without_none : (id : Text) (rows : List Row) → has_row id rows ≡ false → without id rows ≡ rows
without_none id [] none = refl
without_none id (r ∷ rs) none = go (bytes_eq r.id id) none (without_none id rs)
  where
    go : (t : Bool) → (t || has_row id rs) ≡ false → (has_row id rs ≡ false → without id rs ≡ rs) → cond t ([] ++ rs) (r ∷ without id rs) ≡ r ∷ rs
    go true left more = absurd (true≢false left)
    go false left more = ap (λ x. r ∷ x) (more left)

row_is_found : (id : Text) (rows : List Row) → has_row id rows ≡ is_some (all_of id rows)
row_is_found id [] = refl
row_is_found id (r ∷ rs) = go (bytes_eq r.id id) (row_is_found id rs)
  where
    go : (t : Bool) → has_row id rs ≡ is_some (all_of id rs) → (t || has_row id rs) ≡ is_some (option_map (λ (x : Row). x.values) (cond t (Some r) (find (λ (x : Row). bytes_eq x.id id) rs)))
    go true is = refl
    go false is = is

-- ---- what the rows hold

is_kept : (o : Option (List ℕ)) → is_some (option_map (λ (value : List ℕ). value ∷ []) o) ≡ is_some o
is_kept None = refl
is_kept (Some x) = refl

-- an option has a row exactly where it was given
pub row_of_option : (rows : List Row) (front : GivenWords) (name : List ℕ) → HoldGiven rows front → bytes_eq positional_id name ≡ false → has_row name rows ≡ has_option name front.options
row_of_option rows front name holds apart = row_is_found name rows ∙ ap is_some (holds.options name apart) ∙ is_kept (value_of name front.options)

pub nothing_given : HoldGiven [] (only_positional [])
nothing_given = record { positional = refl; options = λ name apart. refl }

one_more : (words : List Text) (word : Text) → Some (or_none (if_any words) ++ word ∷ []) ≡ if_any (words ++ word ∷ [])
one_more [] word = refl
one_more (w ∷ words) word = refl

pub positional_more : (rows : List Row) (front : GivenWords) (how : Reading) (word : List ℕ) → HoldGiven rows front
    → HoldGiven (with_values positional_id how CommandLine (word ∷ []) rows) (record front { positional = front.positional ++ word ∷ [] })
positional_more rows front how word holds =
    record {
      positional = added_here positional_id how (word ∷ []) rows ∙ ap (λ (o : Option (List Text)). Some (or_none o ++ word ∷ [])) holds.positional ∙ one_more front.positional word;
      options = λ name apart. added_apart positional_id name how (word ∷ []) rows apart ∙ holds.options name apart;
    }

pub option_more : (rows : List Row) (front : GivenWords) (how : Reading) (name value : List ℕ) → bytes_eq positional_id name ≡ false → has_row name rows ≡ false → HoldGiven rows front
    → HoldGiven (with_values name how CommandLine (value ∷ []) (without name rows)) (record front { options = front.options ++ (name, value) ∷ [] })
option_more rows front how name value apart none holds =
    let unchanged : without name rows ≡ rows = without_none name rows none in
    let first : value_of name front.options ≡ None = none_of (value_of name front.options) (sym (row_of_option rows front name holds apart) ∙ none) in
    let missing : all_of name rows ≡ None = holds.options name apart ∙ ap (option_map (λ (v : List ℕ). v ∷ [])) first in
    let kept : HoldGiven (with_values name how CommandLine (value ∷ []) rows) (record front { options = front.options ++ (name, value) ∷ [] }) = record {
      positional = added_apart name positional_id how (value ∷ []) rows (other_way positional_id name apart) ∙ holds.positional;
      options = λ other away. go other away first missing (bytes_eq name other) refl;
    } in
    subst (λ (r : List Row). HoldGiven (with_values name how CommandLine (value ∷ []) r) (record front { options = front.options ++ (name, value) ∷ [] })) (sym unchanged) kept
  where
    go : (other : List ℕ) → bytes_eq positional_id other ≡ false → value_of name front.options ≡ None → all_of name rows ≡ None → (t : Bool) → bytes_eq name other ≡ t
        → all_of other (with_values name how CommandLine (value ∷ []) rows) ≡ option_map (λ (v : List ℕ). v ∷ []) (value_of other (front.options ++ (name, value) ∷ []))
    go other away first missing true same =
        let here : all_of name (with_values name how CommandLine (value ∷ []) rows) ≡ Some (value ∷ []) = added_here name how (value ∷ []) rows ∙ ap (λ (o : Option (List Text)). Some (or_none o ++ value ∷ [])) missing in
        let there : value_of name (front.options ++ (name, value) ∷ []) ≡ Some value = value_behind name front.options ((name, value) ∷ []) first ∙ rw (same_text name) refl in
        subst (λ (n : List ℕ). all_of n (with_values name how CommandLine (value ∷ []) rows) ≡ option_map (λ (v : List ℕ). v ∷ []) (value_of n (front.options ++ (name, value) ∷ [])))
        (one_text name other same) (here ∙ sym (ap (option_map (λ (v : List ℕ). v ∷ [])) there))
    go other away first missing false differ =
        added_apart name other how (value ∷ []) rows differ ∙ holds.options other away
        ∙ ap (option_map (λ (v : List ℕ). v ∷ [])) (sym (front_value other (value_of other front.options) front.options ((name, value) ∷ []) refl (rw differ refl)))
