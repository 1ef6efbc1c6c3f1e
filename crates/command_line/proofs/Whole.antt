-- A parse by `clap` of the command for some options.
use Rattle.std.proofs.Common.{◌≡◌, ◌≢◌, inl, inr, ℕ, ◌+◌, Bool, true, false, ◌&&◌, ◌||◌, not, cond, List, [], ◌∷◌, map, Option, Some, None, is_some, refl, sym, ap, ◌∙◌, subst, true≢false, arith}
use Rattle.std.specs.List.{fold, list_all, list_any, count_by}
use Rattle.clap.specs.Walk.{Names, Row, Rule, Text, Held, idle, finished, has_row, is_early_multiple, nothing_held, walk, walk_from, walked, with_default, rows_of}
use Rattle.clap.specs.Simple.{App, Shape, built, entered, is_buildable, is_ready, is_ready_leaf, is_simple, matches_of, HasMatchesOf}
use Rattle.clap.specs.Kinds.{HasKind, IsAmong, Kinds}
use Rattle.clap.specs.Faults.{built_fault, check_fault, defaults_fault, entered_fault, fault_of, is_free_app, is_simple_and_free}
use Rattle.clap.specs.Takes.{is_given}
use Rattle.clap.specs.declared.error.kind.ErrorKind.{ErrorKind}
use Rattle.std.specs.Prelude.{String}
use Rattle.std.proofs.lemmas.Str.{IsUtf8-string_bytes}
use Rattle.clap.specs.Matches.{found_of}
use Rattle.clap.specs.Values.{kind_of}
use Rattle.clap.specs.declared.error.Error.{Error}
use Rattle.clap.specs.declared.error.kind.ErrorKind.TheVariants.{OutOfMemory}
use Rattle.clap.specs.declared.parser.matches.ArgMatches.{ArgMatches}
use Rattle.command_line.specs.Words.{place_in, texts, words_given}
use Rattle.command_line.specs.ClapWords.{Gives, MayBeRefused, option_rule, positional_id, simple_app}
use Rattle.command_line.proofs.Rules.{built_is, filled_option, rules_for, shape_for}
use Rattle.command_line.proofs.Steps.{at, fails, or_nothing}
use Rattle.command_line.proofs.Ends.{AllText, Ends, rows_end, total, walk_ends}

-- ---- the command is simple

each_option : (p : Rule → Bool) → ((name : List ℕ) → p (option_rule name) ≡ true) → (names : List (List ℕ)) → list_all p (map option_rule names) ≡ true
each_option p each [] = refl
each_option p each (name ∷ names) = rw (each name) (each_option p each names)

each_filled : (p : Rule → Bool) → ((name : List ℕ) → p (filled_option name) ≡ true) → (names : List (List ℕ)) → list_all p (map filled_option names) ≡ true
each_filled p each [] = refl
each_filled p each (name ∷ names) = rw (each name) (each_filled p each names)

none_filled : (p : Rule → Bool) → ((name : List ℕ) → p (filled_option name) ≡ false) → (names : List (List ℕ)) → list_any p (map filled_option names) ≡ false
none_filled p each [] = refl
none_filled p each (name ∷ names) = rw (each name) (none_filled p each names)

none_counted : (n : ℕ) (names : List (List ℕ)) → fold (λ (a : ℕ) (x : Rule). a + cond (is_some x.index) 1 0) n (map filled_option names) ≡ n
none_counted n [] = refl
none_counted n (name ∷ names) =
    let same : n + 0 ≡ n = omega arith in
    ap (λ (k : ℕ). fold (λ (a : ℕ) (x : Rule). a + cond (is_some x.index) 1 0) k (map filled_option names)) same ∙ none_counted n names

one_counted : (names : List (List ℕ)) → count_by (λ (a : Rule). is_some a.index) (rules_for names) ≡ 1
unfolding rules_for
one_counted names = none_counted 1 names

in_order : (names : List (List ℕ)) → list_any (is_early_multiple (count_by (λ (a : Rule). is_some a.index) (rules_for names))) (rules_for names) ≡ false
unfolding rules_for
in_order names =
    ap (λ (n : ℕ). list_any (is_early_multiple n) (rules_for names)) (one_counted names) ∙ none_filled (is_early_multiple 1) (λ name. refl) names

all_free : (names : List (List ℕ)) → list_all (λ (a : Rule). a.is_free) (rules_for names) ≡ true
unfolding rules_for
all_free names = each_filled (λ (a : Rule). a.is_free) (λ name. refl) names

all_simple : (names : List (List ℕ)) → list_all (λ (a : Rule). a.is_simple) (rules_for names) ≡ true
unfolding rules_for
all_simple names = each_filled (λ (a : Rule). a.is_simple) (λ name. refl) names

and_both : (a b : Bool) → a ≡ true → b ≡ true → (a && b) ≡ true
and_both a b first second = rw (first, second) refl

buildable : (names : List (List ℕ)) → is_buildable (simple_app names) ≡ true
buildable names = ap (λ (b : Bool). b && true) (each_option (λ (a : Rule). a.is_simple) (λ name. refl) names)

pub simple : (names : List (List ℕ)) → is_simple (simple_app names) ≡ true
simple names = and_both _ _ (buildable names) (ap (λ (a : App). is_ready a.top && list_all is_ready_leaf a.subs) (built_is names) ∙ rw (all_simple names, in_order names) refl)

pub simple_and_free : (names : List (List ℕ)) → is_simple_and_free (simple_app names) ≡ true
simple_and_free names = and_both _ _ (simple names) (ap is_free_app (built_is names) ∙ rw (all_free names) refl)

-- ---- what comes after the walk

or_true : (b : Bool) → (b || true) ≡ true
or_true true = refl
or_true false = refl

-- a rule with no default value, which is not required
abbrev IsLoose : Rule → Type 0
IsLoose a = (a.defaults ≡ []) × (a.required ≡ false)

abbrev AllLoose : List Rule → Type 0
AllLoose [] = Unit {0}
AllLoose (a ∷ rules) = IsLoose a × AllLoose rules

loose_options : (names : List (List ℕ)) → AllLoose (map filled_option names)
loose_options [] = tt
loose_options (name ∷ names) = ((refl, refl), loose_options names)

loose : (names : List (List ℕ)) → AllLoose (rules_for names)
unfolding rules_for
loose names = ((refl, refl), loose_options names)

kept_by : (b : Bool) (rows : List Row) → cond b rows rows ≡ rows
kept_by true rows = refl
kept_by false rows = refl

default_kept : (rows : List Row) (a : Rule) → a.defaults ≡ [] → with_default rows a ≡ rows
default_kept rows a none = rw none (kept_by (has_row a.id rows) rows)

defaults_kept : (rules : List Rule) (rows : List Row) → AllLoose rules → fold with_default rows rules ≡ rows
defaults_kept [] rows loose = refl
defaults_kept (a ∷ rules) rows loose = ap (λ (r : List Row). fold with_default r rules) (default_kept rows a loose.0.0) ∙ defaults_kept rules rows loose.1

no_default_fault : (rules : List Rule) (rows : List Row) → AllLoose rules → defaults_fault rows rules ≡ []
unfolding defaults_fault
no_default_fault [] rows loose = refl
no_default_fault (a ∷ rules) rows loose = rw (loose.0.0, or_true (has_row a.id rows), kept_by (has_row a.id rows) rows) (no_default_fault rules rows loose.1)

none_required : (rules : List Rule) (rows : List Row) → AllLoose rules → list_any (λ (a : Rule). a.required && not (is_given a.id rows)) rules ≡ false
none_required [] rows loose = refl
none_required (a ∷ rules) rows loose = rw loose.0.1 (none_required rules rows loose.1)

no_check_fault : (names : List (List ℕ)) (rows : List Row) → check_fault (shape_for names) rows false ≡ []
no_check_fault names rows = rw (none_required (rules_for names) rows (loose names)) refl

-- no subcommand is entered
no_subcommand_fault : (names : List (List ℕ)) (stop : Option (Text × List Text)) → entered_fault (record { top = shape_for names; subs = [] }) stop ≡ []
no_subcommand_fault names None = refl
no_subcommand_fault names (Some p) = refl

not_entered : (names : List (List ℕ)) (stop : Option (Text × List Text)) → is_some (entered (record { top = shape_for names; subs = [] }) stop) ≡ false
not_entered names None = refl
not_entered names (Some p) = refl

fault_is : (names words : List (List ℕ)) → fault_of (simple_app names) words ≡ total names (at [] None idle false) words
unfolding total
fault_is names words =
    let end = walk (rules_for names) [] nothing_held words in
    ap (λ (a : App). built_fault a nothing_held words) (built_is names)
    ∙ rw (no_subcommand_fault names end.stopped, not_entered names end.stopped, no_default_fault (rules_for names) (Rattle.clap.specs.Walk.settled (rules_for names) end.held).rows (loose names), no_check_fault names (finished (rules_for names) end.held), or_nothing) refl

rows_are : (names words : List (List ℕ)) → matches_of (simple_app names) words ≡ rows_end names (at [] None idle false) words
unfolding rows_end
rows_are names words =
    ap (λ (a : App). Rattle.clap.specs.Walk.rows_after a.top.rules (Rattle.clap.specs.Simple.names_of a) words) (built_is names)
    ∙ defaults_kept (rules_for names) (Rattle.clap.specs.Walk.settled (rules_for names) (walk (rules_for names) [] nothing_held words).held).rows (loose names)

-- a parse ends as the words say
pub parse_ends : (names : List (List ℕ)) → place_in names positional_id ≡ None → (words : List (List ℕ)) → AllText words
    → Ends names (fault_of (simple_app names) words) (matches_of (simple_app names) words) (words_given names words)
parse_ends names none words texts =
    subst (λ (k : Kinds). Ends names k (matches_of (simple_app names) words) (words_given names words)) (sym (fault_is names words))
    (subst (λ (r : List Row). Ends names (total names (at [] None idle false) words) r (words_given names words)) (sym (rows_are names words)) (walk_ends names none words texts))

-- a parse that succeeds has what the words give
pub taken : (names : List (List ℕ)) → place_in names positional_id ≡ None → (words : List (List ℕ)) → AllText words → (rows : List Row)
    → fault_of (simple_app names) words ≡ [] → rows ≡ matches_of (simple_app names) words → Gives rows (words_given names words)
taken names none words texts rows fine is = subst (λ (r : List Row). Gives r (words_given names words)) (sym is) (by (parse_ends names none words texts))
  where
    by : Ends names (fault_of (simple_app names) words) (matches_of (simple_app names) words) (words_given names words) → Gives (matches_of (simple_app names) words) (words_given names words)
    by (inl fits) = fits.1
    by (inr lost) = absurd (true≢false (sym lost.0 ∙ ap fails fine))

-- a parse that fails has words that may be refused
pub refused : (names : List (List ℕ)) → place_in names positional_id ≡ None → (words : List (List ℕ)) → AllText words → (k : ErrorKind)
    → IsAmong k (fault_of (simple_app names) words) → MayBeRefused names (words_given names words)
refused names none words texts k among = by (parse_ends names none words texts)
  where
    some_fault : (kinds : Kinds) → IsAmong k kinds → fails kinds ≡ true
    some_fault [] among = absurd among
    some_fault (x ∷ xs) among = refl

    by : Ends names (fault_of (simple_app names) words) (matches_of (simple_app names) words) (words_given names words) → MayBeRefused names (words_given names words)
    by (inl fits) = absurd (true≢false (sym (some_fault (fault_of (simple_app names) words) among) ∙ fits.0))
    by (inr lost) = lost.1

-- words are text
pub all_text : {A : Type 0} (words : List (String A)) → AllText (texts words)
all_text [] = tt
all_text (word ∷ words) = (IsUtf8-string_bytes word, all_text words)

-- the same of the command that is asked, and of words
pub gives : {A : Type 0} (names : List (List ℕ)) → place_in names positional_id ≡ None → (app : App) → app ≡ simple_app names → (words : List (String A)) → (m : ArgMatches)
    → (is_simple_and_free app ≡ true → fault_of app (texts words) ≡ []) → HasMatchesOf app (texts words) m → Gives (rows_of (found_of m)) (words_given names (texts words))
gives names none app is words m fine matches =
    taken names none (texts words) (all_text words) (rows_of (found_of m))
    (sym (ap (λ (a : App). fault_of a (texts words)) is) ∙ fine (ap is_simple_and_free is ∙ simple_and_free names))
    ((matches (ap is_simple is ∙ simple names)).0 ∙ ap (λ (a : App). matches_of a (texts words)) is)

pub refuses : {A : Type 0} (names : List (List ℕ)) → place_in names positional_id ≡ None → (app : App) → app ≡ simple_app names → (words : List (String A)) → (e : Error)
    → (is_simple_and_free app ≡ true → HasKind (fault_of app (texts words)) e) → kind_of e ≢ OutOfMemory → MayBeRefused names (words_given names (texts words))
refuses names none app is words e fails other = by (fails (ap is_simple_and_free is ∙ simple_and_free names))
  where
    by : HasKind (fault_of app (texts words)) e → MayBeRefused names (words_given names (texts words))
    by (inl memory) = absurd (other memory)
    by (inr among) = refused names none (texts words) (all_text words) (kind_of e) (subst (λ (a : App). IsAmong (kind_of e) (fault_of a (texts words))) is among)
