-- Values that begin with `-` are no numbers, and what the words of a command ask for.
use Rattle.std.proofs.Common.{◌≡◌, ◌⊎◌, inl, inr, ℕ, ◌||◌, Bool, true, false, List, [], ◌∷◌, map, Option, Some, None, is_some, refl, sym, ap, ◌∙◌, subst, bytes_eq, eqb-true, true≢false, length, ◌<◌, ◌≤◌, arith, option_map, slice_index_or, Bor}
use Rattle.std.specs.List.{list_any}
use Rattle.line_text.specs.Number.{number_in}
use Rattle.tile_source.specs.declared.limits.TheConstants.{MOST_ZOOM, LAST_TILE}
use Rattle.std.proofs.lemmas.Option.{none-some}
use Rattle.command_line.specs.Words.{GivenWords, is_dashed, place_in, texts_of, value_of}
use Rattle.command_line.specs.Settings.{SettingValue, clients_setting, entries_setting, keep_setting, replay_limit, rounds_setting, serve_limit, set_to, side_setting, standard_setting}
use Rattle.command_line.specs.Commands.{◌>>=◌, gen_of, gen_options, named, replay_of, replay_options, serve_cfg, serve_of, serve_options, side_of, tile_of, tile_options}
use Rattle.command_line.specs.ClapWords.{HasDashedValue, MayBeRefused, if_any}
use Rattle.command_line.proofs.Options.{any_position, one_text}

dashed_is_no_number : (value : List ℕ) (least most : ℕ) → is_dashed value ≡ true → number_in value least most ≡ None
dashed_is_no_number [] least most dash = absurd (true≢false (sym dash))
dashed_is_no_number (b ∷ []) least most dash = absurd (true≢false (sym dash))
dashed_is_no_number (b ∷ c ∷ bs) least most dash = subst (λ (x : ℕ). number_in (x ∷ c ∷ bs) least most ≡ None) (sym (eqb-true b 45 dash)) refl

-- an option whose value begins with `-` is set to nothing
not_set : (setting : SettingValue) (given : GivenWords) (name value : List ℕ) → bytes_eq setting.name name ≡ true → value_of name given.options ≡ Some value → is_dashed value ≡ true → set_to setting given ≡ None
not_set setting given name value same has dash =
    let there : value_of setting.name given.options ≡ Some value = ap (λ (n : List ℕ). value_of n given.options) (one_text setting.name name same) ∙ has in
    rw there (dashed_is_no_number value setting.least setting.most dash)

-- a step that gives nothing ends the others
ends_all : {A B : Type 0} (o : Option A) (f : A → Option B) → ((a : A) → f a ≡ None) → (o >>= f) ≡ None
ends_all None f all = refl
ends_all (Some a) f all = all a

pub ends_now : {A B : Type 0} (o : Option A) (f : A → Option B) → o ≡ None → (o >>= f) ≡ None
ends_now o f none = rw none refl

is_listed : (names : List (List ℕ)) (name : List ℕ) → is_some (place_in names name) ≡ true → list_any (λ known. bytes_eq known name) names ≡ true
is_listed names name known = sym (any_position (λ known. bytes_eq known name) names) ∙ known

either : (a b : Bool) → (a || b) ≡ true → (a ≡ true) ⊎ (b ≡ true)
either true b is = inl refl
either false b is = inr is

-- one of these options is set to nothing
abbrev OneUnset : GivenWords → List SettingValue → Type 0
OneUnset given [] = ⊥
OneUnset given (setting ∷ settings) = (set_to setting given ≡ None) ⊎ OneUnset given settings

one_unset : (given : GivenWords) (settings : List SettingValue) (name value : List ℕ) → list_any (λ known. bytes_eq known name) (map (λ (s : SettingValue). s.name) settings) ≡ true
    → value_of name given.options ≡ Some value → is_dashed value ≡ true → OneUnset given settings
one_unset given [] name value known has dash = absurd (true≢false (sym known))
one_unset given (setting ∷ settings) name value known has dash = by (bytes_eq setting.name name) refl known (λ listed. one_unset given settings name value listed has dash)
  where
    by : (t : Bool) → bytes_eq setting.name name ≡ t → (t || list_any (λ k. bytes_eq k name) (map (λ (s : SettingValue). s.name) settings)) ≡ true
        → (list_any (λ k. bytes_eq k name) (map (λ (s : SettingValue). s.name) settings) ≡ true → OneUnset given settings) → OneUnset given (setting ∷ settings)
    by true same is more = inl (not_set setting given name value same has dash)
    by false differ is more = inr (more is)

unset : (settings : List SettingValue) (said : Option GivenWords) → (dashed : HasDashedValue (map (λ (s : SettingValue). s.name) settings) said) → OneUnset dashed.given settings
unset settings said dashed = one_unset dashed.given settings dashed.name dashed.value (is_listed (map (λ (s : SettingValue). s.name) settings) dashed.name dashed.known) dashed.has dashed.dashed

-- the options of `serve`
abbrev AnyOfServe : GivenWords → Type 0
AnyOfServe given =
    OneUnset given (clients_setting ∷ serve_limit ∷ side_setting ∷ entries_setting ∷ rounds_setting ∷ standard_setting ∷ keep_setting ∷ [])

no_cfg : (given : GivenWords) → AnyOfServe given → serve_cfg given ≡ None
no_cfg given (inl u) = ends_now (set_to clients_setting given) _ u
no_cfg given (inr (inl u)) = ends_all (set_to clients_setting given) _ (λ clients. ends_now (set_to serve_limit given) _ u)
no_cfg given (inr (inr (inl u))) =
    ends_all (set_to clients_setting given) _ (λ clients. ends_all (set_to serve_limit given) _ (λ limit. ends_now (side_of given) _ (ends_now (set_to side_setting given) _ u)))
no_cfg given (inr (inr (inr (inl u)))) =
    ends_all (set_to clients_setting given) _ (λ clients. ends_all (set_to serve_limit given) _ (λ limit. ends_all (side_of given) _ (λ side. ends_now (set_to entries_setting given) _ u)))
no_cfg given (inr (inr (inr (inr (inl u))))) =
    ends_all (set_to clients_setting given) _ (λ clients. ends_all (set_to serve_limit given) _ (λ limit. ends_all (side_of given) _ (λ side. ends_all (set_to entries_setting given) _ (λ entries.
    ends_now (set_to rounds_setting given) _ u))))
no_cfg given (inr (inr (inr (inr (inr (inl u)))))) =
    ends_all (set_to clients_setting given) _ (λ clients. ends_all (set_to serve_limit given) _ (λ limit. ends_all (side_of given) _ (λ side. ends_all (set_to entries_setting given) _ (λ entries.
    ends_all (set_to rounds_setting given) _ (λ rounds. ends_now (set_to standard_setting given) _ u)))))
no_cfg given (inr (inr (inr (inr (inr (inr (inl u))))))) =
    ends_all (set_to clients_setting given) _ (λ clients. ends_all (set_to serve_limit given) _ (λ limit. ends_all (side_of given) _ (λ side. ends_all (set_to entries_setting given) _ (λ entries.
    ends_all (set_to rounds_setting given) _ (λ rounds. ends_all (set_to standard_setting given) _ (λ standard. ends_now (set_to keep_setting given) _ u))))))
no_cfg given (inr (inr (inr (inr (inr (inr (inr u))))))) = absurd u

-- ---- words that `clap` refuses ask for nothing

pub replay_refused : (said : Option GivenWords) → MayBeRefused replay_options said → (said >>= replay_of) ≡ None
replay_refused said (inl none) = rw none refl
replay_refused said (inr dashed) = rw dashed.is (by dashed.given.positional refl (unset (replay_limit ∷ standard_setting ∷ keep_setting ∷ []) said dashed))
  where
    by : (words : List (List ℕ)) → dashed.given.positional ≡ words → OneUnset dashed.given (replay_limit ∷ standard_setting ∷ keep_setting ∷ []) → replay_of dashed.given ≡ None
    by (word ∷ words) is u = rw is refl
    by [] is (inl u) = rw is (ends_now (set_to replay_limit dashed.given) _ u)
    by [] is (inr (inl u)) = rw is (ends_all (set_to replay_limit dashed.given) _ (λ limit. ends_now (set_to standard_setting dashed.given) _ u))
    by [] is (inr (inr (inl u))) =
        rw is (ends_all (set_to replay_limit dashed.given) _ (λ limit. ends_all (set_to standard_setting dashed.given) _ (λ standard. ends_now (set_to keep_setting dashed.given) _ u)))
    by [] is (inr (inr (inr u))) = absurd u

pub tile_refused : (said : Option GivenWords) → MayBeRefused tile_options said → (said >>= tile_of) ≡ None
tile_refused said (inl none) = rw none refl
tile_refused said (inr dashed) = rw dashed.is (by dashed.given.positional refl (unset (side_setting ∷ []) said dashed))
  where
    by : (words : List (List ℕ)) → dashed.given.positional ≡ words → OneUnset dashed.given (side_setting ∷ []) → tile_of dashed.given ≡ None
    by [] is u = rw is refl
    by (a ∷ []) is u = rw is refl
    by (a ∷ b ∷ []) is u = rw is refl
    by (a ∷ b ∷ c ∷ []) is u = rw is refl
    by (a ∷ b ∷ c ∷ d ∷ []) is (inl u) =
        rw is (ends_all (named a) _ (λ name. ends_all (number_in b 0 MOST_ZOOM) _ (λ zoom. ends_all (number_in c 0 LAST_TILE) _ (λ column. ends_all (number_in d 0 LAST_TILE) _ (λ row.
        ends_now (side_of dashed.given) _ (ends_now (set_to side_setting dashed.given) _ u))))))
    by (a ∷ b ∷ c ∷ d ∷ []) is (inr u) = absurd u
    by (a ∷ b ∷ c ∷ d ∷ e ∷ rest) is u = rw is refl

pub serve_refused : (said : Option GivenWords) → MayBeRefused serve_options said → (said >>= serve_of) ≡ None
serve_refused said (inl none) = rw none refl
serve_refused said (inr dashed) =
    rw dashed.is (by dashed.given.positional refl (no_cfg dashed.given (unset (clients_setting ∷ serve_limit ∷ side_setting ∷ entries_setting ∷ rounds_setting ∷ standard_setting ∷ keep_setting ∷ []) said dashed)))
  where
    by : (words : List (List ℕ)) → dashed.given.positional ≡ words → serve_cfg dashed.given ≡ None → serve_of dashed.given ≡ None
    by [] is u = rw is refl
    by (a ∷ []) is u = rw is (ends_all (named a) _ (λ name. ends_now (serve_cfg dashed.given) _ u))
    by (a ∷ b ∷ rest) is u = rw is refl

pub gen_refused : (said : Option GivenWords) → MayBeRefused gen_options said → (said >>= gen_of) ≡ None
gen_refused said (inl none) = rw none refl
gen_refused said (inr dashed) = absurd (true≢false (sym dashed.known))

-- ---- what the code reads

-- there are positional words
pub some_words : (words : Option (Bor (List (Bor (List ℕ))))) (given : List (List ℕ)) → option_map (λ s. texts_of s.now) words ≡ if_any given → true ≡ is_some words → is_some (if_any given) ≡ true
some_words None given is some = absurd (true≢false some)
some_words (Some words) given is some = ap is_some (sym is)

pub no_words : (words : Option (Bor (List (Bor (List ℕ))))) (given : List (List ℕ)) → option_map (λ s. texts_of s.now) words ≡ if_any given → false ≡ is_some words → given ≡ []
no_words words [] is none = refl
no_words None (w ∷ ws) is none = absurd (none-some _ is)
no_words (Some words) (w ∷ ws) is none = absurd (true≢false (sym none))

pub replay_with_words : (all : GivenWords) → is_some (if_any all.positional) ≡ true → replay_of all ≡ None
replay_with_words all some = by all.positional refl some
  where
    by : (words : List (List ℕ)) → all.positional ≡ words → is_some (if_any words) ≡ true → replay_of all ≡ None
    by [] is some = absurd (true≢false (sym some))
    by (w ∷ ws) is some = rw is refl

-- the words one by one
abbrev pub word_at : List (Bor (List ℕ)) → ℕ → List ℕ
word_at words n = (slice_index_or words n (record { ref_ptr = (0, 0); now = [] })).now

pub one_word : (words : List (Bor (List ℕ))) (given : List (List ℕ)) → Some (texts_of words) ≡ if_any given → 1 ≤ length words → length words < 2 → given ≡ word_at words 0 ∷ []
one_word [] given is least most = absurd (omega arith)
one_word (a ∷ []) [] is least most = cc
one_word (a ∷ []) (w ∷ ws) is least most = cc
one_word (a ∷ b ∷ rest) given is least most = absurd (omega arith)

pub four_words : (words : List (Bor (List ℕ))) (given : List (List ℕ)) → Some (texts_of words) ≡ if_any given → 4 ≤ length words → length words < 5
    → given ≡ word_at words 0 ∷ word_at words 1 ∷ word_at words 2 ∷ word_at words 3 ∷ []
four_words [] given is least most = absurd (omega arith)
four_words (a ∷ []) given is least most = absurd (omega arith)
four_words (a ∷ b ∷ []) given is least most = absurd (omega arith)
four_words (a ∷ b ∷ c ∷ []) given is least most = absurd (omega arith)
four_words (a ∷ b ∷ c ∷ d ∷ []) [] is least most = cc
four_words (a ∷ b ∷ c ∷ d ∷ []) (w ∷ ws) is least most = cc
four_words (a ∷ b ∷ c ∷ d ∷ e ∷ rest) given is least most = absurd (omega arith)

-- there is not one word
abbrev pub NotOne : List (List ℕ) → Type 0
NotOne given = (given ≡ []) ⊎ ((a : List ℕ) × (b : List ℕ) × (rest : List (List ℕ)) × (given ≡ a ∷ b ∷ rest))

pub not_one : (words : List (Bor (List ℕ))) (given : List (List ℕ)) → Some (texts_of words) ≡ if_any given → (length words < 1) ⊎ (2 ≤ length words) → NotOne given
not_one words [] is count = inl refl
not_one [] (a ∷ []) is count = absurd cc
not_one (x ∷ []) (a ∷ []) is (inl count) = absurd (omega arith)
not_one (x ∷ []) (a ∷ []) is (inr count) = absurd (omega arith)
not_one (x ∷ y ∷ more) (a ∷ []) is count = absurd cc
not_one words (a ∷ b ∷ rest) is count = inr (a, b, rest, refl)

pub serve_other : (all : GivenWords) → NotOne all.positional → serve_of all ≡ None
serve_other all (inl none) = rw none refl
serve_other all (inr many) = rw many.3 refl

pub gen_other : (all : GivenWords) → NotOne all.positional → gen_of all ≡ None
gen_other all (inl none) = rw none refl
gen_other all (inr many) = rw many.3 refl

pub tile_few_words : (all : GivenWords) (words : List (Bor (List ℕ))) → Some (texts_of words) ≡ if_any all.positional → length words < 4 → tile_of all ≡ None
tile_few_words all words is few = by words all.positional refl is few
  where
    by : (words : List (Bor (List ℕ))) (given : List (List ℕ)) → all.positional ≡ given → Some (texts_of words) ≡ if_any given → length words < 4 → tile_of all ≡ None
    by words [] given is few = rw given refl
    by words (a ∷ []) given is few = rw given refl
    by words (a ∷ b ∷ []) given is few = rw given refl
    by words (a ∷ b ∷ c ∷ []) given is few = rw given refl
    by [] (a ∷ b ∷ c ∷ d ∷ rest) given is few = absurd cc
    by (x ∷ []) (a ∷ b ∷ c ∷ d ∷ rest) given is few = absurd cc
    by (x ∷ y ∷ []) (a ∷ b ∷ c ∷ d ∷ rest) given is few = absurd cc
    by (x ∷ y ∷ z ∷ []) (a ∷ b ∷ c ∷ d ∷ rest) given is few = absurd cc
    by (x ∷ y ∷ z ∷ w ∷ more) (a ∷ b ∷ c ∷ d ∷ rest) given is few = absurd (omega arith)

pub tile_many_words : (all : GivenWords) (words : List (Bor (List ℕ))) → Some (texts_of words) ≡ if_any all.positional → 5 ≤ length words → tile_of all ≡ None
tile_many_words all words is many = by words all.positional refl is many
  where
    by : (words : List (Bor (List ℕ))) (given : List (List ℕ)) → all.positional ≡ given → Some (texts_of words) ≡ if_any given → 5 ≤ length words → tile_of all ≡ None
    by words [] given is many = rw given refl
    by words (a ∷ []) given is many = rw given refl
    by words (a ∷ b ∷ []) given is many = rw given refl
    by words (a ∷ b ∷ c ∷ []) given is many = rw given refl
    by words (a ∷ b ∷ c ∷ d ∷ e ∷ rest) given is many = rw given refl
    by [] (a ∷ b ∷ c ∷ d ∷ []) given is many = absurd (omega arith)
    by (x ∷ []) (a ∷ b ∷ c ∷ d ∷ []) given is many = absurd (omega arith)
    by (x ∷ y ∷ []) (a ∷ b ∷ c ∷ d ∷ []) given is many = absurd (omega arith)
    by (x ∷ y ∷ z ∷ []) (a ∷ b ∷ c ∷ d ∷ []) given is many = absurd (omega arith)
    by (x ∷ y ∷ z ∷ w ∷ []) (a ∷ b ∷ c ∷ d ∷ []) given is many = absurd (omega arith)
    by (x ∷ y ∷ z ∷ w ∷ v ∷ more) (a ∷ b ∷ c ∷ d ∷ []) given is many = absurd cc

-- ---- a chain of steps

-- the first step gave this, and so did the second
pub step_on : {A B : Type 0} (o : Option A) (a : A) (f : A → Option B) (result : Option B) → o ≡ Some a → f a ≡ result → (o >>= f) ≡ result
step_on o a f result is rest = rw is rest
