-- What is read so far and what is left give what all words give.
use Rattle.std.proofs.Common.{◌≡◌, inl, inr, ℕ, Bool, true, false, List, [], ◌∷◌, ◌++◌, Option, Some, None, is_some, option_map, refl, sym, ap, ◌∙◌, append_assoc}
use Rattle.std.proofs.lemmas.List.{append-nil}
use Rattle.clap.specs.Walk.{Row}
use Rattle.command_line.specs.Words.{GivenWords, only_positional, with_positional, with_option, given_from, words_given, stand_once, has_option, value_of, place_in, is_dashed}
use Rattle.command_line.specs.ClapWords.{HoldGiven, Gives, MayBeRefused}
use Rattle.command_line.proofs.Options.{once_more, once_twice, value_behind, same_text}
use Rattle.command_line.proofs.Rows.{nothing_given}

-- what was given in front, and what is given behind it
abbrev pub joined : GivenWords → Option GivenWords → Option GivenWords
joined front behind = option_map {T = GivenWords} (λ g. record { positional = front.positional ++ g.positional; options = front.options ++ g.options }) behind

-- what was given so far and what the words behind it give is what all words give
pub record ReadsOn (names : List (List ℕ)) (rows : List Row) (behind : Option GivenWords) (all : List (List ℕ)) : Type 0 where
  pub front : GivenWords
  pub holds : HoldGiven rows front
  pub once : stand_once front.options ≡ true
  pub goes_on : joined front behind ≡ given_from names None all

join_none : (behind : Option GivenWords) → joined (only_positional []) behind ≡ behind
join_none None = refl
join_none (Some g) = refl

join_positional : (front : GivenWords) (word : List ℕ) (behind : Option GivenWords)
    → joined front (with_positional word behind) ≡ joined (record front { positional = front.positional ++ word ∷ [] }) behind
join_positional front word None = refl
join_positional front word (Some g) =
    ap (λ words. Some (record { positional = words; options = front.options ++ g.options })) (sym (append_assoc front.positional (word ∷ []) g.positional))

join_option : (front : GivenWords) (name value : List ℕ) (behind : Option GivenWords)
    → joined front (with_option name value behind) ≡ joined (record front { options = front.options ++ (name, value) ∷ [] }) behind
join_option front name value None = refl
join_option front name value (Some g) =
    ap (λ options. Some (record { positional = front.positional ++ g.positional; options = options })) (sym (append_assoc front.options ((name, value) ∷ []) g.options))

-- nothing is read yet
pub begins : (names words : List (List ℕ)) → ReadsOn names [] (given_from names None words) words
begins names words = record { front = only_positional []; holds = nothing_given; once = refl; goes_on = join_none (given_from names None words) }

-- ---- ends

found : (names : List (List ℕ)) (rows : List Row) (front : GivenWords) (all : List (List ℕ))
    → given_from names None all ≡ Some front → stand_once front.options ≡ true → HoldGiven rows front → Gives rows (words_given names all)
found names rows front all is once holds = record { given = front; is = rw is (rw once refl); holds = holds }

none_found : (names all : List (List ℕ)) → given_from names None all ≡ None → MayBeRefused names (words_given names all)
none_found names all is = inl (rw is refl)

-- all words are read
pub all_read : (names : List (List ℕ)) (rows : List Row) (all : List (List ℕ)) → ReadsOn names rows (Some (only_positional [])) all → Gives rows (words_given names all)
all_read names rows all so_far =
    let front = so_far.front in
    let words : front.positional ++ [] ≡ front.positional = append-nil front.positional in
    let options : front.options ++ [] ≡ front.options = append-nil front.options in
    found names rows front all (sym so_far.goes_on ∙ ap (λ (w : List (List ℕ)). Some (record { positional = w; options = front.options ++ [] })) words
    ∙ ap (λ o. Some (record { positional = front.positional; options = o })) options) so_far.once so_far.holds

-- the words behind it give nothing
pub gives_none : (names : List (List ℕ)) (rows : List Row) (behind : Option GivenWords) (all : List (List ℕ)) → ReadsOn names rows behind all → behind ≡ None → MayBeRefused names (words_given names all)
gives_none names rows behind all so_far is = none_found names all (sym so_far.goes_on ∙ ap (joined so_far.front) is)

-- an option stands twice
pub twice : (names : List (List ℕ)) (rows : List Row) (name value : List ℕ) (behind : Option GivenWords) (all : List (List ℕ))
    → (so_far : ReadsOn names rows (with_option name value behind) all) → has_option name so_far.front.options ≡ true → MayBeRefused names (words_given names all)
twice names rows name value None all so_far has = gives_none names rows None all so_far refl
twice names rows name value (Some g) all so_far has =
    let front = so_far.front in
    let whole : given_from names None all ≡ Some (record { positional = front.positional ++ g.positional; options = front.options ++ (name, value) ∷ g.options }) =
    sym so_far.goes_on in
    inl (rw whole (rw (once_twice front.options g.options name value has) refl))

-- an option has a value that begins with `-`
pub dashed : (names : List (List ℕ)) (rows : List Row) (name value : List ℕ) (behind : Option GivenWords) (all : List (List ℕ))
    → ReadsOn names rows (with_option name value behind) all → is_some (place_in names name) ≡ true → is_dashed value ≡ true → MayBeRefused names (words_given names all)
dashed names rows name value None all so_far known dash = gives_none names rows None all so_far refl
dashed names rows name value (Some g) all so_far known dash = by_first (value_of name so_far.front.options) refl
  where
    whole : given_from names None all ≡ Some (record { positional = so_far.front.positional ++ g.positional; options = so_far.front.options ++ (name, value) ∷ g.options })
    whole = sym so_far.goes_on

    by_once : (t : Bool) → stand_once (so_far.front.options ++ (name, value) ∷ g.options) ≡ t → value_of name so_far.front.options ≡ None → MayBeRefused names (words_given names all)
    by_once false again first = inl (rw whole (rw again refl))
    by_once true once first = inr (record {
      given = record { positional = so_far.front.positional ++ g.positional; options = so_far.front.options ++ (name, value) ∷ g.options };
      is = rw whole (rw once refl);
      name = name;
      known = known;
      value = value;
      has = value_behind name so_far.front.options ((name, value) ∷ g.options) first ∙ rw (same_text name) refl;
      dashed = dash;
    })

    by_first : (o : Option (List ℕ)) → value_of name so_far.front.options ≡ o → MayBeRefused names (words_given names all)
    by_first None first = by_once (stand_once (so_far.front.options ++ (name, value) ∷ g.options)) refl first
    by_first (Some v) first = twice names rows name value (Some g) all so_far (rw first refl)

-- ---- turns

-- what stands behind is the same
abbrev pub reads_same : (names : List (List ℕ)) (rows : List Row) (behind same : Option GivenWords) (all : List (List ℕ)) → ReadsOn names rows behind all → behind ≡ same → ReadsOn names rows same all
reads_same names rows behind same all so_far is =
    record { front = so_far.front; holds = so_far.holds; once = so_far.once; goes_on = ap (joined so_far.front) (sym is) ∙ so_far.goes_on }

pub reads_positional : (names : List (List ℕ)) (rows after : List Row) (word : List ℕ) (behind : Option GivenWords) (all : List (List ℕ))
    → (so_far : ReadsOn names rows (with_positional word behind) all) → HoldGiven after (record so_far.front { positional = so_far.front.positional ++ word ∷ [] })
    → ReadsOn names after behind all
reads_positional names rows after word behind all so_far holds =
    record {
      front = record so_far.front { positional = so_far.front.positional ++ word ∷ [] };
      holds = holds;
      once = so_far.once;
      goes_on = sym (join_positional so_far.front word behind) ∙ so_far.goes_on;
    }

pub reads_option : (names : List (List ℕ)) (rows after : List Row) (name value : List ℕ) (behind : Option GivenWords) (all : List (List ℕ))
    → (so_far : ReadsOn names rows (with_option name value behind) all) → value_of name so_far.front.options ≡ None
    → HoldGiven after (record so_far.front { options = so_far.front.options ++ (name, value) ∷ [] }) → ReadsOn names after behind all
reads_option names rows after name value behind all so_far first holds =
    record {
      front = record so_far.front { options = so_far.front.options ++ (name, value) ∷ [] };
      holds = holds;
      once = once_more so_far.front.options name value so_far.once first;
      goes_on = sym (join_option so_far.front name value behind) ∙ so_far.goes_on;
    }
