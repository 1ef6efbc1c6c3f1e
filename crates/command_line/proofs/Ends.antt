-- A walk by `clap` over all words ends as the grammar says.
use Rattle.std.proofs.Common.{◌≡◌, ◌⊎◌, inl, inr, ℕ, Bool, true, false, ◌||◌, List, [], ◌∷◌, Option, Some, None, is_some, refl, sym, ap, ◌∙◌, subst, bytes_eq, true≢false}
use Rattle.std.specs.List.{fold}
use Rattle.std.specs.Str.{IsUtf8}
use Rattle.std.proofs.lemmas.Bool.{false_from_ne_true}
use Rattle.clap.specs.Walk.{Row, Waiting, Walk, idle, option, positional, has_row, reading_by, settled_rows, used, walked}
use Rattle.clap.specs.Kinds.{Kinds, or_else}
use Rattle.clap.specs.Faults.{settle_fault, use_fault, walk_fault}
use Rattle.command_line.specs.Words.{GivenWords, given_from, only_positional, place_in, value_of, with_option, words_given}
use Rattle.command_line.specs.ClapWords.{Gives, MayBeRefused, positional_id}
use Rattle.command_line.proofs.Options.{none_of, one_text}
use Rattle.command_line.proofs.Rows.{option_more, positional_more, row_of_option}
use Rattle.command_line.proofs.Sorts as sort
use Rattle.command_line.proofs.Sorts.{Sort, sort_of}
use Rattle.command_line.proofs.Rules.{by_id, by_positional_id, filled_option, filled_positional, option_lacks, option_passes, option_repeats, positional_passes, rules_for, shape_for}
use Rattle.command_line.proofs.Steps.{Pending, at, assigned_word, end_word, fails, fails_first, fails_or, fault_then, is_free, named_word, positional_behind, positional_word, rows_then, short_word, step, turn, unknown_word, value_word}
use Rattle.command_line.proofs.Reading.{ReadsOn, all_read, begins, dashed, gives_none, reads_option, reads_positional, reads_same, twice}

-- ---- the words that are left

-- how a walk fails over these words, from where it stands, and the rows at its end
unfoldable pub total : List (List ℕ) → Walk → List (List ℕ) → Kinds
total names w words = or_else (walk_fault (shape_for names) [] w words) (settle_fault (rules_for names) false (fold (walked (rules_for names) []) w words).held)

unfoldable pub rows_end : List (List ℕ) → Walk → List (List ℕ) → List Row
rows_end names w words = settled_rows (rules_for names) (fold (walked (rules_for names) []) w words).held.pending (fold (walked (rules_for names) []) w words).held.rows

total_none : (names : List (List ℕ)) (rows : List Row) (pending : Pending) (waiting : Waiting) (is_trailing : Bool) → total names (at rows pending waiting is_trailing) [] ≡ fault_then names rows pending
unfolding total walk_fault fault_then
total_none names rows pending waiting is_trailing = refl

rows_none : (names : List (List ℕ)) (rows : List Row) (pending : Pending) (waiting : Waiting) (is_trailing : Bool) → rows_end names (at rows pending waiting is_trailing) [] ≡ rows_then names rows pending
unfolding rows_end rows_then
rows_none names rows pending waiting is_trailing = refl

passed_by : (k a b : Kinds) → fails k ≡ false → or_else (or_else k a) b ≡ or_else a b
passed_by [] a b is = refl
passed_by (k ∷ ks) a b is = absurd (true≢false is)

total_passes : (names : List (List ℕ)) (w : Walk) (word : List ℕ) (words : List (List ℕ)) → fails (turn names w word) ≡ false → total names w (word ∷ words) ≡ total names (step names w word) words
unfolding total walk_fault turn step
total_passes names w word words is = passed_by _ _ _ is

total_fails : (names : List (List ℕ)) (w : Walk) (word : List ℕ) (words : List (List ℕ)) → fails (turn names w word) ≡ true → fails (total names w (word ∷ words)) ≡ true
unfolding total walk_fault turn
total_fails names w word words is = fails_first _ _ (fails_first _ _ is)

-- a walk ends as the words say
abbrev pub Ends : List (List ℕ) → Kinds → List Row → Option GivenWords → Type 0
Ends names kinds rows said = ((fails kinds ≡ false) × Gives rows said) ⊎ ((fails kinds ≡ true) × MayBeRefused names said)

abbrev pub EndsAt : List (List ℕ) → Walk → List (List ℕ) → Option GivenWords → Type 0
EndsAt names w words said = Ends names (total names w words) (rows_end names w words) said

go_on : (names : List (List ℕ)) (w after : Walk) (word : List ℕ) (words : List (List ℕ)) (said : Option GivenWords) → step names w word ≡ after → fails (turn names w word) ≡ false
    → EndsAt names after words said → EndsAt names w (word ∷ words) said
unfolding rows_end step
go_on names w after word words said is passes ends =
    subst (λ (k : Kinds). Ends names k (rows_end names w (word ∷ words)) said) (sym (total_passes names w word words passes)) (subst (λ (x : Walk). EndsAt names x words said) (sym is) ends)

stops : (names : List (List ℕ)) (w : Walk) (word : List ℕ) (words : List (List ℕ)) (said : Option GivenWords) → fails (turn names w word) ≡ true → MayBeRefused names said → EndsAt names w (word ∷ words) said
stops names w word words said is refused = inr (total_fails names w word words is, refused)

-- ---- what is pending

no_pending : (names : List (List ℕ)) (rows : List Row) → (fault_then names rows None ≡ []) × (rows_then names rows None ≡ rows)
unfolding fault_then rows_then
no_pending names rows = (refl, refl)

positional_pending : (names : List (List ℕ)) (rows : List Row) (word : List ℕ)
    → (fault_then names rows (Some (positional_id, word ∷ [])) ≡ []) × (rows_then names rows (Some (positional_id, word ∷ [])) ≡ used filled_positional (word ∷ []) rows)
unfolding fault_then rows_then
positional_pending names rows word = (rw (by_positional_id names) (positional_passes word rows), rw (by_positional_id names) refl)

option_pending : (names : List (List ℕ)) (rows : List Row) (name : List ℕ) (values : List (List ℕ)) → bytes_eq positional_id name ≡ false → is_some (place_in names name) ≡ true
    → (fault_then names rows (Some (name, values)) ≡ use_fault false (filled_option name) values rows) × (rows_then names rows (Some (name, values)) ≡ used (filled_option name) values rows)
unfolding fault_then rows_then
option_pending names rows name values apart known = (rw (by_id names name apart known) refl, rw (by_id names name apart known) refl)

-- an option is not called as the positional words
known_apart : (names : List (List ℕ)) (name : List ℕ) → place_in names positional_id ≡ None → is_some (place_in names name) ≡ true → bytes_eq positional_id name ≡ false
known_apart names name none known =
    false_from_ne_true (bytes_eq positional_id name) (λ same. true≢false (sym known ∙ ap (λ (n : List ℕ). is_some (place_in names n)) (sym (one_text positional_id name same)) ∙ ap is_some none))

-- ---- walks that are lost

abbrev pub AllText : List (List ℕ) → Type 0
AllText [] = Unit {0}
AllText (word ∷ words) = IsUtf8 word × AllText words

lost : (names words : List (List ℕ)) → AllText words → (rows : List Row) (pending : Pending) (waiting : Waiting) (is_trailing : Bool) → (is_trailing || is_free waiting) ≡ true
    → fails (fault_then names rows pending) ≡ true → fails (total names (at rows pending waiting is_trailing) words) ≡ true
lost names [] texts rows pending waiting is_trailing free is = ap fails (total_none names rows pending waiting is_trailing) ∙ is
lost names (word ∷ words) texts rows pending waiting true free is =
    total_fails names (at rows pending waiting true) word words (ap fails (positional_behind names rows pending waiting word).1 ∙ is)
lost names (word ∷ words) texts rows pending waiting false free is = by (sort_of names word texts.0) (lost names words texts.1 rows pending waiting true refl is)
  where
    at_once : fails (turn names (at rows pending waiting false) word) ≡ true → fails (total names (at rows pending waiting false) (word ∷ words)) ≡ true
    at_once fault = total_fails names (at rows pending waiting false) word words fault

    by : Sort names word → fails (total names (at rows pending waiting true) words) ≡ true → fails (total names (at rows pending waiting false) (word ∷ words)) ≡ true
    by (sort.ends end dash gives) later =
        let one = end_word names rows pending waiting word end in
        ap fails (total_passes names (at rows pending waiting false) word words (ap fails one.1)) ∙ ap (λ (x : Walk). fails (total names x words)) one.0 ∙ later
    by (sort.assigned end dash name value known long gives) later = at_once (ap fails (assigned_word names rows pending waiting word name value end known long).1 ∙ fails_first _ _ is)
    by (sort.named end dash name known long gives) later = at_once (ap fails (named_word names rows pending waiting word name end known long).1 ∙ is)
    by (sort.unknown end dash name value known long gives) later = at_once (unknown_word names rows pending waiting word name value end known long)
    by (sort.short end dash long byte bytes letter short first gives) later = at_once (short_word names rows pending waiting word byte bytes letter end long short first)
    by (sort.positional end long short gives) later = at_once (ap fails (positional_word names rows pending waiting word free end long short).1 ∙ is)

-- ---- behind `--`

trail : (names words all : List (List ℕ)) (rows : List Row) (pending : Pending) (waiting : Waiting) → fails (fault_then names rows pending) ≡ false
    → ReadsOn names (rows_then names rows pending) (Some (only_positional words)) all → EndsAt names (at rows pending waiting true) words (words_given names all)
trail names [] all rows pending waiting fine so_far =
    inl (ap fails (total_none names rows pending waiting true) ∙ fine, subst (λ (r : List Row). Gives r (words_given names all)) (sym (rows_none names rows pending waiting true)) (all_read names (rows_then names rows pending) all so_far))
trail names (word ∷ words) all rows pending waiting fine so_far =
    let one = positional_behind names rows pending waiting word in
    let before = rows_then names rows pending in
    let after = positional_pending names before word in
    let reads = reads_positional names before (used filled_positional (word ∷ []) before) word (Some (only_positional words)) all so_far (positional_more before so_far.front (reading_by filled_positional) word so_far.holds) in
    go_on names (at rows pending waiting true) (at before (Some (positional_id, word ∷ [])) positional true) word words (words_given names all) one.0 (ap fails one.1 ∙ fine)
    (trail names words all before (Some (positional_id, word ∷ [])) positional (ap fails after.0) (subst (λ (r : List Row). ReadsOn names r (Some (only_positional words)) all) (sym after.1) reads))

-- ---- all other words

abbrev EndFree : List (List ℕ) → List (List ℕ) → List (List ℕ) → Type 0
EndFree names words all = (rows : List Row) (pending : Pending) (waiting : Waiting) → is_free waiting ≡ true → fails (fault_then names rows pending) ≡ false
    → ReadsOn names (rows_then names rows pending) (given_from names None words) all → EndsAt names (at rows pending waiting false) words (words_given names all)

abbrev EndAsked : List (List ℕ) → List (List ℕ) → List (List ℕ) → Type 0
EndAsked names words all = (rows : List Row) (name : List ℕ) → is_some (place_in names name) ≡ true → ReadsOn names rows (given_from names (Some name) words) all
    → EndsAt names (at rows (Some (name, [])) (option name) false) words (words_given names all)

-- an option that is not given has no value so far
not_given : (names : List (List ℕ)) (rows : List Row) (behind : Option GivenWords) (all : List (List ℕ)) (name : List ℕ) → (so_far : ReadsOn names rows behind all) → bytes_eq positional_id name ≡ false
    → has_row name rows ≡ false → value_of name so_far.front.options ≡ None
not_given names rows behind all name so_far apart none = none_of (value_of name so_far.front.options) (sym (row_of_option rows so_far.front name so_far.holds apart) ∙ none)

free_word : (names : List (List ℕ)) → place_in names positional_id ≡ None → (word : List ℕ) (words all : List (List ℕ)) → IsUtf8 word → EndFree names words all → EndAsked names words all → EndFree names (word ∷ words) all
free_word names none word words all text more asked = λ rows pending waiting free fine so_far. by rows pending waiting free fine so_far (sort_of names word text)
  where
    by : (rows : List Row) (pending : Pending) (waiting : Waiting) → is_free waiting ≡ true → fails (fault_then names rows pending) ≡ false
        → ReadsOn names (rows_then names rows pending) (given_from names None (word ∷ words)) all → Sort names word → EndsAt names (at rows pending waiting false) (word ∷ words) (words_given names all)
    by rows pending waiting free fine so_far (sort.ends end dash gives) =
        let one = end_word names rows pending waiting word end in
        go_on names (at rows pending waiting false) (at rows pending waiting true) word words (words_given names all) one.0 (ap fails one.1)
        (trail names words all rows pending waiting fine (reads_same names (rows_then names rows pending) _ _ all so_far (gives words)))
    by rows pending waiting free fine so_far (sort.assigned end dash name value known long gives) =
        by_row (has_row name (rows_then names rows pending)) refl
      where
        before : List Row
        before = rows_then names rows pending

        apart : bytes_eq positional_id name ≡ false
        apart = known_apart names name none known

        one : (step names (at rows pending waiting false) word ≡ at (used (filled_option name) (value ∷ []) (rows_then names rows pending)) None idle false)
            × (turn names (at rows pending waiting false) word ≡ or_else (fault_then names rows pending) (use_fault false (filled_option name) (value ∷ []) (rows_then names rows pending)))
        one = assigned_word names rows pending waiting word name value end known long

        reads : ReadsOn names (rows_then names rows pending) (with_option name value (given_from names None words)) all
        reads = reads_same names (rows_then names rows pending) _ _ all so_far (gives words)

        by_row : (t : Bool) → has_row name (rows_then names rows pending) ≡ t → EndsAt names (at rows pending waiting false) (word ∷ words) (words_given names all)
        by_row true row =
            stops names (at rows pending waiting false) word words (words_given names all)
            (ap fails one.1 ∙ fails_or (fault_then names rows pending) _ ∙ rw (fine, option_repeats name value (rows_then names rows pending) row) refl)
            (twice names (rows_then names rows pending) name value (given_from names None words) all reads (sym (row_of_option (rows_then names rows pending) so_far.front name so_far.holds apart) ∙ row))
        by_row false row =
            let after = no_pending names (used (filled_option name) (value ∷ []) (rows_then names rows pending)) in
            go_on names (at rows pending waiting false) (at (used (filled_option name) (value ∷ []) (rows_then names rows pending)) None idle false) word words (words_given names all) one.0
            (ap fails one.1 ∙ fails_or (fault_then names rows pending) _ ∙ rw (fine, option_passes name value (rows_then names rows pending) row) refl)
            (more (used (filled_option name) (value ∷ []) (rows_then names rows pending)) None idle refl (ap fails after.0)
            (subst (λ (r : List Row). ReadsOn names r (given_from names None words) all) (sym after.1)
            (reads_option names (rows_then names rows pending) (used (filled_option name) (value ∷ []) (rows_then names rows pending)) name value (given_from names None words) all reads
            (not_given names (rows_then names rows pending) _ all name so_far apart row)
            (option_more (rows_then names rows pending) so_far.front (reading_by (filled_option name)) name value apart row so_far.holds))))
    by rows pending waiting free fine so_far (sort.named end dash name known long gives) =
        let one = named_word names rows pending waiting word name end known long in
        go_on names (at rows pending waiting false) (at (rows_then names rows pending) (Some (name, [])) (option name) false) word words (words_given names all) one.0 (ap fails one.1 ∙ fine)
        (asked (rows_then names rows pending) name known (reads_same names (rows_then names rows pending) _ _ all so_far (gives words)))
    by rows pending waiting free fine so_far (sort.unknown end dash name value unknown long gives) =
        stops names (at rows pending waiting false) word words (words_given names all) (unknown_word names rows pending waiting word name value end unknown long)
        (gives_none names (rows_then names rows pending) _ all so_far (gives words))
    by rows pending waiting free fine so_far (sort.short end dash long byte bytes letter short first gives) =
        stops names (at rows pending waiting false) word words (words_given names all) (short_word names rows pending waiting word byte bytes letter end long short first)
        (gives_none names (rows_then names rows pending) _ all so_far (gives words))
    by rows pending waiting free fine so_far (sort.positional end long short gives) =
        let one = positional_word names rows pending waiting word free end long short in
        let before = rows_then names rows pending in
        let after = positional_pending names before word in
        go_on names (at rows pending waiting false) (at before (Some (positional_id, word ∷ [])) positional false) word words (words_given names all) one.0 (ap fails one.1 ∙ fine)
        (more before (Some (positional_id, word ∷ [])) positional refl (ap fails after.0)
        (subst (λ (r : List Row). ReadsOn names r (given_from names None words) all) (sym after.1)
        (reads_positional names before (used filled_positional (word ∷ []) before) word (given_from names None words) all (reads_same names before _ _ all so_far (gives words))
        (positional_more before so_far.front (reading_by filled_positional) word so_far.holds))))

asked_word : (names : List (List ℕ)) → place_in names positional_id ≡ None → (word : List ℕ) (words all : List (List ℕ)) → IsUtf8 word → AllText words → EndFree names words all → EndAsked names (word ∷ words) all
asked_word names none word words all text texts more = λ rows name known so_far. by rows name known so_far (sort_of names word text)
  where
    by : (rows : List Row) (name : List ℕ) → is_some (place_in names name) ≡ true → ReadsOn names rows (given_from names (Some name) (word ∷ words)) all → Sort names word
        → EndsAt names (at rows (Some (name, [])) (option name) false) (word ∷ words) (words_given names all)
    by rows name known so_far (sort.positional end long short gives) = by_row (has_row name rows) refl
      where
        apart : bytes_eq positional_id name ≡ false
        apart = known_apart names name none known

        one : (step names (at rows (Some (name, [])) (option name) false) word ≡ at rows (Some (name, word ∷ [])) idle false) × (turn names (at rows (Some (name, [])) (option name) false) word ≡ [])
        one = value_word names rows name word apart known end long short

        after : (fault_then names rows (Some (name, word ∷ [])) ≡ use_fault false (filled_option name) (word ∷ []) rows) × (rows_then names rows (Some (name, word ∷ [])) ≡ used (filled_option name) (word ∷ []) rows)
        after = option_pending names rows name (word ∷ []) apart known

        by_row : (t : Bool) → has_row name rows ≡ t → EndsAt names (at rows (Some (name, [])) (option name) false) (word ∷ words) (words_given names all)
        by_row true row =
            go_on names (at rows (Some (name, [])) (option name) false) (at rows (Some (name, word ∷ [])) idle false) word words (words_given names all) one.0 (ap fails one.1)
            (inr (
              lost names words texts rows (Some (name, word ∷ [])) idle false refl (ap fails (after.0 ∙ option_repeats name word rows row)),
              twice names rows name word (given_from names None words) all so_far (sym (row_of_option rows so_far.front name so_far.holds apart) ∙ row),
            ))
        by_row false row =
            go_on names (at rows (Some (name, [])) (option name) false) (at rows (Some (name, word ∷ [])) idle false) word words (words_given names all) one.0 (ap fails one.1)
            (more rows (Some (name, word ∷ [])) idle refl (ap fails (after.0 ∙ option_passes name word rows row))
            (subst (λ (r : List Row). ReadsOn names r (given_from names None words) all) (sym after.1)
            (reads_option names rows (used (filled_option name) (word ∷ []) rows) name word (given_from names None words) all so_far
            (not_given names rows _ all name so_far apart row)
            (option_more rows so_far.front (reading_by (filled_option name)) name word apart row so_far.holds))))
    by rows name known so_far (sort.ends end dash gives) =
        let one = end_word names rows (Some (name, [])) (option name) word end in
        let waits = option_pending names rows name [] (known_apart names name none known) known in
        go_on names (at rows (Some (name, [])) (option name) false) (at rows (Some (name, [])) (option name) true) word words (words_given names all) one.0 (ap fails one.1)
        (inr (lost names words texts rows (Some (name, [])) (option name) true refl (ap fails (waits.0 ∙ option_lacks name rows)), dashed names rows name word (given_from names None words) all so_far known dash))
    by rows name known so_far (sort.assigned end dash other value other_known long gives) =
        let waits = option_pending names rows name [] (known_apart names name none known) known in
        stops names (at rows (Some (name, [])) (option name) false) word words (words_given names all)
        (ap fails (assigned_word names rows (Some (name, [])) (option name) word other value end other_known long).1 ∙ fails_first _ _ (ap fails (waits.0 ∙ option_lacks name rows)))
        (dashed names rows name word (given_from names None words) all so_far known dash)
    by rows name known so_far (sort.named end dash other other_known long gives) =
        let waits = option_pending names rows name [] (known_apart names name none known) known in
        stops names (at rows (Some (name, [])) (option name) false) word words (words_given names all)
        (ap fails (named_word names rows (Some (name, [])) (option name) word other end other_known long).1 ∙ ap fails (waits.0 ∙ option_lacks name rows))
        (dashed names rows name word (given_from names None words) all so_far known dash)
    by rows name known so_far (sort.unknown end dash other value unknown long gives) =
        stops names (at rows (Some (name, [])) (option name) false) word words (words_given names all) (unknown_word names rows (Some (name, [])) (option name) word other value end unknown long)
        (dashed names rows name word (given_from names None words) all so_far known dash)
    by rows name known so_far (sort.short end dash long byte bytes letter short first gives) =
        stops names (at rows (Some (name, [])) (option name) false) word words (words_given names all) (short_word names rows (Some (name, [])) (option name) word byte bytes letter end long short first)
        (dashed names rows name word (given_from names None words) all so_far known dash)

all_words : (names : List (List ℕ)) → place_in names positional_id ≡ None → (words all : List (List ℕ)) → AllText words → EndFree names words all × EndAsked names words all
all_words names none [] all texts = (
  (λ rows pending waiting free fine so_far. inl (
    ap fails (total_none names rows pending waiting false) ∙ fine,
    subst (λ (r : List Row). Gives r (words_given names all)) (sym (rows_none names rows pending waiting false)) (all_read names (rows_then names rows pending) all so_far),
  )),
  (λ rows name known so_far.
      let waits = option_pending names rows name [] (known_apart names name none known) known in
      inr (ap fails (total_none names rows (Some (name, [])) (option name) false ∙ waits.0 ∙ option_lacks name rows), gives_none names rows _ all so_far refl)),
)
all_words names none (word ∷ words) all texts =
    let more = all_words names none words all texts.1 in
    (free_word names none word words all texts.0 more.0 more.1, asked_word names none word words all texts.0 texts.1 more.0)

-- a walk over all words
pub walk_ends : (names : List (List ℕ)) → place_in names positional_id ≡ None → (words : List (List ℕ)) → AllText words → EndsAt names (at [] None idle false) words (words_given names words)
walk_ends names none words texts =
    let start = no_pending names [] in
    (all_words names none words words texts).0 [] None idle refl (ap fails start.0) (subst (λ (r : List Row). ReadsOn names r (given_from names None words) words) (sym start.1) (begins names words))
