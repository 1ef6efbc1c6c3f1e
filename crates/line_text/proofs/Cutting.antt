-- The first line of a text, and the first word of a line.
use Rattle.std.proofs.Common.{◌≡◌, ℕ, suc, ◌+◌, ◌-◌, ◌<◌, ◌≤◌, Bool, true, false, not, cond, ltb, List, [], ◌∷◌, length, take, drop, get_or, Some, None, position, refl, sym, ap, subst, ◌∙◌, inl, inr, arith}
use Rattle.std.specs.List.{filter, slice_split, onto_first, position_or_len}
use Rattle.std.proofs.lemmas.Bool.{ltb-true, ltb-false, cases_lt}
use Rattle.std.proofs.lemmas.Bool.Decides.{nat_tests}
use Rattle.std.proofs.lemmas.List.{drop_more, drop_all, take_all, take_rest, length-take-le}
use Rattle.std.proofs.lemmas.List.Sums.{prefix_len_stops, prefix_len_passes}
use Rattle.std.proofs.lemmas.List.Splits.{slice_split_first, slice_split_none}
use Rattle.line_text.specs.Lines.{is_feed, lines_of, is_blank, is_word, words_of}

found_below : (t : Bool) (n i : ℕ) → cond t (Some n) None ≡ Some i → (t ≡ true) × (i ≡ n)
found_below true n i e = (refl, cc)
found_below false n i e = absurd cc

missed : (t : Bool) (n : ℕ) → cond t (Some n) None ≡ None → t ≡ false
missed true n e = absurd cc
missed false n e = refl

-- where something is found
position_some : (p : ℕ → Bool) (xs : List ℕ) (i : ℕ) → position p xs ≡ Some i → (i ≡ position_or_len p xs) × (i < length xs)
position_some p xs i e =
    let found = found_below (ltb (position_or_len p xs) (length xs)) (position_or_len p xs) i e in
    (found.1, rw found.1 (ltb-true (position_or_len p xs) (length xs) found.0))

-- where nothing is found
position_none : (p : ℕ → Bool) (xs : List ℕ) → position p xs ≡ None → length xs ≤ position_or_len p xs
position_none p xs e = ltb-false (position_or_len p xs) (length xs) (missed (ltb (position_or_len p xs) (length xs)) (position_or_len p xs) e)

-- ---- lines

one_byte_more : (b : ℕ) (bs : List ℕ) (n : ℕ) → (b ∷ take n bs) ∷ lines_of (drop (n + 1) bs) ≡ take (1 + n) (b ∷ bs) ∷ lines_of (drop (1 + n + 1) (b ∷ bs))
one_byte_more b bs n =
    let short : suc n ≡ 1 + n = omega arith in
    let long : suc (n + 1) ≡ 1 + n + 1 = omega arith in
    ap (λ (m : ℕ). take m (b ∷ bs) ∷ lines_of (drop (suc (n + 1)) (b ∷ bs))) short ∙ ap (λ (m : ℕ). take (1 + n) (b ∷ bs) ∷ lines_of (drop m (b ∷ bs))) long

lines_behind : (b : ℕ) (bs : List ℕ) (t : Bool) → (0 < length bs → lines_of bs ≡ take (position_or_len is_feed bs) bs ∷ lines_of (drop (position_or_len is_feed bs + 1) bs))
    → cond t ([] ∷ lines_of bs) (onto_first b (lines_of bs))
    ≡ take (cond (not t) (1 + position_or_len is_feed bs) 0) (b ∷ bs) ∷ lines_of (drop (cond (not t) (1 + position_or_len is_feed bs) 0 + 1) (b ∷ bs))
lines_behind b bs true more = refl
lines_behind b [] false more = refl
lines_behind b (c ∷ cs) false more = ap (onto_first b) (more (omega arith)) ∙ one_byte_more b (c ∷ cs) (position_or_len is_feed (c ∷ cs))

-- the first line ends at the first line feed, or at the end
lines_first : (text : List ℕ) → 0 < length text → lines_of text ≡ take (position_or_len is_feed text) text ∷ lines_of (drop (position_or_len is_feed text + 1) text)
lines_first [] h = absurd (omega arith)
lines_first (b ∷ bs) h = lines_behind b bs (is_feed b) (lines_first bs)

pub lines_at_feed : (text : List ℕ) (i : ℕ) → position is_feed text ≡ Some i → lines_of text ≡ take i text ∷ lines_of (drop (i + 1) text)
lines_at_feed text i e = let found = position_some is_feed text i e in rw found.0 (lines_first text (omega arith))

pub lines_no_feed : (text : List ℕ) → 0 < length text → position is_feed text ≡ None → lines_of text ≡ text ∷ []
lines_no_feed text h e =
    let past = position_none is_feed text e in
    let n = position_or_len is_feed text in
    lines_first text h ∙ rw (take_all n text past, drop_all (n + 1) text (omega arith)) refl

-- ---- words

skip_behind : (b : ℕ) (bs : List ℕ) (t : Bool) → is_blank b ≡ t → words_of bs ≡ words_of (drop (position_or_len (λ c. not (is_blank c)) bs) bs)
    → words_of (b ∷ bs) ≡ words_of (drop (position_or_len (λ c. not (is_blank c)) (b ∷ bs)) (b ∷ bs))
skip_behind b bs true e more =
    let n = position_or_len (λ c. not (is_blank c)) bs in
    let longer : suc n ≡ 1 + n = omega arith in
    rw e (more ∙ ap (λ (m : ℕ). words_of (drop m (b ∷ bs))) longer)
skip_behind b bs false e more = rw (e, e) refl

-- blanks in front of a word
words_skip : (line : List ℕ) → words_of line ≡ words_of (drop (position_or_len (λ b. not (is_blank b)) line) line)
words_skip [] = refl
words_skip (b ∷ bs) = skip_behind b bs (is_blank b) refl (words_skip bs)

-- a line of blanks
pub words_none : (line : List ℕ) → position (λ b. not (is_blank b)) line ≡ None → words_of line ≡ []
words_none line e =
    words_skip line ∙ ap words_of (drop_all (position_or_len (λ b. not (is_blank b)) line) line (position_none (λ b. not (is_blank b)) line e))

-- what stands where a word begins
record IsWordStart (line rest : List ℕ) : Type 0 where
  first : ℕ
  others : List ℕ
  parts : rest ≡ first ∷ others
  no_blank : is_blank first ≡ false
  words : words_of line ≡ words_of rest

not_not : (t : Bool) → not (not t) ≡ false → t ≡ false
not_not true e = absurd cc
not_not false e = refl

word_start : (line : List ℕ) (start : ℕ) → position (λ b. not (is_blank b)) line ≡ Some start → IsWordStart line (drop start line)
word_start line start e =
    let found = position_some (λ b. not (is_blank b)) line start e in
    let stops = prefix_len_stops (λ b. not (not (is_blank b))) line 0 (omega (arith, found.0, found.1)) in
    record {
      first = get_or line start 0;
      others = drop (start + 1) line;
      parts = drop_more line start 0 found.1;
      no_blank = not_not (is_blank (get_or line start 0)) (rw found.0 stops);
      words = rw found.0 (words_skip line);
    }

-- a line that begins with no blank
no_blank_first : (first : ℕ) (others : List ℕ) → is_blank first ≡ false → 0 < position_or_len is_blank (first ∷ others)
no_blank_first first others e = rw e (omega arith)

is_word_long : (part : List ℕ) → 0 < length part → is_word part ≡ true
is_word_long part h = grind (arith, nat_tests)

kept_first : (part : List ℕ) (parts : List (List ℕ)) → is_word part ≡ true → filter is_word (part ∷ parts) ≡ part ∷ filter is_word parts
kept_first part parts e = rw e refl

not_true : (t : Bool) → not t ≡ true → t ≡ false
not_true true e = absurd cc
not_true false e = refl

-- the first word, where a line begins with one
word_first : (line : List ℕ) → 0 < position_or_len is_blank line → 0 < length line
    → words_of line ≡ take (position_or_len is_blank line) line ∷ words_of (drop (position_or_len is_blank line + 1) line)
word_first line h some =
    let n = position_or_len is_blank line in
    elim (cases_lt n (length line)) [
      | inl lt ↦
          let len = length-take-le n line (omega arith) in
          ap (filter is_word) (slice_split_first is_blank line 0 lt) ∙ kept_first (take n line) (slice_split is_blank (drop (n + 1) line)) (is_word_long (take n line) (omega arith))
      | inr past ↦
          let whole = slice_split_none is_blank line (λ k d below. not_true (is_blank (get_or line k d)) (prefix_len_passes (λ x. not (is_blank x)) line k d (omega arith))) in
          ap (filter is_word) whole ∙ (kept_first line [] (is_word_long line some) ∙ rw (take_all n line past, drop_all (n + 1) line (omega arith)) refl)
    ]

starts : (line rest : List ℕ) → IsWordStart line rest → (0 < position_or_len is_blank rest) × (0 < length rest)
starts line rest s =
    subst (λ (xs : List ℕ). (0 < position_or_len is_blank xs) × (0 < length xs)) (sym s.parts) (no_blank_first s.first s.others s.no_blank, omega arith)

-- a word that is followed by a blank, in the rest of a line from the word on
pub word_to_blank : (line : List ℕ) (start end : ℕ) (rest : List ℕ) → rest ≡ drop start line → position (λ b. not (is_blank b)) line ≡ Some start → position is_blank rest ≡ Some end
    → (words_of line ≡ take end rest ∷ words_of (take (length rest - (end + 1)) (drop (end + 1) rest))) × (0 < length (take end rest))
word_to_blank line start end rest same e f =
    let s : IsWordStart line rest = subst (IsWordStart line) (sym same) (word_start line start e) in
    let found = position_some is_blank rest end f in
    let long = starts line rest s in
    let len = length-take-le end rest (omega (arith, found.1)) in
    (s.words ∙ rw (take_rest rest (end + 1)) (rw found.0 (word_first rest long.0 long.1)), omega (arith, found.0, long.0, len))

-- a word that ends the line
pub word_to_end : (line : List ℕ) (start : ℕ) (rest : List ℕ) → rest ≡ drop start line → position (λ b. not (is_blank b)) line ≡ Some start → position is_blank rest ≡ None
    → (words_of line ≡ rest ∷ []) × (0 < length rest)
word_to_end line start rest same e f =
    let s : IsWordStart line rest = subst (IsWordStart line) (sym same) (word_start line start e) in
    let past = position_none is_blank rest f in
    let long = starts line rest s in
    let n = position_or_len is_blank rest in
    (s.words ∙ (word_first rest long.0 long.1 ∙ rw (take_all n rest past, drop_all (n + 1) rest (omega (arith, past))) refl), long.1)
