-- The lines of a text and their words.
use Rattle.std.specs.Prelude.{◌≡◌, ℕ, Bool, true, false, not, ◌||◌, ◌==◌, if◌then◌else◌, List, [], ◌∷◌, map, length}
use Rattle.std.specs.List.{filter, slice_split, onto_first, enumerate_from}

-- a line ends with a line feed
abbrev pub is_feed : ℕ → Bool
is_feed b = b == 10

-- the lines of a text: it is cut at each line feed, and a rest behind the last one is a line unless
-- it is empty
abbrev pub lines_of : List ℕ → List (List ℕ)
lines_of [] = []
lines_of (b ∷ bs) = if is_feed b then [] ∷ lines_of bs else onto_first b (lines_of bs)

-- the text has no line
abbrev pub HasNoLine : List ℕ → Type 0
HasNoLine text = lines_of text ≡ []

-- this is the first line of the text, and this what follows its end
abbrev pub HasFirstLine : List ℕ → List ℕ → List ℕ → Type 0
HasFirstLine text line rest = lines_of text ≡ line ∷ lines_of rest

-- space, TAB and CR stand between words
abbrev pub is_blank : ℕ → Bool
is_blank b = (b == 32 || b == 9) || b == 13

-- a word has a byte
abbrev pub is_word : List ℕ → Bool
is_word part = not (length part == 0)

-- the words of a line: its longest runs of bytes that are not blank
abbrev pub words_of : List ℕ → List (List ℕ)
words_of line = filter is_word (slice_split is_blank line)

-- the line has no word
abbrev pub HasNoWord : List ℕ → Type 0
HasNoWord line = words_of line ≡ []

-- this is the first word of the line, and this what follows it
abbrev pub HasFirstWord : List ℕ → List ℕ → List ℕ → Type 0
HasFirstWord line word rest = words_of line ≡ word ∷ words_of rest

-- whether a line with these words is kept: it has a word, and the first does not begin with `#`
abbrev pub is_kept : List (List ℕ) → Bool
is_kept [] = false
is_kept ([] ∷ words) = true
is_kept ((b ∷ bs) ∷ words) = not (b == 35)

-- the line is skipped
abbrev pub IsSkipped : List ℕ → Type 0
IsSkipped line = is_kept (words_of line) ≡ false

-- the line is not skipped, and this is its first word, and this what follows it
abbrev pub IsNotSkipped : List ℕ → List ℕ → List ℕ → Type 0
IsNotSkipped line word rest = (is_kept (words_of line) ≡ true) × HasFirstWord line word rest

-- each kept line among these, as its number and its words, where the first of these has number n
abbrev pub kept_from : ℕ → List (List ℕ) → List (ℕ × List (List ℕ))
kept_from n lines = filter (λ line. is_kept line.1) (enumerate_from n (map words_of lines))

-- the lines of a text that are kept; numbers count from 1, the skipped lines too
abbrev pub kept_lines : List ℕ → List (ℕ × List (List ℕ))
kept_lines text = kept_from 1 (lines_of text)
