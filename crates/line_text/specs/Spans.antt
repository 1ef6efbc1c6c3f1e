-- Lines as spans of one list of words.
use Rattle.std.specs.Prelude.{ℕ, ◌≤◌, List, slice_range, map}
use Rattle.std.specs.Global.{Vec}
use Rattle.std.specs.Borrow.{Bor}
use Rattle.std.specs.List.{All}
use Rattle.line_text.specs.declared.line.Span.{Span}

-- the words that are borrowed here
abbrev pub texts_of : Vec (Bor (List ℕ)) → List (List ℕ)
texts_of words = map (λ w. w.now) words.items

-- a line, whose words are a span of these
abbrev pub line_at : List (List ℕ) → Span → ℕ × List (List ℕ)
line_at words span = (span.number, slice_range words span.start span.end)

-- the lines whose words are these spans of these words
abbrev pub lines_at : Vec (Bor (List ℕ)) → Vec Span → List (ℕ × List (List ℕ))
lines_at words spans = map (line_at (texts_of words)) spans.items

-- spans of the first n words
abbrev pub AreWithin : ℕ → List Span → Type 0
AreWithin n spans = All (λ span. (span.start ≤ span.end) × (span.end ≤ n)) spans
