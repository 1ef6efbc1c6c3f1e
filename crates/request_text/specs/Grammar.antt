-- The plain grammar of request files, to which the reading of lines is held.
use Rattle.std.specs.Fmt.{decimal}
use Rattle.std.specs.Prelude.{◌≡◌, ℕ, ◌<◌, ◌≤◌, ◌⊎◌, List, [], ◌∷◌, ◌++◌, length, map, Err}
use Rattle.line_text.specs.declared.cause.Cause.{Cause}
use Rattle.line_text.specs.declared.cause.Cause.TheVariants as cause
use Rattle.line_text.specs.Lines.{kept_lines}
use Rattle.line_text.specs.Refusals.{cause_number}
use Rattle.line_text.specs.declared.limits.TheConstants.{MOST_TEXT_BYTES}
use Rattle.request_text.specs.declared.request.Request.{Request}
use Rattle.request_text.specs.Requests.{AreRequests, next_request}

-- lines that are kept, each as its number and its words
abbrev pub Lines : Type 0
Lines = List (ℕ × List (List ℕ))

-- the words of a request: its four numbers in decimal digits
abbrev pub spelling : Request → List (List ℕ)
spelling r = decimal r.client ∷ decimal r.tile.z ∷ decimal r.tile.x ∷ decimal r.tile.y ∷ []

-- the lines are these requests, one by one
abbrev pub Spell : Lines → List Request → Type 0
Spell lines requests = map (λ line. line.1) lines ≡ map spelling requests

-- the text is short, its lines are these requests, and they are requests of so many clients
pub record IsSpelled (clients : ℕ) (text : List ℕ) (requests : List Request) : Type 0 where
  pub short : length text ≤ MOST_TEXT_BYTES
  pub lines : Spell (kept_lines text) requests
  pub lawful : AreRequests clients requests

-- the line with this number is the first that is refused: those in front of it are requests, and it
-- is no request after them
pub record IsFirstRefused (clients : ℕ) (lines : Lines) (number : ℕ) (why : Cause) : Type 0 where
  pub front : Lines
  pub words : List (List ℕ)
  pub back : Lines
  pub requests : List Request
  pub parts : lines ≡ front ++ (number, words) ∷ back
  pub spelled : Spell front requests
  pub lawful : AreRequests clients requests
  pub refused : next_request clients (length requests) words ≡ Err why

-- the text is too long, or it has a first line that is refused
abbrev pub IsFaulty : ℕ → List ℕ → ℕ → ℕ → Type 0
IsFaulty clients text place told =
    ((MOST_TEXT_BYTES < length text)
    × (place ≡ MOST_TEXT_BYTES)
    × (told ≡ cause_number cause.Long))
    ⊎ ((length text ≤ MOST_TEXT_BYTES)
    × ((why : Cause)
    × (told ≡ cause_number why)
    × IsFirstRefused clients (kept_lines text) place why))
