-- The plain grammar of scripts, to which the reading of lines is held.
use Rattle.std.specs.Prelude.{◌≡◌, ℕ, ◌<◌, ◌≤◌, ◌⊎◌, List, [], ◌∷◌, ◌++◌, length, Ok, Err}
use Rattle.line_text.specs.declared.limits.TheConstants.{MOST_TEXT_BYTES}
use Rattle.script_text.specs.declared.limits.TheConstants.{MOST_COMMANDS, MOST_GRANTS}
use Rattle.line_text.specs.Lines.{kept_lines}
use Rattle.script_text.specs.Script.{Commands, command_of, next_command, grants}
use Rattle.line_text.specs.Refusals.{cause_number}
use Rattle.line_text.specs.declared.cause.Cause.{Cause}
use Rattle.line_text.specs.declared.cause.Cause.TheVariants as cause

-- lines that are kept, each as its number and its words
abbrev pub Lines : Type 0
Lines = List (ℕ × List (List ℕ))

-- the lines are these commands, each with the number of its line
abbrev pub Spells : Lines → Commands → Type 0
Spells [] [] = Unit {0}
Spells [] (c ∷ commands) = ⊥
Spells (line ∷ lines) [] = ⊥
Spells (line ∷ lines) (c ∷ commands) =
    (line.0 ≡ c.0) × (command_of line.1 ≡ Ok c.1) × Spells lines commands

-- at most 4,096 commands, of which at most 1,024 are grants
abbrev pub AreFew : Commands → Type 0
AreFew commands = (length commands ≤ MOST_COMMANDS) × (grants commands ≤ MOST_GRANTS)

-- the text is short, its lines are these commands, and they are few
pub record IsSpelled (text : List ℕ) (commands : Commands) : Type 0 where
  pub short : length text ≤ MOST_TEXT_BYTES
  pub lines : Spells (kept_lines text) commands
  pub few : AreFew commands

-- the line with this number is the first that is refused: those in front of it are few commands,
-- and it is no command after them
pub record IsFirstRefused (lines : Lines) (number : ℕ) (why : Cause) : Type 0 where
  pub front : Lines
  pub words : List (List ℕ)
  pub back : Lines
  pub commands : Commands
  pub parts : lines ≡ front ++ (number, words) ∷ back
  pub spelled : Spells front commands
  pub few : AreFew commands
  pub refused : next_command commands words ≡ Err why

-- the text is too long, or it has a first line that is refused
abbrev pub IsFaulty : List ℕ → ℕ → ℕ → Type 0
IsFaulty text place told =
    ((MOST_TEXT_BYTES < length text)
    × (place ≡ MOST_TEXT_BYTES)
    × (told ≡ cause_number cause.Long))
    ⊎ ((length text ≤ MOST_TEXT_BYTES)
    × ((why : Cause) × (told ≡ cause_number why) × IsFirstRefused (kept_lines text) place why))
