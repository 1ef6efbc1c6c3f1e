-- What the laws of scripts say.
use Rattle.std.specs.Prelude.{ℕ, List, ◌∷◌, ◌↔◌, map}
use Rattle.std.specs.List.Sorted.{IsStrictlyIncreasing}
use Rattle.script_text.specs.Grammar.{IsSpelled, IsFaulty}
use Rattle.script_text.specs.Script.{Commands, IsScript, IsRefused}
use Rattle.script_text.specs.Ranges.{AreInRange}

-- a text is a script of some commands exactly where the plain grammar spells them
abbrev pub ScriptsAreSpelled : Type 0
ScriptsAreSpelled = (text : List ℕ) (commands : Commands)
    → (IsScript text commands ↔ IsSpelled text commands)

-- a text is refused exactly where it is too long or has a first line that is refused
abbrev pub RefusedAreFaulty : Type 0
RefusedAreFaulty = (text : List ℕ) (place cause : ℕ)
    → (IsRefused text place cause ↔ IsFaulty text place cause)

-- the lines of a script's commands rise from 1 on
abbrev pub LinesRise : Type 0
LinesRise = (text : List ℕ) (commands : Commands) → IsScript text commands
    → IsStrictlyIncreasing (0 ∷ map (λ c. c.0) commands)

-- each word of a script's commands lies in its range
abbrev pub ScriptsAreInRange : Type 0
ScriptsAreInRange = (text : List ℕ) (commands : Commands)
    → IsScript text commands → AreInRange commands
