-- What the word of a segment tells, as the program has it.
use Rattle.std.specs.Prelude.{◌≡◌, ℕ, Option, MatchOption}
use Rattle.units.specs.Moment.{IsMoment}
use Rattle.machine.specs.Word.{WordState, word_of}
use Rattle.machine.specs.Word as told
use Rattle.segment_rule.specs.declared.words.State.{State}
use Rattle.segment_rule.specs.declared.words.State.TheVariants.{Held, Idle, Gone}

-- the machine's name of a state
abbrev pub state_told : State → WordState
state_told Held = told.Held
state_told (Idle t) = told.Idle t
state_told Gone = told.Gone

-- a state whose time, where it has one, is a moment
abbrev pub IsTimed : State → Type 0
IsTimed Held = Unit {0}
IsTimed (Idle t) = IsMoment t
IsTimed Gone = Unit {0}

-- the number is the word of this state
abbrev pub IsWordOf : State → ℕ → Type 0
IsWordOf state word = IsTimed state × (word ≡ word_of (state_told state))

-- what is read from a number: the state that it is the word of, and none exactly where it is no state's word
abbrev pub Reads : ℕ → Option State → Type 0
Reads word result = MatchOption result ((state : State) → IsWordOf state word → ⊥) (λ state. IsWordOf state word)
