-- What both runs of a script keep.
use Rattle.std.specs.Prelude.{◌≡◌, ℕ, false, List, ◌++◌, Option, Some, None}
use Rattle.discard_book.specs.declared.entry.Entry.{Entry}
use Rattle.script_text.specs.declared.command.Command.{Command}
use Rattle.script_text.specs.Script.{Commands}
use Rattle.replay_plain.specs.State.{ReplayState}
use Rattle.replay_plain.specs.Commands.{state_after, state_after_all, is_finding, has_finding}
use Rattle.replay_plain.specs.Replies.{reply_of}
use Rattle.replay_plain.specs.Records.{replies_after}
use Rattle.replay_plain.specs.Run.{RunStandsFor}
use Rattle.replay_real.specs.declared.run.RealRun.{RealRun}
use Rattle.replay_real.specs.Standing.{RealStandsFor, IsOneLine}
use Rattle.replay_run.specs.declared.differ.Differ.{Differ}
use Rattle.replay_run.specs.declared.both.Beside.{Beside}
use Rattle.replay_run.specs.declared.both.Beside.TheVariants.{Agrees, Differs}
use Rattle.replay_run.specs.declared.both.BothRuns.{BothRuns}
use Rattle.replay_run.specs.Telling.{Tells}
use Rattle.replay_run.specs.Differing.{IsDiffer}

-- a real run agrees with a state: its book is the state's
pub record AgreesAt (real : RealRun) (first : ReplayState) (done : Commands) : Type 0 where
  pub entries : real.state.entries ≡ (state_after_all first done).entries
  pub stands : has_finding first done ≡ false → RealStandsFor real (state_after_all first done)

-- The real run agrees after these commands, or a first difference is told. Where none of the
-- commands is finding it stands for the state.
abbrev pub BesideStands : Beside → ReplayState → Commands → Type 0
BesideStands (Agrees real) first done = AgreesAt real first done
BesideStands (Differs differ) first done = IsDiffer differ first done

-- after these commands the replies are made, and both runs are where they should be
pub record BothStand (runs : BothRuns) (first : ReplayState) (done : Commands) : Type 0 where
  pub text : runs.text.items ≡ replies_after first done
  pub plain : RunStandsFor runs.plain (state_after_all first done)
  pub beside : BesideStands runs.beside first done

-- the runs stand somewhere
pub record Stands (runs : BothRuns) : Type 0 where
  pub first : ReplayState
  pub done : Commands
  pub both : BothStand runs first done

-- a command was run on real segments, with these words and these entries
pub record RanReal (command : Command) (old new : RealRun) (words : List ℕ) (more : List Entry) : Type 0 where
  pub line : IsOneLine words
  pub grown : new.state.entries ≡ old.state.entries ++ more
  pub reply : (state : ReplayState) → RealStandsFor old state → is_finding state command ≡ false
      → words ≡ reply_of state command
  pub stands : (state : ReplayState) → RealStandsFor old state → is_finding state command ≡ false
      → RealStandsFor new (state_after state command)

-- what comes of a comparison of two records: they are the same, or a difference is told
abbrev pub Compares : Option Differ → ℕ → List ℕ → List Entry → List ℕ → List Entry → Type 0
Compares None place words more said added = (words ≡ said) × (more ≡ added)
Compares (Some differ) place words more said added =
    ((words ≡ said) × (more ≡ added) → ⊥) × Tells differ place words more said added

-- a command was run on real segments, and its record was compared with this one
pub record RanBeside (differ : Option Differ) (place : ℕ) (command : Command) (said : List ℕ) (added : List Entry) (old new : RealRun) : Type 0 where
  pub words : List ℕ
  pub more : List Entry
  pub ran : RanReal command old new words more
  pub compares : Compares differ place words more said added

-- a command was run on real segments where they agreed so far
abbrev pub GoesOn : Beside → Beside → ℕ → Command → List ℕ → List Entry → Type 0
GoesOn (Agrees real) (Agrees new) place command said added =
    RanBeside None place command said added real new
GoesOn (Agrees real) (Differs differ) place command said added =
    (new : RealRun) × RanBeside (Some differ) place command said added real new
GoesOn (Differs differ) beside place command said added = beside ≡ Differs differ
