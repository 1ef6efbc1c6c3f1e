-- The first difference of two runs.
use Rattle.std.specs.Prelude.{◌≡◌, ◌≢◌, true, [], ◌∷◌, ◌++◌}
use Rattle.script_text.specs.declared.command.Command.{Command}
use Rattle.script_text.specs.Script.{Commands}
use Rattle.replay_plain.specs.State.{ReplayState}
use Rattle.replay_plain.specs.Commands.{state_after_all, has_finding}
use Rattle.replay_plain.specs.Records.{record_of}
use Rattle.replay_run.specs.declared.differ.Differ.{Differ}

-- The runs of these commands differ at one of them, in the line that is told. The plain record is
-- that of the command after the commands before it, and the real one is another. One of the
-- commands up to this one is finding.
pub record IsDiffer (differ : Differ) (first : ReplayState) (commands : Commands) : Type 0 where
  pub before : Commands
  pub command : Command
  pub later : Commands
  pub at : commands ≡ before ++ (differ.place, command) ∷ later
  pub told : differ.plain ≡ record_of (state_after_all first before) command
  pub other : differ.real ≢ differ.plain
  pub finding : has_finding first (before ++ (differ.place, command) ∷ []) ≡ true
