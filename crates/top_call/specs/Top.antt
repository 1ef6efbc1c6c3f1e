-- How the program ends: its run by what its words ask for, and then its report.
use Rattle.std.specs.Prelude.{◌≡◌, ◌⊎◌, ℕ, List, Option, Some, None, Result, Ok, Err}
use Rattle.command_line.specs.Commands.{OrderValue, Replay, WriteTile, Serve, Generate}
use Rattle.discard_io.specs.declared.status.Status.{Status}
use Rattle.discard_io.specs.declared.status.Status.TheVariants.{Done, NoMemory, Usage}
use Rattle.replay_plain.specs.declared.config.ReplayCfg.{ReplayCfg}
use Rattle.replay_run.specs.declared.replaying.Replayed.{Replayed}
use Rattle.replay_run.specs.Ending.{Ends}
use Rattle.serve_texts.specs.declared.config.ServeCfg.{ServeCfg}
use Rattle.serve_run.specs.declared.served.Served.{Served}
use Rattle.tile_source.specs.declared.tile.Tile.{Tile}
use Rattle.top_call.specs.declared.top.Ended.{Ended}
use Rattle.top_call.specs.declared.top.Run.{Run}
use Rattle.top_call.specs.declared.top.Run.TheVariants as run
use Rattle.top_call.specs.Outside.{Outside, devices_of, drives_of, telling_of, Telling, IsLater}
use Rattle.top_call.specs.Report.{Reports}
use Rattle.top_call.specs.ServeRun.{ServeEnds, GenEnds}
use Rattle.top_call.specs.TileRun.{TileEnds}

-- the run ended with this status before it began, and nothing was touched
pub record NotBegun (status : Status) (ran : Ended) (before after : Outside) : Type 0 where
  pub ended : ran ≡ record { status = status; run = run.Nothing }
  pub devices : devices_of after ≡ devices_of before
  pub files : after.file_faults ≡ before.file_faults

-- what a replay hands on: its own answer where it is done, and else nothing
abbrev pub handed_on : Replayed → Run
handed_on replayed = at replayed.status
  where
    at : Status → Run
    at Done = run.Replay replayed
    at status = run.Nothing

-- a replay with these settings ended, and handed on what it answered; the files were left alone
pub record ReplayRan (cfg : ReplayCfg) (ran : Ended) (before after : Outside) : Type 0 where
  pub replayed : Replayed
  pub ends : Ends cfg replayed (devices_of before) (devices_of after)
  pub handed : ran ≡ record { status = replayed.status; run = handed_on replayed }
  pub files : after.file_faults ≡ before.file_faults

-- a tile ended, and hands on nothing; the input was left alone
pub record TileRan (file : List ℕ) (tile : Tile) (side : ℕ) (ran : Ended) (before after : Outside) : Type 0 where
  pub ends : TileEnds side tile ran.status (drives_of file before) (drives_of file after)
  pub handed : ran.run ≡ run.Nothing
  pub left : after.left ≡ before.left
  pub reads : after.read_faults ≡ before.read_faults

-- how a run that serves ended: it hands on what it served, or has a status and hands on nothing
abbrev pub ended_by : Result Served Status → Ended
ended_by (Ok served) = record { status = Done; run = run.Serve served }
ended_by (Err status) = record { status = status; run = run.Nothing }

-- tiles of the image in a file were served with these settings, or the run ended before that
pub record ServeRan (file : List ℕ) (cfg : ServeCfg) (ran : Ended) (before after : Outside) : Type 0 where
  pub answer : Result Served Status
  pub ends : ServeEnds file cfg answer before after
  pub handed : ran ≡ ended_by answer

-- the workload that is drawn from a number was served, or the run ended before that; the input and the files were left alone
pub record GenRan (n : ℕ) (ran : Ended) (before after : Outside) : Type 0 where
  pub answer : Result Served Status
  pub ends : GenEnds n answer (telling_of before) (telling_of after)
  pub handed : ran ≡ ended_by answer
  pub left : after.left ≡ before.left
  pub reads : after.read_faults ≡ before.read_faults
  pub files : after.file_faults ≡ before.file_faults

-- a run ended by what the words ask for, which is nothing where they are not lawful
abbrev pub EndsAsAsked : Option OrderValue → Ended → Outside → Outside → Type 0
EndsAsAsked None ran before after = NotBegun Usage ran before after
EndsAsAsked (Some (Replay cfg)) ran before after = ReplayRan cfg ran before after
EndsAsAsked (Some (WriteTile file tile side)) ran before after = TileRan file tile side ran before after
EndsAsAsked (Some (Serve file cfg)) ran before after = ServeRan file cfg ran before after
EndsAsAsked (Some (Generate n)) ran before after = GenRan n ran before after

-- How a run ended: as asked, or it was out of memory when it read its words. What stands under each name stays, and no count of
-- faults fell.
pub record Runs (order : Option OrderValue) (ran : Ended) (before after : Outside) : Type 0 where
  pub as_asked : EndsAsAsked order ran before after ⊎ NotBegun NoMemory ran before after
  pub later : IsLater before after

-- Usage comes exactly for words that are not lawful, which yields to being out of memory
pub record TellsUsage (order : Option OrderValue) (status : Status) : Type 0 where
  pub only : status ≡ Usage → order ≡ None
  pub always : order ≡ None → (status ≡ Usage) ⊎ (status ≡ NoMemory)

-- how the program ended: its run ended, and then its report was made
pub record ProgramEnds (order : Option OrderValue) (ended : Ended) (before after : Outside) (quiet told : Telling) : Type 0 where
  pub ran : Ended
  pub runs : Runs order ran before after
  pub reports : Reports ran ended quiet told
