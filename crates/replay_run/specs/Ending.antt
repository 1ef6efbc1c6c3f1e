-- How a replay ends: by its settings, its answer, and what the devices tell before it and after it. What is said of
-- bytes is said where the devices tell them.
use Rattle.std.specs.Prelude.{◌≡◌, ℕ, ◌+◌, ◌≤◌, List, length, take, Option, Some, None, IfSome, OnSome, Result, Ok, Err}
use Rattle.units.specs.Count.{HasRisen}
use Rattle.discard_io.specs.declared.status.Status.{Status}
use Rattle.discard_io.specs.declared.status.Status.TheVariants.{Done, NoMemory, Usage, BadInput, ReadFault, WriteFault, FileFault}
use Rattle.discard_io.specs.Streams.{Took, TookAll, TookAtMost, appended, WroteFront}
use Rattle.line_text.specs.declared.limits.TheConstants.{MOST_TEXT_BYTES}
use Rattle.script_text.specs.declared.fault.ScriptFault.{ScriptFault}
use Rattle.script_text.specs.declared.fault.ScriptFault.TheVariants.{Bad}
use Rattle.script_text.specs.declared.fault.ScriptFault.TheVariants as memory
use Rattle.script_text.specs.Script.{Commands, IsScript, IsRefused}
use Rattle.manager_state.specs.Managed.{Managed}
use Rattle.replay_plain.specs.declared.config.ReplayCfg.{ReplayCfg}
use Rattle.replay_plain.specs.State.{first_state}
use Rattle.replay_plain.specs.Records.{commands_of, replay_text, replay_book}
use Rattle.replay_run.specs.declared.both.BothRuns.{BothRuns}
use Rattle.replay_run.specs.declared.both.Beside.{Beside}
use Rattle.replay_run.specs.declared.both.Beside.TheVariants.{Agrees, Differs}
use Rattle.replay_run.specs.declared.differ.Differ.{Differ}
use Rattle.replay_run.specs.declared.replaying.Replayed.{Replayed}
use Rattle.replay_run.specs.Differing.{IsDiffer}
use Rattle.replay_run.specs.Both.{BothStand}

-- what a source and a sink tell: the bytes left, the bytes written, and how often each has failed
pub record Devices : Type 0 where
  pub left : Option (List ℕ)
  pub read_faults : ℕ
  pub written : Option (List ℕ)
  pub write_faults : ℕ

abbrev pub devices : Option (List ℕ) → ℕ → Option (List ℕ) → ℕ → Devices
devices left read_faults written write_faults =
    record { left = left; read_faults = read_faults; written = written; write_faults = write_faults }

-- these bytes are a script
abbrev pub IsSomeScript : List ℕ → Type 0
IsSomeScript bytes = (commands : Commands) × IsScript bytes commands

-- The real run ended so: no difference is told, and the book of its state is that of the definition;
-- or the first difference is told, and there is no state.
abbrev pub Compared : ReplayCfg → List ℕ → Option Differ → Option Managed → Type 0
Compared cfg bytes None (Some state) = state.entries ≡ replay_book cfg bytes
Compared cfg bytes (Some differ) None = IsDiffer differ (first_state cfg) (commands_of bytes)
Compared cfg bytes None None = ⊥
Compared cfg bytes (Some differ) (Some state) = ⊥

-- this is what a replay of these bytes with these settings answers where it is done: they are a
-- script, and the records of its two runs were compared
pub record IsReplayOf (cfg : ReplayCfg) (bytes : List ℕ) (replayed : Replayed) : Type 0 where
  pub script : IsSomeScript bytes
  pub done : replayed.status ≡ Done
  pub compared : Compared cfg bytes replayed.differs replayed.state

-- all was read, the answer is right for it, and its replay text was written
pub record ReplayDone (cfg : ReplayCfg) (replayed : Replayed) (before after : Devices) : Type 0 where
  pub bytes : List ℕ
  pub read : TookAll before.left bytes after.left
  pub right : IsReplayOf cfg bytes replayed
  pub written : after.written ≡ appended before.written (replay_text cfg bytes)

-- The bytes that were taken are no script, first at this place and for this cause, and nothing was written. They are all
-- that was left, or where that is longer than a script its front, one byte longer than a script; all that was left is
-- refused so too.
pub record InputRefused (place cause : ℕ) (before after : Devices) : Type 0 where
  pub bytes : List ℕ
  pub taken : Took before.left bytes after.left
  pub refused : IsRefused bytes place cause
  pub within : length bytes ≤ MOST_TEXT_BYTES + 1
  pub all : IfSome before.left (λ left. (bytes ≡ take (MOST_TEXT_BYTES + 1) left) × IsRefused left place cause)
  pub unwritten : after.written ≡ before.written

-- the source failed, and nothing was written
pub record SourceFailed (before after : Devices) : Type 0 where
  pub fault : HasRisen before.read_faults after.read_faults
  pub taken : TookAtMost before.left MOST_TEXT_BYTES after.left
  pub unwritten : after.written ≡ before.written

-- all was read, it is a script, and the sink failed when a front of its replay text was written
pub record SinkFailed (cfg : ReplayCfg) (before after : Devices) : Type 0 where
  pub bytes : List ℕ
  pub read : TookAll before.left bytes after.left
  pub script : IsSomeScript bytes
  pub fault : HasRisen before.write_faults after.write_faults
  pub front : WroteFront before.written (replay_text cfg bytes) after.written

-- it was out of memory, and nothing was written
pub record MemoryRanOut (before after : Devices) : Type 0 where
  pub taken : TookAtMost before.left (MOST_TEXT_BYTES + 1) after.left
  pub unwritten : after.written ≡ before.written

-- how a replay with this status ended; it ends in no other way
abbrev pub EndsBy : Status → ReplayCfg → Replayed → Devices → Devices → Type 0
EndsBy Done cfg replayed before after = ReplayDone cfg replayed before after
EndsBy (BadInput place cause) cfg replayed before after = InputRefused place cause before after
EndsBy ReadFault cfg replayed before after = SourceFailed before after
EndsBy WriteFault cfg replayed before after = SinkFailed cfg before after
EndsBy NoMemory cfg replayed before after = MemoryRanOut before after
EndsBy Usage cfg replayed before after = ⊥
EndsBy FileFault cfg replayed before after = ⊥

-- how a replay ended: by its status, with a difference or a state only where it is done, and no
-- count of faults fell
pub record Ends (cfg : ReplayCfg) (replayed : Replayed) (before after : Devices) : Type 0 where
  pub by_status : EndsBy replayed.status cfg replayed before after
  pub differs : OnSome replayed.differs (replayed.status ≡ Done)
  pub state : OnSome replayed.state (replayed.status ≡ Done)
  pub reads : before.read_faults ≤ after.read_faults
  pub writes : before.write_faults ≤ after.write_faults

-- what reading a script and running it gives: both runs after its commands, or where the script is
-- refused, or it was out of memory
abbrev pub Runs : Result BothRuns ScriptFault → ReplayCfg → List ℕ → Type 0
Runs (Ok runs) cfg bytes =
    IsSomeScript bytes × BothStand runs (first_state cfg) (commands_of bytes)
Runs (Err (Bad place cause)) cfg bytes = IsRefused bytes place cause
Runs (Err memory.NoMemory) cfg bytes = Unit {0}

-- the answer of a replay whose real run ended so
abbrev pub AnswerOf : Beside → Replayed → Type 0
AnswerOf (Agrees real) replayed =
    replayed ≡ record { status = Done; differs = None; state = Some real.state }
AnswerOf (Differs differ) replayed =
    replayed ≡ record { status = Done; differs = Some differ; state = None }

-- the answer of a replay that is done with these runs
abbrev pub IsDoneBy : BothRuns → Replayed → Type 0
IsDoneBy runs replayed = AnswerOf runs.beside replayed
