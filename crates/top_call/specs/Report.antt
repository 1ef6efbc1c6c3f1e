-- What is told on the report.
use Rattle.std.specs.Prelude.{◌≡◌, ◌≢◌, ℕ, ◌≤◌, ◌⊎◌, List, [], ◌++◌, codes, decimal, Option, Some, None}
use Rattle.units.specs.Count.{HasRisen}
use Rattle.discard_io.specs.declared.status.Status.{Status}
use Rattle.discard_io.specs.declared.status.Status.TheVariants.{Done, NoMemory, Usage, BadInput, ReadFault, WriteFault, FileFault}
use Rattle.discard_io.specs.Streams.{appended, WroteFront}
use Rattle.replay_run.specs.declared.differ.Differ.{Differ}
use Rattle.serve_run.specs.Served.{report_of}
use Rattle.top_call.specs.declared.top.Ended.{Ended}
use Rattle.top_call.specs.declared.top.Run.{Run}
use Rattle.top_call.specs.declared.top.Run.TheVariants.{Nothing, Replay, Serve}
use Rattle.top_call.specs.Outside.{Telling}

-- the line for a status, and nothing for Done
abbrev pub status_line : Status → List ℕ
status_line Done = []
status_line NoMemory = codes "discard: no memory\n"
status_line Usage = codes "discard: usage\n"
status_line (BadInput place cause) = codes "discard: bad input " ++ decimal place ++ codes " " ++ decimal cause ++ codes "\n"
status_line ReadFault = codes "discard: read fault\n"
status_line WriteFault = codes "discard: write fault\n"
status_line FileFault = codes "discard: file fault\n"

-- the line for the first command at which two runs of a script differ, and nothing where they agree
abbrev pub differ_line : Option Differ → List ℕ
differ_line None = []
differ_line (Some differ) = codes "discard: line " ++ decimal differ.place ++ codes " differs\n"

-- the text that the report gets for a run that is done
abbrev pub run_text : Run → List ℕ
run_text Nothing = []
run_text (Replay replayed) = differ_line replayed.differs
run_text (Serve served) = report_of served

-- the text that was made for the report while there was memory for it: a served run's report, and else none
abbrev pub IsMadeFor : Run → List ℕ → Type 0
IsMadeFor (Serve served) text = text ≡ report_of served
IsMadeFor run text = text ≡ []

-- what the report gets where a run ended so: the text for the run where it is done, and else the line of its status
abbrev pub text_for : Ended → List ℕ
text_for ended = by_status ended.status
  where
    by_status : Status → List ℕ
    by_status Done = run_text ended.run
    by_status status = status_line status

-- a text was written on the report, or where the report failed a front of it; an empty text leaves the report alone
pub record Told (text : List ℕ) (before after : Telling) : Type 0 where
  pub front : WroteFront before.written text after.written
  pub whole : (after.written ≡ appended before.written text) ⊎ HasRisen before.faults after.faults
  pub nothing : text ≡ [] → after ≡ before
  pub later : before.faults ≤ after.faults

-- the report failed when it had got a front of a text that is not empty, and the run ends as a write fault, whose line was then
-- tried on the same object
pub record ReportFailed (text : List ℕ) (ended : Ended) (before after : Telling) : Type 0 where
  pub some : text ≢ []
  pub write_fault : ended ≡ record { status = WriteFault; run = Nothing }
  pub between : Telling
  pub fault : HasRisen before.faults between.faults
  pub front : WroteFront before.written text between.written
  pub line : Told (status_line WriteFault) between after

-- the report got its text, and the program ends as its run did
pub record ReportMade (text : List ℕ) (ran ended : Ended) (before after : Telling) : Type 0 where
  pub as_run : ended ≡ ran
  pub told : Told text before after

-- How the program ends where its run ended so: as the run did. Only where a run is done and the report fails, it ends as a
-- write fault.
abbrev pub Reports : Ended → Ended → Telling → Telling → Type 0
Reports ran ended before after = by_status ran.status
  where
    by_status : Status → Type 0
    by_status Done =
        (ReportMade (text_for ran) ran ended before after × (after.written ≡ appended before.written (text_for ran)))
        ⊎ ReportFailed (text_for ran) ended before after
    by_status status = ReportMade (text_for ran) ran ended before after

-- the status after the report: that of the run, or a write fault where the run is done
abbrev pub EndsOn : Status → Status → Type 0
EndsOn Done ended = (ended ≡ Done) ⊎ (ended ≡ WriteFault)
EndsOn ran ended = ended ≡ ran
