-- How a run that serves tiles ends: `serve`, by a file and the input, and `gen`, by a number. What is said of bytes is said where
-- they are told.
use Rattle.std.specs.Prelude.{◌≡◌, ◌⊎◌, ℕ, ◌+◌, ◌≤◌, List, length, take, Option, IfSome, Result, Ok, Err}
use Rattle.units.specs.Count.{HasRisen}
use Rattle.discard_io.specs.declared.status.Status.{Status}
use Rattle.discard_io.specs.declared.status.Status.TheVariants.{NoMemory, BadInput, ReadFault, WriteFault, FileFault}
use Rattle.discard_io.specs.Streams.{Took, TookAll, TookAtMost, appended, WroteFront}
use Rattle.line_text.specs.declared.limits.TheConstants.{MOST_TEXT_BYTES}
use Rattle.request_text.specs.declared.request.Request.{Request}
use Rattle.request_text.specs.Requests.{requests_of}
use Rattle.drawn_workload.specs.Draws.{drawn_image}
use Rattle.tile_source.specs.Image.{ImageValue}
use Rattle.serve_texts.specs.declared.config.ServeCfg.{ServeCfg}
use Rattle.drawn_workload.specs.Generated.{gen_cfg, gen_requests, gen_line}
use Rattle.serve_texts.specs.Reply.{reply_to}
use Rattle.serve_run.specs.declared.served.Served.{Served}
use Rattle.serve_run.specs.Served.{Serves}
use Rattle.top_call.specs.ImageFile.{IsImage, IsNoImage}
use Rattle.top_call.specs.Outside.{Outside, Telling}
use Rattle.top_call.specs.declared.served_run.Answer.{Answer}

-- ---- the input

-- the bytes are no requests of so many clients, first at this place and for this cause
abbrev pub AreRefused : ℕ → List ℕ → ℕ → ℕ → Type 0
AreRefused clients bytes place cause = requests_of clients bytes ≡ Err (record { place = place; cause = cause })

-- all that was left was read, and it is these requests of so many clients
pub record WasAsked (clients : ℕ) (requests : List Request) (before after : Option (List ℕ)) : Type 0 where
  pub bytes : List ℕ
  pub read : TookAll before bytes after
  pub spelled : requests_of clients bytes ≡ Ok requests

-- The bytes that were taken are refused, first at this place and for this cause. They are all that was left, or where that is
-- longer than a request file its front, one byte longer than a request file; all that was left is refused so too.
pub record WasRefused (clients place cause : ℕ) (before after : Option (List ℕ)) : Type 0 where
  pub bytes : List ℕ
  pub taken : Took before bytes after
  pub refused : AreRefused clients bytes place cause
  pub within : length bytes ≤ MOST_TEXT_BYTES + 1
  pub all : IfSome before (λ left. (bytes ≡ take (MOST_TEXT_BYTES + 1) left) × AreRefused clients left place cause)

-- the source failed, and at most a request file was taken
pub record SourceFailed (before after : Option (List ℕ)) (faults_before faults_after : ℕ) : Type 0 where
  pub fault : HasRisen faults_before faults_after
  pub taken : TookAtMost before MOST_TEXT_BYTES after

-- what reading the requests in an input answers: the requests that it asks for, or where it is refused; or the source failed, or it
-- was out of memory
abbrev pub ReadsInput : Result (List Request) Status → ℕ → Option (List ℕ) → Option (List ℕ) → ℕ → ℕ → Type 0
ReadsInput (Ok requests) clients before after faults_before faults_after = WasAsked clients requests before after
ReadsInput (Err (BadInput place cause)) clients before after faults_before faults_after = WasRefused clients place cause before after
ReadsInput (Err ReadFault) clients before after faults_before faults_after = SourceFailed before after faults_before faults_after
ReadsInput (Err NoMemory) clients before after faults_before faults_after = TookAtMost before (MOST_TEXT_BYTES + 1) after
ReadsInput (Err _) clients before after faults_before faults_after = ⊥

-- what an answer holds of the run, or its status
abbrev pub served_by : Result Answer Status → Result Served Status
served_by (Ok answer) = Ok answer.served
served_by (Err status) = Err status

-- ---- serve

-- the file is this image, and the input asked for these requests
pub record IsWork (name : List ℕ) (clients : ℕ) (image : ImageValue) (requests : List Request) (before after : Outside) : Type 0 where
  pub file : IsImage (before.files name) image
  pub input : WasAsked clients requests before.left after.left

-- the run was served, and its replies were written
pub record ServeDone (name : List ℕ) (cfg : ServeCfg) (served : Served) (before after : Outside) : Type 0 where
  pub image : ImageValue
  pub requests : List Request
  pub work : IsWork name cfg.clients image requests before after
  pub right : Serves cfg image requests served
  pub written : after.written ≡ appended before.written (reply_to image cfg.side requests)

-- the sink failed when a front of the replies was written
pub record ServeCut (name : List ℕ) (cfg : ServeCfg) (before after : Outside) : Type 0 where
  pub image : ImageValue
  pub requests : List Request
  pub work : IsWork name cfg.clients image requests before after
  pub fault : HasRisen before.write_faults after.write_faults
  pub front : WroteFront before.written (reply_to image cfg.side requests) after.written

-- nothing was written
abbrev pub IsUnwritten : Outside → Outside → Type 0
IsUnwritten before after = after.written ≡ before.written

-- the input was left alone
abbrev pub IsUnread : Outside → Outside → Type 0
IsUnread before after = (after.left ≡ before.left) × (after.read_faults ≡ before.read_faults)

-- the file is refused
pub record FileRefused (name : List ℕ) (place cause : ℕ) (before after : Outside) : Type 0 where
  pub file : IsNoImage (before.files name) place cause
  pub unread : IsUnread before after
  pub unwritten : IsUnwritten before after

-- the file is an image, and the input is refused
pub record InputRefused (name : List ℕ) (clients place cause : ℕ) (before after : Outside) : Type 0 where
  pub image : ImageValue
  pub file : IsImage (before.files name) image
  pub input : WasRefused clients place cause before.left after.left
  pub unwritten : IsUnwritten before after

-- the files failed
pub record FilesFailed (before after : Outside) : Type 0 where
  pub fault : HasRisen before.file_faults after.file_faults
  pub unread : IsUnread before after
  pub unwritten : IsUnwritten before after

-- the file is an image, and the source failed
pub record InputFailed (name : List ℕ) (before after : Outside) : Type 0 where
  pub image : ImageValue
  pub file : IsImage (before.files name) image
  pub input : SourceFailed before.left after.left before.read_faults after.read_faults
  pub unwritten : IsUnwritten before after

-- it was out of memory
pub record MemoryRanOut (before after : Outside) : Type 0 where
  pub taken : TookAtMost before.left (MOST_TEXT_BYTES + 1) after.left
  pub unwritten : IsUnwritten before after

-- how `serve` of the file with this name ended, with what it served or a status; it ends in no other way
abbrev pub ServeEnds : List ℕ → ServeCfg → Result Served Status → Outside → Outside → Type 0
ServeEnds name cfg (Ok served) before after = ServeDone name cfg served before after
ServeEnds name cfg (Err (BadInput place cause)) before after =
    FileRefused name place cause before after ⊎ InputRefused name cfg.clients place cause before after
ServeEnds name cfg (Err FileFault) before after = FilesFailed before after
ServeEnds name cfg (Err ReadFault) before after = InputFailed name before after
ServeEnds name cfg (Err WriteFault) before after = ServeCut name cfg before after
ServeEnds name cfg (Err NoMemory) before after = MemoryRanOut before after
ServeEnds name cfg (Err _) before after = ⊥

-- ---- gen

-- this is what serving the workload that is drawn from the number came to
unfoldable pub ServesDrawn : ℕ → Served → Type 0
ServesDrawn n served = Serves gen_cfg (drawn_image n) (gen_requests n) served

-- the line that tells the replies to it
unfoldable pub drawn_line : ℕ → List ℕ
drawn_line n = gen_line n (reply_to (drawn_image n) gen_cfg.side (gen_requests n))

-- it was served, and its line was written
pub record GenDone (n : ℕ) (served : Served) (before after : Telling) : Type 0 where
  pub right : ServesDrawn n served
  pub written : after.written ≡ appended before.written (drawn_line n)

-- the sink failed when a front of the line was written
pub record GenCut (n : ℕ) (before after : Telling) : Type 0 where
  pub fault : HasRisen before.faults after.faults
  pub front : WroteFront before.written (drawn_line n) after.written

-- how `gen` ended, with what it served or a status; it ends in no other way
abbrev pub GenEnds : ℕ → Result Served Status → Telling → Telling → Type 0
GenEnds n (Ok served) before after = GenDone n served before after
GenEnds n (Err WriteFault) before after = GenCut n before after
-- it was out of memory, and nothing was written
GenEnds n (Err NoMemory) before after = after.written ≡ before.written
GenEnds n (Err _) before after = ⊥
