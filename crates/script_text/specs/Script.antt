-- Scripts: what each text is, a list of commands or the first place where it is refused.
use Rattle.std.specs.Prelude.{◌≡◌, ℕ, ◌-◌, ◌*◌, ◌^◌, Bool, true, false, ◌&&◌, ◌||◌, nat_lt, nat_le, if◌then◌else◌, List, [], ◌∷◌, ◌++◌, length, codes, Result, Ok, Err}
use Rattle.std.specs.List.{count_by}
use Rattle.std.specs.Option.{ok_or}
use Rattle.std.specs.Str.{bytes_eq}
use Rattle.units.specs.declared.TheConstants.{PAGE, LAST_MOMENT}
use Rattle.line_text.specs.declared.limits.TheConstants.{MOST_TEXT_BYTES, MOST_CLIENTS, MOST_SEGMENT_PAGES, MOST_LIMIT, MOST_MOVED_BYTES}
use Rattle.script_text.specs.declared.limits.TheConstants.{MOST_COMMANDS, MOST_GRANTS}
use Rattle.line_text.specs.Refusals.{◌>>=◌, number, cause_number, Refusal, refusal}
use Rattle.line_text.specs.Hex.{hex_of}
use Rattle.line_text.specs.Lines.{kept_lines}
use Rattle.line_text.specs.declared.cause.Cause.{Cause}
use Rattle.line_text.specs.declared.cause.Cause.TheVariants as cause
use Rattle.script_text.specs.declared.command.Command.{Command}
use Rattle.script_text.specs.declared.command.Command.TheVariants.{Grant, Lock, Unlock, Write, Read, Try, Back, Reduce, Enforce, Pressure, Limit, Remove, Alloc, PieceLock, PieceUnlock, PieceWrite, PieceRead, PieceFree, Sweep, Release, Runs, Granted}
use Rattle.script_text.specs.declared.fault.LineFault.{LineFault}
use Rattle.script_text.specs.declared.fault.LineFault.TheVariants.{Refused, Memory}
use Rattle.script_text.specs.declared.fault.ScriptFault.{ScriptFault}
use Rattle.script_text.specs.declared.fault.ScriptFault.TheVariants.{Bad, NoMemory}

-- ---- words that stand for numbers and bytes

-- a segment
abbrev pub segment : List ℕ → Result ℕ Cause
segment word = number word 0 (2 ^ 64 - 1)

-- a client
abbrev pub client : List ℕ → Result ℕ Cause
client word = number word 1 MOST_CLIENTS

-- a moment
abbrev pub moment : List ℕ → Result ℕ Cause
moment word = number word 1 LAST_MOMENT

-- the first page of a range
abbrev pub first_page : List ℕ → Result ℕ Cause
first_page word = number word 0 (MOST_SEGMENT_PAGES - 1)

-- a count of pages
abbrev pub page_count : List ℕ → Result ℕ Cause
page_count word = number word 1 MOST_SEGMENT_PAGES

-- a limit of pages
abbrev pub page_limit : List ℕ → Result ℕ Cause
page_limit word = number word 0 MOST_LIMIT

-- whether pressure is critical: `critical` or `moderate`
abbrev pub is_critical : List ℕ → Result Bool Cause
is_critical word =
    if bytes_eq word (codes "critical") then Ok true
    else if bytes_eq word (codes "moderate") then Ok false
    else Err cause.Word

-- the place of a byte in a segment
abbrev pub byte_place : List ℕ → Result ℕ Cause
byte_place word = number word 0 (MOST_SEGMENT_PAGES * PAGE - 1)

-- the size of a piece, in bytes
abbrev pub piece_size : List ℕ → Result ℕ Cause
piece_size word = number word 0 (MOST_SEGMENT_PAGES * PAGE)

-- a piece
abbrev pub piece : List ℕ → Result ℕ Cause
piece word = number word 0 (2 ^ 64 - 1)

-- a count of bytes
abbrev pub byte_count : List ℕ → Result ℕ Cause
byte_count word = number word 1 MOST_MOVED_BYTES

-- bytes in hexadecimal digits
abbrev pub bytes : List ℕ → Result (List ℕ) Cause
bytes word = ok_or (hex_of word) cause.Bytes

-- ---- the words after a command's own, from left to right

-- `grant` C N T: a segment of N pages for the client C at T
abbrev pub grant : List (List ℕ) → Result Command Cause
grant (c ∷ n ∷ t ∷ []) = do
  owner ← client c
  pages ← page_count n
  at ← moment t
  Ok (Grant owner pages at)
grant words = Err cause.Count

-- `lock` S F N: N pages of the segment S from F on
abbrev pub lock : List (List ℕ) → Result Command Cause
lock (s ∷ f ∷ n ∷ []) = do
  id ← segment s
  first ← first_page f
  count ← page_count n
  Ok (Lock id first count)
lock words = Err cause.Count

-- `unlock` S F N T: N pages of the segment S from F on, at T
abbrev pub unlock : List (List ℕ) → Result Command Cause
unlock (s ∷ f ∷ n ∷ t ∷ []) = do
  id ← segment s
  first ← first_page f
  count ← page_count n
  at ← moment t
  Ok (Unlock id first count at)
unlock words = Err cause.Count

-- `write` S P HEX: these bytes of the segment S from P on
abbrev pub write : List (List ℕ) → Result Command Cause
write (s ∷ p ∷ h ∷ []) = do
  id ← segment s
  place ← byte_place p
  content ← bytes h
  Ok (Write id place content)
write words = Err cause.Count

-- `read` S P R: R bytes of the segment S from P on
abbrev pub read : List (List ℕ) → Result Command Cause
read (s ∷ p ∷ r ∷ []) = do
  id ← segment s
  place ← byte_place p
  count ← byte_count r
  Ok (Read id place count)
read words = Err cause.Count

-- `try` S T: a try to purge the segment S at T
abbrev pub try_purge : List (List ℕ) → Result Command Cause
try_purge (s ∷ t ∷ []) = do
  id ← segment s
  at ← moment t
  Ok (Try id at)
try_purge words = Err cause.Count

-- `back` S: the segment S is given back
abbrev pub back : List (List ℕ) → Result Command Cause
back (s ∷ []) = do
  id ← segment s
  Ok (Back id)
back words = Err cause.Count

-- `reduce` L T: granted pages are reduced to L, at T
abbrev pub reduce : List (List ℕ) → Result Command Cause
reduce (l ∷ t ∷ []) = do
  limit ← page_limit l
  at ← moment t
  Ok (Reduce limit at)
reduce words = Err cause.Count

-- `enforce` T: granted pages are reduced to the manager's limit, at T
abbrev pub enforce : List (List ℕ) → Result Command Cause
enforce (t ∷ []) = do
  at ← moment t
  Ok (Enforce at)
enforce words = Err cause.Count

-- `pressure` W T: moderate or critical pressure, by the word W, at T
abbrev pub pressure : List (List ℕ) → Result Command Cause
pressure (w ∷ t ∷ []) = do
  critical ← is_critical w
  at ← moment t
  Ok (Pressure critical at)
pressure words = Err cause.Count

-- `limit` L T: L becomes the manager's limit, and granted pages are reduced to it, at T
abbrev pub limit : List (List ℕ) → Result Command Cause
limit (l ∷ t ∷ []) = do
  pages ← page_limit l
  at ← moment t
  Ok (Limit pages at)
limit words = Err cause.Count

-- `remove` C: each segment of the client C is counted off
abbrev pub remove : List (List ℕ) → Result Command Cause
remove (c ∷ []) = do
  owner ← client c
  Ok (Remove owner)
remove words = Err cause.Count

-- `granted`: how many pages are granted
abbrev pub granted : List (List ℕ) → Result Command Cause
granted [] = Ok Granted
granted words = Err cause.Count

-- `alloc` C B T: a piece of B bytes for the client C, at T
abbrev pub alloc : List (List ℕ) → Result Command Cause
alloc (c ∷ b ∷ t ∷ []) = do
  owner ← client c
  size ← piece_size b
  at ← moment t
  Ok (Alloc owner size at)
alloc words = Err cause.Count

-- `plock` K: the piece K
abbrev pub piece_lock : List (List ℕ) → Result Command Cause
piece_lock (k ∷ []) = do
  told ← piece k
  Ok (PieceLock told)
piece_lock words = Err cause.Count

-- `punlock` K T: the piece K, at T
abbrev pub piece_unlock : List (List ℕ) → Result Command Cause
piece_unlock (k ∷ t ∷ []) = do
  told ← piece k
  at ← moment t
  Ok (PieceUnlock told at)
piece_unlock words = Err cause.Count

-- `pwrite` K P HEX: these bytes of the piece K from P on
abbrev pub piece_write : List (List ℕ) → Result Command Cause
piece_write (k ∷ p ∷ h ∷ []) = do
  told ← piece k
  place ← byte_place p
  content ← bytes h
  Ok (PieceWrite told place content)
piece_write words = Err cause.Count

-- `pread` K P R: R bytes of the piece K from P on
abbrev pub piece_read : List (List ℕ) → Result Command Cause
piece_read (k ∷ p ∷ r ∷ []) = do
  told ← piece k
  place ← byte_place p
  count ← byte_count r
  Ok (PieceRead told place count)
piece_read words = Err cause.Count

-- `pfree` K T: the piece K is given up at T
abbrev pub piece_free : List (List ℕ) → Result Command Cause
piece_free (k ∷ t ∷ []) = do
  told ← piece k
  at ← moment t
  Ok (PieceFree told at)
piece_free words = Err cause.Count

-- `sweep` C: a look at the client C's segments that have no locked page
abbrev pub sweep : List (List ℕ) → Result Command Cause
sweep (c ∷ []) = do
  owner ← client c
  Ok (Sweep owner)
sweep words = Err cause.Count

-- `release` C: each segment of the client C that is all free is given back
abbrev pub release : List (List ℕ) → Result Command Cause
release (c ∷ []) = do
  owner ← client c
  Ok (Release owner)
release words = Err cause.Count

-- `runs` C: the free runs of the client C
abbrev pub runs : List (List ℕ) → Result Command Cause
runs (c ∷ []) = do
  owner ← client c
  Ok (Runs owner)
runs words = Err cause.Count

-- a command to the manager, by its name
abbrev pub manager_command : List ℕ → List (List ℕ) → Result Command Cause
manager_command name words =
    if bytes_eq name (codes "back") then back words
    else if bytes_eq name (codes "reduce") then reduce words
    else if bytes_eq name (codes "enforce") then enforce words
    else if bytes_eq name (codes "pressure") then pressure words
    else if bytes_eq name (codes "limit") then limit words
    else if bytes_eq name (codes "remove") then remove words
    else if bytes_eq name (codes "granted") then granted words
    else Err cause.Word

-- a command on a client's pieces, or else one to the manager, by its name
abbrev pub piece_command : List ℕ → List (List ℕ) → Result Command Cause
piece_command name words =
    if bytes_eq name (codes "alloc") then alloc words
    else if bytes_eq name (codes "plock") then piece_lock words
    else if bytes_eq name (codes "punlock") then piece_unlock words
    else if bytes_eq name (codes "pwrite") then piece_write words
    else if bytes_eq name (codes "pread") then piece_read words
    else if bytes_eq name (codes "pfree") then piece_free words
    else if bytes_eq name (codes "sweep") then sweep words
    else if bytes_eq name (codes "release") then release words
    else if bytes_eq name (codes "runs") then runs words
    else manager_command name words

-- a command on one segment, or else one of the others, by its name
abbrev pub named_command : List ℕ → List (List ℕ) → Result Command Cause
named_command name words =
    if bytes_eq name (codes "grant") then grant words
    else if bytes_eq name (codes "lock") then lock words
    else if bytes_eq name (codes "unlock") then unlock words
    else if bytes_eq name (codes "write") then write words
    else if bytes_eq name (codes "read") then read words
    else if bytes_eq name (codes "try") then try_purge words
    else piece_command name words

-- the command that the words of a line are, or the first cause against it
abbrev pub command_of : List (List ℕ) → Result Command Cause
command_of [] = Err cause.Word
command_of (name ∷ words) = named_command name words

-- what reading a line gives is what is said of it, unless it is out of memory
abbrev pub Gives : Result Command LineFault → Result Command Cause → Type 0
Gives (Ok command) said = said ≡ Ok command
Gives (Err (Refused why)) said = said ≡ Err why
Gives (Err Memory) said = Unit {0}

-- ---- whole scripts

-- whether a command may be granted a segment; a script has at most 1,024 such
abbrev pub is_grant : Command → Bool
is_grant (Grant owner pages at) = true
is_grant (Alloc owner size at) = true
is_grant _ = false

-- a script is a list of commands, each with the number of its line
abbrev pub Commands : Type 0
Commands = List (ℕ × Command)

-- how many of the commands may be granted a segment
abbrev pub grants : Commands → ℕ
grants commands = count_by (λ c. is_grant c.1) commands

-- whether a command is the 4,097th, or the 1,025th grant, where these stand before it
abbrev pub is_one_too_many : Commands → Command → Bool
is_one_too_many before command =
    nat_le MOST_COMMANDS (length before) || (is_grant command && nat_le MOST_GRANTS (grants before))

-- the command that a line is where these stand before it, or the first cause against it
abbrev pub next_command : Commands → List (List ℕ) → Result Command Cause
next_command before words = do
  command ← command_of words
  if is_one_too_many before command then Err cause.Many else Ok command

-- the fault of a script whose line of this number has a fault
abbrev pub fault_at : ℕ → LineFault → ScriptFault
fault_at number (Refused why) = Bad number (cause_number why)
fault_at number Memory = NoMemory

-- the command of a line with this number, or the refusal of the line
abbrev pub at_line : ℕ → Result Command Cause → Result Command Refusal
at_line place (Ok command) = Ok command
at_line place (Err why) = Err (refusal place why)

-- the commands of the lines, after those that stand before them, or the refusal of the first line
-- that is refused
abbrev pub commands_after : Commands → List (ℕ × List (List ℕ)) → Result Commands Refusal
commands_after before [] = Ok before
commands_after before (line ∷ lines) = do
  command ← at_line line.0 (next_command before line.1)
  commands_after (before ++ (line.0, command) ∷ []) lines

-- what a text is as a script: its commands, or the first place where it is refused
abbrev pub script_of : List ℕ → Result Commands Refusal
script_of text =
    if nat_lt MOST_TEXT_BYTES (length text) then Err (refusal MOST_TEXT_BYTES cause.Long)
    else commands_after [] (kept_lines text)

-- the text is a script of these commands
abbrev pub IsScript : List ℕ → Commands → Type 0
IsScript text commands = script_of text ≡ Ok commands

-- the text is no script, first at this place and by this cause
abbrev pub IsRefused : List ℕ → ℕ → ℕ → Type 0
IsRefused text place cause = script_of text ≡ Err (record { place = place; cause = cause })

-- what is answered is what a text is said to be, unless it is out of memory
abbrev pub Answers : Result Commands ScriptFault → Result Commands Refusal → Type 0
Answers (Ok commands) said = said ≡ Ok commands
Answers (Err (Bad place cause)) said = said ≡ Err (record { place = place; cause = cause })
Answers (Err NoMemory) said = Unit {0}

-- what reading a text answers is what the text is, unless it is out of memory
abbrev pub Reads : Result Commands ScriptFault → List ℕ → Type 0
Reads answer text = Answers answer (script_of text)
