-- The ranges of a script's commands.
use Rattle.std.specs.Prelude.{ℕ, ◌-◌, ◌*◌, ◌≤◌, length}
use Rattle.std.specs.List.{AllByRecursion}
use Rattle.units.specs.declared.TheConstants.{PAGE}
use Rattle.units.specs.Moment.{IsMoment}
use Rattle.line_text.specs.declared.limits.TheConstants.{MOST_CLIENTS, MOST_SEGMENT_PAGES, MOST_LIMIT, MOST_MOVED_BYTES}
use Rattle.script_text.specs.declared.command.Command.{Command}
use Rattle.script_text.specs.declared.command.Command.TheVariants.{Grant, Lock, Unlock, Write, Read, Try, Back, Reduce, Enforce, Pressure, Limit, Remove, Alloc, PieceLock, PieceUnlock, PieceWrite, PieceRead, PieceFree, Sweep, Release, Runs, Granted}
use Rattle.script_text.specs.Script.{Commands}

-- a number lies from least to most
abbrev pub IsBetween : ℕ → ℕ → ℕ → Type 0
IsBetween least most n = (least ≤ n) × (n ≤ most)

-- a client
abbrev pub IsClient : ℕ → Type 0
IsClient client = IsBetween 1 MOST_CLIENTS client

-- a limit of the manager, in pages
abbrev pub IsLimit : ℕ → Type 0
IsLimit limit = IsBetween 0 MOST_LIMIT limit

-- a page that a range of pages begins with
abbrev pub IsFirstPage : ℕ → Type 0
IsFirstPage first = IsBetween 0 (MOST_SEGMENT_PAGES - 1) first

-- a count of pages
abbrev pub IsPageCount : ℕ → Type 0
IsPageCount count = IsBetween 1 MOST_SEGMENT_PAGES count

-- the place of a byte in a segment
abbrev pub IsBytePlace : ℕ → Type 0
IsBytePlace place = IsBetween 0 (MOST_SEGMENT_PAGES * PAGE - 1) place

-- the size of a piece, in bytes
abbrev pub IsPieceSize : ℕ → Type 0
IsPieceSize size = IsBetween 0 (MOST_SEGMENT_PAGES * PAGE) size

-- a count of bytes
abbrev pub IsByteCount : ℕ → Type 0
IsByteCount count = IsBetween 1 MOST_MOVED_BYTES count

-- each word of a command lies in its range
abbrev pub IsInRange : Command → Type 0
IsInRange (Grant client pages at) = IsClient client × IsPageCount pages × IsMoment at
IsInRange (Lock id first count) = IsFirstPage first × IsPageCount count
IsInRange (Unlock id first count at) = IsFirstPage first × IsPageCount count × IsMoment at
IsInRange (Write id place bytes) = IsBytePlace place × IsByteCount (length bytes)
IsInRange (Read id place count) = IsBytePlace place × IsByteCount count
IsInRange (Try id at) = IsMoment at
IsInRange (Back id) = Unit {0}
IsInRange (Reduce limit at) = IsLimit limit × IsMoment at
IsInRange (Enforce at) = IsMoment at
IsInRange (Pressure critical at) = IsMoment at
IsInRange (Limit limit at) = IsLimit limit × IsMoment at
IsInRange (Remove client) = IsClient client
IsInRange (Alloc client size at) = IsClient client × IsPieceSize size × IsMoment at
IsInRange (PieceLock piece) = Unit {0}
IsInRange (PieceUnlock piece at) = IsMoment at
IsInRange (PieceWrite piece place bytes) = IsBytePlace place × IsByteCount (length bytes)
IsInRange (PieceRead piece place count) = IsBytePlace place × IsByteCount count
IsInRange (PieceFree piece at) = IsMoment at
IsInRange (Sweep client) = IsClient client
IsInRange (Release client) = IsClient client
IsInRange (Runs client) = IsClient client
IsInRange Granted = Unit {0}

-- so does each word of each command
abbrev pub AreInRange : Commands → Type 0
AreInRange commands = AllByRecursion (λ line. IsInRange line.1) commands
