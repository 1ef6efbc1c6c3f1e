-- What was done at a command, whatever happened before it, and what was told of that.
use Rattle.std.specs.Prelude.{◌≡◌, ◌≢◌, ℕ, ◌-◌, ◌<◌, max, Bool, List, ◌++◌, length, drop, None, Some, Option, MatchBool}
use Rattle.hex.specs.Hex.{encode_lower}
use Rattle.segment.specs.Owned.{Owned}
use Rattle.discard_book.specs.Live.{granted}
use Rattle.script_text.specs.declared.command.Command.{Command}
use Rattle.script_text.specs.declared.command.Command.TheVariants as command
use Rattle.machine.specs.declared.event.Answer.{Answer}
use Rattle.machine.specs.declared.event.Answer.TheVariants as answer
use Rattle.lru_reduce.specs.declared.reduction.Reduced.{Reduced}
use Rattle.manager_state.specs.declared.answers.Back.{Back}
use Rattle.manager_state.specs.declared.answers.Back.TheVariants as back
use Rattle.manager_state.specs.declared.answers.Tried.{Tried}
use Rattle.manager_state.specs.declared.answers.Tried.TheVariants as tried
use Rattle.manager_state.specs.Managed.{Managed}
use Rattle.manager_state.specs.Calls.{Reduces, Grants, TriesOne, GivesBack, Removes}
use Rattle.replay_plain.specs.Commands.{pressed}
use Rattle.replay_plain.specs.Replies.{answer_text, back_answer_text, reduced_words, removed_words, granted_words, misuse_text, freed_words, piece_words, swept_words, released_words, runs_words}
use Rattle.replay_real.specs.declared.run.RealRun.{RealRun}
use Rattle.replay_real.specs.declared.owners.Given.{Given}
use Rattle.replay_real.specs.Owners.{given_at, GaveUp, KeepsClients}
use Rattle.replay_real.specs.Emptiness.{is_of_heap}
use Rattle.span_heap.specs.declared.run.Run.{Run}
use Rattle.span_heap.specs.Runs.{front_of}
use Rattle.span_heap.specs.Changes.{whole_of}
use Rattle.units.specs.Sizes.{pages_for}
use Rattle.replay_real.specs.declared.heaps.Heaps.{Heaps}
use Rattle.replay_real.specs.Returning.{TellsServed, ReleasesServed}
use Rattle.replay_real.specs.PieceCalls.{SlotCall, OnPiece, OnClient, LocksSlot, UnlocksSlot, WritesSlot, FreesSlot, SweepsServed, piece_bytes, free_runs}

-- a segment was granted, and its number told
pub record GrantsAndTells (client pages now : ℕ) (old new : Managed) (before after : List ℕ) : Type 0 where
  pub side : Owned
  pub grants : Grants client pages now side old new
  pub words : after ≡ before ++ answer_text (answer.Granted side.id)

-- the words of a reduction that told this, between these states of the manager
abbrev pub told_words : Reduced → Managed → Managed → List ℕ
told_words told old new =
    reduced_words told.after told.least (drop (length old.entries) new.entries)

-- granted pages were reduced to a limit at a moment, and that was told
pub record ReducesAndTells (limit now : ℕ) (old new : Managed) (before after : List ℕ) : Type 0 where
  pub told : Reduced
  pub reduces : Reduces limit now told old new
  pub words : after ≡ before ++ told_words told old new

-- the limit was set, granted pages were reduced to it, and that was told
abbrev pub SetsAndTells : ℕ → ℕ → Managed → Managed → List ℕ → List ℕ → Type 0
SetsAndTells limit now old new before after =
    ReducesAndTells limit now (record old { limit = limit }) new before after

-- what a try answered, as an answer of the machine: a segment that is not live is misuse
abbrev pub try_answer : Tried → Answer
try_answer tried.Taken = answer.Taken
try_answer (tried.Used known) = answer.Used known
try_answer tried.NotLive = answer.Misuse

-- a purge try was made, and its answer told
pub record TriesAndTells (id now : ℕ) (old new : Managed) (before after : List ℕ) : Type 0 where
  pub told : Tried
  pub tries : TriesOne id now told old new
  pub words : after ≡ before ++ answer_text (try_answer told)

-- what a return answered, as an answer of the machine: a number that is not known is misuse
abbrev pub back_answer : Back → Answer
back_answer back.Counted = answer.Counted
back_answer back.Purged = answer.Purged
back_answer back.Unknown = answer.Misuse

-- a segment was given up and back by the client that it was granted to, and the answer told
pub record ReturnsAndTells (id : ℕ) (table left : List Given) (old new : Managed) (before after : List ℕ) : Type 0 where
  pub told : Back
  pub block : Option (List ℕ)
  pub gave : GaveUp (given_at table id).owner block
  pub returns : GivesBack (given_at table id).client id block told old new
  pub ended : (given_at left id).owner ≡ None
  pub words : after ≡ before ++ back_answer_text (back_answer told)

-- A return by number: on a segment of a client's heap it is misuse, and nothing changed.
abbrev pub BacksAndTells : ℕ → RealRun → RealRun → List ℕ → List ℕ → Type 0
BacksAndTells id old new before after =
    MatchBool (is_of_heap old.heaps id)
    ((new ≡ old) × (after ≡ before ++ answer_text answer.Misuse))
    (ReturnsAndTells id old.owners new.owners old.state new.state before after)

-- a plain segment was given up, and its block, where there was one, handed in by its client
pub record HandsIn (client id : ℕ) (old new : RealRun) : Type 0 where
  pub told : Back
  pub block : Option (List ℕ)
  pub gave : GaveUp (given_at old.owners id).owner block
  pub returns : GivesBack client id block told old.state new.state

-- each plain segment of a client was given up, and no other
pub record Releases (client : ℕ) (old new : List Given) : Type 0 where
  pub ended : (id : ℕ) → (given_at old id).client ≡ client → (given_at new id).owner ≡ None
  pub others : (id : ℕ) → (given_at old id).client ≢ client → given_at new id ≡ given_at old id

-- each plain segment of a client with a number below this one was given up, and no other; each
-- number is with the same client
pub record ReleasesBelow (client end : ℕ) (old new : List Given) : Type 0 where
  pub ended : (id : ℕ) → id < end → (given_at old id).client ≡ client → (given_at new id).owner ≡ None
  pub others : (id : ℕ) → (given_at old id).client ≢ client → given_at new id ≡ given_at old id
  pub clients : KeepsClients old new
  pub places : length new ≡ length old

-- A client was removed: its live segments were counted off, and then each of its plain segments
-- was given up. How many were counted off was told.
pub record RemovesAndTells (client : ℕ) (old new : RealRun) (before after : List ℕ) : Type 0 where
  pub removed : ℕ
  pub between : Managed
  pub removes : Removes client removed old.state between
  pub released : Releases client old.owners new.owners
  pub words : after ≡ before ++ removed_words removed

-- the run differs from what it was in what its clients have alone
abbrev pub ChangesHeaps : RealRun → RealRun → Type 0
ChangesHeaps old new = new ≡ record old { heaps = new.heaps }

-- a lock, an unlock or a write of a piece, and its answer was told: misuse where no such piece came
pub record AnswersPiece (piece : ℕ) (call : Answer → SlotCall) (old new : RealRun) (before after : List ℕ) : Type 0 where
  pub told : Answer
  pub calls : OnPiece piece (call told) (told ≡ answer.Misuse) old.heaps new.heaps
  pub same : ChangesHeaps old new
  pub words : after ≡ before ++ answer_text told

-- the words of a read: the bytes in hexadecimal digits, or misuse
abbrev pub shown_words : Option (List ℕ) → List ℕ
shown_words None = misuse_text
shown_words (Some bytes) = encode_lower bytes

-- the words of a free: freed or dead, or misuse where no such piece is there
abbrev pub free_words : Option Bool → List ℕ
free_words None = misuse_text
free_words (Some there) = freed_words there

-- a piece was given up at a moment, and that was told
pub record FreesAndTells (piece at : ℕ) (old new : RealRun) (before after : List ℕ) : Type 0 where
  pub told : Option Bool
  pub frees : OnPiece piece (FreesSlot at told) (told ≡ None) old.heaps new.heaps
  pub same : ChangesHeaps old new
  pub words : after ≡ before ++ free_words told

-- a client was swept, and it was told how many of its segments were found gone
pub record SweepsAndTells (client : ℕ) (old new : RealRun) (before after : List ℕ) : Type 0 where
  pub count : ℕ
  pub sweeps : OnClient client (SweepsServed count) (count ≡ 0) old.heaps new.heaps
  pub same : ChangesHeaps old new
  pub words : after ≡ before ++ swept_words count

-- A client's segments that are all free were handed back, and how many entries that added to the book
-- was told: one for each that was counted off.
pub record ReleasesAndTells (client : ℕ) (old new : RealRun) (before after : List ℕ) : Type 0 where
  pub releases : OnClient client (ReleasesServed old.state new.state) (new.state ≡ old.state) old.heaps new.heaps
  pub owners : new.owners ≡ old.owners
  pub words : after ≡ before ++ released_words (length new.state.entries - length old.state.entries)

-- A client was granted a segment for a piece: of as many pages as the piece, or of the standard size
-- where that is more. The piece is its first pages.
pub record GrantsPiece (client pages now standard : ℕ) (run : Run) (old new : Managed) : Type 0 where
  pub side : Owned
  pub grants : Grants client (max pages standard) now side old new
  pub front : run ≡ front_of (whole_of side.id side.pages) pages

-- A piece came with a new segment. Before that the client was swept, and the manager was told of each
-- of its segments that was found gone.
pub record BeginsPiece (client pages now : ℕ) (run : Run) (old new : RealRun) : Type 0 where
  pub count : ℕ
  pub swept : Heaps
  pub sweeps : OnClient client (SweepsServed count) (count ≡ 0) old.heaps swept
  pub listed : Managed
  pub told : Heaps
  pub tells : OnClient client (TellsServed old.state listed) (listed ≡ old.state) swept told
  pub grants : GrantsPiece client pages now old.heaps.standard run listed new.state

-- A client was allocated a piece of so many pages, and its number and pages were told: free pages
-- served it, and the manager was left alone; or it came with a new segment.
pub record AllocatesAndTells (client pages now : ℕ) (old new : RealRun) (before after : List ℕ) : Type 0 where
  pub run : Run
  pub served : Bool
  pub sized : run.pages ≡ pages
  pub found : Heaps
  pub standard : found.standard ≡ old.heaps.standard
  pub manager : MatchBool served (new ≡ record old { heaps = found }) (BeginsPiece client pages now run (record old { heaps = found }) new)
  pub words : after ≡ before ++ piece_words (length new.heaps.owners.items) served run

-- What was done at a command, whatever happened before it. An owner's command leaves the manager alone.
abbrev pub Acts : Command → RealRun → RealRun → List ℕ → List ℕ → Type 0
Acts (command.Grant client pages at) old new before after =
    GrantsAndTells client pages at old.state new.state before after
Acts (command.Lock id first count) old new before after = new.state ≡ old.state
Acts (command.Unlock id first count at) old new before after = new.state ≡ old.state
Acts (command.Write id place bytes) old new before after = new.state ≡ old.state
Acts (command.Read id place count) old new before after = new ≡ old
Acts (command.Try id at) old new before after =
    TriesAndTells id at old.state new.state before after
Acts (command.Back id) old new before after = BacksAndTells id old new before after
Acts (command.Reduce limit at) old new before after =
    ReducesAndTells limit at old.state new.state before after
Acts (command.Enforce at) old new before after =
    ReducesAndTells old.state.limit at old.state new.state before after
Acts (command.Pressure critical at) old new before after =
    ReducesAndTells (pressed critical old.state.limit) at old.state new.state before after
Acts (command.Limit limit at) old new before after =
    SetsAndTells limit at old.state new.state before after
Acts (command.Remove client) old new before after = RemovesAndTells client old new before after
Acts (command.Alloc client size at) old new before after =
    AllocatesAndTells client (pages_for size) at old new before after
Acts (command.PieceLock piece) old new before after =
    AnswersPiece piece LocksSlot old new before after
Acts (command.PieceUnlock piece at) old new before after =
    AnswersPiece piece (UnlocksSlot at) old new before after
Acts (command.PieceWrite piece place bytes) old new before after =
    AnswersPiece piece (WritesSlot place bytes) old new before after
Acts (command.PieceRead piece place count) old new before after =
    (new ≡ old) × (after ≡ before ++ shown_words (piece_bytes old.heaps piece place count))
Acts (command.PieceFree piece at) old new before after =
    FreesAndTells piece at old new before after
Acts (command.Sweep client) old new before after = SweepsAndTells client old new before after
Acts (command.Release client) old new before after =
    ReleasesAndTells client old new before after
Acts (command.Runs client) old new before after =
    (new ≡ old) × (after ≡ before ++ runs_words (free_runs old.heaps client))
Acts command.Granted old new before after =
    (new ≡ old) × (after ≡ before ++ granted_words (granted old.state.entries))
