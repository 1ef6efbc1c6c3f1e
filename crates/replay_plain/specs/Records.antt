-- The texts of a replay: the record of each command, the reply text and the book.
use Rattle.std.specs.Prelude.{ℕ, List, [], ◌∷◌, ◌++◌, Result, Ok, Err}
use Rattle.discard_book.specs.declared.entry.Entry.{Entry}
use Rattle.discard_book.specs.Text.{text_of}
use Rattle.script_text.specs.declared.command.Command.{Command}
use Rattle.script_text.specs.Script.{Commands, script_of}
use Rattle.replay_plain.specs.declared.config.ReplayCfg.{ReplayCfg}
use Rattle.replay_plain.specs.State.{ReplayState, first_state}
use Rattle.replay_plain.specs.Commands.{state_after, state_after_all, added}
use Rattle.replay_plain.specs.Replies.{reply_of}

-- the text of a reply and of entries: the reply as a line, and then a line for each entry
abbrev pub record_text : List ℕ → List Entry → List ℕ
record_text reply entries = reply ++ 10 ∷ [] ++ text_of entries

-- the record of a command: its reply, and the entries that it adds
abbrev pub record_of : ReplayState → Command → List ℕ
record_of state command = record_text (reply_of state command) (added state command)

-- the replies to commands from this state on, each a line
abbrev pub replies_after : ReplayState → Commands → List ℕ
replies_after state [] = []
replies_after state (line ∷ lines) =
    reply_of state line.1 ++ 10 ∷ [] ++ replies_after (state_after state line.1) lines

-- the commands of a text that is a script, and none for one that is refused
abbrev pub commands_of : List ℕ → Commands
commands_of text = commands_in (script_of text)
  where
    commands_in : {E : Type 0} → Result Commands E → Commands
    commands_in (Ok commands) = commands
    commands_in (Err e) = []

-- the replay text of a script with these settings
abbrev pub replay_text : ReplayCfg → List ℕ → List ℕ
replay_text cfg text = replies_after (first_state cfg) (commands_of text)

-- the entries of the book after the replay of a script with these settings
abbrev pub replay_book : ReplayCfg → List ℕ → List Entry
replay_book cfg text = (state_after_all (first_state cfg) (commands_of text)).entries
