use Rattle.std.proofs.Common.{◌≡◌, take}
use Rattle.clap.specs.Words.{app_of}
use Rattle.command_line.specs.Words.{texts_of}
use Rattle.command_line.specs.ClapWords.{simple_app}
use Rattle.command_line.proofs.clap_words.command.Given as goal

abbrev pub invariant-loop-name : goal.invariant-loop-name
invariant-loop-name l = app_of l.command ≡ simple_app (texts_of (take l.name-index l.options))
