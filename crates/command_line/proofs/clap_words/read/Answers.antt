-- A parse says what the words give.
use Rattle.std.proofs.Common.{◌∙◌}
use Rattle.clap.specs.Words.{app_of}
use Rattle.command_line.specs.Words.{texts_of}
use Rattle.command_line.proofs.Whole.{gives, refuses}
use Rattle.command_line.proofs.clap_words.read.Goals as goal

pub returns-in-Ok : goal.returns-in-Ok
returns-in-Ok c =
    gives (texts_of c.args.options.now) c.requires.apart (app_of c.in_ok-command.command) c.in_ok-command.ensures c.args.words.now c.in-Ok.matches c.in-Ok.ensures.kinds c.in-Ok.ensures.matches

pub returns : goal.returns
returns c =
    refuses (texts_of c.args.options.now) c.requires.apart (app_of c.in_ok-command.command) c.in_ok-command.ensures c.args.words.now c.in-Err.error c.in-Err.ensures.kinds
    (λ memory. c.in_default.not-OutOfMemory (c.kind.ensures ∙ memory))
