-- Words that `clap` refuses ask for nothing.
use Rattle.std.proofs.Common.{sym}
use Rattle.command_line.specs.Commands.{replay_options}
use Rattle.command_line.specs.Words.{texts, words_given}
use Rattle.command_line.proofs.Asked.{replay_refused}
use Rattle.command_line.proofs.orders.replay_order.Goals as goal

pub returns-in-None-clause-value : goal.returns-in-None-clause-value
returns-in-None-clause-value c = sym (replay_refused (words_given replay_options (texts c.args.words.now)) (rw c.in-None.is at c.in_ok-given.ensures))
