-- Words that `clap` refuses ask for nothing.
use Rattle.std.proofs.Common.{sym}
use Rattle.command_line.specs.Commands.{gen_options}
use Rattle.command_line.specs.Words.{texts, words_given}
use Rattle.command_line.proofs.Asked.{gen_refused}
use Rattle.command_line.proofs.orders.gen_order.Goals as goal

pub returns-in-None-clause-value : goal.returns-in-None-clause-value
returns-in-None-clause-value c = sym (gen_refused (words_given gen_options (texts c.args.words.now)) (rw c.in-None.is at c.in_ok-given.ensures))
