-- The report of a run leaves Usage to words that are not lawful.
use Rattle.command_line.specs.Commands.{order_of}
use Rattle.command_line.specs.Words.{texts}
use Rattle.top_call.proofs.Refusals.{usage_after}
use Rattle.top_call.proofs.top.discard.Goals as goal

pub returns-clause-usage : goal.returns-clause-usage
returns-clause-usage g c =
    usage_after (order_of (texts c.args.words.now)) c.run_words-ran.result.ended.status c.reported.result.status c.reported.ensures.status c.run_words-ran.ensures.usage
