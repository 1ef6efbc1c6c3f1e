-- The positional words are those that were found.
use Rattle.clap.specs.Matches.{found_of}
use Rattle.command_line.proofs.Found.{words_found}
use Rattle.command_line.proofs.clap_words.positional.Goals as goal

pub returns : goal.returns
returns c = λ all given. words_found (found_of c.args.given.now) all c.get_strs.result given c.get_strs.ensures
