-- The number of an option is that of its value.
use Rattle.std.proofs.Common.{◌∙◌, ap}
use Rattle.clap.specs.Matches.{found_of}
use Rattle.command_line.specs.Settings.{number_or}
use Rattle.command_line.proofs.Found.{value_found}
use Rattle.command_line.proofs.clap_words.set_to.Goals as goal

pub returns-clause-value : goal.returns-clause-value
returns-clause-value c = λ all given.
    c.number.ensures.value ∙ ap (number_or c.args.setting.least c.args.setting.most c.args.setting.default)
    (c.get_str.ensures ∙ value_found (found_of c.args.given.now) all c.args.setting.name.now given c.requires.apart)
