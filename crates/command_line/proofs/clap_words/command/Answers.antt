-- One option more.
use Rattle.std.proofs.Common.{◌∙◌, [], ap, ap₂, sym, take}
use Rattle.clap.specs.Words.{with_rule}
use Rattle.command_line.specs.Words.{texts_of}
use Rattle.command_line.specs.ClapWords.{simple_app}
use Rattle.command_line.proofs.Asked.{word_at}
use Rattle.command_line.proofs.Found.{app_more, names_more}
use Rattle.command_line.proofs.clap_words.command.Goals as goal

pub loop-name-preserved : goal.loop-name-preserved
loop-name-preserved c =
    let options = c.args.options.now in
    let n = c.loop-name.name-index in
    c.in_ok-command-2.ensures.shape c.option.ensures.local
    ∙ (ap₂ with_rule c.loop-name.invariant c.option.ensures.rule
    ∙ (app_more (texts_of (take n options)) (word_at options n)
    ∙ ap simple_app (sym (names_more options n (record { ref_ptr = (0, 0); now = [] }) c.loop-name-test.true))))
