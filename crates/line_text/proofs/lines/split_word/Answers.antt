use Rattle.std.proofs.Common.{sym}
use Rattle.std.proofs.lemmas.List.{take_rest}
use Rattle.line_text.proofs.Cutting.{words_none, word_to_blank, word_to_end}
use Rattle.line_text.proofs.lines.split_word.Goals as goal

pub returns-in_err-start-clause-words : goal.returns-in_err-start-clause-words
returns-in_err-start-clause-words c = rw c.from_residual.ensures (words_none c.args.line.now (sym c.in_err-start.ensures))

pub returns-in-Some-clause-words : goal.returns-in-Some-clause-words
returns-in-Some-clause-words c =
    (word_to_blank c.args.line.now c.in_ok-start.start c.in-Some.end _ (take_rest c.args.line.now c.in_ok-start.start) (sym c.in_ok-start.ensures) (sym c.in-Some.ensures)).0

pub returns-in-Some-clause-some : goal.returns-in-Some-clause-some
returns-in-Some-clause-some c =
    (word_to_blank c.args.line.now c.in_ok-start.start c.in-Some.end _ (take_rest c.args.line.now c.in_ok-start.start) (sym c.in_ok-start.ensures) (sym c.in-Some.ensures)).1

pub returns-in-None-clause-words : goal.returns-in-None-clause-words
returns-in-None-clause-words c =
    (word_to_end c.args.line.now c.in_ok-start.start _ (take_rest c.args.line.now c.in_ok-start.start) (sym c.in_ok-start.ensures) (sym c.in-None.ensures)).0
