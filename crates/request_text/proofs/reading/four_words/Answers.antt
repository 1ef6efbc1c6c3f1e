use Rattle.std.proofs.Common.{arith}
use Rattle.request_text.proofs.Numbers.{four_by_places}
use Rattle.request_text.proofs.reading.four_words.Goals as goal

pub returns-clause-ok : goal.returns-clause-ok
returns-clause-ok c =
    four_by_places c.args.line.now.1 _ _ _ _ (omega arith)
    c.in_ok-first.ensures.ok c.in_ok-second.ensures.ok c.in_ok-third.ensures.ok c.in_ok-fourth.ensures.ok
