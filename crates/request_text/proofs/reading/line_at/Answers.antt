use Rattle.request_text.proofs.Places.{line_left, line_within}
use Rattle.request_text.proofs.reading.line_at.Goals as goal

pub returns-clause-lines : goal.returns-clause-lines
returns-clause-lines c = line_left c.args.lines.now c.args.place c.get.result c.get.ensures

pub returns-clause-within : goal.returns-clause-within
returns-clause-within c = line_within c.args.lines.now c.args.place c.get.result c.get.ensures
