use Rattle.request_text.proofs.Lines.{answer_lawful}
use Rattle.request_text.proofs.reading.read_requests.Goals as goal

pub returns-clause-requests : goal.returns-clause-requests
returns-clause-requests c =
    answer_lawful c.args.clients c.in_ok-lines.lines c.read_lines.result c.read_lines.ensures
