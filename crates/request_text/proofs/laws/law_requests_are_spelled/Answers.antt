use Rattle.request_text.proofs.Lines.{read_is_spelled, spelled_is_read}
use Rattle.request_text.proofs.laws.law_requests_are_spelled.Goals as goal

pub returns : goal.returns
returns c = λ clients text requests low. (
  read_is_spelled c.law_one_spelling.ensures clients text requests,
  spelled_is_read c.law_one_spelling.ensures clients text requests low,
)
