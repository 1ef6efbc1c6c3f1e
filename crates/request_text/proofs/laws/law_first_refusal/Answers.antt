use Rattle.request_text.proofs.Lines.{refused_is_faulty, faulty_is_refused}
use Rattle.request_text.proofs.laws.law_first_refusal.Goals as goal

pub returns : goal.returns
returns c = λ clients text place told low. (
  refused_is_faulty c.law_one_spelling.ensures clients text place told,
  faulty_is_refused c.law_one_spelling.ensures clients text place told low,
)
