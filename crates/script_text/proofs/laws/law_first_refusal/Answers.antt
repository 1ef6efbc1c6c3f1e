use Rattle.script_text.proofs.GrammarLaws.{refused_is_faulty, faulty_is_refused}
use Rattle.script_text.proofs.laws.law_first_refusal.Goals as goal

pub returns : goal.returns
returns c = λ text place why. (refused_is_faulty text place why, faulty_is_refused text place why)
