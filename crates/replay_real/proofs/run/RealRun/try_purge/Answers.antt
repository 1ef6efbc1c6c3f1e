use Rattle.std.proofs.lemmas.Result.{on_ok_weaker}
use Rattle.replay_real.proofs.OneLine.{appends, answer_line}
use Rattle.replay_real.proofs.run.RealRun.try_purge.Goals as goal

pub returns-clause-words : goal.returns-clause-words
returns-clause-words c = on_ok_weaker c.push_answer.result (λ is. appends _ _ _ is (answer_line c.answer_to_try.result)) c.push_answer.ensures
