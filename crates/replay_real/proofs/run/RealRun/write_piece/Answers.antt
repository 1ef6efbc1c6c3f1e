use Rattle.std.proofs.Common.{refl}
use Rattle.std.proofs.lemmas.Result.{on_ok_weaker}
use Rattle.replay_real.proofs.OneLine.{appends, answer_line}
use Rattle.replay_real.proofs.run.RealRun.write_piece.Goals as goal

pub returns-clause-words : goal.returns-clause-words
returns-clause-words c = on_ok_weaker c.push_answer.result (λ is. appends _ _ _ is (answer_line c.write.result)) c.push_answer.ensures

pub returns-clause-tells : goal.returns-clause-tells
returns-clause-tells c = on_ok_weaker c.push_answer.result (λ is. record { told = c.write.result; calls = c.write.ensures.writes; same = refl; words = is }) c.push_answer.ensures
