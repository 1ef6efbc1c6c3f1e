use Rattle.std.proofs.lemmas.Result.{on_ok_weaker}
use Rattle.replay_real.proofs.OneLine.{appends, granted_line}
use Rattle.replay_real.proofs.run.RealRun.tell_granted.Goals as goal

pub returns-clause-words : goal.returns-clause-words
returns-clause-words c = on_ok_weaker c.push_granted.result (λ is. appends _ _ _ is (granted_line c.granted.result)) c.push_granted.ensures
