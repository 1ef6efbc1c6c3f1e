use Rattle.std.proofs.lemmas.Result.{on_ok_weaker}
use Rattle.replay_real.proofs.OneLine.{appends, released_line}
use Rattle.replay_real.proofs.run.RealRun.released.Goals as goal

pub returns-clause-words : goal.returns-clause-words
returns-clause-words c = on_ok_weaker c.push_released.result (λ is. appends _ _ _ is (released_line _)) c.push_released.ensures
