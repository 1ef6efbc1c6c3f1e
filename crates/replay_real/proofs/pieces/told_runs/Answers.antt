use Rattle.std.proofs.lemmas.Result.{on_ok_weaker}
use Rattle.replay_real.proofs.OneLine.{appends, runs_line}
use Rattle.replay_real.proofs.pieces.told_runs.Goals as goal

pub returns-clause-words : goal.returns-clause-words
returns-clause-words c = on_ok_weaker c.push_runs.result (λ is. appends _ _ _ is (runs_line _)) c.push_runs.ensures
