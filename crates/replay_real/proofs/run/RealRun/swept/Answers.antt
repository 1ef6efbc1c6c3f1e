use Rattle.std.proofs.Common.{refl}
use Rattle.std.proofs.lemmas.Result.{on_ok_weaker}
use Rattle.replay_real.proofs.OneLine.{appends, swept_line}
use Rattle.replay_real.proofs.run.RealRun.swept.Goals as goal

pub returns-clause-words : goal.returns-clause-words
returns-clause-words c = on_ok_weaker c.push_swept.result (λ is. appends _ _ _ is (swept_line c.sweep.result)) c.push_swept.ensures

pub returns-clause-tells : goal.returns-clause-tells
returns-clause-tells c = on_ok_weaker c.push_swept.result (λ is. record { count = c.sweep.result; sweeps = c.sweep.ensures; same = refl; words = is }) c.push_swept.ensures
