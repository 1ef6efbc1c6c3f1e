use Rattle.std.proofs.Common.{◌-◌, length, take, drop}
use Rattle.std.proofs.lemmas.Result.{on_ok_weaker}
use Rattle.replay_real.proofs.OneLine.{appends, reduced_line}
use Rattle.replay_real.proofs.run.RealRun.tell.Goals as goal

pub returns-clause-words : goal.returns-clause-words
returns-clause-words c = on_ok_weaker c.push_reduced.result (λ is. appends _ _ _ is
    (reduced_line c.args.told.after c.args.told.least (take (length c.entries.result.now - c.args.before) (drop c.args.before c.entries.result.now)))) c.push_reduced.ensures
