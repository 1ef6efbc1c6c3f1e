use Rattle.std.proofs.Common.{ap, ◌∙◌, ◌++◌, List}
use Rattle.span_heap.specs.declared.run.Run.{Run}
use Rattle.replay_plain.specs.Replies.{runs_words}
use Rattle.std.proofs.lemmas.Result.{on_ok_weaker}
use Rattle.replay_real.proofs.run.RealRun.runs.Goals as goal

pub returns-clause-tells : goal.returns-clause-tells
returns-clause-tells c = on_ok_weaker c.told_runs.result (λ is. is ∙ ap (λ (rs : List Run). c.args.reply.now.items ++ runs_words rs) c.in_ok-runs.ensures.runs) c.told_runs.ensures.told
