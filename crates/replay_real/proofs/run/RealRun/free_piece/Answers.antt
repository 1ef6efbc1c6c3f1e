use Rattle.std.proofs.Common.{refl, Some, None}
use Rattle.std.proofs.lemmas.Result.{on_ok_weaker}
use Rattle.replay_real.proofs.run.RealRun.free_piece.Goals as goal

pub returns-in-Some-clause-tells : goal.returns-in-Some-clause-tells
returns-in-Some-clause-tells c = on_ok_weaker c.push_freed.result (λ is. record { told = Some c.in-Some.there; frees = c.in-Some.ensures.frees; same = refl; words = is }) c.push_freed.ensures

pub returns-in-None-clause-tells : goal.returns-in-None-clause-tells
returns-in-None-clause-tells c = on_ok_weaker c.push_answer.result (λ is. record { told = None; frees = c.in-None.ensures.frees; same = refl; words = is }) c.push_answer.ensures
