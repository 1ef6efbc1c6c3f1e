-- A workload that is drawn is served as it is drawn.
use Rattle.top_call.specs.ServeRun.{ServesDrawn}
use Rattle.top_call.proofs.Drawn.{serves_drawn, tells_drawn}
use Rattle.top_call.proofs.served_run.drawn.Goals as goal

pub returns-clause-right : goal.returns-clause-right
returns-clause-right g c =
    serves_drawn c.args.n c.gen_settings-cfg.result c.in_ok-workload.workload.image c.in_ok-workload.workload.requests c.in_ok-answer.answer.served
    c.gen_settings-cfg.ensures.value c.in_ok-workload.ensures.image c.in_ok-workload.ensures.requests c.in_ok-answer.ensures.right

pub returns-clause-line : goal.returns-clause-line
returns-clause-line g c =
    let right : ServesDrawn c.args.n c.in_ok-answer.answer.served =
    serves_drawn c.args.n c.gen_settings-cfg.result c.in_ok-workload.workload.image c.in_ok-workload.workload.requests c.in_ok-answer.answer.served
    c.gen_settings-cfg.ensures.value c.in_ok-workload.ensures.image c.in_ok-workload.ensures.requests c.in_ok-answer.ensures.right in
    tells_drawn c.args.n c.in_ok-answer.answer.served c.in_ok-line.line.items right c.in_ok-line.ensures
