-- The report got its whole text.
use Rattle.std.proofs.Common.{ap}
use Rattle.top_call.specs.Outside.{Telling, telling}
use Rattle.top_call.proofs.Told.{reports_whole}
use Rattle.top_call.proofs.report.reported_done.Goals as goal

pub returns-in-Ok-clause-reports : goal.returns-in-Ok-clause-reports
returns-in-Ok-clause-reports g c =
    let before : Telling = telling (g.E.Sink.written c.args.report.now) (g.E.Sink.faults c.args.report.now) in
    let after : Telling = telling (g.E.Sink.written c.write_run.new.report) (g.E.Sink.faults c.write_run.new.report) in
    reports_whole c.args.ran.status c.args.ran.run before after c.requires.done c.in-Ok.ensures.all
    (λ none. ap (λ report. telling (g.E.Sink.written report) (g.E.Sink.faults report)) (c.in-Ok.ensures.nothing none).same)
    c.in-Ok.ensures.later
