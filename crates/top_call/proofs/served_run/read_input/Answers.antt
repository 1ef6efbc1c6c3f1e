-- A refused input: what was taken is refused, and so is all that was left.
use Rattle.std.proofs.Common.{ℕ, List, arith, subst}
use Rattle.top_call.specs.ServeRun.{AreRefused}
use Rattle.top_call.proofs.Inputs.{whole_refused, front_refused}
use Rattle.top_call.proofs.served_run.read_input.Goals as goal

pub returns-in-Err-TooLong-clause-reads : goal.returns-in-Err-TooLong-clause-reads
returns-in-Err-TooLong-clause-reads g c =
    front_refused c.args.clients (g.S.Source.left c.args.input.now) (g.S.Source.left c.read_to_end.new.source) c.number.result c.number.ensures
    (rw c.in-Err-TooLong.field-0-is at c.in-Err-TooLong.ensures.took)

pub returns-in-Err-Bad-clause-reads : goal.returns-in-Err-Bad-clause-reads
returns-in-Err-Bad-clause-reads g c =
    let within = c.in-Ok.ensures.within in
    let sized = c.in-Ok.bytes.ok.0 in
    whole_refused c.args.clients (g.S.Source.left c.args.input.now) (g.S.Source.left c.read_to_end.new.source) c.in-Ok.bytes.items c.in-Err-Bad.place c.in-Err-Bad.cause
    c.in-Ok.ensures.took (omega arith)
    (subst (λ (bytes : List ℕ). AreRefused c.args.clients bytes c.in-Err-Bad.place c.in-Err-Bad.cause) c.deref.ensures.value
    (rw c.in-Err-Bad.field-0-is at c.in-Err-Bad.ensures.reads))
