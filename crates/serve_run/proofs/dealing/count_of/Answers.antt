use Rattle.std.proofs.Common.{◌∙◌, arith}
use Rattle.serve_run.proofs.PlacesAreDealt.{count_mine, count_other}
use Rattle.serve_run.proofs.dealing.count_of.Goals as goal
use Rattle.serve_run.proofs.dealing.count_of.Goals.{then-requests-number, else-requests-number}

pub loop-number-preserved : goal.loop-number-preserved
loop-number-preserved c =
    elim c.if-requests-number.branch [
      | then-requests-number w ↦ (
        w.count-is ∙ count_mine c.args.requests.now c.args.client c.loop-number.number c.loop-number.count _ c.loop-number-test.true w.if-requests-number.true c.loop-number.invariant.0,
        omega (arith, w.count-is, c.loop-number.invariant.1),
      )
      | else-requests-number w ↦ (
        w.count-is ∙ count_other c.args.requests.now c.args.client c.loop-number.number c.loop-number.count _ c.loop-number-test.true w.if-requests-number.false c.loop-number.invariant.0,
        omega (arith, w.count-is, c.loop-number.invariant.1),
      )
    ]
