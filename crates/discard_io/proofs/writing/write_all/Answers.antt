use Rattle.std.proofs.Common.{rules, ◌+◌, ◌<◌, length, arith, ap}
use Rattle.std.proofs.lemmas.Grind.{common_steps}
use Rattle.discard_io.proofs.StreamSteps.{appended-front, called-one_more, called-within}
use Rattle.discard_io.proofs.writing.write_all.Goals as goal

pub loop-at-preserved : goal.loop-at-preserved
loop-at-preserved g c =
    let kept = c.loop-at.invariant in
    let some : 0 < c.in_ok-at.field-0 = grind (arith, common_steps) in
    record {
      within = grind (arith, common_steps);
      written = appended-front _ _ _ _ _ _ kept.written c.in_ok-at.ensures.appended;
      writes = called-within _ (c.loop-at.at + 1) _ _ (called-one_more _ _ _ _ kept.writes c.write.ensures.counted) (omega arith);
      untouched = λ none. absurd (omega (arith, none));
      later = omega (arith, kept.later, c.write.ensures.later);
    }

pub returns-clause-nothing : goal.returns-clause-nothing
returns-clause-nothing g c = λ empty.
    record { ok = search rules; same = c.loop-at.invariant.untouched (omega (arith, ap length empty)) }
