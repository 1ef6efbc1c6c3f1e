use Rattle.std.proofs.Common.{subst, arith, All}
use Rattle.std.proofs.lemmas.List.Elements.{All-more}
use Rattle.std.proofs.lemmas.List.{take_all}
use Rattle.replay_run.specs.Fitting.{Fits}
use Rattle.replay_run.proofs.records.fit.Goals as goal

pub loop-entry-preserved : goal.loop-entry-preserved
loop-entry-preserved c = All-more Fits c.args.entries.now c.loop-entry.entry-index _ (let more = c.loop-entry-test.true in omega arith) c.loop-entry.invariant c.fits.ensures

pub returns : goal.returns
returns c =
    let over = c.loop-entry-test.false in
    subst (All Fits) (take_all c.loop-entry.entry-index c.args.entries.now (omega arith)) c.loop-entry.invariant
