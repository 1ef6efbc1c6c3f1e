use Rattle.std.proofs.Common.{All, take}
use Rattle.replay_run.specs.Fitting.{Fits}
use Rattle.replay_run.proofs.records.fit.Given as goal

abbrev pub invariant-loop-entry : goal.invariant-loop-entry
invariant-loop-entry l = All Fits (take l.entry-index l.entries)
