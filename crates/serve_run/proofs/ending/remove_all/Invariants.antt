use Rattle.serve_run.proofs.WhatIsLive.{HasRemoved}
use Rattle.serve_run.proofs.ending.remove_all.Given as goal

abbrev pub invariant-loop-removed : goal.invariant-loop-removed
invariant-loop-removed l = HasRemoved l.removed l.last l.fn.state l.state
