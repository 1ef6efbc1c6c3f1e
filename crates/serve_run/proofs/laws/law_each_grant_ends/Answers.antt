use Rattle.serve_run.proofs.NumbersDrawnOnce.{each_ends_once}
use Rattle.serve_run.proofs.laws.law_each_grant_ends.Goals as goal

pub returns : goal.returns
returns c = each_ends_once
