use Rattle.machine.proofs.Counts.{counted_once}
use Rattle.machine.proofs.laws.law_counted_once.Goals as goal

pub returns : goal.returns
returns c = counted_once
