use Rattle.machine.proofs.Counts.{misuse_changes_nothing}
use Rattle.machine.proofs.laws.law_misuse_changes_nothing.Goals as goal

pub returns : goal.returns
returns c = misuse_changes_nothing
