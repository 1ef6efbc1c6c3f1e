use Rattle.machine.proofs.Later.{taken_free}
use Rattle.machine.proofs.laws.law_taken_free.Goals as goal

pub returns : goal.returns
returns c = taken_free
