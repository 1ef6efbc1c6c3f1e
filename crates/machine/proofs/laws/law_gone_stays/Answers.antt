use Rattle.machine.proofs.Later.{gone_stays}
use Rattle.machine.proofs.laws.law_gone_stays.Goals as goal

pub returns : goal.returns
returns c = gone_stays
