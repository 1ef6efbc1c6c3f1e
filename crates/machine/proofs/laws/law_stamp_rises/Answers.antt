use Rattle.machine.proofs.Later.{stamp_rises}
use Rattle.machine.proofs.laws.law_stamp_rises.Goals as goal

pub returns : goal.returns
returns c = stamp_rises
