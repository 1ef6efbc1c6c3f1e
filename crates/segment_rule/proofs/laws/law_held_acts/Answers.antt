use Rattle.segment_rule.proofs.LawsOfSteps.{held_locks, held_unlocks, held_writes}
use Rattle.segment_rule.proofs.laws.law_held_acts.Goals as goal

pub returns-clause-locks : goal.returns-clause-locks
returns-clause-locks c = held_locks

pub returns-clause-unlocks : goal.returns-clause-unlocks
returns-clause-unlocks c = held_unlocks

pub returns-clause-writes : goal.returns-clause-writes
returns-clause-writes c = held_writes
