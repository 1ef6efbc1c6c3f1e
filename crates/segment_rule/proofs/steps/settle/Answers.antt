use Rattle.segment_rule.proofs.StepsKeepTheRule.{settles_seat}
use Rattle.segment_rule.proofs.steps.settle.Goals as goal

pub load-requires : goal.load-requires
load-requires c = (c.requires.table.0, c.requires.table.1, settles_seat _ _ c.args.seat.now.me c.requires.owner.0 c.requires.owner.1)
