use Rattle.segment_rule.proofs.StepsKeepTheRule.{splits_seat}
use Rattle.segment_rule.proofs.steps.split.Goals as goal

pub split_seat-requires : goal.split_seat-requires
split_seat-requires c = (c.requires.table.0, c.requires.table.1, splits_seat _ c.args.seat.now.me.0 c.requires.owner.0 c.requires.owner.1 c.requires.owner.2)
