use Rattle.segment_rule.proofs.StepsKeepTheRule.{looks_seat}
use Rattle.segment_rule.proofs.word_steps.look.Goals as goal

pub load-requires : goal.load-requires
load-requires c = (c.requires.table.0, c.requires.table.1, looks_seat _ _ c.args.seat.now.me c.requires.owner.0 c.requires.owner.1)
