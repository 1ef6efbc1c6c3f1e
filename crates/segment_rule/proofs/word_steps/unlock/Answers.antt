use Rattle.segment_rule.proofs.StepsKeepTheRule.{unlocks_seat}
use Rattle.segment_rule.proofs.word_steps.unlock.Goals as goal

pub compare_exchange-requires : goal.compare_exchange-requires
compare_exchange-requires c = (
  c.requires.table.0,
  c.requires.table.1,
  unlocks_seat _ _ c.args.seat.now.me _ _ c.args.stamp c.requires.block.0 c.requires.owner.0 c.requires.block.1 c.requires.owner.1 c.requires.stamp.0 c.requires.stamp.1 c.requires.block.2
      c.locked.ensures c.unlocked.ensures,
)
