use Rattle.segment_rule.proofs.StepsKeepTheRule.{tries_seat}
use Rattle.segment_rule.proofs.word_steps.try_purge.Goals as goal

pub compare_exchange-requires : goal.compare_exchange-requires
compare_exchange-requires g c = (
  c.requires.table.0,
  c.requires.table.1,
  tries_seat _ _ c.args.seat.now.me g.M.Moment.now c.args.expected _ c.requires.warden.0 c.requires.moment c.requires.warden.1 c.requires.expected c.purged.ensures,
)
