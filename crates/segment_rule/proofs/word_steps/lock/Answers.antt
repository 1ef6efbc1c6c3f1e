use Rattle.std.proofs.Common.{ap, sym, ◌∙◌, ◌*◌}
use Rattle.segment_rule.proofs.StepsKeepTheRule.{locks_seat}
use Rattle.segment_rule.proofs.word_steps.lock.Goals as goal

pub compare_exchange-requires : goal.compare_exchange-requires
compare_exchange-requires c = (
  c.requires.table.0,
  c.requires.table.1,
  locks_seat _ _ c.args.seat.now.me _ _ c.requires.owner.0 c.requires.owner.1 (c.unlocked.ensures ∙ ap (λ k. 2 * k) (sym c.requires.last.0)) c.locked.ensures,
)
