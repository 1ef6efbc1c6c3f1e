use Rattle.manager.proofs.Keeping.{kept_notes, to_queue}
use Rattle.manager.proofs.behind.Behind.drain.Goals as goal

pub invariant_of-self : goal.invariant_of-self
invariant_of-self g c = (
  kept_notes _ _ _ _ _ _ c.drain.ensures.counted.0 c.self.invariant.0 c.drain.ensures.counted.2,
  to_queue g.R.Returns.is_taker _ _ _ c.requires.queue c.drain.ensures.queue,
)
