use Rattle.manager.proofs.Keeping.{kept_notes, to_queue}
use Rattle.manager.proofs.behind.Behind.settle.Goals as goal

pub invariant_of-self : goal.invariant_of-self
invariant_of-self g c = (
  kept_notes _ _ _ _ _ _ c.settle.ensures.counted.0 c.self.invariant.0 c.settle.ensures.counted.2,
  to_queue g.R.Returns.is_taker _ _ _ c.requires c.settle.ensures.queue,
)

pub returns-clause-all : goal.returns-clause-all
returns-clause-all g c = rw (← c.self.view_is) c.settle.ensures.all
