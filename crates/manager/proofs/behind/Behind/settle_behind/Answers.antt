use Rattle.std.proofs.Common.{[], ◌∷◌, ◌++◌}
use Rattle.manager.proofs.Keeping.{kept_notes, to_queue}
use Rattle.manager.proofs.behind.Behind.settle_behind.Goals as goal

pub invariant_of-self : goal.invariant_of-self
invariant_of-self g c = (
  kept_notes _ _ _ _ _ _ (c.settle_behind.ensures.counted.0 ++ c.args.note ∷ []) c.self.invariant.0 c.settle_behind.ensures.counted.2,
  to_queue g.R.Returns.is_taker _ _ _ c.requires.queue c.settle_behind.ensures.queue,
)
