use Rattle.manager.proofs.Keeping.{kept_new}
use Rattle.manager.proofs.behind.Behind.new.Goals as goal

pub invariant_of-result : goal.invariant_of-result
invariant_of-result g c = (kept_new _ _ _ _ _ c.requires.limit c.requires.entries c.requires.counts c.requires.fresh, c.requires.taker)
