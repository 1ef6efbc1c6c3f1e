use Rattle.tile_cache.proofs.CacheSteps.{kept_counted}
use Rattle.tile_cache.proofs.cache.Cache.count.Goals as goal

pub invariant_of-self : goal.invariant_of-self
invariant_of-self g c = rw (c.count.ensures, c.requires) (kept_counted _ c.self.inside.entries.cap c.self.invariant)
