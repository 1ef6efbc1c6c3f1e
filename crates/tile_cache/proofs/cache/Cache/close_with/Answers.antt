use Rattle.std.proofs.Common.{ap, arith, ◌∙◌}
use Rattle.tile_cache.specs.Ended.{Ended}
use Rattle.tile_cache.proofs.Closing.{ends_bounded}
use Rattle.tile_cache.proofs.cache.Cache.close_with.Goals as goal

pub returns-clause-bounded : goal.returns-clause-bounded
returns-clause-bounded g c =
    let end = c.of.ensures in
    let closed = c.close_with-client.ensures in
    rw (← c.self.view_is) (ends_bounded _ c.self.inside.entries.cap c.of.result c.self.invariant (record {
      tiles = ap (λ (e : Ended). e.tiles) end;
      counts = ap (λ (e : Ended). e.counts) end;
      grants = ap (λ (e : Ended). e.client.grants) end ∙ closed.end;
      gone = rw end closed.gone;
      kept = rw end closed.kept;
    }) (rw end closed.kept) (omega (arith, c.len-tiles.ensures.len, c.len-tiles.ensures.fits)))
