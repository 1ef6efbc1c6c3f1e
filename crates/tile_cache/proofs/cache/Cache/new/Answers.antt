use Rattle.std.proofs.Common.{ap, rules, ◌≡◌}
use Rattle.tile_cache.proofs.CacheSteps.{kept_new}
use Rattle.tile_cache.proofs.cache.Cache.new.Goals as goal

pub invariant_of-result : goal.invariant_of-result
invariant_of-result g c =
    let room : c.in-Ok.kept.cap ≡ c.args.entries = search rules in
    kept_new c.args.granted c.of.result.value c.in-Ok.kept.entries c.args.entries c.in-Ok.kept.cap c.new-in-Ok.result.keys c.none.result c.of.ensures (ap (λ l. l.entries) c.in-Ok.ensures) c.none.ensures room c.requires.entries.0
