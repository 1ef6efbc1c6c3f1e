-- What holds of a cache at every moment.
use Rattle.std.specs.Prelude.{◌≡◌, ℕ, ◌≤◌, true, [], All}
use Rattle.std.specs.Map.{keys_of}
use Rattle.tile_source.specs.declared.tile.Tile.{Tile}
use Rattle.span_heap.specs.declared.run.Run.{Run}
use Rattle.units.specs.Sizes.{pages_for}
use Rattle.tile_cache.specs.Recent.{has_tile}
use Rattle.tile_cache.specs.Cached.{Cached, OwnsEntries, runs_of}
use Rattle.tile_cache.specs.Accounts.{AreCounts, AreAccounted}

-- Its client owns the pieces of its entries, each of which has the pages of a tile; each of its tiles was shown; and the granter's start is
-- that of its client. No count of tiles made is above its last value, and the client's segments are accounted for.
pub record IsSoundCache {G : Type 0} (cache : Cached G) (room : ℕ) : Type 0 where
  pub entries : OwnsEntries cache.session.client cache.entries
  pub sized : All (λ (run : Run). run.pages ≡ pages_for cache.tile_bytes) (runs_of cache.entries)
  pub shown : All (λ (tile : Tile). has_tile cache.shown tile ≡ true) (keys_of cache.entries)
  pub unused : cache.tile_bytes ≡ 0 → cache.entries ≡ []
  pub sized_room : room ≡ cache.most
  pub some : 1 ≤ cache.most
  pub granter : cache.session.start ≡ cache.start.start
  pub few : AreCounts cache.counts
  pub accounts : AreAccounted cache
