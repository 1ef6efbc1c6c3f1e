-- What is left of a cache that was closed.
use Rattle.std.specs.Prelude.{◌≡◌, List}
use Rattle.tile_source.specs.declared.tile.Tile.{Tile}
use Rattle.client.specs.Gone.{AreGone, Includes}
use Rattle.client.specs.declared.ending.ClientEnd.{ClientEnd}
use Rattle.tile_cache.specs.declared.counts.Counts.{Counts}
use Rattle.tile_cache.specs.Cached.{Cached, tiles_of}

-- the tiles of its entries, the most recent first; its counts; and what its client left
pub record Ended : Type 0 where
  pub tiles : List Tile
  pub counts : Counts
  pub client : ClientEnd

-- A cache was closed: the end has the tiles of its entries, its counts, and how many segments its client was granted; its gone sides are
-- gone, and each side that the client had found gone before is among them.
pub record Closes {G : Type 0} (cache : Cached G) (end : Ended) : Type 0 where
  pub tiles : end.tiles ≡ tiles_of cache
  pub counts : end.counts ≡ cache.counts
  pub grants : end.client.grants ≡ cache.session.grants
  pub gone : AreGone end.client.gone
  pub kept : Includes cache.session.client.gone end.client.gone
