-- Which requests a cache stands for.
use Rattle.std.specs.Prelude.{◌≡◌, ℕ, ◌+◌, ◌<◌, true, List, length}
use Rattle.tile_source.specs.declared.tile.Tile.{Tile}
use Rattle.client.specs.Granting.{LAST_COUNT}
use Rattle.tile_cache.specs.declared.counts.Counts.{Counts}
use Rattle.tile_cache.specs.declared.counts.Shown.{Shown}
use Rattle.tile_cache.specs.declared.counts.Shown.TheVariants.{Kept, First, Rebuilt, Again}
use Rattle.tile_cache.specs.Recent.{has_tile, recent, is_hit, is_first, is_again, hits, firsts, agains}
use Rattle.tile_cache.specs.Cached.{Cached, tiles_of}

-- the counts are those of these requests
pub record Count (n : ℕ) (asked : List Tile) (counts : Counts) : Type 0 where
  pub first : counts.first ≡ firsts asked
  pub hit : counts.kept + counts.rebuilt ≡ hits n asked
  pub again : counts.again ≡ agains n asked

-- The cache is as it was made, and then asked for these tiles in turn, where no get was out of memory: its entries are the tiles asked
-- last, it has shown each tile asked, and its counts are those of the requests, where these are fewer than the last value of u64.
pub record StandsFor {G : Type 0} (asked : List Tile) (cache : Cached G) : Type 0 where
  pub entries : tiles_of cache ≡ recent asked cache.most
  pub shown : (tile : Tile) → has_tile cache.shown tile ≡ has_tile asked tile
  pub counts : length asked < LAST_COUNT → Count cache.most asked cache.counts

-- the answer of a request after others, but for whether a hit was kept or lost
abbrev pub Fits : Shown → ℕ → List Tile → Tile → Type 0
Fits Kept n asked tile = is_hit n asked tile ≡ true
Fits Rebuilt n asked tile = is_hit n asked tile ≡ true
Fits First n asked tile = is_first asked tile ≡ true
Fits Again n asked tile = is_again n asked tile ≡ true
