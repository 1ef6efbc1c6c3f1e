-- What is seen of a run, and what a client's session has done.
use Rattle.std.specs.Prelude.{◌≡◌, ℕ, ◌+◌, ◌*◌, ◌≤◌, ◌<◌, false, List, [], ◌∷◌, ◌++◌, length}
use Rattle.request_text.specs.declared.request.Request.{Request}
use Rattle.tile_source.specs.declared.tile.Tile.{Tile}
use Rattle.tile_cache.specs.declared.counts.Counts.{Counts}
use Rattle.tile_cache.specs.Cached.{Cached, IsUsedWith, AreFree}
use Rattle.tile_cache.specs.Asked.{StandsFor}
use Rattle.tile_cache.specs.Bound.{IsFresh}
use Rattle.tile_cache.specs.Getting.{pages_of}
use Rattle.serve_texts.specs.declared.config.ServeCfg.{ServeCfg}
use Rattle.request_text.specs.declared.limits.TheConstants.{MOST_REQUESTS}
use Rattle.line_text.specs.declared.limits.TheConstants.{MOST_SEGMENT_PAGES}
use Rattle.serve_session.specs.Tiling.{TilingValue, bytes_of, size_of}

-- its settings, the image with the side of its tiles, and its requests
pub record ServingValue : Type 0 where
  pub cfg : ServeCfg
  pub tiling : TilingValue
  pub requests : List Request

-- the cache was used for the tiles of this tiling alone
abbrev pub IsUsed : {G : Type 0} → TilingValue → Cached G → Type 0
IsUsed tiling cache = IsUsedWith (bytes_of tiling) (size_of tiling) cache

-- the four counts together
abbrev pub all_counts : Counts → ℕ
all_counts c = c.first + (c.kept + (c.rebuilt + c.again))

-- A client was served these tiles, of the side that the settings name, over this granter. Its cache stands for them: each tile was counted
-- once, no get was out of memory, and no piece is locked between two requests. The client was granted nothing before, and its segments have
-- few pages.
pub record HasServed {G : Type 0} (run : ServingValue) (asked : List Tile) (granter : G) (cache : Cached G) : Type 0 where
  pub side : run.tiling.side ≡ run.cfg.side
  pub stands : StandsFor asked cache
  pub used : IsUsed run.tiling cache
  pub count : all_counts cache.counts ≡ length asked
  pub most : cache.most ≡ run.cfg.entries
  pub failed : cache.failed ≡ false
  pub idle : AreFree cache.entries
  pub fresh : IsFresh cache.start
  pub over : cache.start.start ≡ granter
  pub first_standard : cache.start.client.standard ≡ run.cfg.standard
  pub standard : cache.session.client.standard ≡ run.cfg.standard
  pub pages : pages_of cache.session.client ≤ length asked * MOST_SEGMENT_PAGES

-- one tile more was served: what stands of the tiles before stands of these and this one
abbrev pub ServesOne : {G : Type 0} → ServingValue → Tile → Cached G → Cached G → Type 0
ServesOne {G} run tile old new = (asked : List Tile) (granter : G) → length asked < MOST_REQUESTS
    → HasServed run asked granter old → HasServed run (asked ++ tile ∷ []) granter new
