-- How many tiles a cache lost, keeps and made, by the segments that its client was granted.
use Rattle.std.specs.Prelude.{◌≡◌, ◌⊎◌, ℕ, ◌+◌, ◌*◌, ◌/◌, ◌≤◌, max, sum_by, false, List, [], length}
use Rattle.segment.specs.Owned.{Owned}
use Rattle.units.specs.Sizes.{pages_for}
use Rattle.client.specs.Granting.{Session}
use Rattle.tile_cache.specs.Cached.{Cached}
use Rattle.tile_cache.specs.Ended.{Ended}

-- how many tiles of so many pages have room in these segments, each tile in one of them
abbrev pub room_in : ℕ → List Owned → ℕ
room_in pages sides = sum_by (λ (side : Owned). side.pages / pages) sides

-- The end of a cache whose tiles have so many pages. Each tile that was rebuilt had room of its own in a segment that was found gone. Each
-- tile with an entry has room of its own in a segment that was granted, which has the standard size, or the tile's pages where these are
-- more. And each segment was granted for a tile that was made.
pub record IsBounded (pages standard : ℕ) (end : Ended) : Type 0 where
  pub lost : end.counts.rebuilt ≤ room_in pages end.client.gone
  pub kept : length end.tiles ≤ end.client.grants * (max standard pages / pages)
  pub granted : end.client.grants ≤ end.counts.first + (end.counts.rebuilt + end.counts.again)

-- a client over its granter as it is made: it was granted no segment yet
pub record IsFresh {G : Type 0} (session : Session G) : Type 0 where
  pub leases : session.client.leases ≡ []
  pub gone : session.client.gone ≡ []
  pub grants : session.grants ≡ 0

-- Where the cache was made over a fresh client and no get was out of memory, its end is bounded, for tiles of the size that it has, and for
-- tiles of each size where no get was made.
abbrev pub EndsBounded : {G : Type 0} → Cached G → Ended → Type 0
EndsBounded cache end =
    IsFresh cache.start → cache.failed ≡ false → (size : ℕ) → (cache.tile_bytes ≡ 0) ⊎ (cache.tile_bytes ≡ size)
    → IsBounded (pages_for size) cache.start.client.standard end
