-- What is seen of a cache.
use Rattle.std.specs.Prelude.{◌≡◌, ◌⊎◌, ℕ, ◌≤◌, Bool, false, List, take, drop, map, All, count_by}
use Rattle.std.specs.Map.{keys_of}
use Rattle.tile_source.specs.declared.tile.Tile.{Tile}
use Rattle.span_heap.specs.declared.run.Run.{Run}
use Rattle.span_heap.specs.Run.{has_page}
use Rattle.client.specs.Seen.{Seen, is_gone}
use Rattle.client.specs.Pieces.{Part, Owns, bytes_of}
use Rattle.client.specs.Granting.{Session}
use Rattle.tile_cache.specs.declared.counts.Counts.{Counts}

-- The client over its granter, as it is and as it was at `new`; the entries, each a tile with its piece, the most recent first, and how
-- many there may be; the tiles that were shown since `new`, each once, in some order; the counts; how many bytes each tile has, 0 before
-- the first get; and whether a get was out of memory.
pub record Cached (G : Type 0) : Type 0 where
  pub session : Session G
  pub start : Session G
  pub entries : List (Tile × Part)
  pub most : ℕ
  pub shown : List Tile
  pub counts : Counts
  pub tile_bytes : ℕ
  pub failed : Bool

-- the tiles of its entries, the most recent first
abbrev pub tiles_of : {G : Type 0} → Cached G → List Tile
tiles_of cache = keys_of cache.entries

-- the pages of the entries' pieces
abbrev pub runs_of : List (Tile × Part) → List Run
runs_of entries = map (λ (e : Tile × Part). e.1.run) entries

-- the piece has these bytes in front, where its segment is not known to be gone
abbrev pub HasBytes : Seen → ℕ → List ℕ → Part → Type 0
HasBytes client count bytes piece = is_gone client piece.run.segment ≡ false → take count (bytes_of client piece.run) ≡ bytes

-- each entry's piece has the bytes of its tile
abbrev pub HaveTiles : (Tile → List ℕ) → Seen → ℕ → List (Tile × Part) → Type 0
HaveTiles tile_of client count entries = All (λ (e : Tile × Part). HasBytes client count (tile_of e.0) e.1) entries

-- The cache was used with no maker of another meaning than this one, whose tiles have this length.
pub record IsUsedWith {G : Type 0} (tile_of : Tile → List ℕ) (size : ℕ) (cache : Cached G) : Type 0 where
  pub sized : (cache.tile_bytes ≡ 0) ⊎ (cache.tile_bytes ≡ size)
  pub tiles : HaveTiles tile_of cache.session.client cache.tile_bytes cache.entries

-- no page is in two of these runs
abbrev pub ShareNoPage : List Run → Type 0
ShareNoPage runs = (id page : ℕ) → count_by (has_page id page) runs ≤ 1

-- no piece of these is locked
abbrev pub AreFree : List (Tile × Part) → Type 0
AreFree entries = All (λ (e : Tile × Part). e.1.locked ≡ false) entries

-- the client owns each piece, all but the first are free, each has a page, and no page is in two of them
pub record OwnsEntries (client : Seen) (entries : List (Tile × Part)) : Type 0 where
  pub owned : All (λ (e : Tile × Part). Owns client e.1) entries
  pub free : AreFree (drop 1 entries)
  pub some : All (λ (run : Run). 1 ≤ run.pages) (runs_of entries)
  pub once : ShareNoPage (runs_of entries)
