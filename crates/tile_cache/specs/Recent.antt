-- Which tiles were asked last, and what a request is after others. No cache and no purge stands in it.
use Rattle.std.specs.Prelude.{ℕ, ◌+◌, ◌==◌, Bool, not, ◌&&◌, List, [], ◌∷◌, ◌++◌, take, reverse, filter, if◌then◌else◌}
use Rattle.std.specs.List.{list_any}
use Rattle.tile_source.specs.declared.tile.Tile.{Tile}

-- the two are one tile
abbrev pub is_same : Tile → Tile → Bool
is_same one other = (one.z == other.z) && ((one.x == other.x) && (one.y == other.y))

-- the tile is one of these
abbrev pub has_tile : List Tile → Tile → Bool
has_tile tiles tile = list_any (is_same tile) tiles

-- these tiles without one of them
abbrev pub without : Tile → List Tile → List Tile
without tile tiles = filter (λ other. not (is_same tile other)) tiles

-- each tile of a list once, where it first stands
abbrev pub each_once : List Tile → List Tile
each_once [] = []
each_once (tile ∷ tiles) = tile ∷ without tile (each_once tiles)

-- the n tiles asked last, each once, the latest first, or fewer where fewer were asked
abbrev pub recent : List Tile → ℕ → List Tile
recent asked n = take n (each_once (reverse asked))

-- a hit: its tile is among the n asked last
abbrev pub is_hit : ℕ → List Tile → Tile → Bool
is_hit n asked tile = has_tile (recent asked n) tile

-- a first: its tile was never asked
abbrev pub is_first : List Tile → Tile → Bool
is_first asked tile = not (has_tile asked tile)

-- an again: its tile was asked, and is not among the n asked last
abbrev pub is_again : ℕ → List Tile → Tile → Bool
is_again n asked tile = has_tile asked tile && not (is_hit n asked tile)

-- how many of these requests, asked in turn after those before, are of a kind
abbrev pub count_after : (List Tile → Tile → Bool) → List Tile → List Tile → ℕ
count_after kind before [] = 0
count_after kind before (tile ∷ later) = (if kind before tile then 1 else 0) + count_after kind (before ++ tile ∷ []) later

-- how many hits, firsts and agains stand in a list of requests
abbrev pub hits : ℕ → List Tile → ℕ
hits n asked = count_after (is_hit n) [] asked

abbrev pub firsts : List Tile → ℕ
firsts asked = count_after is_first [] asked

abbrev pub agains : ℕ → List Tile → ℕ
agains n asked = count_after (is_again n) [] asked
