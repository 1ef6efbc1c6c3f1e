-- What answers the requests of a run.
use Rattle.std.specs.Prelude.{ℕ, List, map}
use Rattle.request_text.specs.declared.request.Request.{Request}
use Rattle.tile_source.specs.declared.tile.Tile.{Tile}
use Rattle.tile_source.specs.Image.{ImageValue}
use Rattle.tile_source.specs.Tile.{reply}

-- the tiles that are asked for, in their order
abbrev pub tiles_of : List Request → List Tile
tiles_of requests = map (λ r. r.tile) requests

-- what answers requests: each tile's head and then its bytes, in the order of the requests, whoever
-- asks
abbrev pub reply_to : ImageValue → ℕ → List Request → List ℕ
reply_to image side requests = reply image side (tiles_of requests)
