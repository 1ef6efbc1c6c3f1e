-- What the replies of a run are made of.
use Rattle.std.specs.Prelude.{◌≡◌, ℕ, ◌*◌, ◌==◌, List, ◌++◌, filter, get_or, length}
use Rattle.request_text.specs.declared.request.Request.{Request}
use Rattle.tile_source.specs.declared.tile.Tile.{Tile}
use Rattle.tile_source.specs.Image.{ImageValue, tile}
use Rattle.tile_source.specs.Maker.{MakerValue}
use Rattle.tile_source.specs.Pgm.{head}
use Rattle.tile_source.specs.Tile.{reply}
use Rattle.serve_texts.specs.Reply.{tiles_of}

-- an image, and the side of its tiles
pub record TilingValue : Type 0 where
  pub image : ImageValue
  pub side : ℕ

-- the bytes of a tile
abbrev pub bytes_of : TilingValue → Tile → List ℕ
bytes_of t asked = tile t.image asked.z asked.x asked.y t.side

-- how many bytes each tile has
abbrev pub size_of : TilingValue → ℕ
size_of t = t.side * t.side

-- the reply to a request for a tile: the tile's head, and then its bytes
abbrev pub reply_of : TilingValue → Tile → List ℕ
reply_of t asked = head t.side t.side t.image.maxval ++ bytes_of t asked

-- each reply has this size
abbrev pub HoldReplies : TilingValue → ℕ → Type 0
HoldReplies t size = (asked : Tile) → length (reply_of t asked) ≡ size

-- the replies to requests for tiles, one behind another
abbrev pub replies_to : TilingValue → List Tile → List ℕ
replies_to t tiles = reply t.image t.side tiles

-- the tiles that a client asks for, in the order of its requests
abbrev pub asked_by : ℕ → List Request → List Tile
asked_by client requests = tiles_of (filter (λ r. r.client == client) requests)

-- what stands past the end of some requests
abbrev pub no_request : Request
no_request = record { client = 0; tile = record { z = 0; x = 0; y = 0 } }

-- the tile that the request at a place asks for
abbrev pub tile_at : List Request → ℕ → Tile
tile_at requests n = (get_or requests n no_request).tile

-- the maker makes the tiles of this tiling
pub record Makes (tiling : TilingValue) (maker : MakerValue) : Type 0 where
  pub tiles : (λ (t : Tile). tile maker.image t.z t.x t.y maker.side) ≡ bytes_of tiling
  pub size : maker.side * maker.side ≡ size_of tiling
