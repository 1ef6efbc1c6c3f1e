-- The places that a client's replies are written to. A place has the number of a request.
use Rattle.std.specs.Prelude.{◌≡◌, ℕ, ◌<◌, ◌≤◌, List, [], map, length}
use Rattle.std.specs.List.{All}
use Rattle.reply_places.specs.Framed.{Placed}
use Rattle.request_text.specs.declared.request.Request.{Request}
use Rattle.request_text.specs.declared.limits.TheConstants.{MOST_REQUESTS}
use Rattle.tile_source.specs.declared.tile.Tile.{Tile}
use Rattle.serve_session.specs.Running.{ServingValue}
use Rattle.serve_session.specs.Tiling.{TilingValue, asked_by, reply_of, tile_at}

-- the numbers of places, in their order
abbrev pub numbers_of : List Placed → List ℕ
numbers_of places = map (λ (p : Placed). p.number) places

-- nothing was written to these places
abbrev pub AreEmpty : List Placed → Type 0
AreEmpty places = All (λ (p : Placed). p.bytes ≡ []) places

-- the tiles that the requests of these numbers ask for
abbrev pub tiles_at : List Request → List ℕ → List Tile
tiles_at requests numbers = map (tile_at requests) numbers

-- a place has the reply to the request of its number
abbrev pub IsAnswered : TilingValue → List Request → Placed → Type 0
IsAnswered tiling requests place = place.bytes ≡ reply_of tiling (tile_at requests place.number)

-- each place has the reply to the request of its number
abbrev pub AreAnswered : TilingValue → List Request → List Placed → Type 0
AreAnswered tiling requests places = All (IsAnswered tiling requests) places

-- the numbers are those of a client's requests, in their order
pub record AreOfClient (run : ServingValue) (client : ℕ) (numbers : List ℕ) : Type 0 where
  pub few : length numbers ≤ MOST_REQUESTS
  pub within : All (λ n. n < length run.requests) numbers
  pub asked : tiles_at run.requests numbers ≡ asked_by client run.requests
