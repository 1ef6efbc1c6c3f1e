-- What serving the clients of a run comes to.
use Rattle.std.specs.Prelude.{◌≡◌, ℕ, ◌+◌, ◌*◌, ◌/◌, ◌<◌, ◌≤◌, max, List, length, map, get_or, sum_by}
use Rattle.request_text.specs.declared.request.Request.{Request}
use Rattle.tile_source.specs.declared.tile.Tile.{Tile}
use Rattle.client.specs.Gone.{AreGone}
use Rattle.client.specs.Sizes.{pages_for}
use Rattle.tile_cache.specs.declared.counts.Counts.{Counts}
use Rattle.tile_cache.specs.Recent.{recent, hits, firsts, agains}
use Rattle.tile_cache.specs.Bound.{room_in}
use Rattle.serve_texts.specs.declared.config.ServeCfg.{ServeCfg}
use Rattle.serve_texts.specs.declared.tally.Tally.{Tally}
use Rattle.serve_session.specs.declared.served.ServedClient.{ServedClient}
use Rattle.serve_session.specs.Tiling.{asked_by}

-- the four counts of a tally
abbrev pub counts_of : Tally → Counts
counts_of t = record { first = t.first; kept = t.kept; rebuilt = t.rebuilt; again = t.again }

-- What a client's requests came to. A request is a hit where its tile is among those that the client asked for last, as many as its cache
-- has; it is a first where its tile was never asked for, and else an again. Each hit was kept or rebuilt. The cache's end has the tiles asked
-- for last, and the counts and the grants of the tally.
pub record Tallies (cfg : ServeCfg) (asked : List Tile) (served : ServedClient) : Type 0 where
  pub requests : served.tally.requests ≡ length asked
  pub first : served.tally.first ≡ firsts asked
  pub hits : served.tally.kept + served.tally.rebuilt ≡ hits cfg.entries asked
  pub again : served.tally.again ≡ agains cfg.entries asked
  pub tiles : served.end.tiles ≡ recent asked cfg.entries
  pub counts : served.end.counts ≡ counts_of served.tally
  pub grants : served.end.client.grants ≡ served.tally.grants

-- the pages that a tile of this side takes
abbrev pub tile_pages : ℕ → ℕ
tile_pages side = pages_for (side * side)

-- How many tiles a client lost, keeps and made, by its segments. Each tile that was rebuilt had room of its own in a segment that was
-- found gone. Each tile that its cache keeps has room of its own in a segment that was granted, which has the standard size, or the tile's
-- pages where these are more. And each segment was granted for a tile that was made.
pub record IsBoundedBySegments (cfg : ServeCfg) (asked : List Tile) (served : ServedClient) : Type 0 where
  pub gone : AreGone served.end.client.gone
  pub lost : served.tally.rebuilt ≤ room_in (tile_pages cfg.side) served.end.client.gone
  pub kept : length (recent asked cfg.entries) ≤ served.tally.grants * (max cfg.standard (tile_pages cfg.side) / tile_pages cfg.side)
  pub granted : served.tally.grants ≤ served.tally.first + (served.tally.rebuilt + served.tally.again)

-- a client of this number was served its requests
pub record IsServed (cfg : ServeCfg) (number : ℕ) (requests : List Request) (served : ServedClient) : Type 0 where
  pub client : served.tally.client ≡ number
  pub tallies : Tallies cfg (asked_by number requests) served
  pub bounded : IsBoundedBySegments cfg (asked_by number requests) served

-- each client was served, by rising number from 1
pub record AreServed (cfg : ServeCfg) (requests : List Request) (clients : List ServedClient) : Type 0 where
  pub all : length clients ≡ cfg.clients
  pub each : (i : ℕ) (d : ServedClient) → i < cfg.clients → IsServed cfg (i + 1) requests (get_or clients i d)

-- the tallies of all clients
abbrev pub tallies_of : List ServedClient → List Tally
tallies_of clients = map (λ (c : ServedClient). c.tally) clients

-- the grants of all clients together
abbrev pub all_grants : List ServedClient → ℕ
all_grants clients = sum_by (λ (c : ServedClient). c.tally.grants) clients
