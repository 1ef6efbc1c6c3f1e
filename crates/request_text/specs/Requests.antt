-- Requests, and which text is a request file of which requests.
use Rattle.std.specs.Prelude.{◌≡◌, ℕ, ◌≤◌, nat_le, nat_lt, if◌then◌else◌, List, [], ◌∷◌, ◌++◌, length, Result, Ok, Err}
use Rattle.std.specs.List.{All}
use Rattle.line_text.specs.declared.cause.Cause.{Cause}
use Rattle.line_text.specs.declared.cause.Cause.TheVariants as cause
use Rattle.line_text.specs.Lines.{kept_lines}
use Rattle.line_text.specs.Refusals.{◌>>=◌, number, Refusal, refusal}
use Rattle.tile_source.specs.declared.limits.TheConstants.{MOST_ZOOM, LAST_TILE}
use Rattle.tile_source.specs.Tile.{IsTile}
use Rattle.line_text.specs.declared.limits.TheConstants.{MOST_TEXT_BYTES}
use Rattle.request_text.specs.declared.limits.TheConstants.{MOST_REQUESTS}
use Rattle.request_text.specs.declared.request.Request.{Request}
use Rattle.request_text.specs.declared.fault.RequestFault.{RequestFault}
use Rattle.request_text.specs.declared.fault.RequestFault.TheVariants.{Bad, NoMemory}

-- a request of one of so many clients, numbered from 1, for a tile that may be asked for
abbrev pub IsRequest : ℕ → Request → Type 0
IsRequest clients r = (1 ≤ r.client) × (r.client ≤ clients) × IsTile r.tile

-- at most 4,096 requests, all of so many clients
pub record AreRequests (clients : ℕ) (requests : List Request) : Type 0 where
  pub few : length requests ≤ MOST_REQUESTS
  pub each : All (IsRequest clients) requests

-- the request that the words of a line are, or the first cause against it: a client, a zoom, a
-- column and a row
abbrev pub request_of : ℕ → List (List ℕ) → Result Request Cause
request_of clients (c ∷ zoom ∷ column ∷ row ∷ []) = do
  client ← number c 1 clients
  z ← number zoom 0 MOST_ZOOM
  x ← number column 0 LAST_TILE
  y ← number row 0 LAST_TILE
  Ok (record { client = client; tile = record { z = z; x = x; y = y } })
request_of clients words = Err cause.Count

-- the request that a line is where so many stand before it, or the first cause against it
abbrev pub next_request : ℕ → ℕ → List (List ℕ) → Result Request Cause
next_request clients before words = do
  request ← request_of clients words
  if nat_le MOST_REQUESTS before then Err cause.Many else Ok request

-- the request of a line with this number, or the refusal of the line
abbrev pub at_line : ℕ → Result Request Cause → Result Request Refusal
at_line place (Ok request) = Ok request
at_line place (Err why) = Err (refusal place why)

-- the requests of the lines, after those that stand before them, or the refusal of the first line
-- that is refused
abbrev pub requests_after : ℕ → List Request → List (ℕ × List (List ℕ)) → Result (List Request) Refusal
requests_after clients before [] = Ok before
requests_after clients before (line ∷ lines) = do
  request ← at_line line.0 (next_request clients (length before) line.1)
  requests_after clients (before ++ request ∷ []) lines

-- what a text is as a request file: its requests, or the first place where it is refused
abbrev pub requests_of : ℕ → List ℕ → Result (List Request) Refusal
requests_of clients text =
    if nat_lt MOST_TEXT_BYTES (length text) then Err (refusal MOST_TEXT_BYTES cause.Long)
    else requests_after clients [] (kept_lines text)

-- a refusal as a fault
abbrev pub fault_of : Refusal → RequestFault
fault_of r = Bad r.place r.cause

-- what is answered is what a text is said to be, unless it is out of memory
abbrev pub Answers : Result (List Request) RequestFault → Result (List Request) Refusal → Type 0
Answers (Ok requests) said = said ≡ Ok requests
Answers (Err (Bad place cause)) said = said ≡ Err (record { place = place; cause = cause })
Answers (Err NoMemory) said = Unit {0}

-- what reading a text answers is what the text is, unless it is out of memory
abbrev pub Reads : Result (List Request) RequestFault → ℕ → List ℕ → Type 0
Reads answer clients text = Answers answer (requests_of clients text)
