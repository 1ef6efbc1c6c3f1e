-- A workload that is drawn from a number, and the line that tells how it was served.
use Rattle.std.specs.Prelude.{ℕ, ◌*◌, List, ◌++◌, map, length, sum, codes, decimal}
use Rattle.std.specs.List.{range_with_len}
use Rattle.request_text.specs.declared.request.Request.{Request}
use Rattle.drawn_workload.specs.declared.draws.GenRequest.{GenRequest}
use Rattle.drawn_workload.specs.Draws.{state_after, image_draws, drawn_request}
use Rattle.serve_texts.specs.declared.config.ServeCfg.{ServeCfg}
use Rattle.drawn_workload.specs.declared.generated.TheConstants.{GEN_REQUESTS, GEN_CLIENTS}

-- the settings that it is served with
abbrev pub gen_cfg : ServeCfg
gen_cfg = record {
  clients = GEN_CLIENTS;
  limit = 128;
  side = 256;
  entries = 8;
  rounds = 8;
  standard = 64;
  keep = 4;
}

-- a request that was drawn
abbrev pub asked : GenRequest → Request
asked drawn = record { client = drawn.client; tile = drawn.tile }

-- the request of the four draws from a state on
abbrev pub request_from : ℕ → Request
request_from state = asked (drawn_request state)

-- the first n requests from a state on, four draws each
abbrev pub requests_from : ℕ → ℕ → List Request
requests_from n state = map (λ k. request_from (state_after (4 * k) state)) (range_with_len 0 n)

-- the requests that are drawn from a number: they come after the image
abbrev pub gen_requests : ℕ → List Request
gen_requests n = requests_from GEN_REQUESTS (state_after image_draws n)

-- the line that tells the replies: how many bytes they are, and the sum of these
abbrev pub gen_line : ℕ → List ℕ → List ℕ
gen_line n replies =
    codes "gen " ++ decimal n
    ++ codes " tiles " ++ decimal GEN_REQUESTS
    ++ codes " bytes " ++ decimal (length replies)
    ++ codes " sum " ++ decimal (sum replies)
    ++ codes "\n"
