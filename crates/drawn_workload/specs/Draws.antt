-- Images and requests that are drawn. A generator has a state, which each draw replaces by the next
-- one, and what is drawn is read off the new state.
use Rattle.std.specs.Prelude.{ℕ, zero, suc, ◌+◌, ◌*◌, ◌/◌, ◌%◌, ◌^◌, List, map}
use Rattle.std.specs.List.{range_with_len}
use Rattle.drawn_workload.specs.declared.draws.GenRequest.{GenRequest}
use Rattle.tile_source.specs.Image.{ImageValue}

-- the state that follows a state
unfoldable pub next_state : ℕ → ℕ
next_state state = (state * 6364136223846793005 + 1442695040888963407) % 2 ^ 64

-- what is drawn where this state is reached: its upper 31 bits
unfoldable pub drawn : ℕ → ℕ
drawn state = state / 2 ^ 33

-- the state after n draws
unfoldable pub state_after : ℕ → ℕ → ℕ
state_after zero state = state
state_after (suc n) state = next_state (state_after n state)

-- draw k from a state on, counted from 0
abbrev pub draw_at : ℕ → ℕ → ℕ
draw_at state k = drawn (state_after (k + 1) state)

-- the first n draws from a state on
unfoldable pub draws_from : ℕ → ℕ → List ℕ
draws_from n state = map (draw_at state) (range_with_len 0 n)

-- the sample of a draw: its remainder, from 0 to 255
abbrev pub sample_of : ℕ → ℕ
sample_of draw = draw % 256

-- how many draws an image takes: one for each sample
abbrev pub image_draws : ℕ
image_draws = 640 * 480

-- the image that is drawn from a state on: 640 by 480, a draw for each sample, rows from the top,
-- each from the left
abbrev pub drawn_image : ℕ → ImageValue
drawn_image state = record {
  width = 640;
  height = 480;
  maxval = 255;
  samples = map sample_of (draws_from image_draws state);
}

-- the request of four draws: a client from 1 to 4, a zoom and a column from 0 to 2, and a row of 0
-- or 1
abbrev pub request_of : ℕ → ℕ → ℕ → ℕ → GenRequest
request_of a b c d =
    record { client = 1 + a % 4; tile = record { z = b % 3; x = c % 3; y = d % 2 } }

-- the request that is drawn from a state on
abbrev pub drawn_request : ℕ → GenRequest
drawn_request state =
    request_of (draw_at state 0) (draw_at state 1) (draw_at state 2) (draw_at state 3)
