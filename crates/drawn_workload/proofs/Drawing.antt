-- Draws one by one, and the samples that they are.
use Rattle.std.proofs.Common.{◌≡◌, ℕ, zero, suc, ◌+◌, ◌*◌, ◌<◌, ◌≤◌, List, [], ◌∷◌, length, set, map, get_or, refl, sym, subst, ◌%◌, ◌∙◌, arith, add-one}
use Rattle.std.specs.List.{range_with_len}
use Rattle.std.proofs.lemmas.List.{take_all}
use Rattle.std.proofs.lemmas.List.Edits.{fill_by_more}
use Rattle.std.proofs.lemmas.List.FromFn.{fill_by_all}
use Rattle.std.proofs.lemmas.Simd.{map-map}
use Rattle.drawn_workload.specs.declared.draws.TheConstants.{DRAWN_MAXVAL}
use Rattle.tile_source.specs.Image.{samples_among}
use Rattle.drawn_workload.specs.Draws.{next_state, state_after, draw_at, draws_from, sample_of, request_of}

-- the state after one draw more
pub state_after_more : (n s : ℕ) → state_after (n + 1) s ≡ next_state (state_after n s)
unfolding state_after
state_after_more n s = rw add-one refl

-- no draw, no move
pub state_after_none : (s : ℕ) → state_after 0 s ≡ s
unfolding state_after
state_after_none s = refl

-- one sample more
pub sample_more : (s i x : ℕ) (xs : List ℕ) → i < length xs → x ≡ sample_of (draw_at s i) → ((k : ℕ) → k < i → get_or xs k 0 ≡ sample_of (draw_at s k)) → (k : ℕ) → k < i + 1 → get_or (set xs i x) k 0 ≡ sample_of (draw_at s k)
sample_more s i x xs below is before =
    subst (λ (y : ℕ). (k : ℕ) → k < i + 1 → get_or (set xs i y) k 0 ≡ sample_of (draw_at s k)) (sym is)
    (fill_by_more (λ k. sample_of (draw_at s k)) xs i 0 below before)

-- samples that are right at each place are the draws'
pub samples_drawn : (n s : ℕ) (xs : List ℕ) → length xs ≡ n → ((k : ℕ) → k < n → get_or xs k 0 ≡ sample_of (draw_at s k)) → xs ≡ map sample_of (draws_from n s)
unfolding draws_from
samples_drawn n s xs long each =
    fill_by_all (λ k. sample_of (draw_at s k)) xs n 0 long each ∙ sym (map-map sample_of (draw_at s) (range_with_len 0 n))

-- no sample of a draw exceeds maxval
samples_within : (draws : List ℕ) (k : ℕ) → get_or (map sample_of draws) k 0 ≤ DRAWN_MAXVAL
samples_within [] k = omega arith
samples_within (d ∷ draws) zero = omega arith
samples_within (d ∷ draws) (suc k) = samples_within draws k

-- the samples of an image of these sides, where the bytes are the samples of draws
pub drawn_whole : (width height : ℕ) (bytes draws : List ℕ) → length bytes ≡ width * height → bytes ≡ map sample_of draws → samples_among width height 0 bytes ≡ map sample_of draws
drawn_whole width height bytes draws long is = take_all (width * height) bytes (omega (arith, long)) ∙ is

-- none of them exceeds maxval
pub drawn_within : (width height : ℕ) (bytes draws : List ℕ) → length bytes ≡ width * height → bytes ≡ map sample_of draws → (k : ℕ) → get_or (samples_among width height 0 bytes) k 0 ≤ DRAWN_MAXVAL
drawn_within width height bytes draws long is k =
    subst (λ (xs : List ℕ). get_or xs k 0 ≤ DRAWN_MAXVAL) (sym (drawn_whole width height bytes draws long is)) (samples_within draws k)

-- a request by its parts
pub request_is : (a b c d client z x y : ℕ) → client ≡ a % 4 → z ≡ b % 3 → x ≡ c % 3 → y ≡ d % 2 → record { client = 1 + client; tile = record { z = z; x = x; y = y } } ≡ request_of a b c d
request_is a b c d client z x y is_client is_z is_x is_y = rw (is_client, is_z, is_x, is_y) refl
