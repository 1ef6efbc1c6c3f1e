-- Requests that are drawn one by one.
use Rattle.std.proofs.Common.{◌≡◌, ℕ, zero, suc, ◌+◌, ◌*◌, [], ◌∷◌, ◌++◌, refl, sym, ap, ◌∙◌, arith}
use Rattle.std.proofs.lemmas.List.FromFn.{map-range_with_len_more}
use Rattle.drawn_workload.specs.Draws.{next_state, state_after}
use Rattle.drawn_workload.specs.Generated.{request_from, requests_from}

-- no draw, no move
pub no_draw : (s : ℕ) → state_after 0 s ≡ s
unfolding state_after
no_draw s = refl

one_draw : (n s : ℕ) → state_after (suc n) s ≡ next_state (state_after n s)
unfolding state_after
one_draw n s = refl

-- draws after draws
pub draws_after : (n m s : ℕ) → state_after n (state_after m s) ≡ state_after (n + m) s
draws_after zero m s = no_draw (state_after m s) ∙ ap (λ k. state_after k s) (omega arith)
draws_after (suc n) m s =
    one_draw n (state_after m s) ∙ ap next_state (draws_after n m s) ∙ sym (one_draw (n + m) s) ∙ ap (λ k. state_after k s) (omega arith)

-- one request more
pub one_more : (n s : ℕ) → requests_from (n + 1) s ≡ requests_from n s ++ request_from (state_after (4 * n) s) ∷ []
one_more n s = map-range_with_len_more (λ (k : ℕ). request_from (state_after (4 * k) s)) 0 n n (omega arith)

pub four_more : (n s : ℕ) → state_after 4 (state_after (4 * n) s) ≡ state_after (4 * (n + 1)) s
four_more n s = draws_after 4 (4 * n) s ∙ ap (λ k. state_after k s) (omega arith)
