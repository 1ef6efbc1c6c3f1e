use Rattle.std.proofs.Common.{◌≡◌, ◌*◌, All, vec_len}
use Rattle.drawn_workload.specs.Draws.{state_after}
use Rattle.request_text.specs.Requests.{IsRequest}
use Rattle.drawn_workload.specs.Generated.{requests_from}
use Rattle.drawn_workload.proofs.generated.draw_requests.Given as goal

abbrev pub invariant-loop : goal.invariant-loop
invariant-loop l =
    (l.draws ≡ state_after (4 * l.counter) l.fn.draws)
    × (l.requests.items ≡ requests_from l.counter l.fn.draws)
    × All (IsRequest 4) l.requests.items
    × (vec_len l.requests ≡ l.counter)
