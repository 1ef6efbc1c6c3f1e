use Rattle.std.proofs.Common.{◌≡◌, ◌+◌, vec_capacity}
use Rattle.serve_run.proofs.ListsGrow.{HasWorkers}
use Rattle.serve_run.proofs.workers.workers_of.Given as goal

abbrev pub invariant-loop-before : goal.invariant-loop-before
invariant-loop-before g l =
    HasWorkers (λ worker. worker.places.items) (λ worker. vec_capacity worker.places) l.requests l.before l.workers.items
    × (g.R.Returns.is_pass g.F.Fixed.queue l.first)
    × (l.whole.parts + l.before ≡ l.fn.whole.parts)
    × (l.whole.grants ≡ l.fn.whole.grants)
    × (l.whole.rounds ≡ l.fn.whole.rounds)
