use Rattle.std.proofs.Common.{◌≡◌, length, vec_capacity}
use Rattle.serve_run.specs.Dealing.{AreDealt, AllEmpty, HaveRoom}
use Rattle.serve_run.proofs.dealing.deal.Given as goal

-- the places of the requests so far were dealt
abbrev pub invariant-loop-number : goal.invariant-loop-number
invariant-loop-number g l =
    (length l.workers ≡ length l.fn.workers)
    × HaveRoom (λ worker. vec_capacity worker.places) l.requests l.workers
    × AreDealt (λ worker. worker.places.items) l.requests l.number l.workers
    × AllEmpty (λ worker. worker.places.items) l.workers
    × (l.frame ≡ record l.fn.frame { given = l.number })
