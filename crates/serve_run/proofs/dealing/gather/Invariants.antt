use Rattle.std.proofs.Common.{◌≡◌, ◌-◌, drop, length}
use Rattle.serve_texts.specs.Reply.{tiles_of}
use Rattle.serve_session.specs.Tiling.{TilingValue, HoldReplies, replies_to}
use Rattle.serve_run.specs.Dealing.{AreDealt, AllAnswer, AllKeep}
use Rattle.serve_run.proofs.dealing.gather.Given as goal

-- the places of the last requests are joined
abbrev pub invariant-loop-done : goal.invariant-loop-done
invariant-loop-done g l =
    (l.frame.from ≡ length l.requests - l.done)
    × AreDealt (λ worker. worker.places.items) l.requests (length l.requests - l.done) l.workers
    × AllKeep (λ worker. worker.ended) (λ worker. worker.settled) l.fn.workers l.workers
    × ((tiling : TilingValue) → HoldReplies tiling g.F.Layout.size → AllAnswer (λ worker. worker.places.items) tiling l.requests l.fn.workers
    → AllAnswer (λ worker. worker.places.items) tiling l.requests l.workers
    × (l.frame.bytes ≡ replies_to tiling (tiles_of (drop (length l.requests - l.done) l.requests))))
