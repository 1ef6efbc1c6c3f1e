use Rattle.std.proofs.Common.{sym, ◌∙◌}
use Rattle.replay_plain.proofs.Allocating.{on_ok, piece_lost}
use Rattle.replay_plain.proofs.run.PlainRun.lock_piece_of.Goals as goal

pub returns-clause-state : goal.returns-clause-state
returns-clause-state c =
    on_ok c.push_answer-2.result
    (λ state w.
    let locked = c.in_ok-answer.ensures.state state w in
    piece_lost _ _ state c.args.piece c.client_of-client.result c.args.run
    (sym (c.is_live-there.ensures state.events w.known) ∙ c.if-there.false) (c.client_of-client.ensures state.heaps locked.heaps) locked
    c.in_ok-lose.ensures)
