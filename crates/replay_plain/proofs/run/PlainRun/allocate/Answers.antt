use Rattle.std.proofs.Common.{◌++◌, ℕ, List, ap, subst, ◌∙◌}
use Rattle.std.proofs.lemmas.Result.{on_ok_weaker}
use Rattle.replay_plain.specs.Pieces.{find, after_allocation}
use Rattle.replay_plain.specs.Replies.{allocation_text}
use Rattle.replay_plain.specs.Run.{RunStandsFor}
use Rattle.replay_plain.proofs.Allocating.{on_ok, allocated, allocated_text, new_piece_number}
use Rattle.replay_plain.proofs.run.PlainRun.allocate.Goals as goal

pub returns-in_ok-run-in-None-clause-reply : goal.returns-in_ok-run-in-None-clause-reply
returns-in_ok-run-in-None-clause-reply c =
    on_ok_weaker c.push_piece-in-None.result
    (λ text state w.
    let finds = c.in_ok-run.ensures.finds state w in
    let came = allocated c.find.new.self c.begin_segment.new.self state c.args.client c.pages_for-pages.result c.args.at _ finds c.in-None.is c.in_ok-run-in-None.ensures.state in
    let begun = c.in_ok-run-in-None.ensures.state (find state c.args.client c.pages_for-pages.result).state came.0 in
    let number = new_piece_number (find state c.args.client c.pages_for-pages.result).state c.args.client c.pages_for-pages.result c.args.at c.last_piece-in-None.result
    (c.last_piece-in-None.ensures _ begun.heaps)
    in
    text
    ∙ ap (λ (xs : List ℕ). c.args.reply.now.items ++ xs)
    (allocated_text c.find.new.self state c.args.client c.pages_for-pages.result c.args.at c.last_piece-in-None.result _ c.in_ok-run-in-None.run' finds c.in-None.is number
    (c.in_ok-run-in-None.ensures.run (find state c.args.client c.pages_for-pages.result).state came.0))
    ∙ ap (λ (n : ℕ). c.args.reply.now.items ++ allocation_text state c.args.client n c.args.at) c.pages_for-pages.ensures.value)
    c.push_piece-in-None.ensures

pub returns-in_ok-run-in-None-clause-state : goal.returns-in_ok-run-in-None-clause-state
returns-in_ok-run-in-None-clause-state c =
    on_ok c.push_piece-in-None.result
    (λ state w.
    let finds = c.in_ok-run.ensures.finds state w in
    subst (λ (n : ℕ). RunStandsFor c.begin_segment.new.self (after_allocation state c.args.client n c.args.at)) c.pages_for-pages.ensures.value
    (allocated c.find.new.self c.begin_segment.new.self state c.args.client c.pages_for-pages.result c.args.at _ finds c.in-None.is c.in_ok-run-in-None.ensures.state).1)
