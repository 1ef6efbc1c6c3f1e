use Rattle.std.proofs.Common.{refl, ◌∙◌}
use Rattle.serve_run.proofs.RunServed.{run_served}
use Rattle.serve_run.proofs.serving.serve_as.Goals as goal

pub returns : goal.returns
returns g c =
    run_served _ _ _ _ _ _ _ _ _ _ c.in_ok-replies.ensures.taken refl refl
    c.requires.side
    c.requires.limit.1 c.requires.entries.1
    c.finish_with-state.ensures.limit c.finish_with-state.ensures.grown
    c.remove_all.ensures
    (c.from_joined.ensures ∙ c.in_ok-replies.ensures.replies)
    c.from_vec.ensures
