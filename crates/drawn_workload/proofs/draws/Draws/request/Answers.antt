use Rattle.std.proofs.Common.{◌%◌, ap, ◌∙◌}
use Rattle.drawn_workload.specs.Draws.{next_state, drawn, state_after}
use Rattle.drawn_workload.proofs.Drawing.{request_is}
use Rattle.drawn_workload.proofs.draws.Draws.request.Goals as goal

pub returns-clause-request : goal.returns-clause-request
unfolding state_after
returns-clause-request c =
    let one = c.draw_below-client.ensures.moved in
    let two = c.draw_below-z.ensures.moved ∙ ap next_state one in
    let three = c.draw_below-x.ensures.moved ∙ ap next_state two in
    request_is _ _ _ _ _ _ _ _ c.draw_below-client.ensures.value
    (c.draw_below-z.ensures.value ∙ ap (λ s. drawn (next_state s) % 3) one)
    (c.draw_below-x.ensures.value ∙ ap (λ s. drawn (next_state s) % 3) two)
    (c.draw_below-y.ensures.value ∙ ap (λ s. drawn (next_state s) % 2) three)

pub returns-clause-moved : goal.returns-clause-moved
unfolding state_after
returns-clause-moved c =
    let one = c.draw_below-client.ensures.moved in
    let two = c.draw_below-z.ensures.moved ∙ ap next_state one in
    let three = c.draw_below-x.ensures.moved ∙ ap next_state two in
    c.draw_below-y.ensures.moved ∙ ap next_state three
