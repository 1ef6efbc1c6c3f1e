use Rattle.std.proofs.Common.{ap, ◌∙◌}
use Rattle.drawn_workload.specs.Draws.{state_after, image_draws}
use Rattle.drawn_workload.specs.Generated.{requests_from}
use Rattle.drawn_workload.specs.declared.generated.TheConstants.{GEN_REQUESTS}
use Rattle.drawn_workload.proofs.generated.generate.Goals as goal

pub returns-clause-requests : goal.returns-clause-requests
returns-clause-requests c =
    c.in_ok-requests.ensures.requests
    ∙ ap (requests_from GEN_REQUESTS) (c.in_ok-image.ensures.moved ∙ ap (state_after image_draws) c.new-draws.ensures)
