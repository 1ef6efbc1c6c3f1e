use Rattle.std.proofs.Common.{◌≡◌, ℕ, List, length, map, arith, ap, ◌∙◌}
use Rattle.std.proofs.lemmas.List.{with_items_is}
use Rattle.drawn_workload.specs.Draws.{draws_from, sample_of, image_draws}
use Rattle.tile_source.specs.Image.{ImageValue}
use Rattle.drawn_workload.specs.declared.draws.TheConstants.{DRAWN_WIDTH, DRAWN_HEIGHT, DRAWN_MAXVAL}
use Rattle.drawn_workload.proofs.Drawing.{drawn_whole, drawn_within}
use Rattle.drawn_workload.proofs.draws.ImageOfDraws.of_draws.Goals as goal

pub from_parts-requires-clause-within : goal.from_parts-requires-clause-within
from_parts-requires-clause-within c =
    let drawn = c.draw_samples-draws-inside in
    let sized : length drawn.new.samples ≡ c.in_ok-samples.samples.len = omega arith in
    let whole = with_items_is c.in_ok-samples.samples drawn.new.samples sized in
    drawn_within DRAWN_WIDTH DRAWN_HEIGHT _ _ (ap length whole ∙ omega arith) (whole ∙ drawn.ensures.samples)

pub returns-clause-drawn : goal.returns-clause-drawn
returns-clause-drawn c =
    let drawn = c.draw_samples-draws-inside in
    let sized : length drawn.new.samples ≡ c.in_ok-samples.samples.len = omega arith in
    let whole = with_items_is c.in_ok-samples.samples drawn.new.samples sized in
    let image : List ℕ → ImageValue
    = λ xs. record { width = DRAWN_WIDTH; height = DRAWN_HEIGHT; maxval = DRAWN_MAXVAL; samples = xs } in
    let count : length c.deref_mut.result.now ≡ image_draws = omega arith in
    c.from_parts.ensures
    ∙ ap image (drawn_whole DRAWN_WIDTH DRAWN_HEIGHT _ _ (ap length whole ∙ omega arith) (whole ∙ drawn.ensures.samples))
    ∙ ap (λ (n : ℕ). image (map sample_of (draws_from n c.draws.inside.state))) count
    ∙ ap (λ (s : ℕ). image (map sample_of (draws_from image_draws s))) c.draws.view_is
