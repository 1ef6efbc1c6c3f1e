use Rattle.std.proofs.Common.{◌≡◌, ℕ, ◌<◌, get_or}
use Rattle.drawn_workload.specs.Draws.{state_after, draw_at, sample_of}
use Rattle.drawn_workload.proofs.draws.draw_samples.Given as goal

abbrev pub invariant-loop-sample : goal.invariant-loop-sample
invariant-loop-sample l =
    (l.state ≡ state_after l.sample-index l.start)
    × ((k : ℕ) → k < l.sample-index → get_or l.samples k 0 ≡ sample_of (draw_at l.start k))
