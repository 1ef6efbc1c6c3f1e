use Rattle.std.proofs.Common.{◌≡◌, ◌+◌, ◌%◌, length, arith, sym, ap, ◌∙◌}
use Rattle.drawn_workload.specs.Draws.{next_state, drawn, state_after, sample_of}
use Rattle.drawn_workload.proofs.Drawing.{state_after_none, state_after_more, sample_more, samples_drawn}
use Rattle.drawn_workload.proofs.draws.draw_samples.Goals as goal

pub loop-sample-init : goal.loop-sample-init
loop-sample-init c = (sym (state_after_none c.args.start), λ k below. absurd (omega (arith, below)))

pub loop-sample-preserved : goal.loop-sample-preserved
loop-sample-preserved c =
    let i = c.loop-sample.sample-index in
    let moved : c.next_state-state.result ≡ state_after (i + 1) c.args.start
    = c.next_state-state.ensures ∙ ap next_state c.loop-sample.invariant.0 ∙ sym (state_after_more i c.args.start) in (
      moved,
      sample_more c.args.start i (c.drawn.result % 256) c.loop-sample.samples (omega arith)
          (ap sample_of (c.drawn.ensures.value ∙ ap drawn moved)) c.loop-sample.invariant.1,
    )

pub returns-clause-samples : goal.returns-clause-samples
returns-clause-samples c =
    samples_drawn (length c.args.samples.now) c.args.start c.loop-sample.samples (omega arith)
    (λ k below. c.loop-sample.invariant.1 k (omega (arith, below)))
