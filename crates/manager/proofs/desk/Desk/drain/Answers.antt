use Rattle.std.proofs.Common.{rules, ◌≡◌, ◌+◌, ◌-◌, ◌^◌, min, ap, ◌∙◌}
use Rattle.manager.proofs.Counting.{turned, capped}
use Rattle.manager.proofs.desk.Desk.drain.Goals as goal

pub loop-preserved : goal.loop-preserved
loop-preserved g c = (
  tt,
  tt,
  c.turn.ensures.queue,
  turned _ _ _ _ _ _ (λ k. c.loop.count ≡ min k (2 ^ 64 - 1)) (λ k. c.saturating_add-count.result ≡ min k (2 ^ 64 - 1)) c.loop.invariant.3 (c.turn.ensures.took (search rules)) (λ k e. c.saturating_add-count.ensures ∙ ap (λ n. min (n + 1) (2 ^ 64 - 1)) e ∙ capped k (2 ^ 64 - 1)),
  c.turn.ensures.knows _ _ c.loop.invariant.4,
  c.turn.ensures.limit ∙ c.loop.invariant.5,
)
