use Rattle.std.proofs.Common.{rules, ◌≡◌, ◌+◌, ap, ◌∙◌, arith}
use Rattle.manager.proofs.Counting.{turned, longer}
use Rattle.manager.proofs.desk.Desk.settle.Goals as goal

pub loop-preserved : goal.loop-preserved
loop-preserved g c = (
  c.turn.ensures.queue,
  turned _ _ _ _ _ _ (λ k. c.loop.count ≡ k) (λ k. c.loop.count + 1 ≡ k) c.loop.invariant.1 (c.turn.ensures.took (search rules)) (λ k e. ap (λ n. n + 1) e),
  ap (λ n. n + 1) c.loop.invariant.2,
  (λ gave saw k. c.turn.ensures.knows gave saw (c.loop.invariant.3 gave saw k)),
  c.turn.ensures.until ∙ c.loop.invariant.4,
  (λ _. c.turn.ensures.all_at_some (search rules)),
  c.turn.ensures.limit ∙ c.loop.invariant.6,
)

pub returns-clause-all : goal.returns-clause-all
returns-clause-all g c before far = let s = c.loop.invariant.1 in let l = longer _ _ s.0 s.1 in let a = c.loop.invariant.2 in let b = c.loop.invariant.4 in let d = c.loop-test.false in let e = c.capacity-end.ensures in let f = s.3 in
    c.loop.invariant.5 before (omega arith)
