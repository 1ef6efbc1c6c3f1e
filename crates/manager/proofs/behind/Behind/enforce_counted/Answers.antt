use Rattle.manager.proofs.Keeping.{kept_round, few_rounds}
use Rattle.manager.proofs.StateGrows.{reduces_round}
use Rattle.manager.proofs.Ending.{told_ended}
use Rattle.manager.proofs.behind.Behind.enforce_counted.Goals as goal

pub count_round-requires-clause-few : goal.count_round-requires-clause-few
count_round-requires-clause-few g c = few_rounds _ _ _ _ _ _ _ c.self.invariant.0 (reduces_round _ _ _ _ _ c.in_ok-told.ensures.ok) c.entry_count.ensures.count c.entry_count.ensures.few

pub invariant_of-self-2 : goal.invariant_of-self-2
invariant_of-self-2 g c = (
  kept_round _ _ _ _ _ _ _ c.self.invariant.0 c.in_ok-told.ensures.ok.limit (reduces_round _ _ _ _ _ c.in_ok-told.ensures.ok) c.count_round.ensures.totals,
  c.self.invariant.1,
)

pub returns-clause-ended : goal.returns-clause-ended
returns-clause-ended g c = told_ended _ _ _ _ _ _ c.self.invariant.0.same c.in_ok-told.ensures.ok
