use Rattle.std.proofs.Common.{ap, ◌∙◌, arith}
use Rattle.discard_book.specs.Live.{grants}
use Rattle.manager.proofs.Keeping.{kept_by, kept_grant, few_grants}
use Rattle.manager.proofs.behind.Behind.grant.Goals as goal

pub invariant_of-self : goal.invariant_of-self
invariant_of-self g c = (kept_by _ _ _ _ _ _ c.self.invariant.0 c.in_err-side.ensures.err, c.self.invariant.1)

pub count_grant-requires-clause-few : goal.count_grant-requires-clause-few
count_grant-requires-clause-few g c = few_grants _ _ _ _ _ c.grants.result c.self.invariant.0 (c.grants.ensures.grants ∙ ap grants c.book.ensures.entries) (let few = c.grants.ensures.few in omega arith)

pub invariant_of-self-2 : goal.invariant_of-self-2
invariant_of-self-2 g c = let one = rw c.in-Some.is at c.in_ok-side.ensures.grants in (
  kept_grant _ _ _ _ _ _ _ c.self.invariant.0 one.limit one.grown c.count_grant.ensures.totals,
  c.self.invariant.1,
)

pub returns-clause-number : goal.returns-clause-number
returns-clause-number g c = let one = rw c.in-Some.is at c.in_ok-side.ensures.grants in
    let drawn = c.grants.ensures.grants ∙ ap grants c.book.ensures.entries in let number = one.number in let enough = c.if-grants-above.false in omega arith
