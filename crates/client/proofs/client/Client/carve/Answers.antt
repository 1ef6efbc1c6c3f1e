use Rattle.std.proofs.Common.{refl}
use Rattle.client.proofs.OneStep.{kept_found, fresh_found, stay_found, carves_pick}
use Rattle.client.proofs.client.Client.carve.Goals as goal

-- what a search is asked for is the standard size, or the pages where they are more
pub invariant_of-self : goal.invariant_of-self
invariant_of-self c = kept_found _ c.search.new.self c.search.result c.self.inside.pages c.self.inside.gone.room c.self.invariant c.search.ensures.used c.search.ensures.same c.search.ensures.partition

pub returns-clause-carves : goal.returns-clause-carves
returns-clause-carves c =
    rw (← c.self.view_is) (carves_pick _ c.search.new.self c.args.pages c.search.result _ (rw c.saturating_sub-slack.ensures refl) c.search.ensures.span c.search.ensures.free c.search.ensures.used c.search.ensures.same)

pub returns-clause-fresh : goal.returns-clause-fresh
returns-clause-fresh c = rw (← c.self.view_is) (fresh_found _ c.search.new.self c.search.result c.self.invariant.sound c.search.ensures.used c.search.ensures.partition)

pub returns-clause-stay : goal.returns-clause-stay
returns-clause-stay c = rw (← c.self.view_is) (stay_found _ c.search.new.self c.search.result c.search.ensures.used c.search.ensures.same)
