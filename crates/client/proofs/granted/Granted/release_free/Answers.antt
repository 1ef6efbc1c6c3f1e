use Rattle.std.proofs.Common.{◌∙◌}
use Rattle.client.proofs.GivingBack.{balanced_returned}
use Rattle.client.proofs.granted.Granted.release_free.Goals as goal

pub invariant_of-self : goal.invariant_of-self
invariant_of-self g c = (
  balanced_returned _ _ _ _ _ _ _ _ _ _ _ c.self.invariant.0 c.give_back_free.ensures.returns c.give_back_free.ensures.grants c.give_back_free.ensures.greatest,
  c.give_back_free.ensures.standing ∙ c.self.invariant.1,
)

pub returns-clause-returned : goal.returns-clause-returned
returns-clause-returned g c = rw (← c.self.view_is) (λ low. c.give_back_free.ensures.returns.counted c.self.invariant.0.told low)
