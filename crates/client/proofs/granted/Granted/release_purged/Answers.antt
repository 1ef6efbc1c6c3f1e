use Rattle.std.proofs.Common.{◌∙◌, length}
use Rattle.client.proofs.PieceCalls.{all_on}
use Rattle.client.proofs.PiecesStay.{stay_told}
use Rattle.client.proofs.Debts.{debt_swept}
use Rattle.client.proofs.GivingBack.{balanced_on, balanced_told, returned_told}
use Rattle.client.proofs.Allocating.{gone_released}
use Rattle.client.proofs.granted.Granted.release_purged.Goals as goal

pub invariant_of-self : goal.invariant_of-self
invariant_of-self g c =
    let swept = balanced_on _ _ _ _ _ _ _ c.sweep-lost.new.self c.self.invariant.0 (debt_swept c.sweep-lost.ensures.sweeps.0 _ _ c.sweep-lost.ensures.sweeps.2) in
    (balanced_told _ _ _ _ _ _ _ _ _ _ _ swept c.tell_all.ensures.client c.tell_all.ensures.returns c.tell_all.ensures.grants c.tell_all.ensures.greatest, c.tell_all.ensures.standing ∙ c.self.invariant.1)

pub returns-clause-releases : goal.returns-clause-releases
returns-clause-releases g c =
    rw (← c.self.view_is) (c.sweep-lost.ensures.sweeps.0, c.sweep-lost.ensures.sweeps.1, record { swept = c.sweep-lost.new.self; sweeps = c.sweep-lost.ensures.sweeps.2; told = c.tell_all.ensures.client })

pub returns-clause-stay : goal.returns-clause-stay
returns-clause-stay g c =
    rw (← c.self.view_is) (all_on _ c.sweep-lost.new.self _ c.sweep-lost.ensures.stay (stay_told _ _ (length c.sweep-lost.new.self.gone) c.tell_all.ensures.client))

pub returns-clause-gone : goal.returns-clause-gone
returns-clause-gone g c =
    rw (← c.self.view_is) (gone_released c.sweep-lost.ensures.sweeps.0 _ _ (record { swept = c.sweep-lost.new.self; sweeps = c.sweep-lost.ensures.sweeps.2; told = c.tell_all.ensures.client }))

pub returns-clause-returned : goal.returns-clause-returned
returns-clause-returned g c =
    let debt = debt_swept c.sweep-lost.ensures.sweeps.0 _ _ c.sweep-lost.ensures.sweeps.2 in
    let within = c.self.invariant.0.told in
    rw (← c.self.view_is) (returned_told _ _ c.self.inside.client c.sweep-lost.new.self _ (debt.owed within) (debt.told within) c.tell_all.ensures.client c.tell_all.ensures.returns)
