use Rattle.std.proofs.Common.{◌-◌, refl, arith}
use Rattle.client.proofs.ComingAndKept.{kept_whole}
use Rattle.client.proofs.PiecesStay.{stay_taken}
use Rattle.client.proofs.client.Client.note_whole.Goals as goal

pub overflow_sub-self : goal.overflow_sub-self
overflow_sub-self c =
    let some = rw (← c.self.view_is) at c.requires.taken in
    omega (arith, some)

pub invariant_of-self : goal.invariant_of-self
invariant_of-self c = kept_whole _ c.self.inside.pages c.self.inside.gone.room c.self.invariant

pub returns-clause-stay : goal.returns-clause-stay
returns-clause-stay c = rw (← c.self.view_is) (stay_taken _ _ (c.self.inside.taken - 1) refl)
