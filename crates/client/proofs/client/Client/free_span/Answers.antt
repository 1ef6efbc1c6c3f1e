use Rattle.std.proofs.Common.{refl}
use Rattle.client.proofs.PiecesStay.{stay_freed}
use Rattle.client.proofs.OneStep.{kept_freed}
use Rattle.client.proofs.client.Client.free_span.Goals as goal

pub free-requires : goal.free-requires
free-requires c =
    let used = rw (← c.self.view_is) at c.requires in
    used.used

pub invariant_of-self : goal.invariant_of-self
invariant_of-self c =
    let used = rw (← c.self.view_is) at c.requires in
    kept_freed _ c.free.new.self c.args.span c.self.inside.pages c.self.inside.gone.room c.self.invariant used c.free.ensures.freed c.free.ensures.partition

pub returns-clause-frees : goal.returns-clause-frees
returns-clause-frees c =
    rw (← c.self.view_is) record { heap = c.free.ensures.freed; same = refl }

pub returns-clause-stay : goal.returns-clause-stay
returns-clause-stay c =
    rw (← c.self.view_is) (stay_freed _ _ c.free.new.self c.args.span refl c.free.ensures.freed.used)
