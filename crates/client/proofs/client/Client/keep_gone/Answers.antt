use Rattle.std.proofs.Common.{refl, arith}
use Rattle.client.proofs.ComingAndKept.{kept_kept, stay_kept}
use Rattle.client.proofs.client.Client.keep_gone.Goals as goal

pub overflow_sub-self : goal.overflow_sub-self
overflow_sub-self c =
    let some = rw (← c.self.view_is) at c.requires.taken in
    omega (arith, some)

pub keep-requires-clause-room : goal.keep-requires-clause-room
keep-requires-clause-room c =
    let some = rw (← c.self.view_is) at c.requires.taken in
    omega (arith, some, c.self.invariant.roomy)

pub invariant_of-self : goal.invariant_of-self
invariant_of-self c =
    let some = rw (← c.self.view_is) at c.requires.taken in
    let unknown = rw (← c.self.view_is) at c.requires.unknown in
    kept_kept _ c.args.side c.keep.new.self.sides c.keep.new.self.told c.self.inside.pages c.self.inside.gone.room c.keep.new.self.room c.self.invariant unknown some c.keep.ensures.sides c.keep.ensures.told c.keep.ensures.room

pub returns-clause-stay : goal.returns-clause-stay
returns-clause-stay c = rw (← c.self.view_is) (stay_kept _ _ c.args.side refl refl refl c.keep.ensures.sides)
