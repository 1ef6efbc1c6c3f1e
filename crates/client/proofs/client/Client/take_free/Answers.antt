use Rattle.client.proofs.PieceCalls.{taken_is_free}
use Rattle.client.proofs.client.Client.take_free.Goals as goal

pub returns-clause-stay : goal.returns-clause-stay
returns-clause-stay c =
    let first = rw (← c.self.view_is) at c.in_ok-place.ensures.some in
    let out = rw (← c.self.view_is) at c.take_out.ensures.out in
    let stay = rw (← c.self.view_is) at c.take_out.ensures.stay in
    rw (← c.self.view_is) (taken_is_free _ c.take_out.new.self c.in_ok-place.place c.take_out.result c.self.invariant.sound first out stay)
