use Rattle.std.proofs.Common.{refl}
use Rattle.client.proofs.PieceCalls.{dead_if_absent, live_if_there, others_on, none_stay}
use Rattle.client.proofs.client.Client.free.Goals as goal

pub returns-in_default-clause-frees : goal.returns-in_default-clause-frees
returns-in_default-clause-frees c =
    let owns = rw (← c.self.view_is) at c.requires.owned in
    let absent = rw (c.as_slice.ensures.value, c.segment.ensures) at c.in_default.ensures in
    rw (← c.self.view_is) (dead_if_absent _ c.args.piece owns absent, refl)

pub returns-in_default-clause-stay : goal.returns-in_default-clause-stay
returns-in_default-clause-stay c = none_stay c.args.self.now c.args.piece.run

pub set_free-requires-clause-live : goal.set_free-requires-clause-live
set_free-requires-clause-live c =
    let owns = rw (← c.self.view_is) at c.requires.owned in
    let there = rw (c.as_slice.ensures.value, c.segment.ensures) at c.in-Some.ensures in
    rw (← c.self.view_is) (live_if_there _ c.args.piece c.in-Some.place c.self.invariant.sound owns there)

pub set_free-requires-clause-there : goal.set_free-requires-clause-there
set_free-requires-clause-there c =
    let there = rw (c.as_slice.ensures.value, c.segment.ensures) at c.in-Some.ensures in
    rw (← c.self.view_is) there

pub free_span-requires : goal.free_span-requires
free_span-requires c = rw c.into_span.ensures c.set_free.ensures.free

pub returns-clause-frees : goal.returns-clause-frees
returns-clause-frees c =
    let owns = rw (← c.self.view_is) at c.requires.owned in
    let there = rw (c.as_slice.ensures.value, c.segment.ensures) at c.in-Some.ensures in (
      rw (← c.self.view_is) (live_if_there _ c.args.piece c.in-Some.place c.self.invariant.sound owns there),
      record { between = c.set_free.new.self; unlocks = c.set_free.ensures.unlocks; frees = rw c.into_span.ensures at c.free_span.ensures.frees },
    )

pub returns-clause-stay : goal.returns-clause-stay
returns-clause-stay c = others_on _ c.set_free.new.self _ c.args.piece.run c.set_free.ensures.stay (rw c.into_span.ensures at c.free_span.ensures.stay)
