use Rattle.std.proofs.Common.{sym}
use Rattle.lru_reduce.proofs.Held.{absent, empty_at, live_at, has_live, known_live}
use Rattle.lru_reduce.proofs.slots.Slots.known.Goals as goal

pub returns-in_err-place-clause-live : goal.returns-in_err-place-clause-live
returns-in_err-place-clause-live c =
    let none = rw c.deref.ensures.value at c.in_err-place.ensures.none in
    rw (c.from_residual.ensures, ← c.self.view_is) (sym (absent c.args.id c.self.inside.slots.items c.self.invariant.0 none))

pub returns-in-None-clause-live : goal.returns-in-None-clause-live
returns-in-None-clause-live c =
    let is = rw c.deref.ensures.value at c.in_ok-place.ensures.some in
    rw (← c.self.view_is)
    (sym (empty_at c.args.id c.in_ok-place.place c.self.inside.slots.items c.index.result.now c.self.invariant.0 is c.index.ensures c.in-None.is))

pub returns-in-Some-clause-live : goal.returns-in-Some-clause-live
returns-in-Some-clause-live c =
    let is = rw c.deref.ensures.value at c.in_ok-place.ensures.some in
    let live = live_at c.args.id c.in_ok-place.place c.self.inside.slots.items c.index.result.now c.in-Some.side c.self.invariant.0 is c.index.ensures c.in-Some.is in
    rw (← c.self.view_is) (sym (has_live c.args.id c.in_ok-place.place c.self.inside.slots.items c.in-Some.side live))

pub returns-in-Some-clause-known : goal.returns-in-Some-clause-known
returns-in-Some-clause-known c =
    let is = rw c.deref.ensures.value at c.in_ok-place.ensures.some in
    let live = live_at c.args.id c.in_ok-place.place c.self.inside.slots.items c.index.result.now c.in-Some.side c.self.invariant.0 is c.index.ensures c.in-Some.is in
    rw (c.use_of.ensures, ← c.self.view_is) (known_live c.args.id c.in_ok-place.place c.self.inside.slots.items c.in-Some.side c.self.invariant.0 live)
