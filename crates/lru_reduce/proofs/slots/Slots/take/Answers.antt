use Rattle.std.proofs.Common.{sym, refl, arith}
use Rattle.lru_reduce.specs.declared.slots.Slot.{Slot}
use Rattle.lru_reduce.proofs.Slotted.{live_slots}
use Rattle.lru_reduce.proofs.Held.{absent, empty_at, live_at, has_live, take_live, fewer_live, some_live, slots_gone}
use Rattle.lru_reduce.proofs.slots.Slots.take.Goals as goal

pub returns-in_err-place-clause-live : goal.returns-in_err-place-clause-live
returns-in_err-place-clause-live c =
    let none = rw c.deref.ensures.value at c.in_err-place.ensures.none in
    rw (c.from_residual.ensures, ← c.self.view_is) (sym (absent c.args.id c.self.inside.slots.items c.self.invariant.0 none))

pub returns-in_err-side-clause-live : goal.returns-in_err-side-clause-live
returns-in_err-side-clause-live c =
    let is = rw c.deref.ensures.value at c.in_ok-place.ensures.some in
    rw (c.from_residual-in_err-side.ensures, ← c.self.view_is)
    (sym (empty_at c.args.id c.in_ok-place.place c.self.inside.slots.items c.index_mut.result.now c.self.invariant.0 is c.index_mut.ensures.value (sym c.in_err-side.ensures.value)))

pub overflow_sub-self : goal.overflow_sub-self
overflow_sub-self c =
    let is = rw c.deref.ensures.value at c.in_ok-place.ensures.some in
    let live = live_at c.args.id c.in_ok-place.place c.self.inside.slots.items c.index_mut.result.now c.in_ok-side.side c.self.invariant.0 is c.index_mut.ensures.value (sym c.in_ok-side.ensures.value) in
    let some = some_live c.args.id c.in_ok-place.place c.self.inside.slots.items c.in_ok-side.side live in
    let all = c.self.invariant.1 in
    omega (arith, some, all)

pub invariant_of-self-2 : goal.invariant_of-self-2
invariant_of-self-2 c =
    let slots = c.self.inside.slots.items in
    let place = c.in_ok-place.place in
    let x = c.index_mut.result.now in
    let s : Slot = record { id = x.id; side = c.take.new.self } in
    let is = rw c.deref.ensures.value at c.in_ok-place.ensures.some in
    let live = live_at c.args.id place slots x c.in_ok-side.side c.self.invariant.0 is c.index_mut.ensures.value (sym c.in_ok-side.ensures.value) in
    let fewer = fewer_live c.args.id place slots c.in_ok-side.side s live c.take.ensures.after in
    let all = c.self.invariant.1 in
    (slots_gone c.args.id place slots x s c.self.invariant.0 is c.index_mut.ensures.value refl c.take.ensures.after, omega (arith, fewer, all))

pub returns-clause-some : goal.returns-clause-some
returns-clause-some c =
    let slots = c.self.inside.slots.items in
    let place = c.in_ok-place.place in
    let x = c.index_mut.result.now in
    let s : Slot = record { id = x.id; side = c.take.new.self } in
    let is = rw c.deref.ensures.value at c.in_ok-place.ensures.some in
    let live = live_at c.args.id place slots x c.in_ok-side.side c.self.invariant.0 is c.index_mut.ensures.value (sym c.in_ok-side.ensures.value) in
    rw (← c.self.view_is) (take_live c.args.id place slots c.in_ok-side.side s c.self.invariant.0 live c.take.ensures.after)

pub returns-clause-live : goal.returns-clause-live
returns-clause-live c =
    let is = rw c.deref.ensures.value at c.in_ok-place.ensures.some in
    let live = live_at c.args.id c.in_ok-place.place c.self.inside.slots.items c.index_mut.result.now c.in_ok-side.side c.self.invariant.0 is c.index_mut.ensures.value (sym c.in_ok-side.ensures.value) in
    rw (← c.self.view_is) (sym (has_live c.args.id c.in_ok-place.place c.self.inside.slots.items c.in_ok-side.side live))

pub returns-clause-are : goal.returns-clause-are
returns-clause-are c =
    let slots = c.self.inside.slots.items in
    let place = c.in_ok-place.place in
    let x = c.index_mut.result.now in
    let s : Slot = record { id = x.id; side = c.take.new.self } in
    let is = rw c.deref.ensures.value at c.in_ok-place.ensures.some in
    live_slots _ (slots_gone c.args.id place slots x s c.self.invariant.0 is c.index_mut.ensures.value refl c.take.ensures.after)
