use Rattle.std.proofs.Common.{sym, ◌∙◌, arith}
use Rattle.lru_reduce.proofs.Slotted.{live_slots}
use Rattle.lru_reduce.proofs.Held.{absent, empty_at, live_at, has_live, fewer_live, some_live, wins_on, loses_on, wins_gone, loses_stay, loses_long}
use Rattle.lru_reduce.proofs.Tried.{tried_won, tried_lost}
use Rattle.lru_reduce.proofs.slots.Slots.try_purge.Goals as goal

pub returns-in_err-place-clause-live : goal.returns-in_err-place-clause-live
returns-in_err-place-clause-live c =
    let none = rw c.deref.ensures.value at c.in_err-place.ensures.none in
    rw (c.from_residual.ensures, ← c.self.view_is) (sym (absent c.args.id c.self.inside.slots.items c.self.invariant.0 none))

pub returns-in_err-won-clause-live : goal.returns-in_err-won-clause-live
returns-in_err-won-clause-live c =
    let is = rw c.deref.ensures.value at c.in_ok-place.ensures.some in
    rw (c.from_residual-in_err-won.ensures, ← c.self.view_is)
    (sym (empty_at c.args.id c.in_ok-place.place c.self.inside.slots.items c.index_mut.result.now c.self.invariant.0 is c.index_mut.ensures.value c.in_err-won.ensures.none.0))

pub overflow_sub-self : goal.overflow_sub-self
overflow_sub-self c =
    let slots = c.self.inside.slots.items in
    let place = c.in_ok-place.place in
    let x = c.index_mut.result.now in
    let s = c.try_purge.new.self in
    let is = rw c.deref.ensures.value at c.in_ok-place.ensures.some in
    let wins = tried_won c.in_ok-won.field-0 c.in-Ok.won x s c.in-Ok.is c.in_ok-won.ensures.won in
    let live = live_at c.args.id place slots x wins.warden c.self.invariant.0 is c.index_mut.ensures.value wins.stood in
    let some = some_live c.args.id place slots wins.warden live in
    let all = c.self.invariant.1 in
    omega (arith, some, all)

pub invariant_of-self-in-Ok : goal.invariant_of-self-in-Ok
invariant_of-self-in-Ok c =
    let slots = c.self.inside.slots.items in
    let place = c.in_ok-place.place in
    let x = c.index_mut.result.now in
    let s = c.try_purge.new.self in
    let is = rw c.deref.ensures.value at c.in_ok-place.ensures.some in
    let wins = tried_won c.in_ok-won.field-0 c.in-Ok.won x s c.in-Ok.is c.in_ok-won.ensures.won in
    let live = live_at c.args.id place slots x wins.warden c.self.invariant.0 is c.index_mut.ensures.value wins.stood in
    let fewer = fewer_live c.args.id place slots wins.warden s live wins.gone in
    let all = c.self.invariant.1 in
    (wins_gone c.args.id place c.in-Ok.won.pages c.in-Ok.won.known c.in-Ok.won.block slots x s c.self.invariant.0 is c.index_mut.ensures.value wins, omega (arith, fewer, all))

pub invariant_of-self-in-Err : goal.invariant_of-self-in-Err
invariant_of-self-in-Err c =
    let slots = c.self.inside.slots.items in
    let place = c.in_ok-place.place in
    let x = c.index_mut.result.now in
    let s = c.try_purge.new.self in
    let is = rw c.deref.ensures.value at c.in_ok-place.ensures.some in
    let loses = tried_lost c.args.now c.in_ok-won.field-0 c.in-Err.known x s c.in-Err.is c.in_ok-won.ensures.lost in
    let live = live_at c.args.id place slots x loses.warden c.self.invariant.0 is c.index_mut.ensures.value loses.stood in
    let long = loses_long c.args.id c.args.now place c.in-Err.known slots x s c.self.invariant.0 is c.index_mut.ensures.value loses in
    (loses_stay c.args.id c.args.now place c.in-Err.known slots x s c.self.invariant.0 is c.index_mut.ensures.value loses, c.self.invariant.1 ∙ sym long)

pub returns-in-Ok-clause-won : goal.returns-in-Ok-clause-won
returns-in-Ok-clause-won c =
    let slots = c.self.inside.slots.items in
    let place = c.in_ok-place.place in
    let x = c.index_mut.result.now in
    let s = c.try_purge.new.self in
    let is = rw c.deref.ensures.value at c.in_ok-place.ensures.some in
    let wins = tried_won c.in_ok-won.field-0 c.in-Ok.won x s c.in-Ok.is c.in_ok-won.ensures.won in
    let live = live_at c.args.id place slots x wins.warden c.self.invariant.0 is c.index_mut.ensures.value wins.stood in
    rw (← c.self.view_is) (wins_on c.args.id c.args.now place c.in-Ok.won.pages c.in-Ok.won.known c.in-Ok.won.block slots x s c.self.invariant.0 is c.index_mut.ensures.value wins)

pub returns-in-Ok-clause-live : goal.returns-in-Ok-clause-live
returns-in-Ok-clause-live c =
    let slots = c.self.inside.slots.items in
    let place = c.in_ok-place.place in
    let x = c.index_mut.result.now in
    let s = c.try_purge.new.self in
    let is = rw c.deref.ensures.value at c.in_ok-place.ensures.some in
    let wins = tried_won c.in_ok-won.field-0 c.in-Ok.won x s c.in-Ok.is c.in_ok-won.ensures.won in
    let live = live_at c.args.id place slots x wins.warden c.self.invariant.0 is c.index_mut.ensures.value wins.stood in
    rw (← c.self.view_is) (sym (has_live c.args.id place slots wins.warden live))

pub returns-in-Ok-clause-are : goal.returns-in-Ok-clause-are
returns-in-Ok-clause-are c =
    let slots = c.self.inside.slots.items in
    let place = c.in_ok-place.place in
    let x = c.index_mut.result.now in
    let s = c.try_purge.new.self in
    let is = rw c.deref.ensures.value at c.in_ok-place.ensures.some in
    let wins = tried_won c.in_ok-won.field-0 c.in-Ok.won x s c.in-Ok.is c.in_ok-won.ensures.won in
    let live = live_at c.args.id place slots x wins.warden c.self.invariant.0 is c.index_mut.ensures.value wins.stood in
    live_slots _ (wins_gone c.args.id place c.in-Ok.won.pages c.in-Ok.won.known c.in-Ok.won.block slots x s c.self.invariant.0 is c.index_mut.ensures.value wins)

pub returns-in-Err-clause-lost : goal.returns-in-Err-clause-lost
returns-in-Err-clause-lost c =
    let slots = c.self.inside.slots.items in
    let place = c.in_ok-place.place in
    let x = c.index_mut.result.now in
    let s = c.try_purge.new.self in
    let is = rw c.deref.ensures.value at c.in_ok-place.ensures.some in
    let loses = tried_lost c.args.now c.in_ok-won.field-0 c.in-Err.known x s c.in-Err.is c.in_ok-won.ensures.lost in
    let live = live_at c.args.id place slots x loses.warden c.self.invariant.0 is c.index_mut.ensures.value loses.stood in
    rw (← c.self.view_is) (loses_on c.args.id c.args.now place c.in-Err.known slots x s c.self.invariant.0 is c.index_mut.ensures.value loses)

pub returns-in-Err-clause-live : goal.returns-in-Err-clause-live
returns-in-Err-clause-live c =
    let slots = c.self.inside.slots.items in
    let place = c.in_ok-place.place in
    let x = c.index_mut.result.now in
    let s = c.try_purge.new.self in
    let is = rw c.deref.ensures.value at c.in_ok-place.ensures.some in
    let loses = tried_lost c.args.now c.in_ok-won.field-0 c.in-Err.known x s c.in-Err.is c.in_ok-won.ensures.lost in
    let live = live_at c.args.id place slots x loses.warden c.self.invariant.0 is c.index_mut.ensures.value loses.stood in
    rw (← c.self.view_is) (sym (has_live c.args.id place slots loses.warden live))

pub returns-in-Err-clause-are : goal.returns-in-Err-clause-are
returns-in-Err-clause-are c =
    let slots = c.self.inside.slots.items in
    let place = c.in_ok-place.place in
    let x = c.index_mut.result.now in
    let s = c.try_purge.new.self in
    let is = rw c.deref.ensures.value at c.in_ok-place.ensures.some in
    let loses = tried_lost c.args.now c.in_ok-won.field-0 c.in-Err.known x s c.in-Err.is c.in_ok-won.ensures.lost in
    let live = live_at c.args.id place slots x loses.warden c.self.invariant.0 is c.index_mut.ensures.value loses.stood in
    live_slots _ (loses_stay c.args.id c.args.now place c.in-Err.known slots x s c.self.invariant.0 is c.index_mut.ensures.value loses)
