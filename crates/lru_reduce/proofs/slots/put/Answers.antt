use Rattle.std.proofs.Common.{Some, refl}
use Rattle.lru_reduce.specs.declared.slots.Slot.{Slot}
use Rattle.lru_reduce.proofs.Held.{put_filled, put_slots}
use Rattle.lru_reduce.proofs.slots.put.Goals as goal

pub returns-in-Some-clause-are : goal.returns-in-Some-clause-are
returns-in-Some-clause-are c =
    let s : Slot = record { id = c.index_mut.result.now.id; side = Some c.args.side } in
    let is = rw (c.deref.ensures.value, c.id.ensures) at c.in-Some.ensures.some in
    put_slots c.args.slots.now.items c.in-Some.place c.args.side c.index_mut.result.now s c.requires.are is c.index_mut.ensures.value refl refl c.requires.free

pub returns-in-Some-clause-sides : goal.returns-in-Some-clause-sides
returns-in-Some-clause-sides c =
    let s : Slot = record { id = c.index_mut.result.now.id; side = Some c.args.side } in
    let is = rw (c.deref.ensures.value, c.id.ensures) at c.in-Some.ensures.some in
    put_filled c.args.slots.now.items c.in-Some.place c.args.side c.index_mut.result.now s c.requires.are is c.index_mut.ensures.value c.requires.new refl
