use Rattle.std.proofs.Common.{List, Some, refl, sym, ap, ◌∙◌}
use Rattle.segment.specs.Warded.{Warded}
use Rattle.lru_reduce.specs.Calls.{placed}
use Rattle.lru_reduce.specs.Slots.{sides_of, HasNoSlot}
use Rattle.lru_reduce.specs.declared.slots.Slot.{Slot}
use Rattle.lru_reduce.proofs.Slotted.{slots_inserted, sides_inserted}
use Rattle.lru_reduce.proofs.slots.enter.Goals as goal

pub returns-clause-are : goal.returns-clause-are
returns-clause-are c =
    let slots = c.make_place.new.slots.items in
    let s : Slot = record { id = c.id-id.result; side = Some c.args.side } in
    let place = c.spot_of-place.result in
    let spot = rw c.deref.ensures.value at c.spot_of-place.ensures in
    let fresh : HasNoSlot c.id-id.result slots = rw c.id-id.ensures (c.make_place.ensures.none c.args.side.id c.requires.none) in
    rw c.in-Ok.ensures.items (slots_inserted slots place s c.make_place.ensures.are spot fresh (sym c.id-id.ensures, c.requires.free))

pub returns-clause-sides : goal.returns-clause-sides
returns-clause-sides c =
    let slots = c.make_place.new.slots.items in
    let s : Slot = record { id = c.id-id.result; side = Some c.args.side } in
    let place = c.spot_of-place.result in
    let spot = rw c.deref.ensures.value at c.spot_of-place.ensures in
    let fresh : HasNoSlot c.id-id.result slots = rw c.id-id.ensures (c.make_place.ensures.none c.args.side.id c.requires.none) in
    ap (λ (more : List Slot). sides_of more) c.in-Ok.ensures.items
    ∙ sides_inserted slots place c.args.side s c.make_place.ensures.are spot fresh c.id-id.ensures refl
    ∙ ap (λ (ws : List Warded). placed c.args.side ws) c.make_place.ensures.sides
