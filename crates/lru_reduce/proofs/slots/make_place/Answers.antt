use Rattle.std.proofs.Common.{ap, ◌∙◌, ◌≢◌, List, length, arith}
use Rattle.std.proofs.lemmas.List.Elements.{All-filter}
use Rattle.lru_reduce.specs.Slots.{sides_of, is_full}
use Rattle.lru_reduce.specs.declared.slots.Slot.{Slot}
use Rattle.lru_reduce.proofs.Slotted.{slots_full, sides_full, long_full}
use Rattle.lru_reduce.proofs.slots.make_place.Goals as goal

pub returns-then-len-capacity-clause-are : goal.returns-then-len-capacity-clause-are
returns-then-len-capacity-clause-are c = rw c.drop_empty.ensures.items (slots_full c.args.slots.now.items c.requires.are)

pub returns-then-len-capacity-clause-sides : goal.returns-then-len-capacity-clause-sides
returns-then-len-capacity-clause-sides c = ap (λ (slots : List Slot). sides_of slots) c.drop_empty.ensures.items ∙ sides_full c.args.slots.now.items

pub returns-then-len-capacity-clause-none : goal.returns-then-len-capacity-clause-none
returns-then-len-capacity-clause-none c id none = rw c.drop_empty.ensures.items (All-filter is_full (λ (s : Slot). s.id ≢ id) c.args.slots.now.items none)

pub returns-then-len-capacity-clause-place : goal.returns-then-len-capacity-clause-place
returns-then-len-capacity-clause-place c =
    let long = ap (λ (slots : List Slot). length slots) c.drop_empty.ensures.items ∙ long_full c.args.slots.now.items in
    let room = c.requires.room in
    let same = c.drop_empty.ensures.room in
    omega (arith, long, room, same)
