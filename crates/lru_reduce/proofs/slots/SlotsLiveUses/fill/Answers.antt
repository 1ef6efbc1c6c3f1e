use Rattle.std.proofs.Common.{◌≤◌, ℕ, List, ◌∷◌, length, ap, subst, arith, ◌∙◌}
use Rattle.std.specs.List.Sorted.{IsPermutation}
use Rattle.std.proofs.lemmas.List.{length-map}
use Rattle.std.proofs.lemmas.List.Sorted.{Contains-permutation, length_permutation}
use Rattle.lru_reduce.specs.Wards.{Slotted}
use Rattle.lru_reduce.specs.Uses.{uses_of, entry_for}
use Rattle.lru_reduce.specs.Slots.{sides_of}
use Rattle.lru_reduce.specs.declared.slots.Slot.{Slot}
use Rattle.lru_reduce.proofs.Held.{none_more, one_more, room_more, all_filled}
use Rattle.lru_reduce.proofs.slots.SlotsLiveUses.fill.Goals.{in-Some, in_default}
use Rattle.lru_reduce.proofs.slots.SlotsLiveUses.fill.Goals as goal

pub push-requires : goal.push-requires
push-requires c =
    let slots = c.deref-slot-items.result.now in
    let within : length (sides_of slots) ≤ c.args.queue.now.room =
    let e = ap (λ (more : List Slot). length (sides_of more)) c.deref-slot-items.ensures.value in
    let v = ap (λ (t : Slotted). length t.sides) c.self.view_is in
    let room = c.requires.room in omega (arith, e, v, room) in
    let room = c.loop-slot.invariant.1 in
    record {
      room = let l = room_more slots c.loop-slot.slot-index c.args.queue.now.room c.slot-item.result c.in-Some.side c.loop-slot.queue.entries c.loop-slot-test.true c.slot-item.is c.in-Some.is c.loop-slot.invariant.0 within in omega (arith, l, room);
    }

pub loop-slot-preserved : goal.loop-slot-preserved
loop-slot-preserved c =
    let slots = c.deref-slot-items.result.now in
    let n = c.loop-slot.slot-index in
    let x = c.slot-item.result in
    let room = c.loop-slot.invariant.1 in
    elim c.match-slot.branch [
      | in-Some w ↦ rw w.queue-is (
        one_more slots n x w.in-Some.side c.loop-slot.queue.entries w.push.new.self.entries c.loop-slot-test.true c.slot-item.is w.in-Some.is c.loop-slot.invariant.0
            (subst (λ (k : ℕ × ℕ). IsPermutation (k ∷ c.loop-slot.queue.entries) w.push.new.self.entries) w.entry_for.ensures w.push.ensures.entries),
        let more = w.push.ensures.room in omega (arith, room, more),
      )
      | in_default w ↦ rw w.queue-is (none_more slots n x c.loop-slot.queue.entries c.loop-slot-test.true c.slot-item.is w.in_default.is c.loop-slot.invariant.0, room)
    ]

pub returns-clause-each : goal.returns-clause-each
returns-clause-each c =
    let slots = c.deref-slot-items.result.now in
    let all = c.self.inside.slots.items in
    let moved = all_filled slots all c.loop-slot.slot-index c.loop-slot.queue.entries c.loop-slot-test.false c.deref-slot-items.ensures.value c.loop-slot.invariant.0 in
    rw (← c.self.view_is) λ k live. Contains-permutation (uses_of (sides_of all)) c.loop-slot.queue.entries k moved live

pub returns-clause-few : goal.returns-clause-few
returns-clause-few c =
    let slots = c.deref-slot-items.result.now in
    let all = c.self.inside.slots.items in
    let moved = all_filled slots all c.loop-slot.slot-index c.loop-slot.queue.entries c.loop-slot-test.false c.deref-slot-items.ensures.value c.loop-slot.invariant.0 in
    let long = length_permutation (uses_of (sides_of all)) c.loop-slot.queue.entries moved ∙ length-map (sides_of all) entry_for in
    rw (← c.self.view_is) omega (arith, long)
