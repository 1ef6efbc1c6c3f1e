use Rattle.std.proofs.Common.{◌≤◌, take}
use Rattle.std.specs.List.Sorted.{IsPermutation}
use Rattle.lru_reduce.specs.Uses.{uses_of}
use Rattle.lru_reduce.specs.Slots.{sides_of}
use Rattle.lru_reduce.proofs.slots.SlotsLiveUses.fill.Given as goal

abbrev pub invariant-loop-slot : goal.invariant-loop-slot
invariant-loop-slot l = IsPermutation (uses_of (sides_of (take l.slot-index l.slot-items))) l.queue.entries × (l.fn.queue.room ≤ l.queue.room)
