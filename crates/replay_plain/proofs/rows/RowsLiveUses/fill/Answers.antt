use Rattle.std.proofs.Common.{◌≡◌, Some, get_or, slice_get, arith}
use Rattle.std.proofs.lemmas.Option.{slice_get-get_or}
use Rattle.std.proofs.lemmas.List.Sorted.{length_permutation}
use Rattle.replay_plain.specs.declared.segment.KnownSegment.{KnownSegment}
use Rattle.replay_plain.proofs.LiveRows.{below_live, below_dead, below_all}
use Rattle.replay_plain.proofs.rows.RowsLiveUses.fill.Goals.{then-segment, else-segment}
use Rattle.replay_plain.proofs.rows.RowsLiveUses.fill.Goals as goal

pub loop-number-preserved : goal.loop-number-preserved
loop-number-preserved c =
    let rows = c.deref-segment-items.result.now in
    let n = c.loop-number.number in
    let few = c.loop-number.invariant.1 in
    let room = c.loop-number.invariant.2 in
    let at : (d : KnownSegment) → slice_get rows n ≡ Some (get_or rows n d) = λ d. slice_get-get_or rows n d c.loop-number-test.true in
    elim c.if-segment.branch [
      | then-segment w ↦ rw w.queue-is (
        below_live n rows _ c.loop-number.queue.entries w.push.new.self.entries (at _) w.if-segment.true w.push.ensures.entries c.loop-number.invariant.0,
        let long = length_permutation _ w.push.new.self.entries w.push.ensures.entries in omega (arith, long, few),
        let more = w.push.ensures.room in omega (arith, room, more),
      )
      | else-segment w ↦ rw w.queue-is (
        below_dead n rows _ c.loop-number.queue.entries (at _) w.if-segment.false c.loop-number.invariant.0,
        omega (arith, few),
        room,
      )
    ]

pub returns-clause-each : goal.returns-clause-each
returns-clause-each c =
    let over = c.loop-number-test.false in
    let end = c.loop-number.auto.number-end in
    rw (← c.self.view_is, ← c.deref-segment-items.ensures.value)
    (below_all c.loop-number.number c.deref-segment-items.result.now c.loop-number.queue.entries (omega (arith, over, end)) c.loop-number.invariant.0)
