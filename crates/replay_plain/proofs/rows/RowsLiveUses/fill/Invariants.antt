use Rattle.std.proofs.Common.{◌≤◌, length}
use Rattle.replay_plain.proofs.LiveRows.{HoldsBelow}
use Rattle.replay_plain.proofs.rows.RowsLiveUses.fill.Given as goal

abbrev pub invariant-loop-number : goal.invariant-loop-number
invariant-loop-number l = HoldsBelow l.number l.segment-items l.queue.entries × (length l.queue.entries ≤ l.number) × (l.fn.queue.room ≤ l.queue.room)
