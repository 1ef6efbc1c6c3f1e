use Rattle.std.proofs.Common.{length, take, ◌-◌, ◌≡◌, ◌≤◌}
use Rattle.discard_io.specs.Counts.{CalledAtMost}
use Rattle.discard_io.specs.Streams.{appended}
use Rattle.discard_io.proofs.writing.write_all.Given as goal

abbrev pub invariant-loop-at : goal.invariant-loop-at
invariant-loop-at g l = record {
  within : l.at ≤ length l.bytes;
  written : g.O.Sink.written l.sink ≡ appended (g.O.Sink.written l.fn.sink) (take l.at l.bytes);
  writes : CalledAtMost (g.O.Sink.writes l.fn.sink) l.at (g.O.Sink.writes l.sink);
  untouched : l.at ≡ 0 → l.sink ≡ l.fn.sink;
  later : g.O.Sink.faults l.fn.sink ≤ g.O.Sink.faults l.sink;
}

abbrev pub decreases-loop-at : goal.decreases-loop-at
decreases-loop-at g l = length l.bytes - l.at
