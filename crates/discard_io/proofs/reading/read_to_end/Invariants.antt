use Rattle.std.proofs.Common.{◌+◌, ◌-◌, ◌<◌, ◌≤◌, vec_len}
use Rattle.discard_io.specs.Counts.{CalledAtMost}
use Rattle.discard_io.specs.Streams.{Took}
use Rattle.discard_io.proofs.reading.read_to_end.Given as goal

abbrev pub invariant-loop-bytes : goal.invariant-loop-bytes
invariant-loop-bytes g l = record {
  within : vec_len l.bytes ≤ l.most + 1;
  buffer : 0 < vec_len l.buffer;
  taken : Took (g.S.Source.left l.fn.source) l.bytes.items (g.S.Source.left l.source);
  reads : CalledAtMost (g.S.Source.reads l.fn.source) (vec_len l.bytes) (g.S.Source.reads l.source);
  later : g.S.Source.faults l.fn.source ≤ g.S.Source.faults l.source;
}

abbrev pub decreases-loop-bytes : goal.decreases-loop-bytes
decreases-loop-bytes g l = l.most + 1 - vec_len l.bytes
