-- What contracts see of a source and a sink over std's readers and writers.
use Rattle.std.specs.Prelude.{ℕ}
use Rattle.discard_io.specs.declared.real.sink.StdSink.{StdSink}
use Rattle.discard_io.specs.declared.real.source.StdSource.{StdSource}

-- the reader of a source
abbrev pub reader_of : {R : Type 0} → StdSource R → R
reader_of source = source.reader

-- how often a source has failed
abbrev pub source_faults : {R : Type 0} → StdSource R → ℕ
source_faults source = source.faults

-- the writer of a sink
abbrev pub writer_of : {W : Type 0} → StdSink W → W
writer_of sink = sink.writer

-- how often a sink has failed
abbrev pub sink_faults : {W : Type 0} → StdSink W → ℕ
sink_faults sink = sink.faults
