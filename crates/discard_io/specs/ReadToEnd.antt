-- How a source is read to its end.
use Rattle.std.specs.Prelude.{ℕ, ◌+◌, List, Option, Result, Ok, Err}
use Rattle.std.specs.Global.{Vec}
use Rattle.discard_io.specs.declared.reading.ReadEnd.{ReadEnd}
use Rattle.discard_io.specs.declared.reading.ReadEnd.TheVariants.{Failed, TooLong, NoMemory}
use Rattle.discard_io.specs.Streams.{TookAll, TookExactly, TookAtMost}

-- What was taken of a source that was to be read to its end, up to `most` bytes. Ok: these bytes, and they are all.
-- After a fault: at most `most`. Too long: exactly one more than `most`. Out of memory: at most one more than `most`.
abbrev pub ReadsToEnd : Result (Vec ℕ) ReadEnd → ℕ → Option (List ℕ) → Option (List ℕ) → Type 0
ReadsToEnd (Ok bytes) most before after = TookAll before bytes.items after
ReadsToEnd (Err Failed) most before after = TookAtMost before most after
ReadsToEnd (Err TooLong) most before after = TookExactly before (most + 1) after
ReadsToEnd (Err NoMemory) most before after = TookAtMost before (most + 1) after
