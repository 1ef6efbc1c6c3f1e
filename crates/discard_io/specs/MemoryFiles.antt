-- What contracts see of the files in memory.
use Rattle.std.specs.Prelude.{ℕ, List, Option, option_map, Result}
use Rattle.std.specs.BTreeMap.{get_by_text}
use Rattle.units.specs.Count.{next_count}
use Rattle.discard_io.specs.declared.files.FileFault.{FileFault}
use Rattle.discard_io.specs.declared.memory.files.MemFiles.{MemFiles}
use Rattle.discard_io.specs.Faults.{faults_after}
use Rattle.discard_io.specs.Memory.{Tally}

-- the bytes that were put under a name
abbrev pub bytes_under : MemFiles → List ℕ → Option (List ℕ)
bytes_under files name = option_map (λ bytes. bytes.items) (get_by_text files.files name)

-- the reads so far
abbrev pub reads_of : MemFiles → Tally
reads_of files = files.calls

-- the reads after one more, which was answered so
abbrev pub reads_after : {T : Type 0} → Result T FileFault → Tally → Tally
reads_after answer reads = record reads { made = next_count reads.made; faults = faults_after answer reads.faults }
