-- What is printed of the errors.
use Rattle.std.specs.Prelude.{ℕ, List, codes}
use Rattle.discard_io.specs.declared.files.FileFault.{FileFault}
use Rattle.discard_io.specs.declared.files.FileFault.TheVariants as fault
use Rattle.discard_io.specs.declared.reading.ReadEnd.{ReadEnd}
use Rattle.discard_io.specs.declared.reading.ReadEnd.TheVariants as end

-- an object had a fault
abbrev pub failed_text : List ℕ
failed_text = codes "failed"

-- there is more than the caller wants
abbrev pub too_long_text : List ℕ
too_long_text = codes "too long"

-- out of memory
abbrev pub no_memory_text : List ℕ
no_memory_text = codes "out of memory"

-- why a file was not read
abbrev pub fault_text : FileFault → List ℕ
fault_text fault.Failed = failed_text
fault_text fault.TooLong = too_long_text
fault_text fault.NoMemory = no_memory_text

-- why a source was not read to its end
abbrev pub end_text : ReadEnd → List ℕ
end_text end.Failed = failed_text
end_text end.TooLong = too_long_text
end_text end.NoMemory = no_memory_text
