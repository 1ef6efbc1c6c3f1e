use Rattle.std.specs.Prelude.{ℕ}
use Rattle.discard_io.specs.declared.status.Status.{Status}
use Rattle.discard_io.specs.declared.status.Status.TheVariants.{Done, NoMemory, Usage, BadInput, ReadFault, WriteFault, FileFault}

-- the status with which a program ends
abbrev pub code_of : Status → ℕ
code_of Done = 0
code_of NoMemory = 1
code_of Usage = 2
code_of (BadInput place cause) = 3
code_of ReadFault = 4
code_of WriteFault = 5
code_of FileFault = 6
