-- How often objects have failed.
use Rattle.std.specs.Prelude.{ℕ, Result, Ok, Err}
use Rattle.units.specs.Count.{next_count}
use Rattle.discard_io.specs.declared.files.FileFault.{FileFault}
use Rattle.discard_io.specs.declared.files.FileFault.TheVariants.{Failed, TooLong, NoMemory}

-- the faults of a source or a sink after a call that was answered so: one more where it failed
abbrev pub call_faults : {T E : Type 0} → Result T E → ℕ → ℕ
call_faults (Ok moved) faults = faults
call_faults (Err error) faults = next_count faults

-- the faults of files after a read that was answered so: one more where it failed
abbrev pub faults_after : {T : Type 0} → Result T FileFault → ℕ → ℕ
faults_after (Ok bytes) faults = faults
faults_after (Err Failed) faults = next_count faults
faults_after (Err TooLong) faults = faults
faults_after (Err NoMemory) faults = faults
