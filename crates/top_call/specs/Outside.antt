-- What the objects of a run tell, before it and after it.
use Rattle.std.specs.Prelude.{◌≡◌, ℕ, ◌≤◌, List, Option}
use Rattle.replay_run.specs.Ending.{Devices, devices}
use Rattle.top_call.specs.TileRun.{Drives, drives}

-- what a sink tells: the bytes written, and how often it has failed
pub record Telling : Type 0 where
  pub written : Option (List ℕ)
  pub faults : ℕ

abbrev pub telling : Option (List ℕ) → ℕ → Telling
telling written faults = record { written = written; faults = faults }

-- what the objects of a run tell: the bytes left in the input, the bytes written on the output, the bytes under each name, and
-- how often each has failed
pub record Outside : Type 0 where
  pub left : Option (List ℕ)
  pub read_faults : ℕ
  pub written : Option (List ℕ)
  pub write_faults : ℕ
  pub files : List ℕ → Option (List ℕ)
  pub file_faults : ℕ

abbrev pub outside : Option (List ℕ) → ℕ → Option (List ℕ) → ℕ → (List ℕ → Option (List ℕ)) → ℕ → Outside
outside left read_faults written write_faults files file_faults = record {
  left = left;
  read_faults = read_faults;
  written = written;
  write_faults = write_faults;
  files = files;
  file_faults = file_faults;
}

-- what the input and the output tell
abbrev pub devices_of : Outside → Devices
devices_of o = devices o.left o.read_faults o.written o.write_faults

-- what the output and the file with this name tell
abbrev pub drives_of : List ℕ → Outside → Drives
drives_of name o = drives (o.files name) o.file_faults o.written o.write_faults

-- what the output tells
abbrev pub telling_of : Outside → Telling
telling_of o = telling o.written o.write_faults

-- what stands under each name stays, and no count of faults fell
pub record IsLater (before after : Outside) : Type 0 where
  pub names : (name : List ℕ) → after.files name ≡ before.files name
  pub reads : before.read_faults ≤ after.read_faults
  pub writes : before.write_faults ≤ after.write_faults
  pub files : before.file_faults ≤ after.file_faults
