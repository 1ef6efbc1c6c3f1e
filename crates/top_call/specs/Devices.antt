-- What the devices of a run tell, as it is handed them, and when it has ended.
use Rattle.std.specs.Borrow.{MutBor}
use Rattle.discard_io.specs.declared.files.Files as files
use Rattle.discard_io.specs.declared.sink.Sink as sink
use Rattle.discard_io.specs.declared.source.Source as source
use Rattle.top_call.specs.declared.devices.Devices.{Devices}
use Rattle.top_call.specs.Outside.{Outside, outside}

-- what an input, an output and files tell
abbrev pub outside_of : {S O F : Type 0} → source.Ghosts S → sink.Ghosts O → files.Ghosts F → S → O → F → Outside
outside_of of_source of_sink of_files input out held =
    outside (of_source.left input) (of_source.faults input) (of_sink.written out) (of_sink.faults out) (of_files.bytes held) (of_files.faults held)

-- what the devices tell as the run is handed them
abbrev pub outside_before : {S O F C T : Type 0} → source.Ghosts S → sink.Ghosts O → files.Ghosts F → Devices S O F C T → Outside
outside_before of_source of_sink of_files devices = outside_of of_source of_sink of_files devices.input.now devices.out.now devices.files.now

-- what they tell when the run has ended
abbrev pub outside_after : {S O F R : Type 0} → source.Ghosts S → sink.Ghosts O → files.Ghosts F → MutBor S × (MutBor O × (MutBor F × R)) → Outside
outside_after of_source of_sink of_files devices = outside_of of_source of_sink of_files devices.0.now devices.1.0.now devices.1.1.0.now
