use Rattle.std.proofs.Common.{false}
use Rattle.return_queue.specs.Name.{no_queue}
use Rattle.memory_tests.proofs.managers.pressure_and_enforcement.Given as goal

abbrev pub ghosts-yields-F-Fixed : goal.ghosts-yields-F-Fixed
ghosts-yields-F-Fixed g a = record { limit = a.state.limit; handed = a.state.entries; queue = no_queue; counts = false }
