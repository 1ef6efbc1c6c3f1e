use Rattle.std.proofs.Common.{false}
use Rattle.return_queue.specs.Name.{no_queue}
use Rattle.guide.proofs.main.Given as goal

abbrev pub ghosts-run-F-Fixed : goal.ghosts-run-F-Fixed
ghosts-run-F-Fixed g a = record { limit = a.state.limit; handed = a.state.entries; queue = no_queue; counts = false }
