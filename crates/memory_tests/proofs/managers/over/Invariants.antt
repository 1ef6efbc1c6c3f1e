use Rattle.std.proofs.Common.{true}
use Rattle.return_queue.specs.Ties.{name_of}
use Rattle.memory_tests.proofs.managers.over.Given as goal

abbrev pub ghosts-ruled-F-Fixed : goal.ghosts-ruled-F-Fixed
ghosts-ruled-F-Fixed g a = record { limit = a.state.limit; handed = a.state.entries; queue = name_of a.made.0.line; counts = true }

abbrev pub ghosts-ruled-G-Ledger : goal.ghosts-ruled-G-Ledger
ghosts-ruled-G-Ledger g a = record { name = a.grants.name; parts = a.grants.parts }

abbrev pub ghosts-ruled-E-Ledger : goal.ghosts-ruled-E-Ledger
ghosts-ruled-E-Ledger g a = record { name = a.rounds.name; parts = a.rounds.parts }
