use Rattle.std.proofs.Common.{true}
use Rattle.return_queue.specs.Ties.{name_of}
use Rattle.serve_run.proofs.serving.serve.Given as goal

-- the limit and the entries of the state that is handed in, and the name of the queue
abbrev pub ghosts-serve_as-F-Fixed : goal.ghosts-serve_as-F-Fixed
ghosts-serve_as-F-Fixed g a = record { limit = a.state.limit; handed = a.state.entries; queue = name_of a.made.0.line; counts = true }

abbrev pub ghosts-serve_as-G-Ledger : goal.ghosts-serve_as-G-Ledger
ghosts-serve_as-G-Ledger g a = record { name = a.grants.name; parts = a.grants.parts }

abbrev pub ghosts-serve_as-E-Ledger : goal.ghosts-serve_as-E-Ledger
ghosts-serve_as-E-Ledger g a = record { name = a.rounds.name; parts = a.rounds.parts }

-- where the places lie
abbrev pub ghosts-serve_as-F-Layout : goal.ghosts-serve_as-F-Layout
ghosts-serve_as-F-Layout g a = record { base = a.room.base; size = a.room.size; count = a.room.count }
