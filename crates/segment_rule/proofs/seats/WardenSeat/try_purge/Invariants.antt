use Rattle.segment_rule.proofs.seats.WardenSeat.try_purge.Given as goal

abbrev pub ghosts-try_purge : goal.ghosts-try_purge
ghosts-try_purge a = record { now = a.now }
