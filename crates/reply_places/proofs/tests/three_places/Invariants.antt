use Rattle.reply_places.proofs.tests.three_places.Given as goal

-- the room that was taken
abbrev pub ghosts-joins : goal.ghosts-joins
ghosts-joins g a = record { base = a.room.base; size = a.room.size; count = a.room.count }
