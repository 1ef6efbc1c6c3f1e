use Rattle.reply_places.proofs.tests.no_place.Given as goal

-- the room that was taken
abbrev pub ghosts-closes : goal.ghosts-closes
ghosts-closes a = record { base = a.room.base; size = a.room.size; count = a.room.count }
