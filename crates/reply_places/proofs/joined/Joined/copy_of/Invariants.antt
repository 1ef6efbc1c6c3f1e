use Rattle.reply_places.proofs.joined.Joined.copy_of.Given as goal

-- the room that was taken
abbrev pub ghosts-filled_with : goal.ghosts-filled_with
ghosts-filled_with a = record { base = a.room.base; size = a.room.size; count = a.room.count }
