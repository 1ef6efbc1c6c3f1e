use Rattle.tile_cache.proofs.Gets.{looked_kept, looked_gone, looked_none}
use Rattle.tile_cache.proofs.cache.Cache.look_up.Goals as goal

pub returns-in-Some-Held : goal.returns-in-Some-Held
returns-in-Some-Held g c = looked_kept c.args.tile c.args.self.now c.rest.new.self c.rest.ensures c.lock_entry.new.self (rw c.in-Some-Held.field-0-is at c.in-Some-Held.ensures)

pub returns-in-Some-Gone : goal.returns-in-Some-Gone
returns-in-Some-Gone g c = looked_gone c.args.tile c.args.self.now c.rest.new.self c.rest.ensures c.lock_entry.new.self (rw c.in-Some-Gone.field-0-is at c.in-Some-Gone.ensures)

pub returns-in-None : goal.returns-in-None
returns-in-None g c = looked_none c.args.tile c.args.self.now c.rest.new.self c.rest.ensures c.lock_entry.new.self c.make_room.new.self c.kind_of.result c.in-None.ensures c.make_room.ensures c.kind_of.ensures
