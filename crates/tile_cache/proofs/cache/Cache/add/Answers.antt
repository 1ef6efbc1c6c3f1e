use Rattle.tile_cache.proofs.CacheSteps.{came_none, came_one, came_steps}
use Rattle.tile_cache.proofs.cache.Cache.add.Goals as goal

pub invariant_of-self : goal.invariant_of-self
invariant_of-self g c = rw (c.in-Ok.ensures.cap, c.clear.ensures.cap, c.count.ensures) (came_one _ c.self.inside.entries.cap c.args.size c.args.now c.args.shown c.clear.new.granted c.clear.new.entries.entries c.self.invariant (rw (← c.self.view_is) at c.requires.sized) c.clear.ensures.clears c.come-came.new.granted c.come-came.new.entries.entries c.come-came.new.shown.keys c.args.tile c.requires.size.0 (rw (← c.self.view_is) at c.requires.can.free) c.requires.made (rw (← c.self.view_is) at c.requires.can.lost) c.in-Ok.ensures.comes).1

pub invariant_of-self-in-Err : goal.invariant_of-self-in-Err
invariant_of-self-in-Err g c = rw (c.in-Err.ensures.cap, c.clear.ensures.cap) (came_none _ c.self.inside.entries.cap c.args.size c.args.now c.args.shown c.clear.new.granted c.clear.new.entries.entries c.self.invariant (rw (← c.self.view_is) at c.requires.sized) c.clear.ensures.clears c.come-came.new.granted c.come-came.new.entries.entries c.come-came.new.shown.keys c.requires.size.0 c.in-Err.ensures.none).1

pub returns-in-Ok-clause-adds : goal.returns-in-Ok-clause-adds
returns-in-Ok-clause-adds g c = rw (← c.self.view_is, c.count.ensures) (came_one _ c.self.inside.entries.cap c.args.size c.args.now c.args.shown c.clear.new.granted c.clear.new.entries.entries c.self.invariant (rw (← c.self.view_is) at c.requires.sized) c.clear.ensures.clears c.come-came.new.granted c.come-came.new.entries.entries c.come-came.new.shown.keys c.args.tile c.requires.size.0 (rw (← c.self.view_is) at c.requires.can.free) c.requires.made (rw (← c.self.view_is) at c.requires.can.lost) c.in-Ok.ensures.comes).0.0

pub returns-in-Ok-clause-bytes : goal.returns-in-Ok-clause-bytes
returns-in-Ok-clause-bytes g c = rw (← c.self.view_is) (came_one _ c.self.inside.entries.cap c.args.size c.args.now c.args.shown c.clear.new.granted c.clear.new.entries.entries c.self.invariant (rw (← c.self.view_is) at c.requires.sized) c.clear.ensures.clears c.come-came.new.granted c.come-came.new.entries.entries c.come-came.new.shown.keys c.args.tile c.requires.size.0 (rw (← c.self.view_is) at c.requires.can.free) c.requires.made (rw (← c.self.view_is) at c.requires.can.lost) c.in-Ok.ensures.comes).0.1

pub returns-in-Err-clause-used : goal.returns-in-Err-clause-used
returns-in-Err-clause-used g c = rw (← c.self.view_is) (came_none _ c.self.inside.entries.cap c.args.size c.args.now c.args.shown c.clear.new.granted c.clear.new.entries.entries c.self.invariant (rw (← c.self.view_is) at c.requires.sized) c.clear.ensures.clears c.come-came.new.granted c.come-came.new.entries.entries c.come-came.new.shown.keys c.requires.size.0 c.in-Err.ensures.none).0.1

pub returns-in-Ok-clause-steps : goal.returns-in-Ok-clause-steps
returns-in-Ok-clause-steps g c = rw (← c.self.view_is, c.count.ensures) (came_steps _ c.self.inside.entries.cap c.args.size c.args.now c.args.shown c.clear.new.granted c.clear.new.entries.entries c.self.invariant (rw (← c.self.view_is) at c.requires.sized) c.clear.ensures.clears c.come-came.new.granted c.come-came.new.entries.entries c.come-came.new.shown.keys c.args.tile c.in-Ok.ensures.comes)
