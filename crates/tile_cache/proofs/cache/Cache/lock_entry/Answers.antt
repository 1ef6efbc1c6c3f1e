use Rattle.tile_cache.proofs.CallsDone.{found_owned, lock_done}
use Rattle.tile_cache.proofs.cache.Cache.lock_entry.Goals as goal

pub lock-requires-clause-owned : goal.lock-requires-clause-owned
lock-requires-clause-owned g c =
    (found_owned c.self.inside.granted.client c.args.tile c.self.inside.entries.entries c.in_ok-piece.piece.now c.self.invariant.entries (rw (← c.self.view_is) at c.requires.free) c.in_ok-piece.ensures.value).0

pub lock-requires-clause-free : goal.lock-requires-clause-free
lock-requires-clause-free g c =
    (found_owned c.self.inside.granted.client c.args.tile c.self.inside.entries.entries c.in_ok-piece.piece.now c.self.invariant.entries (rw (← c.self.view_is) at c.requires.free) c.in_ok-piece.ensures.value).1

pub invariant_of-self-2 : goal.invariant_of-self-2
invariant_of-self-2 g c =
    (lock_done _ c.self.inside.entries.cap c.self.invariant c.lock.new.self c.lock.ensures.same c.args.tile c.in_ok-piece.piece.now c.lock.new.piece c.lock.result (rw (← c.self.view_is) at c.requires.free) c.len.ensures.valid.0 c.len.ensures.valid.1 c.in_ok-piece.ensures.value c.lock.ensures.locks c.lock.ensures.leaves c.lock.ensures.piece).1

pub returns : goal.returns
returns g c =
    rw (← c.self.view_is) (lock_done _ c.self.inside.entries.cap c.self.invariant c.lock.new.self c.lock.ensures.same c.args.tile c.in_ok-piece.piece.now c.lock.new.piece c.lock.result (rw (← c.self.view_is) at c.requires.free) c.len.ensures.valid.0 c.len.ensures.valid.1 c.in_ok-piece.ensures.value c.lock.ensures.locks c.lock.ensures.leaves c.lock.ensures.piece).0
