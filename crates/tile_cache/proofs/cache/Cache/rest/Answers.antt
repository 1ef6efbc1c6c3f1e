use Rattle.std.proofs.Common.{sym}
use Rattle.tile_cache.proofs.CacheSteps.{rests_same, free_all}
use Rattle.tile_cache.proofs.CallsDone.{first_owned, rest_done}
use Rattle.tile_cache.proofs.cache.Cache.rest.Goals as goal

pub returns-then-not-locked : goal.returns-then-not-locked
returns-then-not-locked g c =
    rw (← c.self.view_is) (rests_same _ _ (free_all c.self.inside.entries.entries (c.in-Some.tile.now, c.in-Some.piece.now) (sym c.in-Some.ensures) (sym c.if-not-locked.ensures) c.self.invariant.entries.free))

pub unlock-requires-clause-owned : goal.unlock-requires-clause-owned
unlock-requires-clause-owned g c =
    first_owned c.self.inside.granted.client c.self.inside.entries.entries (c.in-Some.tile.now, c.in-Some.piece.now) c.in-Some-peek_mut.piece.now c.self.invariant.entries (sym c.in-Some.ensures) c.in-Some-peek_mut.ensures.value

pub invariant_of-self : goal.invariant_of-self
invariant_of-self g c =
    (rest_done _ c.self.inside.entries.cap c.self.invariant c.unlock.new.self c.unlock.ensures.same (c.in-Some.tile.now, c.in-Some.piece.now) c.in-Some-peek_mut.piece.now c.unlock.new.piece c.args.now c.unlock.result (sym c.in-Some.ensures) (sym c.if-not-locked.ensures) c.in-Some-peek_mut.ensures.value c.unlock.ensures.unlocks c.unlock.ensures.leaves c.unlock.ensures.piece).1

pub returns : goal.returns
returns g c =
    rw (← c.self.view_is) (rest_done _ c.self.inside.entries.cap c.self.invariant c.unlock.new.self c.unlock.ensures.same (c.in-Some.tile.now, c.in-Some.piece.now) c.in-Some-peek_mut.piece.now c.unlock.new.piece c.args.now c.unlock.result (sym c.in-Some.ensures) (sym c.if-not-locked.ensures) c.in-Some-peek_mut.ensures.value c.unlock.ensures.unlocks c.unlock.ensures.leaves c.unlock.ensures.piece).0
