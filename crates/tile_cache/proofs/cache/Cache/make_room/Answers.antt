use Rattle.std.proofs.Common.{ap, arith, ◌≤◌, length}
use Rattle.tile_cache.proofs.CallsDone.{room_done, last_there, last_owned}
use Rattle.tile_cache.proofs.cache.Cache.make_room.Goals as goal

pub free-requires-clause-owned : goal.free-requires-clause-owned
free-requires-clause-owned g c =
    last_owned c.self.inside.granted.client c.self.inside.entries.entries (c.in-Some.field-0-0, c.in-Some.piece) c.self.invariant.entries c.in-Some.ensures.value

pub invariant_of-self : goal.invariant_of-self
invariant_of-self g c =
    let few : length c.self.inside.entries.entries ≤ c.self.inside.entries.cap = c.len.ensures.valid.1 in
    let full : c.self.inside.most ≤ length c.self.inside.entries.entries = omega (arith, c.if-len-self.false, c.len.ensures.len) in
    rw (ap (λ l. l.cap) c.in-Some.ensures.entries) (room_done _ c.self.inside.entries.cap c.self.invariant c.free.new.self c.free.ensures.same (c.in-Some.field-0-0, c.in-Some.piece) c.pop_lru.new.self.entries c.free.result c.args.now (rw (← c.self.view_is) at c.requires.free) few full c.in-Some.ensures.value (ap (λ l. l.entries) c.in-Some.ensures.entries) c.free.ensures.frees c.free.ensures.stay).1

pub invariant_of-self-in_default : goal.invariant_of-self-in_default
invariant_of-self-in_default g c =
    absurd (last_there c.self.inside.entries.entries c.self.inside.most c.in_default.ensures.value c.self.invariant.some (omega (arith, c.if-len-self.false, c.len.ensures.len)))

pub returns-in-Some : goal.returns-in-Some
returns-in-Some g c =
    let few : length c.self.inside.entries.entries ≤ c.self.inside.entries.cap = c.len.ensures.valid.1 in
    let full : c.self.inside.most ≤ length c.self.inside.entries.entries = omega (arith, c.if-len-self.false, c.len.ensures.len) in
    rw (← c.self.view_is) (room_done _ c.self.inside.entries.cap c.self.invariant c.free.new.self c.free.ensures.same (c.in-Some.field-0-0, c.in-Some.piece) c.pop_lru.new.self.entries c.free.result c.args.now (rw (← c.self.view_is) at c.requires.free) few full c.in-Some.ensures.value (ap (λ l. l.entries) c.in-Some.ensures.entries) c.free.ensures.frees c.free.ensures.stay).0

pub returns-in_default : goal.returns-in_default
returns-in_default g c =
    absurd (last_there c.self.inside.entries.entries c.self.inside.most c.in_default.ensures.value c.self.invariant.some (omega (arith, c.if-len-self.false, c.len.ensures.len)))
