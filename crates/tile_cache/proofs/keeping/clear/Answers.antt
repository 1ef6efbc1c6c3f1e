use Rattle.std.proofs.Common.{sym, ap}
use Rattle.tile_cache.proofs.CallsDone.{first_is_owned, clear_done}
use Rattle.tile_cache.proofs.keeping.clear.Goals as goal

pub free-requires-clause-owned : goal.free-requires-clause-owned
free-requires-clause-owned g c =
    first_is_owned c.args.granted.now.client c.args.entries.now.entries (c.in-Some.field-0-0, c.in-Some.piece) c.requires.owned (sym c.in-Some.ensures.value)

pub returns-in-Some-clause-clears : goal.returns-in-Some-clause-clears
returns-in-Some-clause-clears g c =
    rw c.in-Rebuilt.is (clear_done c.args.now c.free.result (c.in-Some.field-0-0, c.in-Some.piece) c.args.entries.now.entries c.pop_mru.new.self.entries c.args.granted.now c.free.new.self c.requires.owned c.requires.free (sym c.in-Some.ensures.value) (ap (λ l. l.entries) c.in-Some.ensures.entries) c.free.ensures.frees c.free.ensures.stay c.free.ensures.same)
