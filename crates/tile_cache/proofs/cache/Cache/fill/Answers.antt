use Rattle.std.proofs.Common.{◌∙◌, refl}
use Rattle.tile_cache.proofs.Segments.{same_written}
use Rattle.tile_cache.proofs.CallsDone.{fill_done}
use Rattle.tile_cache.proofs.cache.Cache.fill.Goals as goal

pub invariant_of-self : goal.invariant_of-self
invariant_of-self g c = (fill_done _ c.self.inside.entries.cap c.self.invariant c.args.tile (g.M.TileMaker.tile_of c.args.maker.now) (rw (← c.self.view_is) at c.requires.first) c.in-Some.field-0-0.now c.in-Some.piece.now c.in-Some.ensures _ c.make_front.new.bytes (c.bytes_mut.ensures.only c.make_front.new.bytes (c.make_front.ensures.sized ∙ c.bytes_mut.ensures.sized)) refl refl refl (record { number = refl; standard = refl }) (same_written c.in-Some.piece.now.run c.make_front.new.bytes c.self.inside.granted.client) c.make_front.ensures.front (rw (← c.self.view_is) at c.requires.tiles)).1.1

pub returns-clause-lent : goal.returns-clause-lent
returns-clause-lent g c = (fill_done _ c.self.inside.entries.cap c.self.invariant c.args.tile (g.M.TileMaker.tile_of c.args.maker.now) (rw (← c.self.view_is) at c.requires.first) c.in-Some.field-0-0.now c.in-Some.piece.now c.in-Some.ensures _ c.make_front.new.bytes (c.bytes_mut.ensures.only c.make_front.new.bytes (c.make_front.ensures.sized ∙ c.bytes_mut.ensures.sized)) refl refl refl (record { number = refl; standard = refl }) (same_written c.in-Some.piece.now.run c.make_front.new.bytes c.self.inside.granted.client) c.make_front.ensures.front (rw (← c.self.view_is) at c.requires.tiles)).0.0

pub returns-clause-used : goal.returns-clause-used
returns-clause-used g c =
    let size = rw (← c.self.view_is) at c.requires.size in
    rw (← size) (fill_done _ c.self.inside.entries.cap c.self.invariant c.args.tile (g.M.TileMaker.tile_of c.args.maker.now) (rw (← c.self.view_is) at c.requires.first) c.in-Some.field-0-0.now c.in-Some.piece.now c.in-Some.ensures _ c.make_front.new.bytes (c.bytes_mut.ensures.only c.make_front.new.bytes (c.make_front.ensures.sized ∙ c.bytes_mut.ensures.sized)) refl refl refl (record { number = refl; standard = refl }) (same_written c.in-Some.piece.now.run c.make_front.new.bytes c.self.inside.granted.client) c.make_front.ensures.front (rw (← c.self.view_is) at c.requires.tiles)).0.1

pub returns-clause-writes : goal.returns-clause-writes
returns-clause-writes g c = rw (← c.self.view_is) (fill_done _ c.self.inside.entries.cap c.self.invariant c.args.tile (g.M.TileMaker.tile_of c.args.maker.now) (rw (← c.self.view_is) at c.requires.first) c.in-Some.field-0-0.now c.in-Some.piece.now c.in-Some.ensures _ c.make_front.new.bytes (c.bytes_mut.ensures.only c.make_front.new.bytes (c.make_front.ensures.sized ∙ c.bytes_mut.ensures.sized)) refl refl refl (record { number = refl; standard = refl }) (same_written c.in-Some.piece.now.run c.make_front.new.bytes c.self.inside.granted.client) c.make_front.ensures.front (rw (← c.self.view_is) at c.requires.tiles)).1.0
