use Rattle.std.proofs.Common.{refl, sym, ◌∙◌}
use Rattle.std.proofs.lemmas.Result.{err_from_is_err_and}
use Rattle.tile_cache.specs.Getting.{others_of}
use Rattle.tile_cache.proofs.Gets.{got_kept, got_made, got_none, lent_kept, lent_counted, used_counted, made_is}
use Rattle.tile_cache.proofs.cache.Cache.show.Goals as goal

pub returns-in-Kept-clause-gets : goal.returns-in-Kept-clause-gets
returns-in-Kept-clause-gets g c = rw (c.count.ensures, c.in-Kept.is) (got_kept c.args.now c.args.tile c.args.self.now c.look_up-shown.new.self c.in-Kept.ensures)

pub returns-in-Kept-clause-lent : goal.returns-in-Kept-clause-lent
returns-in-Kept-clause-lent g c =
    let tile_of = g.M.TileMaker.tile_of c.args.maker.now in
    let size = g.M.TileMaker.tile_length c.args.maker.now in
    rw c.count.ensures (lent_counted c.args.tile (tile_of c.args.tile) c.look_up-shown.new.self _ (lent_kept tile_of size c.args.tile c.args.self.now c.look_up-shown.new.self c.in-Kept.ensures (c.look_up-shown.ensures.used tile_of size c.requires.used)))

pub returns-in-Kept-clause-used : goal.returns-in-Kept-clause-used
returns-in-Kept-clause-used g c =
    let tile_of = g.M.TileMaker.tile_of c.args.maker.now in
    let size = g.M.TileMaker.tile_length c.args.maker.now in
    rw c.count.ensures (used_counted tile_of size c.look_up-shown.new.self _ (c.look_up-shown.ensures.used tile_of size c.requires.used))

pub returns-in_err-add : goal.returns-in_err-add
returns-in_err-add g c =
    let tile_of = g.M.TileMaker.tile_of c.args.maker.now in
    let size = g.M.TileMaker.tile_length c.args.maker.now in
    let p = err_from_is_err_and c.from_residual.result c.from_residual.ensures.1 in
    let used = rw c.length.ensures at c.in_err-add.ensures.used in
    rw p.1 (record {
      gets = tt;
      lent = tt;
      fails = got_none c.args.now c.look_up-shown.result c.length.result c.args.tile c.args.self.now c.look_up-shown.new.self c.add.new.self c.in_default.not-Kept c.look_up-shown.ensures c.in_err-add.ensures.none;
      used = used tile_of (c.look_up-shown.ensures.used tile_of size c.requires.used);
      made = refl;
      same_tiles = refl;
      same_size = refl;
    })

pub fill-requires : goal.fill-requires
fill-requires g c =
    let tile_of = g.M.TileMaker.tile_of c.args.maker.now in
    let size = g.M.TileMaker.tile_length c.args.maker.now in
    let adds = c.in_ok-add.ensures.adds in
    let bytes = rw c.length.ensures at adds.bytes in
    let keeps = rw c.length.ensures at c.in_ok-add.ensures.bytes in
    record {
      tile = c.requires.tile;
      size = bytes;
      first = (adds.piece, others_of c.look_up-shown.result c.look_up-shown.new.self.entries, adds.entries, adds.locked);
      tiles = rw bytes (keeps tile_of (c.look_up-shown.ensures.used tile_of size c.requires.used));
    }

pub returns : goal.returns
returns g c = record {
  gets = got_made c.args.now c.look_up-shown.result c.length.result c.args.tile c.args.self.now c.look_up-shown.new.self c.add.new.self c.fill.new.self c.in_default.not-Kept c.look_up-shown.ensures c.in_ok-add.ensures.adds c.in_ok-add.ensures.steps c.fill.ensures.writes;
  lent = c.fill.ensures.lent;
  fails = tt;
  used = c.fill.ensures.used;
  made = c.fill.ensures.made ∙ sym (made_is c.look_up-shown.result (g.M.TileMaker.made c.args.maker.now) c.in_default.not-Kept);
  same_tiles = c.fill.ensures.same_tiles;
  same_size = c.fill.ensures.same_size;
}
