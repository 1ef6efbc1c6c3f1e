use Rattle.std.proofs.Common.{◌≡◌, ◌+◌, length, length-append, arith, ap, subst, ◌∙◌}
use Rattle.tile_source.specs.Pgm.{head}
use Rattle.serve_texts.specs.Config.{IsServeCfg}
use Rattle.serve_session.specs.Tiling.{TilingValue, bytes_of}
use Rattle.serve_session.specs.Running.{ServingValue}
use Rattle.serve_session.proofs.Replies.{reply_fits, reply_written}
use Rattle.serve_session.proofs.Session.{used_with_maker, served_more}
use Rattle.serve_session.proofs.serving.Serving.serve_tile.Goals as goal

pub append-requires : goal.append-requires
append-requires g c =
    let run = c.args.self.now in
    let tiling : c.self.inside.tiling ≡ run.tiling = ap (λ (r : ServingValue). r.tiling) c.self.view_is in
    let front : length c.head.result.now ≡ length (head run.tiling.side run.tiling.side run.tiling.image.maxval) =
    ap length (c.head.ensures ∙ ap (λ (t : TilingValue). head t.side t.side t.image.maxval) tiling) in
    omega (arith, front, ap length c.requires.empty, reply_fits run.tiling c.args.tile g.L.Layout.size c.requires.sized)

pub append-requires-2 : goal.append-requires-2
append-requires-2 g c =
    let run = c.args.self.now in
    let tiling : c.self.inside.tiling ≡ run.tiling = ap (λ (r : ServingValue). r.tiling) c.self.view_is in
    let front : c.head.result.now ≡ head run.tiling.side run.tiling.side run.tiling.image.maxval =
    c.head.ensures ∙ ap (λ (t : TilingValue). head t.side t.side t.image.maxval) tiling in
    let back : c.in_ok-bytes.bytes.now ≡ bytes_of run.tiling c.args.tile = c.in_ok-bytes.ensures.bytes ∙ ap (λ f. f c.args.tile) c.requires.maker.tiles in
    let so_far : length c.append.new.self.bytes ≡ length c.args.place.now.bytes + length c.head.result.now =
    ap (λ p. length p.bytes) c.append.ensures ∙ length-append c.args.place.now.bytes c.head.result.now in
    omega (arith, so_far, ap length front, ap length back, ap length c.requires.empty, reply_fits run.tiling c.args.tile g.L.Layout.size c.requires.sized)

pub returns-clause-reply : goal.returns-clause-reply
returns-clause-reply g c =
    let run = c.args.self.now in
    let tiling : c.self.inside.tiling ≡ run.tiling = ap (λ (r : ServingValue). r.tiling) c.self.view_is in
    reply_written run.tiling c.args.tile _ _ _ _ _ c.requires.empty
    (ap (λ p. p.bytes) c.append.ensures) (ap (λ p. p.bytes) c.append-2.ensures)
    (c.head.ensures ∙ ap (λ (t : TilingValue). head t.side t.side t.image.maxval) tiling)
    (c.in_ok-bytes.ensures.bytes ∙ ap (λ f. f c.args.tile) c.requires.maker.tiles)

pub returns-clause-served : goal.returns-clause-served
returns-clause-served g c asked granter few has =
    let run = c.args.self.now in
    let lawful : IsServeCfg run.cfg = subst (λ (r : ServingValue). IsServeCfg r.cfg) c.self.view_is c.self.invariant.0 in
    let got = rw c.in_ok-bytes.was at c.get.follows.holds-at-none in
    served_more run asked granter c.args.tile c.in_ok-bytes.field-0-0 c.args.cache.now c.get.follows.lender-at-none c.rest.new.self lawful few has got.0.0 (used_with_maker run.tiling c.args.maker.now c.get.follows.lender-at-none c.requires.maker got.1) c.rest.ensures
