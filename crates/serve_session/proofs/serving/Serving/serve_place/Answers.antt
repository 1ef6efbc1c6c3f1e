use Rattle.std.proofs.Common.{◌≡◌, ◌∷◌, ◌++◌, [], ap, subst, ◌∙◌}
use Rattle.tile_source.specs.declared.tile.Tile.{Tile}
use Rattle.serve_session.specs.Running.{ServingValue, HasServed}
use Rattle.serve_session.proofs.PlacesAreServed.{tile_of}
use Rattle.serve_session.proofs.serving.Serving.serve_place.Goals as goal

pub returns-clause-served : goal.returns-clause-served
returns-clause-served g c asked granter few has =
    let run = c.args.self.now in
    let same : c.as_slice.result.now ≡ run.requests = c.as_slice.ensures ∙ ap (λ (r : ServingValue). r.requests) c.self.view_is in
    subst (λ (t : Tile). HasServed run (asked ++ t ∷ []) granter c.serve_tile.new.cache)
    (tile_of _ _ _ _ _ same c.number.ensures c.requires.within)
    (c.in_ok-serve_tile.ensures.served asked granter few has)
