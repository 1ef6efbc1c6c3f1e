use Rattle.tile_cache.proofs.CallsDone.{length_front, sized_first, lent_is, locked_first}
use Rattle.tile_cache.proofs.cache.Cache.shown_bytes.Goals as goal

pub bytes-requires-clause-locked : goal.bytes-requires-clause-locked
bytes-requires-clause-locked g c =
    let first = (rw (← c.self.view_is) at c.requires).1 in
    locked_first c.self.inside.entries.entries c.requires.0 c.in-Some.field-0-0.now first.0 c.in-Some.piece.now first.1 first.2 first.3 c.in-Some.ensures

pub slice_bounds-result-end : goal.slice_bounds-result-end
slice_bounds-result-end g c =
    length_front c.self.inside.tile_bytes c.in-Some.piece.now.run.pages c.bytes.result.now c.bytes.ensures.sized (sized_first c.self.inside.entries.entries c.in-Some.field-0-0.now c.in-Some.piece.now _ c.in-Some.ensures c.self.invariant.sized)

pub returns : goal.returns
returns g c = λ tile bytes lent.
    lent_is _ tile c.in-Some.field-0-0.now c.in-Some.piece.now bytes c.bytes.result.now c.in-Some.ensures c.bytes.ensures.value (rw (← c.self.view_is) at lent)
