use Rattle.std.proofs.Common.{arith}
use Rattle.script_heaps.proofs.PiecesAtPlaces.{took_one}
use Rattle.script_heaps.proofs.client_heap.take_all.Goals as goal

pub loop-place-preserved : goal.loop-place-preserved
loop-place-preserved c =
    let more = c.loop-place-test.true in
    let whole = c.len-place-end.ensures in
    let end = c.loop-place.auto.place-end in
    let counted = c.args.pieces.now.ok.0 in
    took_one c.args.pieces.now.items c.loop-place.pieces.items c.loop-place.place (omega arith) c.loop-place.invariant
