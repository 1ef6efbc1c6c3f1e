use Rattle.std.proofs.Common.{◌≡◌, ◌+◌, ◌-◌, ◌∷◌, [], ◌++◌, ap, sym, ◌∙◌, arith}
use Rattle.span_heap.specs.Table.{row_places}
use Rattle.span_heap.proofs.SegmentsJoinTheTable.{row_places_more}
use Rattle.span_heap.proofs.row.new_places.Goals as goal

pub loop-place-preserved : goal.loop-place-preserved
loop-place-preserved c =
    let so_far = c.loop-place.place - c.args.size in
    let more : c.loop-place.place + 1 - c.args.size ≡ so_far + 1 = omega (arith, c.loop-place.auto.place) in
    let here : c.args.size + so_far ≡ c.loop-place.place = omega (arith, c.loop-place.auto.place) in
    c.in_ok-push.ensures.items ∙ (ap (λ xs. xs ++ c.loop-place.place ∷ []) c.loop-place.invariant
    ∙ (row_places_more c.args.spare.now c.args.keep c.args.size so_far c.loop-place.place here ∙ ap (row_places c.args.spare.now c.args.keep c.args.size) (sym more)))
