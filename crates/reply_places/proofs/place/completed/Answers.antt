use Rattle.std.proofs.Common.{◌≡◌, ◌+◌, ◌-◌, ◌∙◌, ◌++◌, ◌∷◌, [], ap, sym, arith, replicate, append_assoc}
use Rattle.std.proofs.lemmas.List.{replicate-append-replicate}
use Rattle.reply_places.proofs.place.completed.Goals as goal

pub loop-preserved : goal.loop-preserved
loop-preserved c =
    let n = c.loop.counter - c.args.buf.len in
    let more : n + 1 ≡ c.loop.counter + 1 - c.args.buf.len = omega (arith, c.loop.invariant.1) in (
      c.push_reserved.ensures.items ∙ ap (λ xs. xs ++ 0 ∷ []) c.loop.invariant.0 ∙ append_assoc c.args.buf.items (replicate n 0) (0 ∷ [])
          ∙ ap (λ xs. c.args.buf.items ++ xs) (replicate-append-replicate n 1 0 ∙ ap (λ k. replicate k 0) more),
      omega (arith, c.loop.invariant.1),
      omega (arith, c.push_reserved.ensures.len, c.loop.invariant.2),
      c.push_reserved.ensures.in_place ∙ c.loop.invariant.3,
      c.push_reserved.ensures.capacity ∙ c.loop.invariant.4,
    )
