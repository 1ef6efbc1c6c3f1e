use Rattle.std.proofs.Common.{refl, sym, subst, Some, None}
use Rattle.std.specs.List.{Contains}
use Rattle.client.specs.Seen.{Seen}
use Rattle.client.proofs.TakingBack.{kept_here}
use Rattle.client.proofs.returning.give_back_side.Goals as goal

pub returns-in-Whole-clause-took : goal.returns-in-Whole-clause-took
returns-in-Whole-clause-took g c = (
  (c.args.side.id, Some c.in-Whole.block),
  (refl, c.in-Whole.ensures.after),
  rw (c.number-number.ensures.number, c.id-id.ensures) at c.give_back.ensures.took_back,
)

pub returns-in-Gone-clause-took : goal.returns-in-Gone-clause-took
returns-in-Gone-clause-took g c = (
  (c.args.side.id, None),
  (refl, c.in-Gone.side, (c.in-Gone.ensures.after, c.in-Gone.ensures.found), subst (λ (s : Seen). Contains s.gone c.in-Gone.side) (sym c.keep_gone.ensures.kept) (kept_here c.in-Gone.side c.args.client.now.told c.args.client.now.gone)),
  rw (c.number-number.ensures.number, c.id-id.ensures) at c.give_back-in-Gone.ensures.took_back,
)
