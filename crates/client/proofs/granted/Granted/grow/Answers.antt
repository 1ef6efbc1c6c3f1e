use Rattle.std.proofs.Common.{◌∙◌}
use Rattle.client.proofs.GivingBack.{balanced_grown, newer_unknown}
use Rattle.client.proofs.granted.Granted.grow.Goals as goal

pub adopt-requires-clause-unknown : goal.adopt-requires-clause-unknown
adopt-requires-clause-unknown g c = newer_unknown _ c.in_ok-side.side.id _ c.self.invariant.0.known c.in_ok-side.ensures.rises

pub invariant_of-self-in-Ok : goal.invariant_of-self-in-Ok
invariant_of-self-in-Ok g c = (
  balanced_grown _ _ _ _ _ _ _ _ _ _ _ _ c.args.pages c.in-Ok.piece c.in_ok-side.side c.self.invariant.0 c.in_ok-side.ensures.counted c.saturating_add-self-inside.ensures c.in_ok-side.ensures.returns c.in_ok-side.ensures.rises c.in_ok-side.ensures.greatest c.in-Ok.ensures.adopts,
  c.grant.ensures.standing ∙ c.self.invariant.1,
)

pub returns-in-Ok-clause-ok : goal.returns-in-Ok-clause-ok
returns-in-Ok-clause-ok g c =
    let granted = rw (c.max-size.ensures, c.standard.ensures.standard) at c.in_ok-side.ensures.side in
    rw (← c.self.view_is) (record {
      side = c.in_ok-side.side;
      unknown = newer_unknown _ c.in_ok-side.side.id _ c.self.invariant.0.known c.in_ok-side.ensures.rises;
      granted = granted;
      adopts = c.in-Ok.ensures.adopts;
    })
