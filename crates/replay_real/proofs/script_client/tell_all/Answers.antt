use Rattle.std.proofs.Common.{refl, sym, subst}
use Rattle.client.specs.Pieces.{AllStay}
use Rattle.client.proofs.PieceCalls.{all_on}
use Rattle.replay_real.proofs.Serving.{all_same, told_stays}
use Rattle.replay_real.proofs.BookGrows.{grows_same, grows_on, grows_back}
use Rattle.replay_real.proofs.ReturningSteps.{tells_none, tells_next, tells_all}
use Rattle.replay_real.proofs.script_client.tell_all.Goals as goal

pub loop-id-init : goal.loop-id-init
loop-id-init c = (all_same _, grows_same _ _ refl, tells_none _ _)

pub loop-id-preserved : goal.loop-id-preserved
loop-id-preserved c = (
  all_on _ c.loop-id.client _ c.loop-id.invariant.0 (subst (AllStay c.loop-id.client) (sym c.in-Some.ensures.told) (told_stays c.loop-id.client _)),
  grows_on _ c.loop-id.state.entries _ c.loop-id.invariant.1 (grows_back _ _ _ c.back.result c.loop-id.state c.back.new.self c.back.ensures),
  tells_next _ _ c.loop-id.client _ c.loop-id.state _ c.number-number.result c.in-Some.id c.back.result c.loop-id.invariant.2 c.in-Some.ensures.number c.in-Some.ensures.told c.number-number.ensures.number c.back.ensures,
)

pub returns-clause-stay : goal.returns-clause-stay
returns-clause-stay c = all_on _ c.loop-id.client _ c.loop-id.invariant.0 (subst (AllStay c.loop-id.client) (sym c.in_default.ensures.told) (told_stays c.loop-id.client _))

pub returns-clause-tells : goal.returns-clause-tells
returns-clause-tells c = tells_all _ _ c.loop-id.client _ _ c.loop-id.invariant.2 c.in_default.ensures.number c.in_default.ensures.told
