use Rattle.std.proofs.Common.{length, refl, ap, arith}
use Rattle.replay_real.proofs.BookGrows.{grows_same, grows_on}
use Rattle.replay_real.proofs.ReturningSteps.{hands_none, hands_next, hands_all}
use Rattle.replay_real.proofs.script_client.hand_in_all.Goals as goal

pub hand_back-requires-clause-taken : goal.hand_back-requires-clause-taken
hand_back-requires-clause-taken c = let taken = c.in-Some.ensures.taken.taken in omega arith

pub loop-side-init : goal.loop-side-init
loop-side-init c = (grows_same _ _ refl, hands_none _ _)

pub loop-side-preserved : goal.loop-side-preserved
loop-side-preserved c = (
  grows_on _ c.loop-side.state.entries _ c.loop-side.invariant.0 c.hand_back.ensures.book,
  hands_next _ _ c.loop-side.client c.take_any.new.self _ c.loop-side.state _ c.in-Some.side c.hand_back.result c.loop-side.invariant.1 c.in-Some.ensures.taken c.hand_back.ensures.hands,
)

pub loop-side-smaller : goal.loop-side-smaller
loop-side-smaller c =
    let fewer = c.in-Some.ensures.taken.leaves.fewer in
    let same = ap length c.hand_back.ensures.leases in
    omega arith

pub returns-clause-hands : goal.returns-clause-hands
returns-clause-hands c = hands_all _ _ c.loop-side.client _ _ c.loop-side.invariant.1 c.in_default.ensures.none.0 c.in_default.ensures.none.1
