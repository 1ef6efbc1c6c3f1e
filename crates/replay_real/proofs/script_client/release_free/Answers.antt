use Rattle.std.proofs.Common.{length, refl, ap, arith}
use Rattle.client.proofs.PieceCalls.{all_on}
use Rattle.replay_real.proofs.Serving.{all_same}
use Rattle.replay_real.proofs.BookGrows.{grows_same, grows_on}
use Rattle.replay_real.proofs.ReturningSteps.{releases_none, releases_next, releases_all}
use Rattle.replay_real.proofs.script_client.release_free.Goals as goal

pub hand_back-requires-clause-taken : goal.hand_back-requires-clause-taken
hand_back-requires-clause-taken c = let taken = c.in-Some.ensures.taken.2.taken in omega arith

pub loop-side-init : goal.loop-side-init
loop-side-init c = (all_same _, grows_same _ _ refl, releases_none _ _)

pub loop-side-preserved : goal.loop-side-preserved
loop-side-preserved c = (
  all_on _ c.take_free.new.self _ (all_on _ c.loop-side.client _ c.loop-side.invariant.0 c.take_free.ensures.stay) c.hand_back.ensures.stay,
  grows_on _ c.loop-side.state.entries _ c.loop-side.invariant.1 c.hand_back.ensures.book,
  releases_next _ _ c.loop-side.client c.take_free.new.self _ c.loop-side.state _ c.in-Some.side c.hand_back.result c.loop-side.invariant.2 c.in-Some.ensures.taken c.hand_back.ensures.hands,
)

pub loop-side-smaller : goal.loop-side-smaller
loop-side-smaller c =
    let fewer = c.in-Some.ensures.taken.2.leaves.fewer in
    let same = ap length c.hand_back.ensures.leases in
    omega arith

pub returns-clause-stay : goal.returns-clause-stay
returns-clause-stay c = all_on _ c.loop-side.client _ c.loop-side.invariant.0 c.take_free.ensures.stay

pub returns-clause-releases : goal.returns-clause-releases
returns-clause-releases c = releases_all _ _ c.loop-side.client _ _ c.loop-side.invariant.2 c.in_default.ensures.none.0 c.in_default.ensures.none.1
