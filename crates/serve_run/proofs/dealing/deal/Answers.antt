use Rattle.std.proofs.Common.{◌≡◌, ℕ, length, refl, ap, sym, subst, arith}
use Rattle.serve_run.specs.Dealing.{AreOf, AreDealt}
use Rattle.serve_run.proofs.PlacesAreDealt.{none_empty}
use Rattle.serve_run.proofs.dealing.deal.Goals as goal

pub loop-number-init : goal.loop-number-init
loop-number-init g c = (
  refl,
  c.requires.room,
  c.requires.dealt,
  (λ i d low. none_empty _ (c.requires.dealt i d low)),
  ap (λ (n : ℕ). record c.args.frame.now { given = n }) c.requires.none,
)

pub hand_on-requires-clause-known : goal.hand_on-requires-clause-known
hand_on-requires-clause-known g c = subst (λ (n : ℕ). AreOf n c.args.requests.now) (sym c.loop-number.invariant.0) c.requires.known

pub returns-clause-dealt : goal.returns-clause-dealt
returns-clause-dealt g c =
    let whole : c.loop-number.number ≡ length c.args.requests.now = omega (arith, c.loop-number-test.false, c.loop-number.auto.number-end) in
    subst (λ (n : ℕ). AreDealt (λ worker. worker.places.items) c.args.requests.now n c.loop-number.workers) whole c.loop-number.invariant.2
