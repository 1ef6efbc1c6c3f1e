use Rattle.std.proofs.Common.{refl, sym, subst}
use Rattle.machine.specs.declared.event.Event.TheVariants.{Lock}
use Rattle.machine.specs.KeptSegment.{KeptSegment}
use Rattle.machine.specs.Segments.{Shows}
use Rattle.machine.proofs.Untouched.{shows_misuse}
use Rattle.replay_real.specs.Owner.{kept_by}
use Rattle.replay_real.proofs.OwnerSteps.{lock_refused, lock_held, lock_after}
use Rattle.replay_real.proofs.owner.Owner.lock.Goals as goal

pub returns-then-not-is_free-clause-answer : goal.returns-then-not-is_free-clause-answer
returns-then-not-is_free-clause-answer c = λ h s before _.
    lock_refused h s c.args.first c.args.count (kept_by c.self.inside.side c.self.inside.locks) (subst (λ (k : KeptSegment). Shows h s k) (sym c.self.view_is) before) c.if-not-is_free.ensures

pub returns-then-not-is_free-clause-after : goal.returns-then-not-is_free-clause-after
returns-then-not-is_free-clause-after c = λ h s w _. shows_misuse h (Lock s c.args.first c.args.count) s c.args.self.now w

pub returns-in-Held-clause-answer : goal.returns-in-Held-clause-answer
returns-in-Held-clause-answer c = λ h s before _.
    lock_held h s c.args.first c.args.count (kept_by c.self.inside.side c.self.inside.locks) (subst (λ (k : KeptSegment). Shows h s k) (sym c.self.view_is) before) refl c.in-Held.ensures.0 c.if-not-is_free.ensures

pub returns-in-Held-clause-after : goal.returns-in-Held-clause-after
returns-in-Held-clause-after c = λ h s before _.
    lock_after h s c.args.first c.args.count c.self.inside.side c.hold.new.side c.self.inside.locks c.lock.new.self (subst (λ (k : KeptSegment). Shows h s k) (sym c.self.view_is) before) c.in-Held.ensures c.lock.ensures
