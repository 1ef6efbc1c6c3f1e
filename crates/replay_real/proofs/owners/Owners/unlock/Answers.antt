use Rattle.std.proofs.Common.{refl, sym, ap, subst, length, List, arith}
use Rattle.machine.specs.declared.event.Event.TheVariants.{Unlock}
use Rattle.replay_real.specs.declared.owners.Given.{Given}
use Rattle.replay_real.specs.Owners.{ShowsEach}
use Rattle.replay_real.proofs.TableSteps.{misused, unknown_past, each_misused, each_set}
use Rattle.replay_real.proofs.owners.Owners.unlock.Goals as goal

pub returns-then-id-len-clause-answer : goal.returns-then-id-len-clause-answer
returns-then-id-len-clause-answer c = λ h w.
    let sized = ap length c.self.view_is in
    let counted = c.self.inside.given.ok.0 in
    let len = c.len.ensures in
    misused h (Unlock c.args.id c.args.first c.args.count c.args.now) c.args.id refl refl (unknown_past h c.args.self.now c.args.id (omega (arith, c.if-id-len.true)) w)

pub returns-then-id-len-clause-after : goal.returns-then-id-len-clause-after
returns-then-id-len-clause-after c = λ h w. each_misused h (Unlock c.args.id c.args.first c.args.count c.args.now) c.args.self.now w

pub returns-clause-after : goal.returns-clause-after
returns-clause-after c = λ h w.
    let counted = c.self.inside.given.ok.0 in
    let len = c.len.ensures in
    each_set h (Unlock c.args.id c.args.first c.args.count c.args.now) c.unlock.result c.self.inside.given.items c.args.id c.index_mut-given.result.now c.unlock.new.self refl c.index_mut-given.ensures.value
    (omega (arith, c.if-id-len.false)) (subst (λ (t : List Given). ShowsEach h t) (sym c.self.view_is) w) (λ at. c.unlock.ensures.after h c.args.id at)
