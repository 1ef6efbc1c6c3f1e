use Rattle.std.proofs.Common.{◌≡◌, refl, sym, ap, subst, ◌∙◌, length, ℕ, List, true, false}
use Rattle.machine.specs.declared.event.Event.TheVariants.{Write}
use Rattle.machine.specs.History.{put}
use Rattle.machine.specs.KeptSegment.{KeptSegment}
use Rattle.machine.specs.Segments.{Shows}
use Rattle.machine.proofs.Untouched.{shows_misuse}
use Rattle.machine.proofs.Told.{write_misuse, write_answer, plain_holds, plain_told}
use Rattle.replay_real.specs.Owner.{kept_by}
use Rattle.replay_real.proofs.OwnerSteps.{refill_is, write_after, holds_some}
use Rattle.replay_real.proofs.owner.Owner.write.Goals as goal

pub returns-then-not-holds-clause-answer : goal.returns-then-not-holds-clause-answer
returns-then-not-holds-clause-answer c = λ h s before.
    let kept = kept_by c.self.inside.side c.self.inside.locks in
    let w = subst (λ (k : KeptSegment). Shows h s k) (sym c.self.view_is) before in
    write_misuse h s c.args.place c.args.bytes.now (sym (plain_holds h s c.args.place (length c.args.bytes.now) kept false w refl (c.if-not-holds.ensures.told h s (w.held (plain_told h s kept w refl)))))

pub returns-then-not-holds-clause-after : goal.returns-then-not-holds-clause-after
returns-then-not-holds-clause-after c = λ h s w. shows_misuse h (Write s c.args.place c.args.bytes.now) s c.args.self.now w

pub returns-clause-answer : goal.returns-clause-answer
returns-clause-answer c = λ h s before.
    let kept = kept_by c.self.inside.side c.self.inside.locks in
    let w = subst (λ (k : KeptSegment). Shows h s k) (sym c.self.view_is) before in
    write_answer h s c.args.place c.args.bytes.now (sym (plain_holds h s c.args.place (length c.args.bytes.now) kept true w refl (c.if-not-holds.ensures.told h s (w.held (plain_told h s kept w refl)))))

pub returns-clause-after : goal.returns-clause-after
returns-clause-after c = λ h s before.
    let side = c.self.inside.side in
    let w = subst (λ (k : KeptSegment). Shows h s k) (sym c.self.view_is) before in
    let holds = holds_some side.phase _ c.self.invariant.holds (c.if-not-holds.ensures.locked refl) in
    let sized : length c.put.new.old ≡ length side.bytes = c.put.auto.old ∙ ap length c.bytes_mut.ensures.value in
    write_after h s c.args.place c.args.bytes.now _ side c.self.inside.locks holds w
    (refill_is side.bytes c.put.new.old sized ∙ c.put.ensures ∙ ap (λ (old : List ℕ). put c.args.place c.args.bytes.now old) c.bytes_mut.ensures.value)
