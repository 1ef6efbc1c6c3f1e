use Rattle.std.proofs.Common.{refl, sym, ap, subst, ◌∙◌, ◌∷◌, max, ℕ, arith}
use Rattle.machine.specs.declared.event.Event.TheVariants.{Unlock}
use Rattle.machine.specs.declared.event.Answer.TheVariants.{Idle}
use Rattle.machine.specs.KeptSegment.{KeptSegment}
use Rattle.machine.specs.Segments.{Shows}
use Rattle.machine.proofs.Untouched.{shows_misuse}
use Rattle.segment.specs.Owned.{Owned}
use Rattle.page_locks.specs.Locks.{locked_count}
use Rattle.replay_real.specs.Owner.{kept_by}
use Rattle.replay_real.proofs.OwnerSteps.{unlock_refused, unlock_taken, still_held_answer, still_held_after, idle_answer, idle_after, holds_some}
use Rattle.replay_real.proofs.owner.Owner.unlock.Goals as goal

pub returns-then-not-is_locked-clause-answer : goal.returns-then-not-is_locked-clause-answer
returns-then-not-is_locked-clause-answer c = λ h s w.
    unlock_refused h s c.args.first c.args.count c.args.now (kept_by c.self.inside.side c.self.inside.locks) _ (subst (λ (k : KeptSegment). Shows h s k) (sym c.self.view_is) w) c.if-not-is_locked.ensures refl

pub returns-then-not-is_locked-clause-after : goal.returns-then-not-is_locked-clause-after
returns-then-not-is_locked-clause-after c = λ h s w. shows_misuse h (Unlock s c.args.first c.args.count c.args.now) s c.args.self.now w

pub returns-then-staying-gt0-clause-answer : goal.returns-then-staying-gt0-clause-answer
returns-then-staying-gt0-clause-answer c = λ h s before.
    let kept = kept_by c.self.inside.side c.self.inside.locks in
    let w = subst (λ (k : KeptSegment). Shows h s k) (sym c.self.view_is) before in
    still_held_answer h s c.args.first c.args.count c.args.now _ kept c.unlock.new.self w
    (unlock_taken h s c.args.first c.args.count c.args.now kept _ w refl c.if-not-is_locked.ensures refl c.requires)
    c.unlock.ensures (omega arith) (omega arith)

pub returns-then-staying-gt0-clause-after : goal.returns-then-staying-gt0-clause-after
returns-then-staying-gt0-clause-after c = λ h s before.
    still_held_after h s c.args.first c.args.count c.args.now _ c.self.inside.side c.self.inside.locks c.unlock.new.self
    (subst (λ (k : KeptSegment). Shows h s k) (sym c.self.view_is) before) c.unlock.ensures

pub returns-clause-answer : goal.returns-clause-answer
returns-clause-answer c = λ h s before.
    let kept = kept_by c.self.inside.side c.self.inside.locks in
    let w = subst (λ (k : KeptSegment). Shows h s k) (sym c.self.view_is) before in
    ap Idle (c.last.ensures ∙ ap (λ (o : Owned). o.last) c.unlock-2.ensures)
    ∙ idle_answer h s c.args.first c.args.count c.args.now (locked_count c.unlock.new.self) kept c.unlock.new.self w
    (unlock_taken h s c.args.first c.args.count c.args.now kept _ w refl c.if-not-is_locked.ensures refl c.requires)
    c.unlock.ensures refl (omega arith)

pub returns-clause-after : goal.returns-clause-after
returns-clause-after c = λ h s before.
    let w = subst (λ (k : KeptSegment). Shows h s k) (sym c.self.view_is) before in
    let a = c.if-not-is_locked.ensures.0 refl in
    let some = a.some in let counted = c.unlock.ensures.counted in
    let side = c.self.inside.side in
    let holds = holds_some side.phase _ c.self.invariant.holds (omega arith) in
    let after = idle_after h s c.args.first c.args.count c.args.now side c.self.inside.locks c.unlock.new.self holds w c.unlock.ensures in
    subst (λ (n : ℕ). Shows ((Unlock s c.args.first c.args.count c.args.now, Idle n) ∷ h) s (kept_by c.unlock-2.new.self c.unlock.new.self))
    (sym (c.last.ensures ∙ ap (λ (o : Owned). o.last) c.unlock-2.ensures))
    (subst (λ (o : Owned). Shows ((Unlock s c.args.first c.args.count c.args.now, Idle (max c.args.now side.last)) ∷ h) s (kept_by o c.unlock.new.self))
    (sym c.unlock-2.ensures) after)
