use Rattle.std.proofs.Common.{Bool, sym, ap, subst, cond, ◌∙◌, ◌∷◌}
use Rattle.machine.specs.declared.event.Answer.TheVariants.{Counted, Purged, Misuse}
use Rattle.machine.specs.declared.event.Event.TheVariants.{Back}
use Rattle.machine.specs.KeptSegment.{KeptSegment}
use Rattle.machine.specs.Segments.{Shows}
use Rattle.machine.specs.contracts.segment.Segment.{the_view}
use Rattle.machine.proofs.Untouched.{shows_misuse}
use Rattle.machine.proofs.Steps.{shows_counted, shows_purged}
use Rattle.machine.proofs.Told.{back_answer}
use Rattle.machine.proofs.segment.Segment.give_back.Goals as goal

pub returns-then-self-clause-answer : goal.returns-then-self-clause-answer
returns-then-self-clause-answer c = λ h s w.
    sym (ap (λ (b : Bool). cond b Purged (cond c.self.inside.ended Misuse Counted)) c.if-self.true)
    ∙ back_answer h s (the_view c.self.inside) (subst (λ (k : KeptSegment). Shows h s k) (sym c.self.view_is) w)

pub returns-then-self-clause-after : goal.returns-then-self-clause-after
returns-then-self-clause-after c = λ h s w.
    subst (λ (k : KeptSegment). Shows ((Back s, Purged) ∷ h) s k) (sym c.end.ensures)
    (shows_purged h s c.args.self.now w)

pub returns-then-self-2-clause-answer : goal.returns-then-self-2-clause-answer
returns-then-self-2-clause-answer c = λ h s w.
    sym (ap (λ (b : Bool). cond b Purged (cond c.self.inside.ended Misuse Counted)) c.if-self.false ∙ ap (λ (b : Bool). cond b Misuse Counted) c.if-self-2.true)
    ∙ back_answer h s (the_view c.self.inside) (subst (λ (k : KeptSegment). Shows h s k) (sym c.self.view_is) w)

pub returns-then-self-2-clause-after : goal.returns-then-self-2-clause-after
returns-then-self-2-clause-after c = λ h s w. shows_misuse h (Back s) s c.args.self.now w

pub returns-clause-answer : goal.returns-clause-answer
returns-clause-answer c = λ h s w.
    sym (ap (λ (b : Bool). cond b Purged (cond c.self.inside.ended Misuse Counted)) c.if-self.false ∙ ap (λ (b : Bool). cond b Misuse Counted) c.if-self-2.false)
    ∙ back_answer h s (the_view c.self.inside) (subst (λ (k : KeptSegment). Shows h s k) (sym c.self.view_is) w)

pub returns-clause-after : goal.returns-clause-after
returns-clause-after c = λ h s w.
    subst (λ (k : KeptSegment). Shows ((Back s, Counted) ∷ h) s k) (sym c.end-2.ensures)
    (shows_counted h s c.args.self.now w)
