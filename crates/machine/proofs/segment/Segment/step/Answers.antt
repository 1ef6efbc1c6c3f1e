use Rattle.std.proofs.Common.{◌≡◌, sym, ap, ◌∙◌, subst, ℕ}
use Rattle.machine.specs.declared.event.Event.{Event}
use Rattle.machine.specs.History.{number_of}
use Rattle.machine.specs.Answers.{answer_of}
use Rattle.machine.specs.Segments.{Shows}
use Rattle.machine.proofs.Untouched.{shows_misuse}
use Rattle.machine.proofs.Told.{grant_again}
use Rattle.machine.proofs.segment.Segment.step.Goals as goal

pub returns-in-Grant-clause-answer : goal.returns-in-Grant-clause-answer
returns-in-Grant-clause-answer c = λ h s w e.
    let is = c.in-Grant.is in
    let number : c.in-Grant.id ≡ s = sym (ap number_of is) ∙ e in
    grant_again h c.in-Grant.id c.in-Grant.client c.in-Grant.pages c.args.self.now (subst (λ (n : ℕ). Shows h n c.args.self.now) (sym number) w)
    ∙ sym (ap (λ (event : Event). answer_of h event) is)

pub returns-in-Grant-clause-after : goal.returns-in-Grant-clause-after
returns-in-Grant-clause-after c = λ h s w e. shows_misuse h c.args.event.now s c.args.self.now w
