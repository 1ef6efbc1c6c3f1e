use Rattle.std.proofs.Common.{◌-◌, sym, ap, ◌∙◌, ℕ}
use Rattle.machine.specs.declared.event.Answer.TheVariants.{Counted}
use Rattle.machine.specs.Answers.{answered}
use Rattle.replay_plain.proofs.Following.{all_counted, not_kept, counted_not_misuse}
use Rattle.replay_plain.proofs.Effects.{returned_begun}
use Rattle.replay_plain.proofs.known.KnownSegments.counted.Goals as goal

pub returns-in-Some : goal.returns-in-Some
returns-in-Some c = λ events w is.
    all_counted events c.args.id c.args.self.now _ _ w is (sym c.in-Some.ensures) (c.lose.ensures.items ∙ c.set.ensures.items)
    (c.lose.ensures.pages ∙ ap (λ (p : ℕ). p - c.in-Some.segment.pages) c.set.ensures.pages)

pub returns-in_default : goal.returns-in_default
returns-in_default c = λ events w is.
    absurd (not_kept events c.args.self.now c.args.id w (sym c.in_default.ensures) (returned_begun (answered events) c.args.id Counted is counted_not_misuse))
