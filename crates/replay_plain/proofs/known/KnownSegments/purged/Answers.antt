use Rattle.std.proofs.Common.{◌-◌, sym, ap, ◌∙◌, ℕ}
use Rattle.machine.specs.declared.event.Answer.TheVariants.{Taken}
use Rattle.machine.specs.Answers.{answered}
use Rattle.replay_plain.proofs.Following.{all_taken, not_kept, taken_not_misuse}
use Rattle.replay_plain.proofs.Effects.{tried_live, live_begun}
use Rattle.replay_plain.proofs.known.KnownSegments.purged.Goals as goal

pub returns-in_default-clause-tells : goal.returns-in_default-clause-tells
returns-in_default-clause-tells c = λ events now w is.
    absurd (not_kept events c.args.self.now c.args.id w (sym c.in_default.ensures)
    (live_begun (answered events) c.args.id (tried_live (answered events) c.args.id now Taken is taken_not_misuse)))

pub returns-in_default-clause-known : goal.returns-in_default-clause-known
returns-in_default-clause-known c = λ events now w is.
    absurd (not_kept events c.args.self.now c.args.id w (sym c.in_default.ensures)
    (live_begun (answered events) c.args.id (tried_live (answered events) c.args.id now Taken is taken_not_misuse)))

pub returns-clause-tells : goal.returns-clause-tells
returns-clause-tells c = λ events now w is.
    all_taken events c.args.id now c.args.self.now _ _ w is (sym c.in-Some.ensures) (c.lose.ensures.items ∙ c.set.ensures.items)
    (c.lose.ensures.pages ∙ ap (λ (p : ℕ). p - c.in-Some.segment.pages) c.set.ensures.pages)

pub returns-clause-known : goal.returns-clause-known
returns-clause-known c = λ events now w is. (w.each c.args.id _ (sym c.in-Some.ensures)).known
