use Rattle.std.proofs.Common.{sym}
use Rattle.machine.specs.declared.event.Answer.TheVariants.{Purged}
use Rattle.machine.specs.Answers.{answered}
use Rattle.replay_plain.proofs.Following.{all_returned, not_kept, purged_not_misuse}
use Rattle.replay_plain.proofs.Effects.{returned_begun}
use Rattle.replay_plain.proofs.known.KnownSegments.returned.Goals as goal

pub returns-in-Some : goal.returns-in-Some
returns-in-Some c = λ events w is.
    all_returned events c.args.id c.args.self.now _ _ w is (sym c.in-Some.ensures) c.set.ensures.items c.set.ensures.pages

pub returns-in_default : goal.returns-in_default
returns-in_default c = λ events w is.
    absurd (not_kept events c.args.self.now c.args.id w (sym c.in_default.ensures) (returned_begun (answered events) c.args.id Purged is purged_not_misuse))
