use Rattle.std.proofs.Common.{sym}
use Rattle.machine.specs.declared.event.Answer.TheVariants.{Used}
use Rattle.machine.specs.Answers.{answered}
use Rattle.replay_plain.proofs.Following.{all_used, not_kept, used_not_misuse}
use Rattle.replay_plain.proofs.Effects.{tried_live, live_begun}
use Rattle.replay_plain.proofs.known.KnownSegments.used.Goals as goal

pub returns-in-Some : goal.returns-in-Some
returns-in-Some c = λ events now w is.
    all_used events c.args.id now c.args.known c.args.self.now _ _ w is (sym c.in-Some.ensures) c.set.ensures.items c.set.ensures.pages

pub returns-in_default : goal.returns-in_default
returns-in_default c = λ events now w is.
    absurd (not_kept events c.args.self.now c.args.id w (sym c.in_default.ensures)
    (live_begun (answered events) c.args.id (tried_live (answered events) c.args.id now (Used c.args.known) is (used_not_misuse c.args.known))))
