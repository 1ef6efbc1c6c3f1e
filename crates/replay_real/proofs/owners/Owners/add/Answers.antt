use Rattle.std.proofs.Common.{sym, ap, subst, ◌∙◌, ◌∷◌, List, length, Some}
use Rattle.machine.specs.declared.event.Event.TheVariants.{Grant}
use Rattle.machine.specs.declared.event.Answer.TheVariants.{Granted}
use Rattle.replay_real.specs.declared.owners.Given.{Given}
use Rattle.replay_real.specs.Owners.{ShowsEach}
use Rattle.replay_real.proofs.TableSteps.{each_push}
use Rattle.replay_real.proofs.owners.Owners.add.Goals as goal

pub returns-clause-shows : goal.returns-clause-shows
returns-clause-shows c = λ h id to w next.
    let pages = c.args.side.pages in
    let table = c.self.inside.given.items in
    subst (λ (t : List Given). ShowsEach ((Grant id to pages, Granted id) ∷ h) t) (sym c.in_ok-push.ensures.items)
    (each_push h id to pages table (record { client = c.args.client; owner = Some c.in_ok-owner.owner })
    (next ∙ sym (ap length c.self.view_is)) (subst (λ (t : List Given). ShowsEach h t) (sym c.self.view_is) w) (λ unknown. c.in_ok-owner.ensures h id to unknown))
