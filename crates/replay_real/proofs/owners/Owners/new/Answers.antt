use Rattle.std.proofs.Common.{sym, ap, subst, ◌∙◌, ◌++◌, ◌∷◌, [], List}
use Rattle.replay_real.specs.declared.owners.Given.{Given}
use Rattle.replay_real.specs.Owners.{nobody, ShowsEach}
use Rattle.replay_real.proofs.TableSteps.{each_new}
use Rattle.replay_real.proofs.owners.Owners.new.Goals as goal

pub returns-clause-shows : goal.returns-clause-shows
returns-clause-shows c =
    subst (λ (t : List Given). ShowsEach [] t) (sym (c.in_ok-push.ensures.items ∙ ap (λ (xs : List Given). xs ++ nobody ∷ []) c.new-given.ensures.items)) each_new
