use Rattle.std.proofs.Common.{◌≡◌, sym, ap, ◌∙◌}
use Rattle.std.proofs.lemmas.Result.{IfOk-weaker, on_err_weaker}
use Rattle.manager_state.specs.Calls.{limit_under}
use Rattle.manager_state.specs.declared.answers.Level.{Level}
use Rattle.manager_state.proofs.state.State.pressure.Goals.{in-Moderate, in-Critical}
use Rattle.manager_state.proofs.state.State.pressure.Goals as goal

pub returns-clause-ok : goal.returns-clause-ok
returns-clause-ok c =
    let is : c.match-level.limit ≡ limit_under c.args.level c.self.inside.limit = elim c.match-level.branch [
      | in-Moderate w ↦ w.limit-is ∙ sym (ap (λ (level : Level). limit_under level c.self.inside.limit) w.in-Moderate.is)
      | in-Critical w ↦ w.limit-is ∙ sym (ap (λ (level : Level). limit_under level c.self.inside.limit) w.in-Critical.is)
    ] in
    rw (← c.self.view_is, ← is) (IfOk-weaker c.reduce_to.result _ _ (λ reduced told. told c.self.inside.limit) c.reduce_to.ensures.ok)

pub returns-clause-err : goal.returns-clause-err
returns-clause-err c = rw (← c.self.view_is) (on_err_weaker c.reduce_to.result (λ same. same c.self.inside.limit) c.reduce_to.ensures.err)
