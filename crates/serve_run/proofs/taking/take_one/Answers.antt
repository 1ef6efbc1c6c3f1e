use Rattle.std.proofs.Common.{◌+◌, ap, ◌∙◌, sym, subst}
use Rattle.serve_session.specs.Served.{IsServed}
use Rattle.serve_run.proofs.ListsGrow.{taken_more}
use Rattle.serve_run.proofs.taking.take_one.Goals as goal

pub returns-clause-taken : goal.returns-clause-taken
returns-clause-taken g c = λ run n start so_far this.
    let told = c.into_parts-served.ensures in
    let parts = c.into_parts-served.result in
    let before = c.args.taken.now in
    taken_more run n start before.shares c.merge.new.self before.clients.items c.push.new.self.items
    parts.0 c.in_ok-push.ensures.items
    (c.merge.ensures.parts ∙ ap (λ t. before.shares.parts + t.parts) told.share)
    (c.merge.ensures.grants ∙ ap (λ t. before.shares.grants + t.grants) told.share)
    (c.merge.ensures.rounds ∙ ap (λ t. before.shares.rounds + t.rounds) told.share)
    told.few so_far
    (subst (λ s. IsServed run.cfg (n + 1) run.requests s) (sym told.served) this)
