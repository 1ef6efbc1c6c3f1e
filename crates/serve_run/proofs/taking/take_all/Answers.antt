use Rattle.std.proofs.Common.{◌+◌, ◌*◌, ◌≤◌, ℕ, ◌∙◌, sym, subst, length, IfSome, arith}
use Rattle.std.proofs.lemmas.List.{length_push}
use Rattle.std.proofs.lemmas.Iterator.Adapters.{YieldsList-from_vec}
use Rattle.std.proofs.lemmas.Iterator.Consumers.{YieldsList-turn, YieldsList-end}
use Rattle.serve_session.specs.Served.{IsServed, all_grants}
use Rattle.serve_run.specs.Working.{HasTaken}
use Rattle.serve_run.proofs.ListsGrow.{none_taken}
use Rattle.serve_run.proofs.taking.take_all.Goals as goal

pub loop-worker-init : goal.loop-worker-init
loop-worker-init g c = (none_taken c.args.run.now c.args.shares _ c.new.ensures.items, omega arith)

pub take_one-requires-clause-parts : goal.take_one-requires-clause-parts
take_one-requires-clause-parts g c =
    let gives = c.into_iter-worker-iterator.ensures.into_iter_gives in
    let at = YieldsList-turn (YieldsList-from_vec c.args.workers.items gives.0 (gives.1 ∙ c.args.workers.ok.0)) c.loop-worker.yielded c.loop-worker.worker-iterator c.loop-worker.yielded_by
    c.next.result c.next.new.self c.in-Some.worker c.in-Some.is c.next.ensures.steps in
    omega (arith, at.0, c.requires.all, c.requires.parts, c.loop-worker.invariant.0.parts)

pub take_one-requires-clause-grants : goal.take_one-requires-clause-grants
take_one-requires-clause-grants g c =
    let gives = c.into_iter-worker-iterator.ensures.into_iter_gives in
    let at = YieldsList-turn (YieldsList-from_vec c.args.workers.items gives.0 (gives.1 ∙ c.args.workers.ok.0)) c.loop-worker.yielded c.loop-worker.worker-iterator c.loop-worker.yielded_by
    c.next.result c.next.new.self c.in-Some.worker c.in-Some.is c.next.ensures.steps in
    let few : all_grants c.loop-worker.taken.clients.items ≤ length c.loop-worker.yielded * 4096 = c.loop-worker.invariant.0.few in
    omega (arith, at.0, c.requires.all, c.requires.few, c.requires.grants, c.loop-worker.invariant.0.grants, few)

pub loop-worker-preserved : goal.loop-worker-preserved
loop-worker-preserved g c =
    let gives = c.into_iter-worker-iterator.ensures.into_iter_gives in
    let workers = c.args.workers.items in
    let n : ℕ = length c.loop-worker.yielded in
    let at = YieldsList-turn (YieldsList-from_vec workers gives.0 (gives.1 ∙ c.args.workers.ok.0)) c.loop-worker.yielded c.loop-worker.worker-iterator c.loop-worker.yielded_by
    c.next.result c.next.new.self c.in-Some.worker c.in-Some.is c.next.ensures.steps in
    let told = c.requires.served n c.in-Some.worker at.0 in
    let this : IsServed c.args.run.now.cfg (n + 1) c.args.run.now.requests c.in-Some-ended.ended.served =
    subst (λ o. IfSome o (λ e. IsServed c.args.run.now.cfg (n + 1) c.args.run.now.requests e.served)) c.in-Some-ended.is
    (subst (λ d. IfSome d.ended (λ e. IsServed c.args.run.now.cfg (n + 1) c.args.run.now.requests e.served)) (sym at.1) told) in
    let longer = length_push c.loop-worker.yielded c.in-Some.worker in let before = c.loop-worker.invariant.1 in let one = c.in_ok-take_one.ensures.drained in (
      subst (λ k. HasTaken c.args.run.now k c.args.shares c.take_one.new.taken.shares c.take_one.new.taken.clients.items) (sym longer)
          (c.in_ok-take_one.ensures.taken c.args.run.now n c.args.shares c.loop-worker.invariant.0 this),
      omega (arith, longer, before, one),
    )

pub loop-worker-preserved-in_ok-take_one : goal.loop-worker-preserved-in_ok-take_one
loop-worker-preserved-in_ok-take_one g c =
    let gives = c.into_iter-worker-iterator.ensures.into_iter_gives in
    let workers = c.args.workers.items in
    let n : ℕ = length c.loop-worker.yielded in
    let at = YieldsList-turn (YieldsList-from_vec workers gives.0 (gives.1 ∙ c.args.workers.ok.0)) c.loop-worker.yielded c.loop-worker.worker-iterator c.loop-worker.yielded_by
    c.next.result c.next.new.self c.in-Some.worker c.in-Some.is c.next.ensures.steps in
    let told = c.requires.served n c.in-Some.worker at.0 in
    let this : IsServed c.args.run.now.cfg (n + 1) c.args.run.now.requests c.in-Some-ended.ended.served =
    subst (λ o. IfSome o (λ e. IsServed c.args.run.now.cfg (n + 1) c.args.run.now.requests e.served)) c.in-Some-ended.is
    (subst (λ d. IfSome d.ended (λ e. IsServed c.args.run.now.cfg (n + 1) c.args.run.now.requests e.served)) (sym at.1) told) in
    let longer = length_push c.loop-worker.yielded c.in-Some.worker in let before = c.loop-worker.invariant.1 in let one = c.in_ok-take_one.ensures.drained in (
      subst (λ k. HasTaken c.args.run.now k c.args.shares c.take_one.new.taken.shares c.take_one.new.taken.clients.items) (sym longer)
          (c.in_ok-take_one.ensures.taken c.args.run.now n c.args.shares c.loop-worker.invariant.0 this),
      omega (arith, longer, before, one),
    )

pub returns-clause-drained : goal.returns-clause-drained
returns-clause-drained g c =
    let gives = c.into_iter-worker-iterator.ensures.into_iter_gives in
    let over = YieldsList-end (YieldsList-from_vec c.args.workers.items gives.0 (gives.1 ∙ c.args.workers.ok.0)) c.loop-worker.yielded c.loop-worker.worker-iterator c.loop-worker.yielded_by
    c.next.result c.next.new.self c.in-None.is c.next.ensures.steps in
    omega (arith, c.loop-worker.invariant.1, over.1, c.requires.all)

pub take_one-requires-clause-drains : goal.take_one-requires-clause-drains
take_one-requires-clause-drains g c =
    let gives = c.into_iter-worker-iterator.ensures.into_iter_gives in
    let at = YieldsList-turn (YieldsList-from_vec c.args.workers.items gives.0 (gives.1 ∙ c.args.workers.ok.0)) c.loop-worker.yielded c.loop-worker.worker-iterator c.loop-worker.yielded_by
    c.next.result c.next.new.self c.in-Some.worker c.in-Some.is c.next.ensures.steps in
    omega (arith, at.0, c.requires.all, c.requires.few, c.requires.drains, c.loop-worker.invariant.1)

pub returns-clause-taken : goal.returns-clause-taken
returns-clause-taken g c =
    let gives = c.into_iter-worker-iterator.ensures.into_iter_gives in
    let over = YieldsList-end (YieldsList-from_vec c.args.workers.items gives.0 (gives.1 ∙ c.args.workers.ok.0)) c.loop-worker.yielded c.loop-worker.worker-iterator c.loop-worker.yielded_by
    c.next.result c.next.new.self c.in-None.is c.next.ensures.steps in
    subst (λ k. HasTaken c.args.run.now k c.args.shares c.loop-worker.taken.shares c.loop-worker.taken.clients.items)
    (over.1 ∙ c.requires.all) c.loop-worker.invariant.0
