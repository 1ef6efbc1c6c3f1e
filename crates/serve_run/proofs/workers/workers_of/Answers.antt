use Rattle.std.proofs.Common.{◌≡◌, ◌+◌, ◌≤◌, ◌∙◌, List, length, refl, ap, subst, arith, vec_capacity}
use Rattle.request_text.specs.declared.request.Request.{Request}
use Rattle.serve_session.specs.Places.{numbers_of}
use Rattle.serve_run.specs.Dealing.{HaveRoom, numbers_for}
use Rattle.serve_run.proofs.ListsGrow.{workers_more, no_workers}
use Rattle.serve_run.proofs.workers.workers_of.Goals as goal

pub loop-before-init : goal.loop-before-init
loop-before-init g c = (
  no_workers (λ worker. worker.places.items) (λ worker. vec_capacity worker.places) c.as_slice-requests.result.now _ c.new-workers.ensures.items,
  c.requires.pass,
  omega arith,
  refl,
  refl,
)

pub loop-before-preserved : goal.loop-before-preserved
loop-before-preserved g c =
    let requests = c.as_slice-requests.result.now in
    let fits : length (numbers_for requests (c.loop-before.before + 1) (length requests)) ≤ vec_capacity c.in_ok-places.places =
    omega (arith, c.count_of.ensures, c.in_ok-places.ensures.capacity) in (
      workers_more (λ worker. worker.places.items) (λ worker. vec_capacity worker.places) requests c.loop-before.before c.loop-before.workers.items c.push.new.self.items _
          c.loop-before.invariant.0 c.in_ok-push.ensures.items (ap numbers_of c.in_ok-places.ensures.items) fits,
      c.handle_for-handle.ensures.pass,
      omega (arith, c.handle_for-handle.ensures.parts, c.loop-before.invariant.2),
      c.handle_for-handle.ensures.grants ∙ c.loop-before.invariant.3,
      c.handle_for-handle.ensures.rounds ∙ c.loop-before.invariant.4,
    )

pub returns-clause-room : goal.returns-clause-room
returns-clause-room g c =
    let same : c.as_slice-requests.result.now ≡ c.args.run.now.requests = c.as_slice-requests.ensures ∙ c.requests.ensures.value in
    subst (λ (rs : List Request). HaveRoom (λ worker. vec_capacity worker.places) rs c.loop-before.workers.items) same
    (λ i d low. c.loop-before.invariant.0.room i d (omega (arith, low, c.loop-before.invariant.0.all)))
