use Rattle.std.proofs.Common.{◌≡◌, ◌*◌, ◌++◌, ◌∷◌, [], List, length, sym, ap, ◌∙◌, subst, All, arith}
use Rattle.std.proofs.lemmas.List.Elements.{All-push}
use Rattle.request_text.specs.declared.request.Request.{Request}
use Rattle.request_text.specs.Requests.{IsRequest}
use Rattle.drawn_workload.specs.Draws.{state_after}
use Rattle.drawn_workload.specs.Generated.{request_from, requests_from}
use Rattle.drawn_workload.proofs.Drawn.{no_draw, one_more, four_more}
use Rattle.drawn_workload.proofs.generated.draw_requests.Goals as goal

pub loop-init : goal.loop-init
loop-init c = (
  sym (no_draw c.args.draws.now),
  c.in_ok-requests.ensures.items,
  λ k d below. absurd (omega (arith, ap (λ (xs : List Request). length xs) c.in_ok-requests.ensures.items, below)),
  c.in_ok-requests.ensures.len,
)

pub loop-preserved : goal.loop-preserved
loop-preserved c =
    let pushed = c.in_ok-push.ensures.items in
    let one : c.draw_request.result ≡ request_from (state_after (4 * c.loop.counter) c.args.draws.now)
    = c.draw_request.ensures.request ∙ ap request_from c.loop.invariant.0 in (
      c.draw_request.ensures.moved ∙ ap (state_after 4) c.loop.invariant.0 ∙ four_more c.loop.counter c.args.draws.now,
      pushed
          ∙ ap (λ (xs : List Request). xs ++ c.draw_request.result ∷ []) c.loop.invariant.1
          ∙ ap (λ r. requests_from c.loop.counter c.args.draws.now ++ r ∷ []) one
          ∙ sym (one_more c.loop.counter c.args.draws.now),
      subst (λ (xs : List Request). All (IsRequest 4) xs) (sym pushed) (All-push (IsRequest 4) c.loop.requests.items c.draw_request.result c.loop.invariant.2 c.draw_request.ensures.lawful),
      omega (arith, c.in_ok-push.ensures.len, c.loop.invariant.3),
    )

pub returns-clause-requests : goal.returns-clause-requests
returns-clause-requests c =
    let last : c.loop.counter ≡ 512 = omega arith in
    c.from_vec.ensures ∙ c.loop.invariant.1 ∙ ap (λ n. requests_from n c.args.draws.now) last
