use Rattle.std.proofs.Common.{rules, ◌≡◌, ◌+◌, ◌-◌, ◌++◌, ◌∷◌, [], sym, ◌∙◌, ap, arith}
use Rattle.std.proofs.lemmas.List.Elements.{Contains-push}
use Rattle.std.proofs.lemmas.Option.{none-some}
use Rattle.std.proofs.lemmas.Bool.{false≢true}
use Rattle.span_heap.specs.Runs.{front_of, rest_of}
use Rattle.span_heap.proofs.SearchTakesThePick.{pick-none}
use Rattle.span_heap.proofs.CountsAreKept.{pushed}
use Rattle.span_heap.proofs.HeapOverTheTable.{can_carve, kept_as}
use Rattle.span_heap.proofs.heap.Heap.search.Goals as goal

pub take_free-requires : goal.take_free-requires
take_free-requires c =
    let h = c.self.inside in
    let same : c.args.pages + c.args.slack - c.args.pages ≡ c.args.slack = omega arith in
    let picked = sym (rw same at c.in_ok-run.ensures) in
    (can_carve h.table c.args.pages c.args.slack h.pages h.free_pages c.in_ok-run.run' c.self.invariant picked c.requires.sized).there

pub add_used-requires-clause-lies : goal.add_used-requires-clause-lies
add_used-requires-clause-lies c =
    let h = c.self.inside in
    let same : c.args.pages + c.args.slack - c.args.pages ≡ c.args.slack = omega arith in
    let picked = sym (rw same at c.in_ok-run.ensures) in
    rw (c.take_free.ensures.segments, c.front-front.ensures)
    ((can_carve h.table c.args.pages c.args.slack h.pages h.free_pages c.in_ok-run.run' c.self.invariant picked c.requires.sized).lies)

pub add_used-requires-clause-not_free : goal.add_used-requires-clause-not_free
add_used-requires-clause-not_free c =
    let h = c.self.inside in
    let same : c.args.pages + c.args.slack - c.args.pages ≡ c.args.slack = omega arith in
    let picked = sym (rw same at c.in_ok-run.ensures) in
    rw (c.take_free.ensures.free, c.front-front.ensures)
    ((can_carve h.table c.args.pages c.args.slack h.pages h.free_pages c.in_ok-run.run' c.self.invariant picked c.requires.sized).not_free)

pub add_used-requires-clause-not_used : goal.add_used-requires-clause-not_used
add_used-requires-clause-not_used c =
    let h = c.self.inside in
    let same : c.args.pages + c.args.slack - c.args.pages ≡ c.args.slack = omega arith in
    let picked = sym (rw same at c.in_ok-run.ensures) in
    rw (c.take_free.ensures.used, c.front-front.ensures)
    ((can_carve h.table c.args.pages c.args.slack h.pages h.free_pages c.in_ok-run.run' c.self.invariant picked c.requires.sized).not_used)

pub add_used-requires-clause-small : goal.add_used-requires-clause-small
add_used-requires-clause-small c =
    let h = c.self.inside in
    let same : c.args.pages + c.args.slack - c.args.pages ≡ c.args.slack = omega arith in
    let picked = sym (rw same at c.in_ok-run.ensures) in
    rw (c.take_free.ensures.used, c.front-front.ensures)
    ((can_carve h.table c.args.pages c.args.slack h.pages h.free_pages c.in_ok-run.run' c.self.invariant picked c.requires.sized).small)

pub add_rest-requires-clause-come : goal.add_rest-requires-clause-come
add_rest-requires-clause-come c =
    let h = c.self.inside in
    let same : c.args.pages + c.args.slack - c.args.pages ≡ c.args.slack = omega arith in
    let picked = sym (rw same at c.in_ok-run.ensures) in
    let can = can_carve h.table c.args.pages c.args.slack h.pages h.free_pages c.in_ok-run.run' c.self.invariant picked c.requires.sized in
    λ more. record {
      lies = rw (c.add_used.ensures.segments, c.take_free.ensures.segments) (can.back_lies more);
      not_free = rw (c.add_used.ensures.free, c.take_free.ensures.free) (can.back_not_free more);
      not_used = rw (c.add_used.ensures.used, c.take_free.ensures.used, c.front-front.ensures) (can.back_not_used more);
      small = rw (c.add_used.ensures.free, c.take_free.ensures.free) (can.back_small more);
    }

pub add_rest-requires-clause-end : goal.add_rest-requires-clause-end
add_rest-requires-clause-end c =
    let h = c.self.inside in
    let same : c.args.pages + c.args.slack - c.args.pages ≡ c.args.slack = omega arith in
    let picked = sym (rw same at c.in_ok-run.ensures) in
    (can_carve h.table c.args.pages c.args.slack h.pages h.free_pages c.in_ok-run.run' c.self.invariant picked c.requires.sized).end

pub overflow_sub-self : goal.overflow_sub-self
overflow_sub-self c =
    let h = c.self.inside in
    let same : c.args.pages + c.args.slack - c.args.pages ≡ c.args.slack = omega arith in
    let picked = sym (rw same at c.in_ok-run.ensures) in
    (can_carve h.table c.args.pages c.args.slack h.pages h.free_pages c.in_ok-run.run' c.self.invariant picked c.requires.sized).low

pub invariant_of-self : goal.invariant_of-self
invariant_of-self c =
    let h = c.self.inside in
    let same : c.args.pages + c.args.slack - c.args.pages ≡ c.args.slack = omega arith in
    let picked = sym (rw same at c.in_ok-run.ensures) in
    let can = can_carve h.table c.args.pages c.args.slack h.pages h.free_pages c.in_ok-run.run' c.self.invariant picked c.requires.sized in
    kept_as c.add_rest.new.self h.table.segments (h.table.used ++ front_of c.in_ok-run.run' c.args.pages ∷ []) _ h.pages _
    (c.add_rest.ensures.segments ∙ (c.add_used.ensures.segments ∙ c.take_free.ensures.segments))
    (c.add_rest.ensures.used ∙ (c.add_used.ensures.used ∙ (ap (λ u. u ++ c.front-front.result ∷ []) c.take_free.ensures.used ∙ ap (λ r. h.table.used ++ r ∷ []) c.front-front.ensures)))
    (c.add_rest.ensures.free ∙ ap (λ f. f ++ rest_of c.in_ok-run.run' c.args.pages) (c.add_used.ensures.free ∙ c.take_free.ensures.free))
    can.kept

pub returns-clause-free : goal.returns-clause-free
returns-clause-free c =
    let same : c.args.pages + c.args.slack - c.args.pages ≡ c.args.slack = omega arith in
    let picked = sym (rw same at c.in_ok-run.ensures) in
    rw (← c.self.view_is, picked)
    (c.add_rest.ensures.free ∙ ap (λ f. f ++ rest_of c.in_ok-run.run' c.args.pages) (c.add_used.ensures.free ∙ c.take_free.ensures.free))

pub returns-clause-used : goal.returns-clause-used
returns-clause-used c =
    let h = c.self.inside in
    let used = c.add_rest.ensures.used ∙ (c.add_used.ensures.used ∙ ap (λ u. u ++ c.front-front.result ∷ []) c.take_free.ensures.used) in
    rw (← c.self.view_is)
    (record {
      used = rw used (pushed h.table.used c.front-front.result);
      has = rw used (Contains-push h.table.used c.front-front.result);
      segments = c.add_rest.ensures.segments ∙ (c.add_used.ensures.segments ∙ c.take_free.ensures.segments);
    })

pub returns-clause-partition : goal.returns-clause-partition
returns-clause-partition c = (invariant_of-self c).partition

pub returns-in_err-run-clause-none_fits : goal.returns-in_err-run-clause-none_fits
returns-in_err-run-clause-none_fits c =
    let h = c.self.inside in
    let same : c.args.pages + c.args.slack - c.args.pages ≡ c.args.slack = omega arith in
    let none = sym (rw same at c.in_err-run.ensures) in
    (λ e. rw (← c.self.view_is) ((pick-none h.table.free c.args.pages c.args.slack).0 none), λ all. search rules)

pub returns-clause-none_fits : goal.returns-clause-none_fits
returns-clause-none_fits c =
    let h = c.self.inside in
    let same : c.args.pages + c.args.slack - c.args.pages ≡ c.args.slack = omega arith in
    let picked = sym (rw same at c.in_ok-run.ensures) in (
      λ e. absurd (false≢true (sym e)),
      λ all. absurd (none-some c.in_ok-run.run' (sym ((pick-none h.table.free c.args.pages c.args.slack).1 (rw (← c.self.view_is) at all)) ∙ picked)),
    )
