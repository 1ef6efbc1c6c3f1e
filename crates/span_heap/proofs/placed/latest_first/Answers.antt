use Rattle.std.proofs.Common.{◌≡◌, zero, ◌<◌, [], ◌∷◌, ◌++◌, refl, sym, ap, subst, ◌∙◌, arith, length, map, reverse}
use mathlib.Core.List.{reverse-cons}
use Rattle.std.specs.List.{Contains}
use Rattle.std.proofs.lemmas.List.Elements.{Contains-append_right}
use Rattle.free_lists.specs.Lists.{list_of}
use Rattle.span_heap.specs.Placed.{run_at}
use Rattle.span_heap.proofs.ByClass.{last_or-none, rank_falls, at_cut, All-cut}
use Rattle.span_heap.proofs.placed.latest_first.Goals as goal

pub bounds-runs-place : goal.bounds-runs-place
bounds-runs-place c =
    let i = c.loop-at.invariant in
    let list = list_of c.args.order.now 1 in
    let cut = at_cut list i.0 i.1 c.loop-at.at c.in-Some.place i.2 i.3 c.in-Some.is in
    All-cut (λ place. place < length c.args.runs.now) list cut.0 i.1 c.in-Some.place cut.1 c.requires.within

pub before-at-requires : goal.before-at-requires
before-at-requires c =
    let i = c.loop-at.invariant in
    let cut = at_cut (list_of c.args.order.now 1) i.0 i.1 c.loop-at.at c.in-Some.place i.2 i.3 c.in-Some.is in
    (1, subst (λ list. Contains list c.in-Some.place) (sym cut.1) (Contains-append_right cut.0 (c.in-Some.place ∷ i.1) c.in-Some.place (zero, omega arith, refl)))

pub loop-at-smaller : goal.loop-at-smaller
loop-at-smaller c =
    let i = c.loop-at.invariant in
    let list = list_of c.args.order.now 1 in
    let cut = at_cut list i.0 i.1 c.loop-at.at c.in-Some.place i.2 i.3 c.in-Some.is in
    rw c.in-Some.is (rank_falls list cut.0 i.1 c.in-Some.place c.before-at.result c.requires.distinct cut.1 (c.before-at.ensures.each 1 cut.0 i.1 cut.1))

pub loop-at-preserved : goal.loop-at-preserved
loop-at-preserved c =
    let i = c.loop-at.invariant in
    let list = list_of c.args.order.now 1 in
    let cut = at_cut list i.0 i.1 c.loop-at.at c.in-Some.place i.2 i.3 c.in-Some.is in (
      cut.0,
      c.in-Some.place ∷ i.1,
      cut.1,
      c.before-at.ensures.each 1 cut.0 i.1 cut.1,
      c.in_ok-push.ensures.items ∙ (ap (λ xs. xs ++ run_at c.args.runs.now c.in-Some.place ∷ []) i.4 ∙ sym (reverse-cons (run_at c.args.runs.now c.in-Some.place) (map (run_at c.args.runs.now) i.1))),
    )

pub returns : goal.returns
returns c =
    let i = c.loop-at.invariant in
    let none : i.0 ≡ [] = last_or-none i.0 (sym i.3 ∙ c.in_default.is) in
    let all : list_of c.args.order.now 1 ≡ i.1 = i.2 ∙ ap (λ older. older ++ i.1) none in
    i.4 ∙ ap (λ xs. reverse (map (run_at c.args.runs.now) xs)) (sym all)
