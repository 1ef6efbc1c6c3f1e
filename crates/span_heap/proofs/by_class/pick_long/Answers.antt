use Rattle.std.proofs.Common.{◌≡◌, zero, ◌-◌, ◌<◌, [], ◌∷◌, ◌++◌, refl, sym, ap, subst, ◌∙◌, arith, length, false}
use Rattle.std.specs.List.{Contains, All}
use Rattle.std.proofs.lemmas.List.Elements.{Contains-append_right, All-cons}
use Rattle.free_lists.specs.Lists.{list_of}
use Rattle.span_heap.specs.Pick.{fits}
use Rattle.span_heap.specs.Placed.{run_at}
use Rattle.span_heap.proofs.ByClass.{last_or-none, rank_falls, at_cut, All-cut}
use Rattle.span_heap.proofs.by_class.pick_long.Goals as goal

pub bounds-runs-place : goal.bounds-runs-place
bounds-runs-place c =
    let i = c.loop-at.invariant in
    let list = list_of c.args.lists.now 256 in
    let cut = at_cut list i.0 i.1 c.loop-at.at c.in-Some.place i.2 i.3 c.in-Some.is in
    All-cut (λ place. place < length c.args.runs.now) list cut.0 i.1 c.in-Some.place cut.1 c.requires.within

pub returns-then-fits : goal.returns-then-fits
returns-then-fits c =
    let i = c.loop-at.invariant in
    let cut = at_cut (list_of c.args.lists.now 256) i.0 i.1 c.loop-at.at c.in-Some.place i.2 i.3 c.in-Some.is in
    (cut.0, i.1, cut.1, sym c.fits.ensures ∙ c.if-fits.true, i.4)

pub before-at-requires : goal.before-at-requires
before-at-requires c =
    let i = c.loop-at.invariant in
    let cut = at_cut (list_of c.args.lists.now 256) i.0 i.1 c.loop-at.at c.in-Some.place i.2 i.3 c.in-Some.is in
    (256, subst (λ list. Contains list c.in-Some.place) (sym cut.1) (Contains-append_right cut.0 (c.in-Some.place ∷ i.1) c.in-Some.place (zero, omega arith, refl)))

pub loop-at-smaller : goal.loop-at-smaller
loop-at-smaller c =
    let i = c.loop-at.invariant in
    let list = list_of c.args.lists.now 256 in
    let cut = at_cut list i.0 i.1 c.loop-at.at c.in-Some.place i.2 i.3 c.in-Some.is in
    rw c.in-Some.is (rank_falls list cut.0 i.1 c.in-Some.place c.before-at.result c.requires.distinct cut.1 (c.before-at.ensures.each 256 cut.0 i.1 cut.1))

pub loop-at-preserved : goal.loop-at-preserved
loop-at-preserved c =
    let i = c.loop-at.invariant in
    let cut = at_cut (list_of c.args.lists.now 256) i.0 i.1 c.loop-at.at c.in-Some.place i.2 i.3 c.in-Some.is in (
      cut.0,
      c.in-Some.place ∷ i.1,
      cut.1,
      c.before-at.ensures.each 256 cut.0 i.1 cut.1,
      All-cons (λ place. fits c.args.pages (c.args.most - c.args.pages) (run_at c.args.runs.now place) ≡ false) c.in-Some.place i.1 (sym c.fits.ensures ∙ c.if-fits.false) i.4,
    )

pub returns : goal.returns
returns c =
    let i = c.loop-at.invariant in
    let none : i.0 ≡ [] = last_or-none i.0 (sym i.3 ∙ c.in_default.is) in
    let all : list_of c.args.lists.now 256 ≡ i.1 = i.2 ∙ ap (λ older. older ++ i.1) none in
    subst (All (λ place. fits c.args.pages (c.args.most - c.args.pages) (run_at c.args.runs.now place) ≡ false)) (sym all) i.4
