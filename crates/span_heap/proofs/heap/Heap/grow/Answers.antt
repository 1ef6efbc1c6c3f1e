use Rattle.std.proofs.Common.{◌++◌, ◌∷◌, [], refl, ◌∙◌, ap, arith}
use Rattle.std.proofs.lemmas.List.Elements.{Contains-push}
use Rattle.span_heap.specs.Changes.{whole_of, segment_of}
use Rattle.span_heap.proofs.CountsAreKept.{IsSoundHeap-grown, pushed}
use Rattle.span_heap.proofs.HeapOverTheTable.{kept_as, none_there, whole_lies, whole_fresh}
use Rattle.span_heap.proofs.heap.Heap.grow.Goals as goal

pub grow-requires-clause-none_free : goal.grow-requires-clause-none_free
grow-requires-clause-none_free c =
    let h = c.self.inside in
    (none_there h.table c.args.segment c.self.invariant.partition (rw (← c.self.view_is) at c.requires.fresh)).1

pub grow-requires-clause-none_used : goal.grow-requires-clause-none_used
grow-requires-clause-none_used c =
    let h = c.self.inside in
    (none_there h.table c.args.segment c.self.invariant.partition (rw (← c.self.view_is) at c.requires.fresh)).0

pub add_used-requires-clause-lies : goal.add_used-requires-clause-lies
add_used-requires-clause-lies c =
    rw c.in_ok-grow.ensures.grown (whole_lies c.self.inside.table.segments c.args.segment c.args.pages c.requires.sized.0)

pub add_used-requires-clause-not_free : goal.add_used-requires-clause-not_free
add_used-requires-clause-not_free c =
    let h = c.self.inside in
    rw c.grow.ensures.free (whole_fresh c.args.segment 0 h.table.free (none_there h.table c.args.segment c.self.invariant.partition (rw (← c.self.view_is) at c.requires.fresh)).1)

pub add_used-requires-clause-not_used : goal.add_used-requires-clause-not_used
add_used-requires-clause-not_used c =
    let h = c.self.inside in
    rw c.grow.ensures.used (whole_fresh c.args.segment 0 h.table.used (none_there h.table c.args.segment c.self.invariant.partition (rw (← c.self.view_is) at c.requires.fresh)).0)

pub add_used-requires-clause-small : goal.add_used-requires-clause-small
add_used-requires-clause-small c =
    let h = c.self.inside in
    rw c.grow.ensures.used (omega (arith, rw (← c.self.view_is) at c.requires.small, c.self.invariant.size, c.self.invariant.whole))

pub overflow_add-self : goal.overflow_add-self
overflow_add-self c =
    omega (arith, rw (← c.self.view_is) at c.requires.small, c.self.invariant.size)

pub invariant_of-self-2 : goal.invariant_of-self-2
invariant_of-self-2 c =
    let h = c.self.inside in
    let fresh = rw (← c.self.view_is) at c.requires.fresh in
    let small = rw (← c.self.view_is) at c.requires.small in
    let whole = whole_of c.args.segment c.args.pages in
    kept_as c.add_used.new.self (h.table.segments ++ segment_of c.args.segment c.args.pages ∷ []) (h.table.used ++ whole ∷ []) h.table.free _ h.free_pages
    (c.add_used.ensures.segments ∙ c.in_ok-grow.ensures.grown)
    (c.add_used.ensures.used ∙ ap (λ u. u ++ whole ∷ []) c.grow.ensures.used)
    (c.add_used.ensures.free ∙ c.grow.ensures.free)
    (IsSoundHeap-grown h.table.segments h.table.used h.table.free _ c.args.segment c.args.pages h.pages h.free_pages c.self.invariant fresh (pushed h.table.used whole) c.requires.sized.0
    (omega (arith, small, c.self.invariant.size)))

pub returns-clause-grown : goal.returns-clause-grown
returns-clause-grown c =
    let h = c.self.inside in
    let fresh = rw (← c.self.view_is) at c.requires.fresh in
    let whole = whole_of c.args.segment c.args.pages in
    let used = c.add_used.ensures.used ∙ ap (λ u. u ++ whole ∷ []) c.grow.ensures.used in
    let free = c.add_used.ensures.free ∙ c.grow.ensures.free in
    rw (← c.self.view_is)
    (record {
      whole = refl;
      segments = c.add_used.ensures.segments ∙ c.in_ok-grow.ensures.grown;
      used = rw used (pushed h.table.used whole);
      has = rw used (Contains-push h.table.used whole);
      free = free;
      none_free = rw free (none_there h.table c.args.segment c.self.invariant.partition fresh).1;
    })

pub returns-clause-partition : goal.returns-clause-partition
returns-clause-partition c = (invariant_of-self-2 c).partition
