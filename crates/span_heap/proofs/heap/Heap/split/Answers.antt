use Rattle.std.proofs.Common.{◌++◌, ◌∷◌, [], ◌∙◌, ap, arith}
use Rattle.std.proofs.lemmas.List.Elements.{Contains-push, Contains-append_left}
use Rattle.span_heap.specs.Runs.{front_of, back_of}
use Rattle.span_heap.proofs.CountsAreKept.{cut_in_two, end_fits}
use Rattle.span_heap.proofs.HeapOverTheTable.{can_cut, kept_as}
use Rattle.span_heap.proofs.heap.Heap.split.Goals as goal

pub back-back-requires-clause-end : goal.back-back-requires-clause-end
back-back-requires-clause-end c =
    let h = c.self.inside in
    let there = rw (← c.self.view_is, ← c.span.view_is) at c.requires.used in
    let within = rw (← c.span.view_is) at c.requires.within in
    omega (arith, within, end_fits h.table c.span.inside.run h.pages h.free_pages c.self.invariant there)

pub add_used-requires-clause-lies : goal.add_used-requires-clause-lies
add_used-requires-clause-lies c =
    let h = c.self.inside in
    let there = rw (← c.self.view_is, ← c.span.view_is) at c.requires.used in
    let within = rw (← c.span.view_is) at c.requires.within in
    let can = can_cut h.table c.take_used.new.self.used c.span.inside.run c.args.front h.pages h.free_pages c.self.invariant there c.take_used.ensures.used within.0 within.1 in
    rw (c.take_used.ensures.segments, c.front-front.ensures) can.lies

pub add_used-requires-clause-not_free : goal.add_used-requires-clause-not_free
add_used-requires-clause-not_free c =
    let h = c.self.inside in
    let there = rw (← c.self.view_is, ← c.span.view_is) at c.requires.used in
    let within = rw (← c.span.view_is) at c.requires.within in
    let can = can_cut h.table c.take_used.new.self.used c.span.inside.run c.args.front h.pages h.free_pages c.self.invariant there c.take_used.ensures.used within.0 within.1 in
    rw (c.take_used.ensures.free, c.front-front.ensures) can.not_free

pub add_used-requires-clause-not_used : goal.add_used-requires-clause-not_used
add_used-requires-clause-not_used c =
    let h = c.self.inside in
    let there = rw (← c.self.view_is, ← c.span.view_is) at c.requires.used in
    let within = rw (← c.span.view_is) at c.requires.within in
    let can = can_cut h.table c.take_used.new.self.used c.span.inside.run c.args.front h.pages h.free_pages c.self.invariant there c.take_used.ensures.used within.0 within.1 in
    rw c.front-front.ensures can.not_used

pub add_used-requires-clause-small : goal.add_used-requires-clause-small
add_used-requires-clause-small c =
    let h = c.self.inside in
    let there = rw (← c.self.view_is, ← c.span.view_is) at c.requires.used in
    let within = rw (← c.span.view_is) at c.requires.within in
    let can = can_cut h.table c.take_used.new.self.used c.span.inside.run c.args.front h.pages h.free_pages c.self.invariant there c.take_used.ensures.used within.0 within.1 in
    rw c.front-front.ensures can.small

pub add_used-requires-2-clause-lies : goal.add_used-requires-2-clause-lies
add_used-requires-2-clause-lies c =
    let h = c.self.inside in
    let there = rw (← c.self.view_is, ← c.span.view_is) at c.requires.used in
    let within = rw (← c.span.view_is) at c.requires.within in
    let can = can_cut h.table c.take_used.new.self.used c.span.inside.run c.args.front h.pages h.free_pages c.self.invariant there c.take_used.ensures.used within.0 within.1 in
    rw (c.add_used.ensures.segments, c.take_used.ensures.segments, c.back-back.ensures) can.back_lies

pub add_used-requires-2-clause-not_free : goal.add_used-requires-2-clause-not_free
add_used-requires-2-clause-not_free c =
    let h = c.self.inside in
    let there = rw (← c.self.view_is, ← c.span.view_is) at c.requires.used in
    let within = rw (← c.span.view_is) at c.requires.within in
    let can = can_cut h.table c.take_used.new.self.used c.span.inside.run c.args.front h.pages h.free_pages c.self.invariant there c.take_used.ensures.used within.0 within.1 in
    rw (c.add_used.ensures.free, c.take_used.ensures.free, c.back-back.ensures) can.back_not_free

pub add_used-requires-2-clause-not_used : goal.add_used-requires-2-clause-not_used
add_used-requires-2-clause-not_used c =
    let h = c.self.inside in
    let there = rw (← c.self.view_is, ← c.span.view_is) at c.requires.used in
    let within = rw (← c.span.view_is) at c.requires.within in
    let can = can_cut h.table c.take_used.new.self.used c.span.inside.run c.args.front h.pages h.free_pages c.self.invariant there c.take_used.ensures.used within.0 within.1 in
    rw (c.add_used.ensures.used, c.front-front.ensures, c.back-back.ensures) can.back_not_used

pub add_used-requires-2-clause-small : goal.add_used-requires-2-clause-small
add_used-requires-2-clause-small c =
    let h = c.self.inside in
    let there = rw (← c.self.view_is, ← c.span.view_is) at c.requires.used in
    let within = rw (← c.span.view_is) at c.requires.within in
    let can = can_cut h.table c.take_used.new.self.used c.span.inside.run c.args.front h.pages h.free_pages c.self.invariant there c.take_used.ensures.used within.0 within.1 in
    rw (c.add_used.ensures.used, c.front-front.ensures, c.back-back.ensures) can.back_small

pub invariant_of-self : goal.invariant_of-self
invariant_of-self c =
    let h = c.self.inside in
    let there = rw (← c.self.view_is, ← c.span.view_is) at c.requires.used in
    let within = rw (← c.span.view_is) at c.requires.within in
    let can = can_cut h.table c.take_used.new.self.used c.span.inside.run c.args.front h.pages h.free_pages c.self.invariant there c.take_used.ensures.used within.0 within.1 in
    kept_as c.add_used-2.new.self h.table.segments _ h.table.free h.pages h.free_pages
    (c.add_used-2.ensures.segments ∙ (c.add_used.ensures.segments ∙ c.take_used.ensures.segments))
    (c.add_used-2.ensures.used ∙ (ap (λ u. u ++ c.back-back.result ∷ []) c.add_used.ensures.used
    ∙ (ap (λ r. c.take_used.new.self.used ++ r ∷ [] ++ c.back-back.result ∷ []) c.front-front.ensures
    ∙ ap (λ r. c.take_used.new.self.used ++ front_of c.span.inside.run c.args.front ∷ [] ++ r ∷ []) c.back-back.ensures)))
    (c.add_used-2.ensures.free ∙ (c.add_used.ensures.free ∙ c.take_used.ensures.free))
    can.kept

pub returns-clause-split : goal.returns-clause-split
returns-clause-split c =
    let h = c.self.inside in
    let run = c.span.inside.run in
    let front = front_of run c.args.front in
    let back = back_of run c.args.front in
    let left = c.take_used.new.self.used in
    rw (← c.self.view_is, ← c.span.view_is, c.front-front.ensures, c.back-back.ensures)
    (record {
      used = rw (c.add_used-2.ensures.used, c.add_used.ensures.used, c.front-front.ensures, c.back-back.ensures) (cut_in_two h.table.used left run front back c.take_used.ensures.used);
      has_front = rw (c.add_used-2.ensures.used, c.add_used.ensures.used, c.front-front.ensures, c.back-back.ensures) (Contains-append_left (left ++ front ∷ []) (back ∷ []) front (Contains-push left front));
      has_back = rw (c.add_used-2.ensures.used, c.add_used.ensures.used, c.front-front.ensures, c.back-back.ensures) (Contains-push (left ++ front ∷ []) back);
      free = c.add_used-2.ensures.free ∙ (c.add_used.ensures.free ∙ c.take_used.ensures.free);
      segments = c.add_used-2.ensures.segments ∙ (c.add_used.ensures.segments ∙ c.take_used.ensures.segments);
    })

pub returns-clause-partition : goal.returns-clause-partition
returns-clause-partition c = (invariant_of-self c).partition
