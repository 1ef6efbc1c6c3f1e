use Rattle.std.proofs.Common.{ℕ, ◌∷◌, heap_items}
use Rattle.std.specs.declared.cmp.Reverse.{Reverse}
use Rattle.std.proofs.lemmas.List.Sorted.{IsPermutation-map, IsPermutation-sym, Contains-permutation}
use Rattle.use_queue.specs.Entries.{pairs}
use Rattle.use_queue.proofs.Firsts.{all_first, head_in}
use Rattle.use_queue.proofs.queue.UseQueue.drop_first.Goals as goal

pub returns-clause-entries : goal.returns-clause-entries
returns-clause-entries c =
    let old = heap_items c.self.inside.heap in
    let new = heap_items c.pop.new.self in
    let x = c.in-Some.field-0 in
    let rest = IsPermutation-map (λ (r : Reverse (ℕ × ℕ)). r.0) old (x ∷ new) c.in-Some.ensures.permutation in
    rw (← c.self.view_is) record {
      entry = x.0;
      first = (Contains-permutation (x.0 ∷ pairs new) (pairs old) x.0 (IsPermutation-sym (pairs old) (x.0 ∷ pairs new) rest) (head_in x.0 (pairs new)), all_first x old (c.in-Some.ensures.heap_order c.self.invariant).1);
      rest = rest;
    }
