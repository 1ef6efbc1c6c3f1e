use Rattle.std.proofs.Common.{ℕ, ◌∷◌, heap_items}
use Rattle.std.specs.declared.cmp.Reverse.{Reverse}
use Rattle.std.proofs.lemmas.List.Sorted.{IsPermutation-map}
use Rattle.use_queue.proofs.queue.UseQueue.push.Goals as goal

pub returns-clause-entries : goal.returns-clause-entries
returns-clause-entries c =
    rw (← c.self.view_is) (IsPermutation-map (λ (r : Reverse (ℕ × ℕ)). r.0) (record { 0 = c.args.entry } ∷ heap_items c.self.inside.heap) (heap_items c.push.new.self) c.in-Ok.ensures.permutation)
