use Rattle.std.proofs.Common.{heap_items}
use Rattle.use_queue.proofs.Firsts.{all_first, contained}
use Rattle.use_queue.proofs.queue.UseQueue.first.Goals as goal

pub returns-clause-some : goal.returns-clause-some
returns-clause-some c =
    let e = c.in_ok-entry.ensures in
    rw (← c.self.view_is) (contained c.in_ok-entry.field-0.now (heap_items c.self.inside.heap) e.item.3.0 e.lookup, all_first c.in_ok-entry.field-0.now (heap_items c.self.inside.heap) (e.greatest c.self.invariant))
