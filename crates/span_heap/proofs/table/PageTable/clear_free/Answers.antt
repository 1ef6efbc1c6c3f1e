use Rattle.std.proofs.Common.{◌∙◌, ap}
use Rattle.span_heap.specs.Runs.{dropped}
use Rattle.span_heap.proofs.HeapOverTheTable.{begin_later, still_dropped}
use Rattle.span_heap.proofs.table.PageTable.clear_free.Goals as goal

pub take_free-requires : goal.take_free-requires
take_free-requires c = c.in-Some.ensures.0

pub returns-in-Some-clause-from : goal.returns-in-Some-clause-from
returns-in-Some-clause-from c =
    let there = c.in-Some.ensures in
    rw c.take_free.ensures.free (begin_later c.args.self.now.free c.in-Some.run' c.args.id c.args.page there.2 there.0 there.1 c.requires.from)

pub returns-in-Some-clause-others : goal.returns-in-Some-clause-others
returns-in-Some-clause-others c =
    let there = c.in-Some.ensures in
    ap (λ f. dropped f c.args.id) c.take_free.ensures.free ∙ still_dropped c.args.self.now.free c.in-Some.run' c.args.id c.args.page there.1
