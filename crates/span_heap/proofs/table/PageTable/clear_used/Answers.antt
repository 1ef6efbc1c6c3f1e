use Rattle.std.proofs.Common.{◌∙◌, ap}
use Rattle.span_heap.specs.Runs.{dropped}
use Rattle.span_heap.proofs.HeapOverTheTable.{begin_later, still_dropped}
use Rattle.span_heap.proofs.table.PageTable.clear_used.Goals as goal

pub take_used-requires : goal.take_used-requires
take_used-requires c = c.in-Some.ensures.0

pub returns-in-Some-clause-from : goal.returns-in-Some-clause-from
returns-in-Some-clause-from c =
    let there = c.in-Some.ensures in
    rw c.take_used.ensures.others (begin_later c.args.self.now.used c.in-Some.span c.args.id c.args.page there.2 there.0 there.1 c.requires.from)

pub returns-in-Some-clause-others : goal.returns-in-Some-clause-others
returns-in-Some-clause-others c =
    let there = c.in-Some.ensures in
    ap (λ f. dropped f c.args.id) c.take_used.ensures.others ∙ still_dropped c.args.self.now.used c.in-Some.span c.args.id c.args.page there.1
