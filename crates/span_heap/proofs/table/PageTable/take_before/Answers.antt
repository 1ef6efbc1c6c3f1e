use Rattle.std.proofs.Common.{◌≡◌, sym, ◌∙◌, arith}
use Rattle.std.specs.List.{filter}
use Rattle.span_heap.specs.Run.{ends_at, pages_of}
use Rattle.span_heap.proofs.FreeingKeepsThePartition.{filter_all}
use Rattle.span_heap.proofs.HeapOverTheTable.{run_before, nothing_marked}
use Rattle.span_heap.proofs.table.PageTable.take_before.Goals as goal

pub overflow_sub-span : goal.overflow_sub-span
overflow_sub-span c =
    (run_before c.args.self.now.free c.args.span.now c.pages_before-pages.result c.requires.one (omega (arith, c.if-pages-gt0.true)) c.pages_before-pages.ensures).0

pub take_free-requires : goal.take_free-requires
take_free-requires c =
    (run_before c.args.self.now.free c.args.span.now c.pages_before-pages.result c.requires.one (omega (arith, c.if-pages-gt0.true)) c.pages_before-pages.ensures).1.there

pub returns-then-pages-gt0-clause-free : goal.returns-then-pages-gt0-clause-free
returns-then-pages-gt0-clause-free c =
    c.take_free.ensures.free
    ∙ (run_before c.args.self.now.free c.args.span.now c.pages_before-pages.result c.requires.one (omega (arith, c.if-pages-gt0.true)) c.pages_before-pages.ensures).1.out

pub returns-else-pages-gt0-clause-free : goal.returns-else-pages-gt0-clause-free
returns-else-pages-gt0-clause-free c =
    let span = c.args.span.now in
    let none : pages_of (filter (ends_at span.segment span.first) c.args.self.now.free) ≡ 0 = omega (arith, c.pages_before-pages.ensures, c.if-pages-gt0.false) in
    sym (filter_all (ends_at span.segment span.first) c.args.self.now.free (nothing_marked (ends_at span.segment span.first) c.args.self.now.free c.requires.sized none))
