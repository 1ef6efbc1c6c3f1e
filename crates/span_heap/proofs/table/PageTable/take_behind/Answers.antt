use Rattle.std.proofs.Common.{◌≡◌, ◌+◌, sym, ◌∙◌, arith}
use Rattle.std.specs.List.{filter}
use Rattle.span_heap.specs.Run.{begins_at, pages_of}
use Rattle.span_heap.proofs.FreeingKeepsThePartition.{filter_all}
use Rattle.span_heap.proofs.HeapOverTheTable.{run_behind, nothing_marked}
use Rattle.span_heap.proofs.table.PageTable.take_behind.Goals as goal

pub take_free-requires : goal.take_free-requires
take_free-requires c =
    (run_behind c.args.self.now.free c.args.span.now c.pages_behind-pages.result c.requires.one (omega (arith, c.if-pages-gt0.true)) c.pages_behind-pages.ensures).there

pub returns-then-pages-gt0-clause-free : goal.returns-then-pages-gt0-clause-free
returns-then-pages-gt0-clause-free c =
    c.take_free.ensures.free
    ∙ (run_behind c.args.self.now.free c.args.span.now c.pages_behind-pages.result c.requires.one (omega (arith, c.if-pages-gt0.true)) c.pages_behind-pages.ensures).out

pub returns-else-pages-gt0-clause-free : goal.returns-else-pages-gt0-clause-free
returns-else-pages-gt0-clause-free c =
    let span = c.args.span.now in
    let none : pages_of (filter (begins_at span.segment (span.first + span.pages)) c.args.self.now.free) ≡ 0 = omega (arith, c.pages_behind-pages.ensures, c.if-pages-gt0.false) in
    sym (filter_all (begins_at span.segment (span.first + span.pages)) c.args.self.now.free (nothing_marked (begins_at span.segment (span.first + span.pages)) c.args.self.now.free c.requires.sized none))
