use Rattle.std.proofs.Common.{◌≢◌, arith}
use Rattle.span_heap.proofs.FrontGrows.{front_whole, front_cut}
use Rattle.span_heap.proofs.heap.Heap.grow_front.Goals as goal

pub returns-then-pages-whole-clause-grown : goal.returns-then-pages-whole-clause-grown
returns-then-pages-whole-clause-grown c =
    front_whole c.args.self.now c.grow.new.self c.args.segment c.args.whole c.args.pages c.in_ok-span.span c.if-pages-whole.true c.in_ok-span.ensures.grown

pub returns-clause-grown : goal.returns-clause-grown
returns-clause-grown c =
    let other : c.args.pages ≢ c.args.whole = c.if-pages-whole.false in
    front_cut c.args.self.now c.grow.new.self c.split-front.new.self c.free.new.self c.args.segment c.args.whole c.args.pages c.in_ok-span.span c.split-front.result.0 c.split-front.result.1
    c.in_ok-span.ensures.grown c.requires.front.0 (omega (arith, c.requires.front.1, other)) c.split-front.ensures.spans c.split-front.ensures.split c.free.ensures.freed
