use Rattle.std.proofs.Common.{sym, subst}
use Rattle.return_queue.specs.declared.rule.View.{View}
use Rattle.return_queue.specs.Rule.{KnowsIn}
use Rattle.crossbeam_queue.specs.Passes.{view}
use Rattle.return_queue.proofs.TakeIn.{takes_in}
use Rattle.return_queue.proofs.Told.{known_before, known_last}
use Rattle.return_queue.proofs.ruled.RuledReturnsReturns.take_in.Goals as goal

pub absorb-requires-clause-rule : goal.absorb-requires-clause-rule
absorb-requires-clause-rule c = takes_in _ _ _ _ c.requires.taker.1 c.requires.taker.2 c.requires.pass.1

pub returns-clause-pass : goal.returns-clause-pass
returns-clause-pass c = subst (λ (v : View). KnowsIn v.past (view c.args.pass.pass).own (view c.args.pass.pass).seen) (sym c.absorb.ensures.rule) (known_last _ _ _)

pub returns-clause-knows : goal.returns-clause-knows
returns-clause-knows c gave saw k = subst (λ (v : View). KnowsIn v.past gave saw) (sym c.absorb.ensures.rule) (known_before _ _ gave saw k)
