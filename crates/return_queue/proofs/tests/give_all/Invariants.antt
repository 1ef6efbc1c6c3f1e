use Rattle.return_queue.proofs.tests.give_all.Given as goal

abbrev pub invariant-loop : goal.invariant-loop
invariant-loop g l = g.Q.Returns.is_pass (g.Q.Returns.name l.queue) l.pass
