use Rattle.timings.proofs.queue_steps.give_and_take.Given as goal

abbrev pub invariant-loop-id : goal.invariant-loop-id
invariant-loop-id g l =
    g.Q.Returns.is_pass (g.Q.Returns.name l.queue) l.pass
    × g.Q.Returns.is_taker (g.Q.Returns.name l.queue) l.taker
