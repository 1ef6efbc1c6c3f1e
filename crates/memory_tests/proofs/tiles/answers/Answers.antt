use Rattle.memory_tests.proofs.tiles.answers.Goals as goal

pub ask-second-requires-clause-used : goal.ask-second-requires-clause-used
ask-second-requires-clause-used g c κs within = rw c.ask-first.ensures.size c.ask-first.ensures.used
