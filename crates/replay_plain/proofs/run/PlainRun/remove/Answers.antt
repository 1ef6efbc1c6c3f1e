use Rattle.script_heaps.specs.Holding.{emptied}
use Rattle.replay_plain.specs.Commands.{returns_of}
use Rattle.replay_plain.proofs.Allocating.{on_ok, after_es}
use Rattle.replay_plain.proofs.run.PlainRun.remove.Goals as goal

pub returns-clause-state : goal.returns-clause-state
returns-clause-state c =
    on_ok c.push_removed.result
    (λ state w. after_es (returns_of state c.args.client) _ _ state c.args.client emptied (c.in_ok-give_back_all.ensures.state state w) c.in_ok-empty.ensures)
