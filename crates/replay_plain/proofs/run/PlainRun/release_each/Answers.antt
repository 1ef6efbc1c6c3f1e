use Rattle.replay_plain.proofs.Allocating.{release_stands}
use Rattle.replay_plain.proofs.run.PlainRun.release_each.Goals as goal

pub returns-clause-state : goal.returns-clause-state
returns-clause-state c = λ state w is.
    release_stands _ _ state c.args.client c.args.ids.now is (c.in_ok-give_back_each.ensures.state state w) c.leave_all.ensures
