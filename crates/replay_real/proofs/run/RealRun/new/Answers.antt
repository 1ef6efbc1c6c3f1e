use Rattle.replay_real.proofs.Following.{stands_first}
use Rattle.replay_real.proofs.run.RealRun.new.Goals as goal

pub returns-clause-first : goal.returns-clause-first
returns-clause-first c =
    stands_first c.args.cfg.now c.in_ok-new.field-0 c.in_ok-new-2.field-0 _ c.in_ok-new.ensures.entries c.in_ok-new.ensures.limit
    c.in_ok-new-2.ensures.shows c.in_ok-new-2.ensures.clients c.in_ok-new-2.ensures.places c.new-3.ensures
