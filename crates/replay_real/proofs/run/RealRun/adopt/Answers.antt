use Rattle.replay_real.proofs.BookGrows.{grows_grants, grows_runs_out}
use Rattle.replay_real.proofs.run.RealRun.adopt.Goals as goal

pub returns-in_err-side-clause-book : goal.returns-in_err-side-clause-book
returns-in_err-side-clause-book c = grows_runs_out _ c.args.now c.args.self.now.state c.grant.new.self c.in_err-side.ensures.err

pub returns-in_err-add_nobody-clause-book : goal.returns-in_err-add_nobody-clause-book
returns-in_err-add_nobody-clause-book c = grows_grants _ _ c.args.now c.in_ok-side.side c.args.self.now.state c.grant.new.self c.in_ok-side.ensures.ok

pub returns-clause-book : goal.returns-clause-book
returns-clause-book c = grows_grants _ _ c.args.now c.in_ok-side.side c.args.self.now.state c.grant.new.self c.in_ok-side.ensures.ok
