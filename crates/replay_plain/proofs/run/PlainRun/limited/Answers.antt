use Rattle.replay_plain.proofs.run.PlainRun.limited.Goals as goal

pub returns-clause-reply : goal.returns-clause-reply
returns-clause-reply c = λ state w. c.in_ok-reduced.ensures.reply (record state { limit = c.args.limit }) (c.set_limit.ensures.state state w)

pub returns-clause-state : goal.returns-clause-state
returns-clause-state c = λ state w. c.in_ok-reduced.ensures.state (record state { limit = c.args.limit }) (c.set_limit.ensures.state state w)
