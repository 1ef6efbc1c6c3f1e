use Rattle.std.proofs.Common.{◌∙◌}
use Rattle.replay_plain.proofs.Allocating.{adopt_stands}
use Rattle.replay_plain.proofs.run.PlainRun.adopt.Goals as goal

pub returns-clause-state : goal.returns-clause-state
returns-clause-state c = λ state w whole_is.
    adopt_stands _ _ state c.args.client c.next-id.result c.args.whole c.args.pages c.args.at (c.next-id.ensures.next ∙ w.known.drawn) whole_is
    (c.in_ok-free_rest.ensures.state _ (c.in_ok-draw.ensures.state state w)) c.in_ok-adopt.ensures
