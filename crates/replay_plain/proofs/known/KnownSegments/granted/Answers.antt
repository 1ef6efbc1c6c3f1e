use Rattle.replay_plain.proofs.Following.{all_granted}
use Rattle.replay_plain.proofs.known.KnownSegments.granted.Goals as goal

pub returns : goal.returns
returns c = λ events id w is number.
    all_granted events id c.args.client c.args.pages c.args.self.now _ w is number c.in_ok-push.ensures.items c.in_ok-push.ensures.pages
