use Rattle.std.proofs.Common.{ap, length, arith}
use Rattle.replay_real.proofs.TableSteps.{unknown_past, not_live}
use Rattle.replay_real.proofs.owners.Owners.read.Goals as goal

pub returns-then-id-len-clause-told : goal.returns-then-id-len-clause-told
returns-then-id-len-clause-told c = λ h w.
    let sized = ap length c.self.view_is in
    let counted = c.self.inside.given.ok.0 in
    let len = c.len.ensures in
    not_live h c.args.id c.args.place c.args.count (unknown_past h c.args.self.now c.args.id (omega (arith, c.if-id-len.true)) w)
