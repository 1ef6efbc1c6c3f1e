use Rattle.std.proofs.Common.{◌*◌, ◌^◌}
use Rattle.std.proofs.Math.Nat.{mod-add-mod}
use Rattle.drawn_workload.specs.declared.draws.TheConstants.{MULTIPLIER, INCREMENT}
use Rattle.drawn_workload.specs.Draws.{next_state}
use Rattle.drawn_workload.proofs.draws.next_state.Goals as goal

pub returns : goal.returns
unfolding next_state
returns c = mod-add-mod (c.args.state * MULTIPLIER) (2 ^ 64) INCREMENT
