-- The side that the words ask for.
use Rattle.std.proofs.Common.{sym}
use Rattle.command_line.specs.Settings.{set_to, side_setting}
use Rattle.command_line.proofs.Asked.{ends_now, step_on}
use Rattle.command_line.proofs.orders.side_of.Goals as goal

pub returns-in_err-side-clause-value : goal.returns-in_err-side-clause-value
returns-in_err-side-clause-value c = λ all given. rw c.from_residual.ensures (sym (ends_now (set_to side_setting all) _ (sym (c.in_err-side.ensures.value all given))))

pub returns-clause-value : goal.returns-clause-value
returns-clause-value c = λ all given. sym (step_on (set_to side_setting all) c.in_ok-side.side _ _ (sym (c.in_ok-side.ensures.value all given)) (sym c.allowed_side.ensures.value))
