use Rattle.std.proofs.Common.{sym, ◌∙◌}
use Rattle.manager_state.proofs.Rooms.{on_err}
use Rattle.manager.proofs.StateGrows.{grants_one, grants_one_with, granted_with, runs_out_kept, runs_out_with_kept, runs_out_of}
use Rattle.manager.proofs.Made.{grants_made, grants_with_made, runs_out_made, runs_out_with_made}
use Rattle.manager.proofs.behind.grant_in_turn.Goals as goal

pub returns-in_err-grant_with-clause-out : goal.returns-in_err-grant_with-clause-out
returns-in_err-grant_with-clause-out c = on_err c.from_residual.result (runs_out_of _ _ _ _ _ (rw c.in-Some.is at c.requires.block).1 c.in_err-grant_with.ensures.err)

pub returns-in_err-grant-clause-out : goal.returns-in_err-grant-clause-out
returns-in_err-grant-clause-out c = on_err c.from_residual-in_err-grant.result c.in_err-grant.ensures.err

pub returns-in_err-grant_with-clause-err : goal.returns-in_err-grant_with-clause-err
returns-in_err-grant_with-clause-err c = on_err c.from_residual.result (runs_out_with_kept _ _ _ _ c.in_err-grant_with.ensures.err)

pub returns-in-Some-clause-side : goal.returns-in-Some-clause-side
returns-in-Some-clause-side c = granted_with _ _ _ _ _ _ _ (rw c.in-Some.is at c.requires.block) c.in_ok-grant_with.ensures.ok

pub returns-in-Some-clause-grants : goal.returns-in-Some-clause-grants
returns-in-Some-clause-grants c = grants_one_with _ _ _ _ _ _ c.in_ok-grant_with.ensures.ok

pub returns-in_err-grant-clause-err : goal.returns-in_err-grant-clause-err
returns-in_err-grant-clause-err c = on_err c.from_residual-in_err-grant.result (runs_out_kept _ _ _ _ c.in_err-grant.ensures.err)

pub returns-then-keeps_block-clause-grants : goal.returns-then-keeps_block-clause-grants
returns-then-keeps_block-clause-grants c = grants_one _ _ _ _ _ _ c.in_ok-grant.ensures.ok

pub returns-in_err-grant_with-clause-made : goal.returns-in_err-grant_with-clause-made
returns-in_err-grant_with-clause-made c = runs_out_with_made _ _ _ _ c.in_err-grant_with.ensures.err

pub returns-in-Some-clause-made : goal.returns-in-Some-clause-made
returns-in-Some-clause-made c = grants_with_made _ _ _ _ _ _ c.in_ok-grant_with.ensures.ok

pub returns-in_err-grant-clause-made : goal.returns-in_err-grant-clause-made
returns-in_err-grant-clause-made c = runs_out_made _ _ _ _ c.in_err-grant.ensures.err

pub returns-then-keeps_block-clause-made : goal.returns-then-keeps_block-clause-made
returns-then-keeps_block-clause-made c = grants_made _ _ _ _ _ _ (sym c.keeps_block.ensures ∙ c.if-keeps_block.true) c.in_ok-grant.ensures.ok
