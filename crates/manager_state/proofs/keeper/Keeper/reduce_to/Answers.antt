use Rattle.manager_state.proofs.keeper.Keeper.reduce_to.Goals as goal

pub returns-clause-ok : goal.returns-clause-ok
returns-clause-ok c kept = rw c.in_ok-reserve.ensures.same at (c.reduce.ensures.reduces kept)
