use Rattle.manager_state.proofs.state.State.back.Goals as goal

pub returns : goal.returns
returns c = rw (← c.self.view_is) (c.back.ensures c.self.inside.limit)
