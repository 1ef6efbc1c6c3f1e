use Rattle.manager_state.proofs.state.State.remove_client.Goals as goal

pub returns : goal.returns
returns c = rw (← c.self.view_is) (c.remove.ensures c.self.inside.limit)
