use Rattle.client.proofs.client.Client.number.Goals as goal

pub returns-clause-told : goal.returns-clause-told
returns-clause-told c = rw (← c.self.view_is) c.self.invariant.sound.told

pub returns-clause-least : goal.returns-clause-least
returns-clause-least c = c.self.invariant.sound.numbered
