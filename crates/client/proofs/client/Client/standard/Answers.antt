use Rattle.client.proofs.client.Client.standard.Goals as goal

pub returns-clause-sized : goal.returns-clause-sized
returns-clause-sized c = c.self.invariant.sound.sized
