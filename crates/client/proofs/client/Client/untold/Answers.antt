use Rattle.client.proofs.ComingAndKept.{kept_told}
use Rattle.client.proofs.client.Client.untold.Goals as goal

pub invariant_of-self : goal.invariant_of-self
invariant_of-self c = kept_told _ c.next.new.self.sides c.next.new.self.told c.self.inside.pages c.self.inside.gone.room c.next.new.self.room c.self.invariant c.next.ensures.sides c.next.ensures.told c.next.ensures.room
