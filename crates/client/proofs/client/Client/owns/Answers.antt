use Rattle.client.proofs.Pages.{apart_or_same, used_once}
use Rattle.client.proofs.client.Client.owns.Goals as goal

pub returns-clause-apart : goal.returns-clause-apart
returns-clause-apart c = rw (← c.self.view_is) (λ one other here there. apart_or_same c.self.inside.heap.used one.run other.run (used_once c.self.inside.heap c.self.invariant.sound.partition) here.used there.used)
