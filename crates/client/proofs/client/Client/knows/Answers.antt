use Rattle.std.proofs.Common.{sym, ◌∙◌}
use Rattle.client.proofs.Knowing.{known_there, known_absent}
use Rattle.client.proofs.client.Client.knows.Goals as goal

pub returns-in-Some : goal.returns-in-Some
returns-in-Some c =
    let there = rw c.as_slice.ensures.value at c.in-Some.ensures in
    rw (← c.self.view_is) (known_there c.self.inside.leases.items _ c.args.id c.in-Some.field-0 there)

pub returns-in-None : goal.returns-in-None
returns-in-None c =
    let absent = rw c.as_slice.ensures.value at c.in-None.ensures in
    rw (← c.self.view_is) (c.has.ensures ∙ sym (known_absent c.self.inside.leases.items _ c.args.id absent))
