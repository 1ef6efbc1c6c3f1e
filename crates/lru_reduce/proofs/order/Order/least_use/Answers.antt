use Rattle.std.proofs.Common.{sym}
use Rattle.machine.specs.Reduction.{use_of}
use Rattle.lru_reduce.proofs.Ordered.{use_first, none_least}
use Rattle.lru_reduce.proofs.order.Order.least_use.Goals as goal

pub returns-in_err-known : goal.returns-in_err-known
returns-in_err-known c =
    rw (c.from_residual.ensures, ← c.self.view_is) (sym (none_least use_of c.self.inside.slots.sides c.self.inside.uses.entries c.self.invariant.1 c.in_err-known.ensures.none))

pub returns : goal.returns
returns c =
    rw (← c.self.view_is) (sym (use_first (c.in_ok-known.known, c.in_ok-known.field-0-1) c.self.inside.slots.sides c.self.inside.uses.entries c.self.invariant.1 c.in_ok-known.ensures.some))
