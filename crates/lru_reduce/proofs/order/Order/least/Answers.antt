use Rattle.std.proofs.Common.{sym}
use Rattle.lru_reduce.specs.Calls.{told}
use Rattle.lru_reduce.proofs.Ordered.{told_first, none_least}
use Rattle.lru_reduce.proofs.order.Order.least.Goals as goal

pub returns-in_err-known : goal.returns-in_err-known
returns-in_err-known c =
    rw (c.from_residual.ensures, ← c.self.view_is) (sym (none_least told c.self.inside.slots.sides c.self.inside.uses.entries c.self.invariant.1 c.in_err-known.ensures.none))

pub returns : goal.returns
returns c =
    rw (← c.self.view_is) (sym (told_first (c.in_ok-known.known, c.in_ok-known.id) c.self.inside.slots.sides c.self.inside.uses.entries c.self.invariant.1 c.in_ok-known.ensures.some))
