use Rattle.std.proofs.Common.{sym, arith}
use Rattle.lru_reduce.proofs.Ordered.{due_on}
use Rattle.lru_reduce.proofs.order.Order.due.Goals as goal

pub returns-then-known-now-clause-some : goal.returns-then-known-now-clause-some
returns-then-known-now-clause-some c =
    let above = c.if-granted-from.false in
    let from = c.from.ensures in
    due_on c.args.limit c.args.now c.in_ok-id.id c.in_ok-id.known c.args.granted c.args.self.now.sides (sym c.in_ok-id.ensures) c.requires (omega (arith, above, from)) c.if-known-now.true
