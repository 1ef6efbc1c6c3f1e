use Rattle.std.proofs.Common.{sym}
use Rattle.lru_reduce.proofs.Ordered.{tries_won, tries_lost}
use Rattle.lru_reduce.proofs.Tried.{number_won, number_lost}
use Rattle.lru_reduce.proofs.order.Order.try_one.Goals as goal

pub returns-in-Ok : goal.returns-in-Ok
returns-in-Ok c =
    let w = c.in-Ok.field-0 in
    tries_won c.args.id c.args.now w.pages w.known w.block c.args.self.now c.try_purge.new.self (sym c.in_ok-block.ensures.live)
    (number_won c.args.id c.args.now c.in_ok-block.field-0 w c.args.self.now.sides c.try_purge.new.self.sides c.in-Ok.is c.in_ok-block.ensures.won) c.in_ok-block.ensures.spare

pub returns-in-Err : goal.returns-in-Err
returns-in-Err c =
    tries_lost c.args.id c.args.now c.in-Err.known c.args.self.now c.try_purge.new.self (sym c.in_ok-block.ensures.live)
    (number_lost c.args.id c.args.now c.in_ok-block.field-0 c.in-Err.known c.args.self.now.sides c.try_purge.new.self.sides c.in-Err.is c.in_ok-block.ensures.lost) c.in_ok-block.ensures.spare
