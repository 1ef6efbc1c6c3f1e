use Rattle.std.proofs.Common.{sym, arith}
use Rattle.lru_reduce.proofs.Uses.{only_use}
use Rattle.lru_reduce.proofs.Tried.{number_won, number_lost}
use Rattle.lru_reduce.proofs.Ordered.{left_won, each_left, noted_is, others_noted, known_noted, long_noted}
use Rattle.lru_reduce.proofs.order.Order.try_purge.Goals as goal

pub drop_dead-requires : goal.drop_dead-requires
drop_dead-requires c =
    let old = c.self.inside.slots.sides in
    let new = c.try_purge.new.self.sides in
    let w = c.in-Ok.won in
    let wins = number_won c.args.id c.args.now c.in_ok-tried.tried w old new c.in-Ok.is c.in_ok-tried.ensures.won in
    let left = left_won c.args.id c.args.now w.pages w.known w.block old new (sym c.in_ok-tried.ensures.live) wins in
    record { each = each_left c.args.id old new c.self.inside.uses.entries left.sides c.self.invariant.1.each }

pub invariant_of-self-in-Ok : goal.invariant_of-self-in-Ok
invariant_of-self-in-Ok c =
    let old = c.self.inside.slots.sides in
    let new = c.try_purge.new.self.sides in
    let w = c.in-Ok.won in
    let wins = number_won c.args.id c.args.now c.in_ok-tried.tried w old new c.in-Ok.is c.in_ok-tried.ensures.won in
    let left = left_won c.args.id c.args.now w.pages w.known w.block old new (sym c.in_ok-tried.ensures.live) wins in
    let long = left.long in
    let first = c.self.invariant.2 in
    let second = c.self.invariant.3 in
    let third = c.self.invariant.4 in
    let room = c.in_ok-tried.ensures.room in
    let kept = c.drop_dead.ensures.room in
    (c.in_ok-tried.ensures.are, c.drop_dead.ensures.sound, omega (arith, long, first, room), omega (arith, long, second, kept), omega (arith, long, third))

pub returns-in-Ok-clause-won : goal.returns-in-Ok-clause-won
returns-in-Ok-clause-won c =
    let old = c.self.inside.slots.sides in
    let new = c.try_purge.new.self.sides in
    let w = c.in-Ok.won in
    let wins = number_won c.args.id c.args.now c.in_ok-tried.tried w old new c.in-Ok.is c.in_ok-tried.ensures.won in
    let left = left_won c.args.id c.args.now w.pages w.known w.block old new (sym c.in_ok-tried.ensures.live) wins in
    rw (← c.self.view_is) wins

pub renew-requires-clause-others : goal.renew-requires-clause-others
renew-requires-clause-others c =
    let old = c.self.inside.slots.sides in
    let new = c.try_purge.new.self.sides in
    let loses = number_lost c.args.id c.args.now c.in_ok-tried.tried c.in-Err.known old new c.in-Err.is c.in_ok-tried.ensures.lost in
    let noted = noted_is c.args.id c.args.now c.in-Err.known old new (sym c.in_ok-tried.ensures.live) loses in
    others_noted c.args.id c.args.now c.in-Err.known old new c.self.inside.uses.entries noted c.self.invariant.1.each

pub renew-requires-clause-known : goal.renew-requires-clause-known
renew-requires-clause-known c =
    let old = c.self.inside.slots.sides in
    let new = c.try_purge.new.self.sides in
    let loses = number_lost c.args.id c.args.now c.in_ok-tried.tried c.in-Err.known old new c.in-Err.is c.in_ok-tried.ensures.lost in
    let noted = noted_is c.args.id c.args.now c.in-Err.known old new (sym c.in_ok-tried.ensures.live) loses in
    only_use c.args.id c.in-Err.known new (known_noted c.args.id c.args.now c.in-Err.known old new noted)

pub renew-requires-clause-room : goal.renew-requires-clause-room
renew-requires-clause-room c =
    let old = c.self.inside.slots.sides in
    let new = c.try_purge.new.self.sides in
    let loses = number_lost c.args.id c.args.now c.in_ok-tried.tried c.in-Err.known old new c.in-Err.is c.in_ok-tried.ensures.lost in
    let noted = noted_is c.args.id c.args.now c.in-Err.known old new (sym c.in_ok-tried.ensures.live) loses in
    let long = long_noted c.args.id c.args.now c.in-Err.known old new noted in
    let second = c.self.invariant.3 in
    omega (arith, long, second)

pub invariant_of-self-in-Err : goal.invariant_of-self-in-Err
invariant_of-self-in-Err c =
    let old = c.self.inside.slots.sides in
    let new = c.try_purge.new.self.sides in
    let loses = number_lost c.args.id c.args.now c.in_ok-tried.tried c.in-Err.known old new c.in-Err.is c.in_ok-tried.ensures.lost in
    let noted = noted_is c.args.id c.args.now c.in-Err.known old new (sym c.in_ok-tried.ensures.live) loses in
    let long = long_noted c.args.id c.args.now c.in-Err.known old new noted in
    let first = c.self.invariant.2 in
    let second = c.self.invariant.3 in
    let third = c.self.invariant.4 in
    let room = c.in_ok-tried.ensures.room in
    let kept = c.renew.ensures.room in
    (c.in_ok-tried.ensures.are, c.renew.ensures.sound, omega (arith, long, first, room), omega (arith, long, second, kept), omega (arith, long, third))

pub returns-in-Err-clause-lost : goal.returns-in-Err-clause-lost
returns-in-Err-clause-lost c =
    let old = c.self.inside.slots.sides in
    let new = c.try_purge.new.self.sides in
    let loses = number_lost c.args.id c.args.now c.in_ok-tried.tried c.in-Err.known old new c.in-Err.is c.in_ok-tried.ensures.lost in
    let noted = noted_is c.args.id c.args.now c.in-Err.known old new (sym c.in_ok-tried.ensures.live) loses in
    rw (← c.self.view_is) loses
