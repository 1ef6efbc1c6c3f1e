use Rattle.std.proofs.Common.{refl, arith}
use Rattle.manager_state.specs.Managed.{managed}
use Rattle.manager_state.proofs.Rooms.{made, has_room_after}
use Rattle.manager_state.proofs.keeper.Keeper.fit.Goals as goal

pub returns-then-granted-from-clause-makes : goal.returns-then-granted-from-clause-makes
returns-then-granted-from-clause-makes c =
    let sub = c.saturating_sub-room.ensures in let pages = c.from.ensures in let above = c.if-granted-from.true in let all = c.granted.ensures.granted in let wide = c.from-2.ensures in
    made c.args.limit c.args.pages c.args.now c.saturating_sub-room.result c.reduce.result
    (managed c.args.limit c.args.self.now.book c.args.self.now.order c.args.self.now.pool) (managed c.args.limit c.reduce.new.self.book c.reduce.new.self.order c.reduce.new.self.pool)
    refl (omega (arith, sub, pages)) (omega (arith, above, all, wide)) (c.reduce.ensures.reduces c.args.limit)

pub returns-then-granted-from-clause-room : goal.returns-then-granted-from-clause-room
returns-then-granted-from-clause-room c =
    let sub = c.saturating_sub-room.ensures in let pages = c.from.ensures in
    has_room_after c.args.limit c.args.pages c.args.now c.saturating_sub-room.result c.reduce.result
    (managed c.args.limit c.args.self.now.book c.args.self.now.order c.args.self.now.pool) (managed c.args.limit c.reduce.new.self.book c.reduce.new.self.order c.reduce.new.self.pool)
    (omega (arith, sub, pages)) (c.reduce.ensures.reduces c.args.limit)
