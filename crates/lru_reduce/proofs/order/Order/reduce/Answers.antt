use Rattle.std.proofs.Common.{◌∙◌, ◌-◌, arith}
use Rattle.lru_reduce.proofs.Turned.{going_lost, going_won, fits_purge, less_where_lost, going_first, live_reduced, reduces_to}
use Rattle.lru_reduce.proofs.Ordered.{place_has}
use Rattle.lru_reduce.proofs.order.Order.reduce.Goals as goal

pub try_live-requires-clause-live : goal.try_live-requires-clause-live
try_live-requires-clause-live c = let due = c.in-Some.ensures.some in place_has c.in-Some.id due.place c.loop-id.self.sides due.stands

pub add-requires-clause-fits : goal.add-requires-clause-fits
add-requires-clause-fits c =
    let w = c.in-Ok.field-0 in
    let due = c.in-Some.ensures.some in
    fits_purge c.args.limit c.args.now due.place c.loop-id.granted c.in-Some.id w.pages w.known w.block c.args.self.now c.args.book.now c.args.pool.now c.loop-id.self c.try_live.new.self c.loop-id.book c.loop-id.pool
    c.loop-id.invariant due.stands.inside (c.in-Ok.ensures.won due.place due.stands)

pub loop-id-preserved-in-Ok : goal.loop-id-preserved-in-Ok
loop-id-preserved-in-Ok c =
    let w = c.in-Ok.field-0 in
    let due = c.in-Some.ensures.some in
    let won = c.in-Ok.ensures.won due.place due.stands in
    going_won c.args.limit c.args.now due.place c.loop-id.granted c.in-Some.id w.pages w.known (c.loop-id.granted - c.from.result) w.block c.args.self.now c.args.book.now c.args.pool.now
    c.loop-id.self c.try_live.new.self c.loop-id.book c.add.new.self c.loop-id.pool c.put.new.self
    c.loop-id.invariant due.due won c.in-Ok.ensures.spare
    (let total = c.loop-id.invariant.total in let left = won.left in let from = c.from.ensures in omega (arith, total, left, from))
    c.add.ensures.entries c.add.ensures.spare c.add.ensures.live c.put.ensures

pub loop-id-smaller : goal.loop-id-smaller
loop-id-smaller c =
    let due = c.in-Some.ensures.some in
    less_where_lost c.args.limit c.args.now due.place _ c.loop-id.self c.try_live.new.self due.due (c.in_default-try_live.ensures.lost due.place due.stands)

pub loop-id-smaller-in-Ok : goal.loop-id-smaller-in-Ok
loop-id-smaller-in-Ok c = let due = c.in-Some.ensures.some in (c.in-Ok.ensures.won due.place due.stands).less

pub loop-id-preserved : goal.loop-id-preserved
loop-id-preserved c =
    let due = c.in-Some.ensures.some in
    going_lost c.args.limit c.args.now due.place _ c.loop-id.granted c.args.self.now c.args.book.now c.args.pool.now c.loop-id.self c.try_live.new.self c.loop-id.book c.loop-id.pool
    c.loop-id.invariant due.due (c.in_default-try_live.ensures.lost due.place due.stands) c.try_live.ensures.spare

pub loop-id-init : goal.loop-id-init
loop-id-init c = going_first c.args.limit c.args.now c.args.granted.now c.args.self.now c.args.book.now c.args.pool.now c.requires.live c.requires.granted c.requires.spare

pub returns-clause-reduces : goal.returns-clause-reduces
returns-clause-reduces c =
    let counted = c.loop-id.invariant.counted in
    reduces_to c.args.limit c.args.now c.loop-id.granted (c.live-before.result - c.live.result) c.least_use-least.result c.args.self.now c.args.book.now c.args.pool.now
    c.loop-id.self c.loop-id.book c.loop-id.pool c.add-2.new.self.entries
    c.loop-id.invariant c.in_default.ensures.none c.add-2.ensures.entries (let before = c.live-before.ensures in let after = c.live.ensures in omega (arith, counted, before, after))

pub returns-clause-live : goal.returns-clause-live
returns-clause-live c = live_reduced c.loop-id.book.entries c.add-2.new.self.entries c.args.limit c.args.now c.loop-id.granted c.least_use-least.result c.add-2.ensures.live ∙ c.loop-id.invariant.live

pub overflow_sub-granted : goal.overflow_sub-granted
overflow_sub-granted c =
    let due = c.in-Some.ensures.some in
    let left = (c.in-Ok.ensures.won due.place due.stands).left in
    let total = c.loop-id.invariant.total in
    let from = c.from.ensures in
    omega (arith, left, total, from)
