use Rattle.std.proofs.Common.{◌+◌, ◌-◌, ◌*◌, arith}
use Rattle.replay_plain.proofs.Tries.{tries_first, tries_next, tries_ended, tries_over}
use Rattle.replay_plain.proofs.run.PlainRun.purge_to.Goals as goal

pub loop-init : goal.loop-init
loop-init c = (
  λ first left w is.
      let whole = c.next.ensures.next in
      tries_first c.args.limit c.args.now first c.args.self.now left w (omega arith),
  omega arith,
)

pub returns-in_default-clause-state : goal.returns-in_default-clause-state
returns-in_default-clause-state c = λ first w.
    let within = c.loop.auto.counter-end in
    let left = 2 * (c.next.result - 1) - c.loop.counter in
    tries_ended c.args.limit c.args.now first c.loop.self left c.in_default.ensures (c.loop.invariant.0 first left w (omega arith))

pub loop-preserved : goal.loop-preserved
loop-preserved c = (
  λ first left w is.
      tries_next c.args.limit c.args.now first c.loop.self c.try_purge.new.self left c.in-Some.id c.in-Some.ensures c.in_ok-try_purge.ensures.state
      (c.loop.invariant.0 first (left + 1) w (omega arith)),
  let more = c.in_ok-try_purge.ensures.more in
      let so_far = c.loop.invariant.1 in
      omega arith,
)

pub returns-clause-state : goal.returns-clause-state
returns-clause-state c = λ first w.
    let within = c.loop.auto.counter-end in
    let over = c.loop-test.false in
    tries_over c.args.limit c.args.now first c.loop.self (c.loop.invariant.0 first 0 w (omega arith))
