use Rattle.std.proofs.Common.{ℕ, ◌-◌, suc, Option, subst, arith}
use Rattle.span_heap.specs.declared.run.Run.{Run}
use Rattle.replay_plain.specs.Searching.{PicksNext}
use Rattle.replay_plain.proofs.Allocating.{find_missed, find_served, find_next, find_over}
use Rattle.replay_plain.proofs.run.PlainRun.find.Goals as goal

pub returns-in_default-clause-finds : goal.returns-in_default-clause-finds
returns-in_default-clause-finds c = λ first w.
    let more = c.loop-test.true in
    let left : ℕ = c.free_pages-end.result - c.loop.counter - 1 in
    find_missed c.args.client c.args.pages first c.loop.self c.pick.new.self left
    (λ state stands. subst (λ (o : Option Run). PicksNext c.pick.new.self state c.args.client c.args.pages o) c.in_default.is (c.in_ok-run.ensures.picks state stands))
    (c.loop.invariant.0 first (suc left) w (omega arith))

pub returns-in_default-2 : goal.returns-in_default-2
returns-in_default-2 c =
    record {
      finds = λ first w.
          let more = c.loop-test.true in
          let left : ℕ = c.free_pages-end.result - c.loop.counter - 1 in
          find_served c.args.client c.args.pages first c.loop.self c.pick.new.self c.lock.new.self left c.in-Some.run' c.in_ok-lock.field-0
          (λ state stands. subst (λ (o : Option Run). PicksNext c.pick.new.self state c.args.client c.args.pages o) c.in-Some.is (c.in_ok-run.ensures.picks state stands))
          c.in_ok-lock.ensures.answer c.in_ok-lock.ensures.state c.in_default-2.not-Gone (c.loop.invariant.0 first (suc left) w (omega arith));
      more =
          let locked = c.in_ok-lock.ensures.more in
          let picked = c.in_ok-run.ensures.more in
          let so_far = c.loop.invariant.1 in
          omega arith;
    }

pub loop-preserved : goal.loop-preserved
loop-preserved c = (
  λ first left w is.
      find_next c.args.client c.args.pages first c.loop.self c.pick.new.self c.lock.new.self c.lose_last.new.self left c.in-Some.run' c.in_ok-lock.field-0
      (λ state stands. subst (λ (o : Option Run). PicksNext c.pick.new.self state c.args.client c.args.pages o) c.in-Some.is (c.in_ok-run.ensures.picks state stands))
      c.in_ok-lock.ensures.answer c.in_ok-lock.ensures.state c.in-Gone.is c.in_ok-lose_last-in-Gone.ensures.state
      (c.loop.invariant.0 first (suc left) w (omega arith)),
  let lost = c.in_ok-lose_last-in-Gone.ensures.more in
      let locked = c.in_ok-lock.ensures.more in
      let picked = c.in_ok-run.ensures.more in
      let so_far = c.loop.invariant.1 in
      omega arith,
)

pub returns-clause-finds : goal.returns-clause-finds
returns-clause-finds c = λ first w.
    let over = c.loop-test.false in
    let within = c.loop.auto.counter-end in
    find_over c.args.client c.args.pages first c.loop.self (c.loop.invariant.0 first 0 w (omega arith))
