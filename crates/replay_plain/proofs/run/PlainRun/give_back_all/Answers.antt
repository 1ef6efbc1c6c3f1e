use Rattle.std.proofs.Common.{◌≤◌, ◌+◌, vec_len, sym, ◌∙◌, subst, arith}
use Rattle.replay_plain.specs.declared.run.PlainRun.{PlainRun}
use Rattle.replay_plain.specs.State.{ReplayState}
use Rattle.replay_plain.specs.Run.{RunStandsFor}
use Rattle.replay_plain.proofs.Returns.{ReturnsLeft, returns_next, returns_passed, returns_over}
use Rattle.replay_plain.proofs.run.PlainRun.give_back_all.Goals as goal
use Rattle.replay_plain.proofs.run.PlainRun.give_back_all.Goals.{then-has+in_ok-give_back, else-has}

pub loop-id-preserved : goal.loop-id-preserved
loop-id-preserved c =
    elim c.if-has.branch [
      | then-has+in_ok-give_back t ↦ subst (λ (run : PlainRun). ((first : ReplayState) → RunStandsFor c.args.self.now first
          → ReturnsLeft c.args.client first run (c.loop-id.id + 1)) × (vec_len c.args.self.now.entries ≤ vec_len run.entries)) (sym t.self-is) (
            λ first w.
                returns_next c.args.client first c.loop-id.self t.give_back.new.self c.loop-id.id
                (λ state stands drawn.
                let whole = c.next-id-end.ensures.next in
                let at = w.known.drawn in
                let there = stands.known.drawn in
                let more = c.loop-id-test.true in
                sym (c.has.ensures state.events stands.known (omega arith)) ∙ t.if-has.true)
                t.in_ok-give_back.ensures.state (c.loop-id.invariant.0 first w),
            let more = t.in_ok-give_back.ensures.more in
                let so_far = c.loop-id.invariant.1 in
                omega arith,
          )
      | else-has t ↦ subst (λ (run : PlainRun). ((first : ReplayState) → RunStandsFor c.args.self.now first
          → ReturnsLeft c.args.client first run (c.loop-id.id + 1)) × (vec_len c.args.self.now.entries ≤ vec_len run.entries)) (sym t.self-is) (
            λ first w.
                returns_passed c.args.client first c.loop-id.self c.loop-id.id
                (λ state stands drawn.
                let whole = c.next-id-end.ensures.next in
                let at = w.known.drawn in
                let there = stands.known.drawn in
                let more = c.loop-id-test.true in
                sym (c.has.ensures state.events stands.known (omega arith)) ∙ t.if-has.false)
                (c.loop-id.invariant.0 first w),
            c.loop-id.invariant.1,
          )
    ]

pub returns-clause-state : goal.returns-clause-state
returns-clause-state c = λ first w.
    let whole = c.next-id-end.ensures.next in
    let at = w.known.drawn in
    let over = c.loop-id-test.false in
    returns_over c.args.client first c.loop-id.self c.loop-id.id (omega arith) (c.loop-id.invariant.0 first w)
