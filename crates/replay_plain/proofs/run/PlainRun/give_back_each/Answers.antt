use Rattle.std.proofs.Common.{◌≡◌, ℕ, List, map, take, subst, arith}
use Rattle.std.proofs.lemmas.List.{take_all}
use Rattle.machine.specs.declared.event.Event.TheVariants as event
use Rattle.replay_plain.specs.State.{after_events}
use Rattle.replay_plain.specs.Run.{RunStandsFor}
use Rattle.replay_plain.proofs.Allocating.{each_more}
use Rattle.replay_plain.proofs.run.PlainRun.give_back_each.Goals as goal

pub loop-id-preserved : goal.loop-id-preserved
loop-id-preserved c = (
  λ first w.
      let within = c.loop-id-test.true in
      subst (RunStandsFor c.give_back.new.self) (each_more c.args.ids.now c.loop-id.id-index 0 first (omega arith))
      (c.in_ok-give_back.ensures.state _ (c.loop-id.invariant.0 first w)),
  let more = c.in_ok-give_back.ensures.more in
      let so_far = c.loop-id.invariant.1 in
      omega arith,
)

pub returns-clause-state : goal.returns-clause-state
returns-clause-state c = λ first w.
    let over = c.loop-id-test.false in
    let within = c.loop-id.auto.id-index-end in
    let all : take c.loop-id.id-index c.args.ids.now ≡ c.args.ids.now = take_all c.loop-id.id-index c.args.ids.now (omega arith) in
    subst (λ (xs : List ℕ). RunStandsFor c.loop-id.self (after_events first (map (λ (id : ℕ). event.Back id) xs))) all (c.loop-id.invariant.0 first w)
