use Rattle.std.proofs.Common.{List, ℕ, map, subst, ◌∙◌}
use Rattle.machine.specs.declared.event.Event.TheVariants as event
use Rattle.script_heaps.specs.Holding.{told}
use Rattle.replay_plain.specs.Pieces.{holding_of, with_holding}
use Rattle.replay_plain.specs.State.{after_events}
use Rattle.replay_plain.specs.Run.{RunStandsFor}
use Rattle.std.proofs.lemmas.Result.{on_ok_weaker}
use Rattle.replay_plain.proofs.Allocating.{tell_stands, told_after}
use Rattle.replay_plain.proofs.run.PlainRun.tell.Goals as goal

pub returns-clause-state : goal.returns-clause-state
returns-clause-state c =
    on_ok_weaker c.give_back_each.result
    (λ gives state w.
    let one = gives _ (tell_stands _ _ state c.args.client w c.take_untold-ids.ensures.told) in
    let moved = subst (RunStandsFor c.give_back_each.new.self) (told_after (map (λ (id : ℕ). event.Back id) c.deref.result.now) state c.args.client (told (holding_of state c.args.client))) one in
    subst (λ (xs : List ℕ). RunStandsFor c.give_back_each.new.self
    (with_holding (after_events state (map (λ (id : ℕ). event.Back id) xs)) c.args.client (told (holding_of state c.args.client))))
    (c.deref.ensures.value ∙ c.take_untold-ids.ensures.ids state.heaps w.heaps) moved)
    c.give_back_each.ensures.state
