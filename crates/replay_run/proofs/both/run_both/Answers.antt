use Rattle.std.proofs.Common.{◌≡◌, ℕ, sym, ap, subst, ◌∙◌, length, take, arith}
use Rattle.std.proofs.lemmas.List.{length_push, take_all}
use Rattle.std.proofs.lemmas.Iterator.Adapters.{YieldsList-from_vec}
use Rattle.std.proofs.lemmas.Iterator.Consumers.{YieldsList-turn, YieldsList-end}
use Rattle.script_text.specs.declared.command.Command.{Command}
use Rattle.script_text.specs.Ranges.{IsInRange}
use Rattle.replay_plain.specs.State.{first_state}
use Rattle.replay_run.specs.Both.{BothStand}
use Rattle.replay_run.proofs.Turns.{range_at, turn}
use Rattle.replay_run.proofs.both.run_both.Goals as goal

pub run-requires-clause-range : goal.run-requires-clause-range
run-requires-clause-range c =
    let gives = c.into_iter-place-iterator.ensures.into_iter_gives in
    let script = c.args.script in
    let items : c.into_commands-place-items.result.items ≡ script = c.into_commands-place-items.ensures in
    let line : ℕ × Command = (c.in-Some.place, c.in-Some.command) in
    let sized = gives.1 ∙ c.into_commands-place-items.result.ok.0 ∙ ap length items in
    let at = YieldsList-turn (YieldsList-from_vec script (gives.0 ∙ items) sized) c.loop-place.yielded c.loop-place.place-iterator c.loop-place.yielded_by
    c.next.result c.next.new.self line c.in-Some.is c.next.ensures.steps in
    subst (λ (l : ℕ × Command). IsInRange l.1) (sym at.1) (range_at script (length c.loop-place.yielded) line at.0 c.requires)

pub loop-place-preserved-in_ok-run : goal.loop-place-preserved-in_ok-run
loop-place-preserved-in_ok-run c =
    let gives = c.into_iter-place-iterator.ensures.into_iter_gives in
    let script = c.args.script in
    let items : c.into_commands-place-items.result.items ≡ script = c.into_commands-place-items.ensures in
    let line : ℕ × Command = (c.in-Some.place, c.in-Some.command) in
    let sized = gives.1 ∙ c.into_commands-place-items.result.ok.0 ∙ ap length items in
    let at = YieldsList-turn (YieldsList-from_vec script (gives.0 ∙ items) sized) c.loop-place.yielded c.loop-place.place-iterator c.loop-place.yielded_by
    c.next.result c.next.new.self line c.in-Some.is c.next.ensures.steps in
    let first = first_state c.args.cfg.now in
    subst (λ (n : ℕ). BothStand c.run.new.self first (take n script)) (sym (length_push c.loop-place.yielded line))
    (turn first c.run.new.self script (length c.loop-place.yielded) line at.0 at.1
    (c.in_ok-run.ensures first (take (length c.loop-place.yielded) script) c.loop-place.invariant))

pub loop-place-preserved-in_ok-run-2 : goal.loop-place-preserved-in_ok-run-2
loop-place-preserved-in_ok-run-2 c =
    let gives = c.into_iter-place-iterator.ensures.into_iter_gives in
    let script = c.args.script in
    let items : c.into_commands-place-items.result.items ≡ script = c.into_commands-place-items.ensures in
    let line : ℕ × Command = (c.in-Some.place, c.in-Some.command) in
    let sized = gives.1 ∙ c.into_commands-place-items.result.ok.0 ∙ ap length items in
    let at = YieldsList-turn (YieldsList-from_vec script (gives.0 ∙ items) sized) c.loop-place.yielded c.loop-place.place-iterator c.loop-place.yielded_by
    c.next.result c.next.new.self line c.in-Some.is c.next.ensures.steps in
    let first = first_state c.args.cfg.now in
    subst (λ (n : ℕ). BothStand c.run.new.self first (take n script)) (sym (length_push c.loop-place.yielded line))
    (turn first c.run.new.self script (length c.loop-place.yielded) line at.0 at.1
    (c.in_ok-run.ensures first (take (length c.loop-place.yielded) script) c.loop-place.invariant))

pub loop-place-preserved : goal.loop-place-preserved
loop-place-preserved c =
    let gives = c.into_iter-place-iterator.ensures.into_iter_gives in
    let script = c.args.script in
    let items : c.into_commands-place-items.result.items ≡ script = c.into_commands-place-items.ensures in
    let line : ℕ × Command = (c.in-Some.place, c.in-Some.command) in
    let sized = gives.1 ∙ c.into_commands-place-items.result.ok.0 ∙ ap length items in
    let at = YieldsList-turn (YieldsList-from_vec script (gives.0 ∙ items) sized) c.loop-place.yielded c.loop-place.place-iterator c.loop-place.yielded_by
    c.next.result c.next.new.self line c.in-Some.is c.next.ensures.steps in
    let first = first_state c.args.cfg.now in
    subst (λ (n : ℕ). BothStand c.run.new.self first (take n script)) (sym (length_push c.loop-place.yielded line))
    (turn first c.run.new.self script (length c.loop-place.yielded) line at.0 at.1
    (c.in_ok-run.ensures first (take (length c.loop-place.yielded) script) c.loop-place.invariant))

pub returns : goal.returns
returns c =
    let gives = c.into_iter-place-iterator.ensures.into_iter_gives in
    let script = c.args.script in
    let items : c.into_commands-place-items.result.items ≡ script = c.into_commands-place-items.ensures in
    let sized = gives.1 ∙ c.into_commands-place-items.result.ok.0 ∙ ap length items in
    let over = YieldsList-end (YieldsList-from_vec script (gives.0 ∙ items) sized) c.loop-place.yielded c.loop-place.place-iterator c.loop-place.yielded_by
    c.next.result c.next.new.self c.in-None.is c.next.ensures.steps in
    let count = over.1 in
    subst (BothStand c.loop-place.runs (first_state c.args.cfg.now)) (take_all (length c.loop-place.yielded) script (omega arith)) c.loop-place.invariant
