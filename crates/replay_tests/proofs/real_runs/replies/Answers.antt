use Rattle.std.proofs.Common.{◌≡◌, ℕ, ap, ◌∙◌, length}
use Rattle.std.proofs.lemmas.Iterator.Adapters.{YieldsList-from_vec}
use Rattle.std.proofs.lemmas.Iterator.Consumers.{YieldsList-turn}
use Rattle.script_text.specs.declared.command.Command.{Command}
use Rattle.replay_real.proofs.Scripts.{in_range_at}
use Rattle.replay_tests.proofs.real_runs.replies.Goals as goal

pub run-requires : goal.run-requires
run-requires c =
    let gives = c.into_iter-command-iterator.ensures.into_iter_gives in
    let script = c.args.script in
    let items : c.into_commands-command-items.result.items ≡ script = c.into_commands-command-items.ensures in
    let line : ℕ × Command = (c.in-Some.field-0-0, c.in-Some.command) in
    let sized = gives.1 ∙ c.into_commands-command-items.result.ok.0 ∙ ap length items in
    let at = YieldsList-turn (YieldsList-from_vec script (gives.0 ∙ items) sized) c.loop-command.yielded c.loop-command.command-iterator c.loop-command.yielded_by c.next.result c.next.new.self line c.in-Some.is c.next.ensures.steps in
    in_range_at script (length c.loop-command.yielded) line at.0 at.1 c.requires
