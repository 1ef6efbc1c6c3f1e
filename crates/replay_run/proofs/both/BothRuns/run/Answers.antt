use Rattle.std.proofs.Common.{◌++◌, ◌∷◌, [], ℕ, List, length, ap, ◌∙◌}
use Rattle.replay_plain.specs.Commands.{state_after, state_after_all, added}
use Rattle.replay_plain.specs.Replies.{reply_of}
use Rattle.replay_run.proofs.Growing.{grows}
use Rattle.replay_run.proofs.Next.{both_next, beside_next, part_behind}
use Rattle.replay_run.proofs.both.BothRuns.run.Goals as goal

pub returns : goal.returns
returns c = λ first done w.
    let state = state_after_all first done in
    let command = c.args.command.now in
    let text = c.in_ok-run.ensures.reply state w.plain in
    let stands = c.in_ok-run.ensures.state state w.plain in
    both_next first done (c.args.place, command) c.args.self.now _ w
    (c.in_ok-push.ensures.items ∙ ap (λ (t : List ℕ). t ++ 10 ∷ []) text) stands
    (beside_next first done c.args.place command _ _ c.args.self.now.beside c.go_on.new.beside
    (part_behind c.args.self.now.text.items (reply_of state command) c.deref.result.now c.len-start.result
    (c.deref.ensures.value ∙ text) (c.len-start.ensures ∙ c.args.self.now.text.ok.0))
    (part_behind state.entries (added state command) c.entries.result.now (length c.entries-before.result.now)
    (c.entries.ensures.state (state_after state command) stands ∙ grows state command) (ap length (c.entries-before.ensures.state state w.plain)))
    w.beside c.in_ok-go_on.ensures)
