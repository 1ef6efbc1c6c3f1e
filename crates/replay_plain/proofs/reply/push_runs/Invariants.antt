use Rattle.std.proofs.Common.{◌≡◌, ◌++◌, take, codes}
use Rattle.std.specs.List.{flat_map}
use Rattle.replay_plain.specs.Replies.{run_words}
use Rattle.replay_plain.proofs.reply.push_runs.Given as goal

abbrev pub invariant-loop-place : goal.invariant-loop-place
invariant-loop-place l = l.text.items ≡ l.fn.text.items ++ (codes "runs" ++ flat_map run_words (take l.place l.runs))
