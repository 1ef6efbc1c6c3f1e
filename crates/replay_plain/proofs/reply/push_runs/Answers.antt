use Rattle.std.proofs.Common.{arith}
use Rattle.replay_plain.proofs.Allocating.{runs_more, none_past}
use Rattle.replay_plain.proofs.reply.push_runs.Goals as goal
use Rattle.replay_plain.proofs.reply.push_runs.Goals.{in-Some+in_ok-push_run, in_default}

pub loop-place-preserved : goal.loop-place-preserved
loop-place-preserved c =
    elim c.match-get.branch [
      | in-Some+in_ok-push_run t ↦ rw t.text-is (runs_more c.args.runs.now c.loop-place.place t.in-Some.run' c.args.text.now.items c.loop-place.text.items _ t.in-Some.ensures c.loop-place.invariant t.in_ok-push_run.ensures)
      | in_default t ↦ absurd (none_past c.args.runs.now c.loop-place.place t.in_default.ensures (let within = c.loop-place-test.true in omega arith))
    ]
