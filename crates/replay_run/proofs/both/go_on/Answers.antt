use Rattle.std.proofs.Common.{Option, subst}
use Rattle.replay_run.specs.declared.differ.Differ.{Differ}
use Rattle.replay_run.specs.Both.{RanBeside}
use Rattle.replay_run.proofs.both.go_on.Goals as goal

pub returns-in-Some : goal.returns-in-Some
returns-in-Some c =
    rw c.in-Agrees.is (
      c.run_beside.new.real,
      subst (λ (told : Option Differ). RanBeside told c.args.place c.args.command.now c.args.reply.now c.args.added.now c.in-Agrees.real c.run_beside.new.real)
          c.in-Some.is c.in_ok-differ.ensures,
    )
