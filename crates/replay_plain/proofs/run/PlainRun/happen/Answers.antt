use Rattle.std.proofs.Common.{refl}
use Rattle.replay_plain.proofs.Standing.{stands_quiet, owners_quiet}
use Rattle.replay_plain.proofs.run.PlainRun.happen.Goals as goal

pub returns-clause-state : goal.returns-clause-state
returns-clause-state c = λ state w.
    let quiet = owners_quiet c.args.event.now c.in_ok-answer.answer c.requires in
    stands_quiet state c.args.event.now c.in_ok-answer.answer c.args.self.now _ quiet.0 quiet.1 (c.in_ok-answer.ensures.answer state.events w.segments)
    (c.in_ok-answer.ensures.after state.events w.segments) refl refl
    (record { limit = refl; standard = refl; heaps = refl }) w
