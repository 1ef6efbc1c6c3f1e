use Rattle.std.proofs.Common.{◌≡◌, rules, arith, ap}
use Rattle.manager.specs.Tokens.{Tokens}
use Rattle.serve_run.specs.Working.{one_part}
use Rattle.serve_run.proofs.RunServed.{taken_from}
use Rattle.serve_run.proofs.workers.serve_all.Goals as goal

pub workers_of-requires-clause-parts : goal.workers_of-requires-clause-parts
workers_of-requires-clause-parts g c = omega (arith, c.requires.lawful.clients.1, ap (λ (t : Tokens). t.parts) c.requires.whole)

pub take_all-requires-clause-few : goal.take_all-requires-clause-few
take_all-requires-clause-few g c = c.requires.lawful.clients.1

pub returns-clause-replies : goal.returns-clause-replies
returns-clause-replies g c = c.joined-replies.ensures.replies c.in_ok-workers-2.ensures.complete

pub returns-clause-taken : goal.returns-clause-taken
returns-clause-taken g c =
    let share : c.into_parts-pass.result.1 ≡ one_part 0 c.args.run.now.cfg.rounds = search rules in
    taken_from _ _ _ _ _ _ c.in_ok-taken.ensures.taken
    (omega (arith, c.merge.ensures.parts, ap (λ (t : Tokens). t.parts) share, c.in_ok-workers.ensures.parts, ap (λ (t : Tokens). t.parts) c.requires.whole))
    (omega (arith, c.merge.ensures.grants, ap (λ (t : Tokens). t.grants) share, c.in_ok-workers.ensures.grants, ap (λ (t : Tokens). t.grants) c.requires.whole))
    (omega (arith, c.merge.ensures.rounds, ap (λ (t : Tokens). t.rounds) share, c.in_ok-workers.ensures.rounds, ap (λ (t : Tokens). t.rounds) c.requires.whole))
