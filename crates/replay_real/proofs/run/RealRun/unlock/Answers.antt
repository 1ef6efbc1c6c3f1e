use Rattle.std.proofs.Common.{◌++◌, ap, ◌∙◌, subst, ◌∷◌}
use Rattle.std.proofs.lemmas.Result.{on_ok_weaker}
use Rattle.machine.specs.declared.event.Event.TheVariants.{Unlock}
use Rattle.machine.specs.declared.event.Answer.{Answer}
use Rattle.machine.specs.Answers.{answered}
use Rattle.replay_plain.specs.Replies.{answer_text}
use Rattle.replay_real.specs.Owners.{ShowsEach}
use Rattle.replay_real.proofs.OneLine.{appends, answer_line}
use Rattle.replay_real.proofs.Following.{stands_after, plain_unlock}
use Rattle.replay_real.proofs.run.RealRun.unlock.Goals as goal

pub returns-clause-words : goal.returns-clause-words
returns-clause-words c = on_ok_weaker c.push_answer.result (λ is. appends _ _ _ is (answer_line c.unlock.result)) c.push_answer.ensures

pub returns-clause-follows : goal.returns-clause-follows
returns-clause-follows c = on_ok_weaker c.push_answer.result (λ is state w.
    let e = Unlock c.args.id c.args.first c.args.count c.args.now in
    record {
      reply = is ∙ ap (λ (a : Answer). c.args.reply.now.items ++ answer_text a) (c.unlock.ensures.answer (answered state.events) w.owners);
      stands = stands_after c.args.self.now.state c.args.self.now.owners c.unlock.new.self state e (plain_unlock state c.args.id c.args.first c.args.count c.args.now) w
          (λ h shows. subst (λ (a : Answer). ShowsEach ((e, a) ∷ h) c.unlock.new.self) (c.unlock.ensures.answer h shows) (c.unlock.ensures.after h shows))
          c.unlock.ensures.clients c.unlock.ensures.places;
    }) c.push_answer.ensures
