use Rattle.std.proofs.Common.{◌++◌, ap, ◌∙◌, subst, ◌∷◌}
use Rattle.std.proofs.lemmas.Result.{on_ok_weaker}
use Rattle.machine.specs.declared.event.Event.TheVariants.{Write}
use Rattle.machine.specs.declared.event.Answer.{Answer}
use Rattle.machine.specs.Answers.{answered}
use Rattle.replay_plain.specs.Replies.{answer_text}
use Rattle.replay_real.specs.Owners.{ShowsEach}
use Rattle.replay_real.proofs.OneLine.{appends, answer_line}
use Rattle.replay_real.proofs.Following.{stands_after, plain_write}
use Rattle.replay_real.proofs.run.RealRun.write.Goals as goal

pub returns-clause-words : goal.returns-clause-words
returns-clause-words c = on_ok_weaker c.push_answer.result (λ is. appends _ _ _ is (answer_line c.write.result)) c.push_answer.ensures

pub returns-clause-follows : goal.returns-clause-follows
returns-clause-follows c = on_ok_weaker c.push_answer.result (λ is state w.
    let e = Write c.args.id c.args.place c.args.bytes.now in
    record {
      reply = is ∙ ap (λ (a : Answer). c.args.reply.now.items ++ answer_text a) (c.write.ensures.answer (answered state.events) w.owners);
      stands = stands_after c.args.self.now.state c.args.self.now.owners c.write.new.self state e (plain_write state c.args.id c.args.place c.args.bytes.now) w
          (λ h shows. subst (λ (a : Answer). ShowsEach ((e, a) ∷ h) c.write.new.self) (c.write.ensures.answer h shows) (c.write.ensures.after h shows))
          c.write.ensures.clients c.write.ensures.places;
    }) c.push_answer.ensures
