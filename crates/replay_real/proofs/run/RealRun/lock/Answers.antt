use Rattle.std.proofs.Common.{inl, inr, ⊎_elim, ◌++◌, ap, ◌∙◌, subst, ◌∷◌}
use Rattle.std.proofs.lemmas.Result.{on_ok_weaker}
use Rattle.machine.specs.declared.event.Event.TheVariants.{Lock}
use Rattle.machine.specs.declared.event.Answer.{Answer}
use Rattle.machine.specs.Answers.{answered}
use Rattle.replay_plain.specs.Replies.{answer_text}
use Rattle.replay_real.specs.Owners.{ShowsEach}
use Rattle.replay_real.proofs.OneLine.{appends, answer_line}
use Rattle.replay_real.proofs.Following.{stands_after, plain_lock, gone_or_not}
use Rattle.replay_real.proofs.run.RealRun.lock.Goals as goal

pub returns-clause-words : goal.returns-clause-words
returns-clause-words c = on_ok_weaker c.push_answer.result (λ is. appends _ _ _ is (answer_line c.lock.result)) c.push_answer.ensures

pub returns-clause-follows : goal.returns-clause-follows
returns-clause-follows c = on_ok_weaker c.push_answer.result (λ is state w.
    ⊎_elim
    (λ gone. inr (is ∙ ap (λ (a : Answer). c.args.reply.now.items ++ answer_text a) gone))
    (λ there.
    let e = Lock c.args.id c.args.first c.args.count in
    inl (record {
      reply = is ∙ ap (λ (a : Answer). c.args.reply.now.items ++ answer_text a) (c.lock.ensures.answer (answered state.events) w.owners there);
      stands = stands_after c.args.self.now.state c.args.self.now.owners c.lock.new.self state e (plain_lock state c.args.id c.args.first c.args.count) w
          (λ h shows. subst (λ (a : Answer). ShowsEach ((e, a) ∷ h) c.lock.new.self) (c.lock.ensures.answer h shows there) (c.lock.ensures.after h shows there))
          c.lock.ensures.clients c.lock.ensures.places;
    }))
    (gone_or_not c.lock.result)) c.push_answer.ensures
