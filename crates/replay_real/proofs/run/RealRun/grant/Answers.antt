use Rattle.std.proofs.Common.{◌++◌, ℕ, ◌+◌, List, sym, ap, ◌∙◌, subst, ◌∷◌}
use Rattle.std.proofs.lemmas.Result.{on_ok_weaker}
use Rattle.machine.specs.declared.event.Event.TheVariants.{Grant}
use Rattle.machine.specs.declared.event.Answer.TheVariants.{Granted}
use Rattle.replay_plain.specs.State.{grants_of}
use Rattle.replay_plain.specs.Replies.{answer_text}
use Rattle.replay_real.specs.Owners.{ShowsEach}
use Rattle.replay_real.proofs.OneLine.{appends, answer_line}
use Rattle.replay_real.proofs.BookGrows.{grows_grants, grows_runs_out}
use Rattle.replay_real.proofs.Following.{grants_next, stands_granted, grant_words}
use Rattle.replay_real.proofs.run.RealRun.grant.Goals as goal

pub returns-in_err-side-clause-book : goal.returns-in_err-side-clause-book
returns-in_err-side-clause-book c = grows_runs_out c.args.pages c.args.now c.args.self.now.state c.grant.new.self c.in_err-side.ensures.err

pub returns-in_err-add-clause-book : goal.returns-in_err-add-clause-book
returns-in_err-add-clause-book c = grows_grants c.args.client c.args.pages c.args.now c.in_ok-side.side c.args.self.now.state c.grant.new.self c.in_ok-side.ensures.ok

pub returns-clause-book : goal.returns-clause-book
returns-clause-book c = grows_grants c.args.client c.args.pages c.args.now c.in_ok-side.side c.args.self.now.state c.grant.new.self c.in_ok-side.ensures.ok

pub returns-clause-words : goal.returns-clause-words
returns-clause-words c = on_ok_weaker c.push_answer.result (λ is. appends _ _ _ is (answer_line (Granted c.id-id.result))) c.push_answer.ensures

pub returns-clause-follows : goal.returns-clause-follows
returns-clause-follows c = on_ok_weaker c.push_answer.result (λ is state w enough.
    let side = c.in_ok-side.side in
    let made = c.in_ok-side.ensures.ok in
    let next = grants_next state c.args.client c.args.pages c.args.now side c.args.self.now.state c.grant.new.self c.args.self.now.owners w
    c.requires.client c.requires.pages.0 c.requires.pages.1 enough made in
    record {
      reply = is ∙ ap (λ (words : List ℕ). c.args.reply.now.items ++ words)
          (ap (λ (id : ℕ). answer_text (Granted id)) c.id-id.ensures ∙ grant_words state c.args.client c.args.pages side c.args.self.now.state c.grant.new.self next);
      stands = stands_granted state c.args.client c.args.pages side c.args.self.now.state c.grant.new.self c.args.self.now.owners c.add.new.self w next
          (λ h shows. subst (λ (n : ℕ). ShowsEach ((Grant (grants_of state + 1) c.args.client n, Granted (grants_of state + 1)) ∷ h) c.add.new.self) made.enters.held.sized
          (c.in_ok-add.ensures.shows h (grants_of state + 1) c.args.client shows (sym w.places)))
          c.in_ok-add.ensures.clients c.in_ok-add.ensures.places;
    }) c.push_answer.ensures
