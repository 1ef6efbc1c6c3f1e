use Rattle.std.proofs.Common.{◌∷◌, [], refl, sym, ap, ◌∙◌, arith}
use Rattle.std.proofs.lemmas.List.{append-nil}
use Rattle.machine.specs.declared.event.Event.TheVariants.{Try}
use Rattle.discard_book.specs.declared.entry.Entry.TheVariants as entry
use Rattle.replay_plain.specs.State.{entries_by}
use Rattle.replay_plain.proofs.Standing.{stands_next, stands_quiet, try_quiet}
use Rattle.replay_plain.proofs.run.PlainRun.try_purge.Goals as goal

pub returns-in_ok-push-in-Taken-clause-state : goal.returns-in_ok-push-in-Taken-clause-state
returns-in_ok-push-in-Taken-clause-state c = λ state w.
    let is = sym (c.in_ok-answer.ensures.answer state.events w.segments) ∙ c.in-Taken.is in
    stands_next state (Try c.args.id c.args.now) c.args.self.now _ (entry.Purge c.args.id c.purged-known.result ∷ [])
    (c.in_ok-answer.ensures.after state.events w.segments)
    (c.purged-known.ensures.tells state.events c.args.now w.known is) c.in_ok-push-in-Taken.ensures.items
    (ap (λ known. entry.Purge c.args.id known ∷ []) (c.purged-known.ensures.known state.events c.args.now w.known is)
    ∙ ap (entries_by state.limit state.events (Try c.args.id c.args.now)) (sym is)) (record { limit = refl; standard = refl; heaps = refl }) w

pub returns-in-Used-clause-state : goal.returns-in-Used-clause-state
returns-in-Used-clause-state c = λ state w.
    let is = sym (c.in_ok-answer.ensures.answer state.events w.segments) ∙ c.in-Used.is in
    stands_next state (Try c.args.id c.args.now) c.args.self.now _ [] (c.in_ok-answer.ensures.after state.events w.segments)
    (c.used.ensures state.events c.args.now w.known is) (sym (append-nil c.args.self.now.entries.items))
    (ap (entries_by state.limit state.events (Try c.args.id c.args.now)) (sym is)) (record { limit = refl; standard = refl; heaps = refl }) w

pub returns-in_default : goal.returns-in_default
returns-in_default c =
    record {
      answer = λ state w. c.in_ok-answer.ensures.answer state.events w.segments;
      state = λ state w.
          stands_quiet state (Try c.args.id c.args.now) c.in_ok-answer.answer c.args.self.now _ refl
          (try_quiet c.args.id c.args.now c.in_ok-answer.answer c.in_default.not-Taken c.in_default.not-Used)
          (c.in_ok-answer.ensures.answer state.events w.segments) (c.in_ok-answer.ensures.after state.events w.segments) refl refl
          (record { limit = refl; standard = refl; heaps = refl }) w;
      more = omega arith;
    }
