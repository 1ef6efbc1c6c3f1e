use Rattle.std.proofs.Common.{◌∷◌, [], refl, sym, ap, ◌∙◌, arith}
use Rattle.std.proofs.lemmas.List.{append-nil}
use Rattle.machine.specs.declared.event.Event.TheVariants.{Back}
use Rattle.discard_book.specs.declared.entry.Entry.TheVariants as entry
use Rattle.replay_plain.specs.State.{entries_by}
use Rattle.replay_plain.proofs.Standing.{stands_next, stands_quiet, back_quiet}
use Rattle.replay_plain.proofs.run.PlainRun.give_back.Goals as goal

pub returns-in_ok-push-in-Counted-clause-state : goal.returns-in_ok-push-in-Counted-clause-state
returns-in_ok-push-in-Counted-clause-state c = λ state w.
    let is = sym (c.in_ok-answer.ensures.answer state.events w.segments) ∙ c.in-Counted.is in
    stands_next state (Back c.args.id) c.args.self.now _ (entry.Back c.args.id ∷ []) (c.in_ok-answer.ensures.after state.events w.segments)
    (c.counted.ensures state.events w.known is) c.in_ok-push-in-Counted.ensures.items
    (ap (entries_by state.limit state.events (Back c.args.id)) (sym is)) (record { limit = refl; standard = refl; heaps = refl }) w

pub returns-in-Purged-clause-state : goal.returns-in-Purged-clause-state
returns-in-Purged-clause-state c = λ state w.
    let is = sym (c.in_ok-answer.ensures.answer state.events w.segments) ∙ c.in-Purged.is in
    stands_next state (Back c.args.id) c.args.self.now _ [] (c.in_ok-answer.ensures.after state.events w.segments)
    (c.returned.ensures state.events w.known is) (sym (append-nil c.args.self.now.entries.items))
    (ap (entries_by state.limit state.events (Back c.args.id)) (sym is)) (record { limit = refl; standard = refl; heaps = refl }) w

pub returns-in_default : goal.returns-in_default
returns-in_default c =
    record {
      answer = λ state w. c.in_ok-answer.ensures.answer state.events w.segments;
      state = λ state w.
          stands_quiet state (Back c.args.id) c.in_ok-answer.answer c.args.self.now _ refl
          (back_quiet c.args.id c.in_ok-answer.answer c.in_default.not-Counted c.in_default.not-Purged)
          (c.in_ok-answer.ensures.answer state.events w.segments) (c.in_ok-answer.ensures.after state.events w.segments) refl refl
          (record { limit = refl; standard = refl; heaps = refl }) w;
      more = omega arith;
    }
