use Rattle.std.proofs.Common.{◌≡◌, true, Bool, List, length, vec_len, refl, false, sym, ap, subst, cond, ◌∙◌, arith, get_or}
use Rattle.machine.specs.declared.event.Answer.TheVariants.{Held, Gone}
use Rattle.machine.specs.declared.event.Event.TheVariants.{Lock}
use Rattle.std.specs.Vec.{with_items}
use Rattle.std.proofs.lemmas.List.{with_items_is}
use Rattle.units.specs.Range.{is_within}
use Rattle.machine.specs.KeptSegment.{KeptSegment}
use Rattle.machine.specs.Segments.{Shows}
use Rattle.machine.specs.contracts.segment.Segment.{the_view}
use Rattle.machine.proofs.Untouched.{shows_misuse}
use Rattle.machine.proofs.Steps.{shows_lock, shows_lock_gone}
use Rattle.machine.proofs.Told.{lock_misuse, lock_answer}
use Rattle.machine.proofs.segment.Segment.lock.Goals as goal

pub returns-then-not-can_lock-clause-answer : goal.returns-then-not-can_lock-clause-answer
returns-then-not-can_lock-clause-answer c = λ h s w. lock_misuse h s c.args.first c.args.count (c.if-not-can_lock.ensures.told h s w)

pub returns-then-not-can_lock-clause-after : goal.returns-then-not-can_lock-clause-after
returns-then-not-can_lock-clause-after c = λ h s w. shows_misuse h (Lock s c.args.first c.args.count) s c.args.self.now w

pub returns-then-self-clause-answer : goal.returns-then-self-clause-answer
returns-then-self-clause-answer c = λ h s w.
    ap (λ (b : Bool). cond b Gone Held) (sym c.if-self.true ∙ ap (λ (k : KeptSegment). k.gone) c.self.view_is)
    ∙ lock_answer h s c.args.first c.args.count c.args.self.now w (c.if-not-can_lock.ensures.told h s w)

pub returns-then-self-clause-after : goal.returns-then-self-clause-after
returns-then-self-clause-after c = λ h s w. shows_lock_gone h s c.args.first c.args.count c.args.self.now w

pub set_all-requires-clause-inside : goal.set_all-requires-clause-inside
set_all-requires-clause-inside c =
    let inside = c.if-not-can_lock.ensures.inside refl in
    let same = ap length (c.deref_mut.ensures.value ∙ ap (λ (k : KeptSegment). k.held) c.self.view_is) in
    omega arith

pub set_all-requires-clause-other : goal.set_all-requires-clause-other
set_all-requires-clause-other c = λ page low high.
    ap (λ (xs : List Bool). get_or xs page false) (c.deref_mut.ensures.value ∙ ap (λ (k : KeptSegment). k.held) c.self.view_is)
    ∙ c.if-not-can_lock.ensures.free refl page low high

pub returns-clause-answer : goal.returns-clause-answer
returns-clause-answer c = λ h s w.
    ap (λ (b : Bool). cond b Gone Held) (sym c.if-self.false ∙ ap (λ (k : KeptSegment). k.gone) c.self.view_is)
    ∙ lock_answer h s c.args.first c.args.count c.args.self.now w (c.if-not-can_lock.ensures.told h s w)

pub returns-clause-after : goal.returns-clause-after
returns-clause-after c = λ h s w.
    let sized : length c.set_all.new.pages ≡ vec_len c.self.inside.held = c.set_all.auto.pages ∙ c.deref_mut.ensures.len in
    let written = with_items_is c.self.inside.held c.set_all.new.pages sized in
    shows_lock h s c.args.first c.args.count (the_view c.self.inside) (with_items c.self.inside.held c.set_all.new.pages).items
    (subst (λ (k : KeptSegment). Shows h s k) (sym c.self.view_is) w)
    (ap length written ∙ sized ∙ c.self.inside.held.ok.0)
    (λ page. ap (λ (xs : List Bool). get_or xs page false) written ∙ c.set_all.ensures.after page
    ∙ ap (λ (xs : List Bool). cond (is_within c.args.first c.args.count page) true (get_or xs page false)) c.deref_mut.ensures.value)
