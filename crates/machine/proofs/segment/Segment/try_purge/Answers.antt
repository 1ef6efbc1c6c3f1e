use Rattle.std.proofs.Common.{◌≡◌, ◌==◌, nat_lt, Bool, true, false, List, ◌∷◌, unwrap_or, count_by, sym, ap, subst, cond, ◌∙◌, arith, eq-eqb, ℕ}
use Rattle.std.proofs.lemmas.Bool.Decides.{nat_tests}
use Rattle.std.proofs.lemmas.Bool.{ne_eqb}
use Rattle.machine.specs.declared.event.Answer.TheVariants.{Taken, Used}
use Rattle.machine.specs.declared.event.Event.TheVariants.{Try}
use Rattle.machine.specs.Answers.{tried}
use Rattle.machine.specs.KeptSegment.{KeptSegment}
use Rattle.machine.specs.Segments.{Shows}
use Rattle.machine.specs.contracts.segment.Segment.{the_view}
use Rattle.machine.proofs.Untouched.{shows_misuse}
use Rattle.machine.proofs.Steps.{shows_taken, shows_used}
use Rattle.machine.proofs.Told.{try_misuse, try_answer}
use Rattle.machine.proofs.segment.Segment.try_purge.Goals as goal

pub returns-then-not-can_try-clause-answer : goal.returns-then-not-can_try-clause-answer
returns-then-not-can_try-clause-answer c = λ h s w. try_misuse h s c.args.now (c.if-not-can_try.ensures h s w)

pub returns-then-not-can_try-clause-after : goal.returns-then-not-can_try-clause-after
returns-then-not-can_try-clause-after c = λ h s w. shows_misuse h (Try s c.args.now) s c.args.self.now w

pub returns-then-self-gt0-clause-answer : goal.returns-then-self-gt0-clause-answer
returns-then-self-gt0-clause-answer c = λ h s w.
    let k = the_view c.self.inside in
    let counted = c.self.invariant.0 in
    let some : nat_lt 0 (count_by (λ (b : Bool). b) k.held) ≡ true = grind (arith, nat_tests) in
    sym (ap (λ (b : Bool). tried b k.stamp (unwrap_or k.known 0) c.args.now) some)
    ∙ try_answer h s c.args.now k (subst (λ (k : KeptSegment). Shows h s k) (sym c.self.view_is) w) (c.if-not-can_try.ensures h s w)

pub returns-then-self-gt0-clause-after : goal.returns-then-self-gt0-clause-after
returns-then-self-gt0-clause-after c = λ h s w. shows_used h s c.args.now c.args.now (the_view c.self.inside) (subst (λ (k : KeptSegment). Shows h s k) (sym c.self.view_is) w)

pub returns-then-unwrap_or-self-clause-answer : goal.returns-then-unwrap_or-self-clause-answer
returns-then-unwrap_or-self-clause-answer c = λ h s w.
    let k = the_view c.self.inside in
    let counted = c.self.invariant.0 in
    let none : nat_lt 0 (count_by (λ (b : Bool). b) k.held) ≡ false = grind (arith, nat_tests) in
    let same : (unwrap_or k.known 0 == k.stamp) ≡ true = eq-eqb _ _ (sym c.unwrap_or.ensures ∙ c.if-unwrap_or-self.true) in
    sym (ap (λ (b : Bool). tried b k.stamp (unwrap_or k.known 0) c.args.now) none ∙ ap (λ (b : Bool). cond b Taken (Used k.stamp)) same)
    ∙ try_answer h s c.args.now k (subst (λ (k : KeptSegment). Shows h s k) (sym c.self.view_is) w) (c.if-not-can_try.ensures h s w)

pub returns-then-unwrap_or-self-clause-after : goal.returns-then-unwrap_or-self-clause-after
returns-then-unwrap_or-self-clause-after c = λ h s w.
    let k = the_view c.self.inside in
    subst (λ (bytes : List ℕ). Shows ((Try s c.args.now, Taken) ∷ h) s (record k { bytes = bytes; gone = true })) (sym c.new.ensures.items)
    (shows_taken h s c.args.now k (subst (λ (k : KeptSegment). Shows h s k) (sym c.self.view_is) w))

pub returns-clause-answer : goal.returns-clause-answer
returns-clause-answer c = λ h s w.
    let k = the_view c.self.inside in
    let counted = c.self.invariant.0 in
    let none : nat_lt 0 (count_by (λ (b : Bool). b) k.held) ≡ false = grind (arith, nat_tests) in
    let other : (unwrap_or k.known 0 == k.stamp) ≡ false = ne_eqb _ _ (λ e. c.if-unwrap_or-self.false (c.unwrap_or.ensures ∙ e)) in
    sym (ap (λ (b : Bool). tried b k.stamp (unwrap_or k.known 0) c.args.now) none ∙ ap (λ (b : Bool). cond b Taken (Used k.stamp)) other)
    ∙ try_answer h s c.args.now k (subst (λ (k : KeptSegment). Shows h s k) (sym c.self.view_is) w) (c.if-not-can_try.ensures h s w)

pub returns-clause-after : goal.returns-clause-after
returns-clause-after c = λ h s w. shows_used h s c.args.now c.self.inside.stamp (the_view c.self.inside) (subst (λ (k : KeptSegment). Shows h s k) (sym c.self.view_is) w)
