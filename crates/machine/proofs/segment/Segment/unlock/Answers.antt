use Rattle.std.proofs.Common.{◌≡◌, ◌-◌, max, nat_eq, Bool, List, length, vec_len, refl, false, count_by, sym, ap, subst, cond, ◌∙◌, arith, get_or}
use Rattle.std.specs.Vec.{with_items}
use Rattle.std.proofs.lemmas.List.{with_items_is}
use Rattle.std.proofs.lemmas.Bool.{ne_eqb}
use Rattle.machine.specs.declared.event.Answer.TheVariants.{Idle, StillHeld}
use Rattle.machine.specs.declared.event.Event.TheVariants.{Unlock}
use Rattle.units.specs.Range.{is_within}
use Rattle.machine.specs.Answers.{staying}
use Rattle.machine.specs.KeptSegment.{KeptSegment}
use Rattle.machine.specs.Segments.{Shows}
use Rattle.machine.specs.contracts.segment.Segment.{the_view}
use Rattle.machine.proofs.Untouched.{shows_misuse}
use Rattle.machine.proofs.Steps.{shows_idle, shows_still_held}
use Rattle.machine.proofs.Told.{unlock_misuse, unlock_answer, unlock_plain, staying_told}
use Rattle.machine.proofs.segment.Segment.unlock.Goals as goal

pub returns-then-not-can_unlock-clause-answer : goal.returns-then-not-can_unlock-clause-answer
returns-then-not-can_unlock-clause-answer c = λ h s w. unlock_misuse h s c.args.first c.args.count c.args.at (c.if-not-can_unlock.ensures.told h s w)

pub returns-then-not-can_unlock-clause-after : goal.returns-then-not-can_unlock-clause-after
returns-then-not-can_unlock-clause-after c = λ h s w. shows_misuse h (Unlock s c.args.first c.args.count c.args.at) s c.args.self.now w

pub set_all-requires-clause-inside : goal.set_all-requires-clause-inside
set_all-requires-clause-inside c =
    let inside = c.if-not-can_unlock.ensures.inside refl in
    let same = ap length (c.deref_mut.ensures.value ∙ ap (λ (k : KeptSegment). k.held) c.self.view_is) in
    omega arith

pub set_all-requires-clause-other : goal.set_all-requires-clause-other
set_all-requires-clause-other c = λ page low high.
    ap (λ (xs : List Bool). get_or xs page false) (c.deref_mut.ensures.value ∙ ap (λ (k : KeptSegment). k.held) c.self.view_is)
    ∙ c.if-not-can_unlock.ensures.held refl page low high

pub returns-then-self-gt0-clause-answer : goal.returns-then-self-gt0-clause-answer
returns-then-self-gt0-clause-answer c = λ h s w.
    let kept = c.args.self.now in
    let flags = c.set_all.new.pages in
    let held : c.deref_mut.result.now ≡ kept.held = c.deref_mut.ensures.value ∙ ap (λ (k : KeptSegment). k.held) c.self.view_is in
    let sized : length flags ≡ length kept.held = c.set_all.auto.pages ∙ ap length held in
    let stay = staying_told h s c.args.first c.args.count kept flags w (unlock_plain h s c.args.first c.args.count c.args.at (c.if-not-can_unlock.ensures.told h s w)) sized
    (λ page. c.set_all.ensures.after page ∙ ap (λ (xs : List Bool). cond (is_within c.args.first c.args.count page) false (get_or xs page false)) held) in
    let before = ap (λ (xs : List Bool). count_by (λ b. b) xs) c.deref_mut.ensures.value in
    let counted = c.set_all.ensures.counted in
    let invariant = c.self.invariant.0 in
    let n : c.self.inside.held_count - c.args.count ≡ staying h s c.args.first c.args.count = omega arith in
    let some : nat_eq (c.self.inside.held_count - c.args.count) 0 ≡ false = ne_eqb _ _ (λ e. omega arith) in
    sym (ap (λ (b : Bool). cond b (Idle (max kept.stamp c.args.at)) (StillHeld (c.self.inside.held_count - c.args.count))) some)
    ∙ unlock_answer h s c.args.first c.args.count c.args.at (c.self.inside.held_count - c.args.count) kept w (c.if-not-can_unlock.ensures.told h s w) n

pub returns-then-self-gt0-clause-after : goal.returns-then-self-gt0-clause-after
returns-then-self-gt0-clause-after c = λ h s w.
    let sized : length c.set_all.new.pages ≡ vec_len c.self.inside.held = c.set_all.auto.pages ∙ c.deref_mut.ensures.len in
    let written = with_items_is c.self.inside.held c.set_all.new.pages sized in
    shows_still_held h s c.args.first c.args.count c.args.at (c.self.inside.held_count - c.args.count) (the_view c.self.inside) (with_items c.self.inside.held c.set_all.new.pages).items
    (subst (λ (k : KeptSegment). Shows h s k) (sym c.self.view_is) w)
    (ap length written ∙ sized ∙ c.self.inside.held.ok.0)
    (λ page. ap (λ (xs : List Bool). get_or xs page false) written ∙ c.set_all.ensures.after page
    ∙ ap (λ (xs : List Bool). cond (is_within c.args.first c.args.count page) false (get_or xs page false)) c.deref_mut.ensures.value)

pub returns-clause-answer : goal.returns-clause-answer
returns-clause-answer c = λ h s w.
    let kept = c.args.self.now in
    let flags = c.set_all.new.pages in
    let held : c.deref_mut.result.now ≡ kept.held = c.deref_mut.ensures.value ∙ ap (λ (k : KeptSegment). k.held) c.self.view_is in
    let sized : length flags ≡ length kept.held = c.set_all.auto.pages ∙ ap length held in
    let stay = staying_told h s c.args.first c.args.count kept flags w (unlock_plain h s c.args.first c.args.count c.args.at (c.if-not-can_unlock.ensures.told h s w)) sized
    (λ page. c.set_all.ensures.after page ∙ ap (λ (xs : List Bool). cond (is_within c.args.first c.args.count page) false (get_or xs page false)) held) in
    let before = ap (λ (xs : List Bool). count_by (λ b. b) xs) c.deref_mut.ensures.value in
    let counted = c.set_all.ensures.counted in
    let invariant = c.self.invariant.0 in
    let n : 0 ≡ staying h s c.args.first c.args.count = omega arith in
    ap Idle (c.max-self-inside.ensures ∙ ap (λ t. max t c.args.at) (ap (λ (k : KeptSegment). k.stamp) c.self.view_is))
    ∙ unlock_answer h s c.args.first c.args.count c.args.at 0 kept w (c.if-not-can_unlock.ensures.told h s w) n

pub returns-clause-after : goal.returns-clause-after
returns-clause-after c = λ h s w.
    let sized : length c.set_all.new.pages ≡ vec_len c.self.inside.held = c.set_all.auto.pages ∙ c.deref_mut.ensures.len in
    let written = with_items_is c.self.inside.held c.set_all.new.pages sized in
    shows_idle h s c.args.first c.args.count c.args.at c.max-self-inside.result (the_view c.self.inside) (with_items c.self.inside.held c.set_all.new.pages).items
    (subst (λ (k : KeptSegment). Shows h s k) (sym c.self.view_is) w)
    (ap length written ∙ sized ∙ c.self.inside.held.ok.0)
    (λ page. ap (λ (xs : List Bool). get_or xs page false) written ∙ c.set_all.ensures.after page
    ∙ ap (λ (xs : List Bool). cond (is_within c.args.first c.args.count page) false (get_or xs page false)) c.deref_mut.ensures.value)
    c.max-self-inside.ensures
