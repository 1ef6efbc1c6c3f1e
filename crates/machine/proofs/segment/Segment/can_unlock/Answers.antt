use Rattle.std.proofs.Common.{◌≡◌, true, false, length, sym, ap, ◌∙◌, arith}
use Rattle.units.specs.Moment.{is_moment}
use Rattle.machine.specs.KeptSegment.{KeptSegment}
use Rattle.machine.proofs.Told.{plain_told, flags_told, held_told, past_the_end, unlock_told}
use Rattle.machine.proofs.segment.Segment.can_unlock.Goals as goal

pub returns-then-end-len-clause-told : goal.returns-then-end-len-clause-told
returns-then-end-len-clause-told c = λ h s w.
    let kept = c.args.self.now in
    let plain : kept.ended ≡ false = sym (ap (λ (k : KeptSegment). k.ended) c.self.view_is) ∙ c.if-self.false in
    let sized = ap (λ (k : KeptSegment). length k.held) c.self.view_is in
    let moment : is_moment c.args.at ≡ true = sym c.if-not-is_moment.ensures in
    unlock_told h s c.args.first c.args.count c.args.at kept false w plain (omega arith) moment
    (past_the_end h s c.args.first c.args.count kept w (plain_told h s kept w plain) (omega arith) (omega arith))

pub returns-clause-told : goal.returns-clause-told
returns-clause-told c = λ h s w.
    let kept = c.args.self.now in
    let same : kept.held ≡ c.deref.result.now = sym (ap (λ (k : KeptSegment). k.held) c.self.view_is) ∙ sym c.deref.ensures.value in
    let plain : kept.ended ≡ false = sym (ap (λ (k : KeptSegment). k.ended) c.self.view_is) ∙ c.if-self.false in
    let sized = ap length same in
    let moment : is_moment c.args.at ≡ true = sym c.if-not-is_moment.ensures in
    let held = held_told h s c.args.first c.args.count c.deref.result.now c.all_are.result (flags_told h s kept c.deref.result.now w (plain_told h s kept w plain) same)
    (λ r page low high. c.all_are.ensures.all r page (omega arith) (omega arith))
    (λ r. let found = c.all_are.ensures.some r in (found.0, omega (arith, found.1), omega (arith, found.2), found.3)) in
    unlock_told h s c.args.first c.args.count c.args.at kept c.all_are.result w plain (omega arith) moment held
