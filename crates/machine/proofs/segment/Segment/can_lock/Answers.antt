use Rattle.std.proofs.Common.{◌≡◌, ◌+◌, ◌≤◌, false, length, sym, ap, ◌∙◌, arith}
use Rattle.machine.specs.KeptSegment.{KeptSegment}
use Rattle.machine.proofs.Told.{plain_told, flags_told, free_told, lock_told}
use Rattle.machine.proofs.segment.Segment.can_lock.Goals as goal

pub returns-clause-told : goal.returns-clause-told
returns-clause-told c = λ h s w.
    let kept = c.args.self.now in
    let same : kept.held ≡ c.deref.result.now = sym (ap (λ (k : KeptSegment). k.held) c.self.view_is) ∙ sym c.deref.ensures.value in
    let plain : kept.ended ≡ false = sym (ap (λ (k : KeptSegment). k.ended) c.self.view_is) ∙ c.if-self.false in
    let sized = ap length same in
    let inside : c.args.first + c.args.count ≤ length kept.held = omega arith in
    let free = free_told h s c.args.first c.args.count c.deref.result.now c.all_are.result (flags_told h s kept c.deref.result.now w (plain_told h s kept w plain) same)
    (λ r page low high. c.all_are.ensures.all r page (omega arith) (omega arith))
    (λ r. let found = c.all_are.ensures.some r in (found.0, omega (arith, found.1), omega (arith, found.2), found.3)) in
    lock_told h s c.args.first c.args.count kept c.all_are.result w plain (omega arith) inside free
