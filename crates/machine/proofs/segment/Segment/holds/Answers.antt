use Rattle.std.proofs.Common.{◌≡◌, false, length, sym, ap, ◌∙◌, arith}
use Rattle.machine.specs.KeptSegment.{KeptSegment}
use Rattle.machine.proofs.Told.{plain_told, flags_told, plain_holds}
use Rattle.machine.proofs.ByteRanges.{bytes_past, bytes_told}
use Rattle.machine.proofs.segment.Segment.holds.Goals as goal

pub returns-in_default-clause-told : goal.returns-in_default-clause-told
returns-in_default-clause-told c = λ h s w.
    let kept = c.args.self.now in
    let sized = ap (λ (k : KeptSegment). length k.held) c.self.view_is in
    let plain : kept.ended ≡ false = sym (ap (λ (k : KeptSegment). k.ended) c.self.view_is) ∙ c.if-self.false in
    let few = c.self.invariant.2 in
    let flags = c.self.inside.held.ok.0 in
    let far = c.in_default.ensures in
    plain_holds h s c.args.place c.args.count kept false w plain
    (sym (bytes_past h s c.args.place c.args.count kept w (plain_told h s kept w plain) (omega arith) (omega arith)))

pub returns-then-last-pages-clause-told : goal.returns-then-last-pages-clause-told
returns-then-last-pages-clause-told c = λ h s w.
    let kept = c.args.self.now in
    let sized = ap (λ (k : KeptSegment). length k.held) c.self.view_is in
    let plain : kept.ended ≡ false = sym (ap (λ (k : KeptSegment). k.ended) c.self.view_is) ∙ c.if-self.false in
    let last = c.in-Some.ensures.1 in
    plain_holds h s c.args.place c.args.count kept false w plain
    (sym (bytes_past h s c.args.place c.args.count kept w (plain_told h s kept w plain) (omega arith) (omega arith)))

pub returns-clause-told : goal.returns-clause-told
returns-clause-told c = λ h s w.
    let kept = c.args.self.now in
    let same : kept.held ≡ c.deref.result.now = sym (ap (λ (k : KeptSegment). k.held) c.self.view_is) ∙ sym c.deref.ensures.value in
    let plain : kept.ended ≡ false = sym (ap (λ (k : KeptSegment). k.ended) c.self.view_is) ∙ c.if-self.false in
    plain_holds h s c.args.place c.args.count kept c.all_are.result w plain
    (bytes_told h s c.args.place c.args.count c.in-Some.last c.deref.result.now c.all_are.result (flags_told h s kept c.deref.result.now w (plain_told h s kept w plain) same) (omega arith)
    c.in-Some.ensures.1 c.all_are.ensures.all c.all_are.ensures.some)
