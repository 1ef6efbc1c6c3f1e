use Rattle.std.proofs.Common.{◌≡◌, [], length, sym, ap, subst, ◌∙◌}
use Rattle.std.specs.Vec.{with_items}
use Rattle.std.proofs.lemmas.List.{with_items_is, nil_from_length}
use Rattle.std.proofs.lemmas.Bool.{eqb-true as eqb_means}
use Rattle.machine.specs.declared.event.Event.TheVariants.{Write}
use Rattle.machine.specs.History.{put}
use Rattle.machine.specs.KeptSegment.{KeptSegment}
use Rattle.machine.specs.Segments.{Shows}
use Rattle.machine.specs.contracts.segment.Segment.{the_view}
use Rattle.machine.proofs.Untouched.{shows_misuse}
use Rattle.machine.proofs.Steps.{shows_write}
use Rattle.machine.proofs.Told.{write_misuse, write_answer, put_none}
use Rattle.machine.proofs.segment.Segment.write.Goals as goal

pub returns-then-not-holds-clause-answer : goal.returns-then-not-holds-clause-answer
returns-then-not-holds-clause-answer c = λ h s w.
    write_misuse h s c.args.place c.args.bytes.now (sym (c.if-not-holds.ensures.told h s w))

pub returns-then-not-holds-clause-after : goal.returns-then-not-holds-clause-after
returns-then-not-holds-clause-after c = λ h s w. shows_misuse h (Write s c.args.place c.args.bytes.now) s c.args.self.now w

pub returns-then-not-is_empty-clause-answer : goal.returns-then-not-is_empty-clause-answer
returns-then-not-is_empty-clause-answer c = λ h s w.
    write_answer h s c.args.place c.args.bytes.now (sym (c.if-not-holds.ensures.told h s w))

pub returns-then-not-is_empty-clause-after : goal.returns-then-not-is_empty-clause-after
returns-then-not-is_empty-clause-after c = λ h s w.
    let written = with_items_is c.self.inside.bytes c.put.new.old (c.put.auto.old ∙ c.deref_mut.ensures.len) in
    shows_write h s c.args.place c.args.bytes.now (the_view c.self.inside) (with_items c.self.inside.bytes c.put.new.old).items
    (subst (λ (k : KeptSegment). Shows h s k) (sym c.self.view_is) w)
    (written ∙ c.put.ensures ∙ ap (λ old. put c.args.place c.args.bytes.now old) c.deref_mut.ensures.value)

pub returns-else-not-is_empty-clause-answer : goal.returns-else-not-is_empty-clause-answer
returns-else-not-is_empty-clause-answer c = λ h s w.
    write_answer h s c.args.place c.args.bytes.now (sym (c.if-not-holds.ensures.told h s w))

pub returns-else-not-is_empty-clause-after : goal.returns-else-not-is_empty-clause-after
returns-else-not-is_empty-clause-after c = λ h s w.
    let none : c.args.bytes.now ≡ [] = nil_from_length c.args.bytes.now (eqb_means (length c.args.bytes.now) 0 (sym c.if-not-is_empty.ensures)) in
    shows_write h s c.args.place c.args.bytes.now c.args.self.now c.args.self.now.bytes w
    (sym (ap (λ bytes. put c.args.place bytes c.args.self.now.bytes) none ∙ put_none c.args.place c.args.self.now.bytes))
