use Rattle.std.proofs.Common.{List, ◌∷◌, ℕ, ap, sym, ◌∙◌, Some}
use Rattle.atomic_table.specs.Table.{Me}
use Rattle.segment_rule.specs.declared.view.View.{View}
use Rattle.segment_rule.specs.Rule.{Slot}
use Rattle.segment_rule.specs.Seats.{owner_of}
use Rattle.segment_rule.proofs.StepsTell.{lock_tells, miss, in_hand}
use Rattle.segment_rule.proofs.steps.lock.Goals as goal

pub exchange-requires : goal.exchange-requires
exchange-requires c =
    let me : Me Slot View = c.args.seat.now.me in
    let told = miss _ _ c.lock.result 0 (λ e. c.if-lock-purged.false (e ∙ sym c.purged.ensures)) (lock_tells me c.lock.new.seat.me c.lock.result c.lock.ensures.made) in (
      c.lock.ensures.table ∙ c.requires.table.0,
      (Some (owner_of me.0).left, in_hand c.lock.new.seat.me.1 (Some (owner_of me.0).left) (ap (λ (m : Me Slot View). m.1) told ∙ ap (λ (xs : List (ℕ × Slot)). (0, Some (owner_of me.0).left) ∷ xs) (ap (λ (m : Me Slot View). m.1) c.requires.owner.0))),
    )
