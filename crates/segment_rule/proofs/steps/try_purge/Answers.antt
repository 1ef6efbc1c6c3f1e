use Rattle.std.proofs.Common.{List, ◌∷◌, ℕ, ap, ◌∙◌, Some}
use Rattle.atomic_table.specs.Table.{Me}
use Rattle.segment_rule.specs.declared.view.View.{View}
use Rattle.segment_rule.specs.Rule.{Slot}
use Rattle.segment_rule.proofs.StepsTell.{try_tells, hit, in_hand}
use Rattle.segment_rule.proofs.steps.try_purge.Goals as goal

pub exchange-requires : goal.exchange-requires
exchange-requires g c =
    let me : Me Slot View = c.args.seat.now.me in
    let told = hit _ _ c.try_purge-found.result c.args.expected c.if-found-expected.true (try_tells g.M.Moment.now c.args.expected me c.try_purge-found.new.seat.me c.try_purge-found.result c.requires.expected c.try_purge-found.ensures.made) in (
      c.try_purge-found.ensures.table ∙ c.requires.table.0,
      (Some told.0, in_hand c.try_purge-found.new.seat.me.1 (Some told.0) (ap (λ (m : Me Slot View). m.1) told.2 ∙ ap (λ (xs : List (ℕ × Slot)). (0, Some told.0) ∷ xs) (ap (λ (m : Me Slot View). m.1) c.requires.warden.0))),
    )
