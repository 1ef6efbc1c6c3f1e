use Rattle.std.proofs.Common.{◌+◌, ap, ℕ}
use Rattle.manager_state.proofs.LiveSides.{is_new}
use Rattle.manager_state.proofs.keeper.Keeper.next_number.Goals as goal

pub returns-clause-new : goal.returns-clause-new
returns-clause-new c =
    is_new _ c.args.self.now.order.sides c.args.self.now.book.entries c.args.self.now.agrees.live c.entries-entries.ensures.live (ap (λ (n : ℕ). n + 1) c.grants.ensures.grants)
