-- A desk's state, lent to be changed.
use Rattle.std.specs.Borrow.{Lends, MutBor, Fml, RattleType}
use Rattle.manager_state.specs.Managed.{Managed}
use Rattle.manager_state.specs.contracts.state.State.{the_row as state_row}
use Rattle.manager.specs.declared.desk.Desk.{Desk}
use Rattle.manager.specs.contracts.desk.Desk.{the_row}

module _ (R Pass Taker : RattleType) where
  -- r lends the state of a desk, which ends as what was last left behind r; the taker stays
  abbrev pub LendsState : MutBor (Desk R.Denot Pass.Denot Taker.Denot) → MutBor Managed → Fml
  LendsState desk r = Lends (the_row R Pass Taker) state_row desk r (λ w. record desk.now { state = w })
