use Rattle.manager_state.proofs.AgreesStays.{back_agrees}
use Rattle.manager_state.proofs.KeptNumbers.{keeps_back}
use Rattle.manager_state.proofs.keeper.Keeper.count_off.Goals as goal

pub drop_dead-requires : goal.drop_dead-requires
drop_dead-requires c = keeps_back c.args.id c.args.self.now.book c.add.new.self c.args.self.now.numbers c.add.ensures c.args.self.now.kept

pub invariant_of-self : goal.invariant_of-self
invariant_of-self c = record {
  agrees = back_agrees c.args.id c.args.self.now.promised c.forget.result c.args.self.now.book c.add.new.self c.args.self.now.order c.forget.new.self c.args.self.now.clients.items
      c.args.self.now.agrees c.entries-entries.ensures.live c.requires c.forget.ensures c.add.ensures;
  kept = c.drop_dead.ensures.live;
}
