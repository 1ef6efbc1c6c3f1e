use Rattle.manager_state.proofs.AgreesStays.{taken_agrees, used_agrees}
use Rattle.manager_state.proofs.KeptNumbers.{keeps_purge}
use Rattle.manager_state.proofs.keeper.Keeper.try_purge.Goals as goal

pub drop_dead-requires : goal.drop_dead-requires
drop_dead-requires c = keeps_purge c.args.id c.in-Some.known c.args.self.now.book c.add.new.self c.args.self.now.numbers c.add.ensures c.args.self.now.kept

pub invariant_of-self-in-Some-Taken : goal.invariant_of-self-in-Some-Taken
invariant_of-self-in-Some-Taken c = record {
  agrees = taken_agrees c.args.id c.args.now c.in-Some.known c.args.self.now.promised c.in-Some-Taken.block c.args.self.now.book c.add.new.self c.args.self.now.order c.try_one.new.self c.args.self.now.clients.items
      c.args.self.now.agrees (rw c.in-Some-Taken.field-0-is at c.in-Some-Taken.ensures) c.add.ensures;
  kept = c.drop_dead.ensures.live;
}

pub invariant_of-self-in-Used-1 : goal.invariant_of-self-in-Used-1
invariant_of-self-in-Used-1 c = record {
  agrees = used_agrees c.args.id c.args.now c.in-Some-Used.known c.args.self.now.promised c.args.self.now.book c.args.self.now.order c.try_one.new.self c.args.self.now.clients.items
      c.args.self.now.agrees (rw c.in-Some-Used.field-0-is at c.in-Some-Used.ensures);
  kept = c.args.self.now.kept;
}
