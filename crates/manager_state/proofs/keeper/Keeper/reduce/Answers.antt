use Rattle.manager_state.proofs.AgreesStays.{reduced_agrees}
use Rattle.manager_state.proofs.KeptNumbers.{keeps_reduction}
use Rattle.manager_state.proofs.keeper.Keeper.reduce.Goals as goal

pub drop_purged-requires : goal.drop_purged-requires
drop_purged-requires c =
    let told = c.reduce-reduced.result in
    keeps_reduction c.args.limit c.args.now told.purges told.least c.args.self.now.book c.reduce-reduced.new.book c.args.self.now.order c.reduce-reduced.new.self c.args.self.now.pool c.reduce-reduced.new.pool c.args.self.now.numbers
    c.args.self.now.agrees.live c.reduce-reduced.ensures.reduces c.reduce-reduced.ensures.live c.args.self.now.kept

pub invariant_of-self : goal.invariant_of-self
invariant_of-self c =
    let told = c.reduce-reduced.result in
    record {
      agrees = reduced_agrees c.args.limit c.args.now told.purges c.args.self.now.promised told.least c.args.self.now.book c.reduce-reduced.new.book c.args.self.now.order c.reduce-reduced.new.self
          c.args.self.now.pool c.reduce-reduced.new.pool c.args.self.now.clients.items c.args.self.now.agrees c.reduce-reduced.ensures.reduces c.reduce-reduced.ensures.live c.reduce-reduced.ensures.fewer c.reduce-reduced.ensures.spent c.requires.spare;
      kept = c.drop_purged.ensures.live;
    }
