use Rattle.use_queue.proofs.Fronts.{each_entered}
use Rattle.use_queue.proofs.queue.UseQueue.renew.Goals as goal

pub drop_dead-requires : goal.drop_dead-requires
drop_dead-requires g c = record {
  each = each_entered c.args.id c.args.known (g.U.LiveUses.IsLive c.args.uses.now) c.drop_front_of.new.self.entries c.push.new.self.entries
      (λ k live other. c.drop_front_of.ensures.others k (c.requires.others k live other) other) c.requires.known c.push.ensures.entries;
}
