use Rattle.std.proofs.Common.{refl}
use Rattle.use_queue.proofs.Fronts.{others_dropped}
use Rattle.use_queue.proofs.queue.UseQueue.drop_front_of.Goals as goal

pub returns-then-has_front_of-clause-others : goal.returns-then-has_front_of-clause-others
returns-then-has_front_of-clause-others c =
    others_dropped c.args.id c.args.self.now.entries c.drop_first.new.self.entries (c.if-has_front_of.ensures.first refl) c.drop_first.ensures.entries
