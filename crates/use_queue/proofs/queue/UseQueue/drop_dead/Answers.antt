use Rattle.std.proofs.Common.{refl, ◌∙◌, arith}
use Rattle.use_queue.proofs.Fronts.{each_dropped, shorter}
use Rattle.use_queue.proofs.queue.UseQueue.drop_dead.Goals as goal

pub loop-self-smaller : goal.loop-self-smaller
loop-self-smaller g c = shorter c.loop-self.self.entries c.drop_first.new.self.entries c.drop_first.ensures.entries

pub loop-self-preserved : goal.loop-self-preserved
loop-self-preserved g c =
    let less = shorter c.loop-self.self.entries c.drop_first.new.self.entries c.drop_first.ensures.entries in
    let few = c.loop-self.invariant.2 in (
      each_dropped (g.U.LiveUses.IsLive c.args.uses.now) c.loop-self.self.entries c.drop_first.new.self.entries (c.loop-self-test.ensures.dead refl) c.drop_first.ensures.entries c.loop-self.invariant.0,
      c.drop_first.ensures.room ∙ c.loop-self.invariant.1,
      omega (arith, less, few),
    )
