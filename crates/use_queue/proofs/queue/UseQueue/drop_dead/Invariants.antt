use Rattle.std.proofs.Common.{◌≡◌, ◌≤◌, length}
use Rattle.use_queue.specs.Entries.{HoldsEach}
use Rattle.use_queue.proofs.queue.UseQueue.drop_dead.Given as goal

abbrev pub invariant-loop-self : goal.invariant-loop-self
invariant-loop-self g l = HoldsEach (g.U.LiveUses.IsLive l.uses) l.self.entries × (l.self.room ≡ l.fn.self.room) × (length l.self.entries ≤ length l.fn.self.entries)

abbrev pub decreases-loop-self : goal.decreases-loop-self
decreases-loop-self g l = length l.self.entries
