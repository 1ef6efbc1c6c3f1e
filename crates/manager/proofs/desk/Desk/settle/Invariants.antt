use Rattle.std.proofs.Common.{◌≡◌, ◌≤◌, length}
use Rattle.return_queue.specs.Order.{AllTaken, Keeps}
use Rattle.manager.specs.Counted.{CountsNotes}
use Rattle.manager.proofs.desk.Desk.settle.Given as goal

abbrev pub invariant-loop : goal.invariant-loop
invariant-loop g l =
    g.R.Returns.is_taker (g.R.Returns.name l.returns) l.self.taker
    × CountsNotes l.fn.self.state (g.R.Returns.taken l.fn.self.taker) l.self.state (g.R.Returns.taken l.self.taker) (λ n. l.count ≡ n)
    × (l.count ≡ l.counter)
    × Keeps (g.R.Returns.knows l.fn.self.taker) (g.R.Returns.knows l.self.taker)
    × (g.R.Returns.until l.self.taker ≡ g.R.Returns.until l.fn.self.taker)
    × ((g.R.Returns.until l.fn.self.taker ≤ length (g.R.Returns.taken l.fn.self.taker) → AllTaken (g.R.Returns.taken l.fn.self.taker) (g.R.Returns.knows l.fn.self.taker))
    → g.R.Returns.until l.self.taker ≤ length (g.R.Returns.taken l.self.taker) → AllTaken (g.R.Returns.taken l.self.taker) (g.R.Returns.knows l.self.taker))
    × (l.self.state.limit ≡ l.fn.self.state.limit)
