use Rattle.std.proofs.Common.{◌≡◌, ◌-◌, ◌^◌, min}
use Rattle.manager.specs.Counted.{CountsNotes}
use Rattle.manager.proofs.desk.Desk.drain.Given as goal

abbrev pub invariant-loop : goal.invariant-loop
invariant-loop g l =
    (goal.iterator-loop g).can_next l.iterator' × (goal.iterator-loop g).is_finite l.iterator'
    × g.R.Returns.is_taker (g.R.Returns.name l.returns) l.self.taker
    × CountsNotes l.fn.self.state (g.R.Returns.taken l.fn.self.taker) l.self.state (g.R.Returns.taken l.self.taker) (λ n. l.count ≡ min n (2 ^ 64 - 1))
    × g.R.Returns.knows l.self.taker (g.R.Returns.own l.fn.pass) (g.R.Returns.seen l.fn.pass)
    × (l.self.state.limit ≡ l.fn.self.state.limit)
