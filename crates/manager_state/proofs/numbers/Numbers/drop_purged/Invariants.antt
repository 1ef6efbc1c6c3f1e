use Rattle.std.specs.Prelude.{length}
use Rattle.manager_state.specs.Keeping.{KeepsLive, KeepsComing}
use Rattle.manager_state.proofs.numbers.Numbers.drop_purged.Given as goal

abbrev pub invariant-loop-at : goal.invariant-loop-at
invariant-loop-at l = KeepsLive l.book.entries l.self × KeepsComing (length l.clients) l.fn.self l.self
