use Rattle.std.proofs.Common.{sym, subst, ℕ}
use Rattle.std.specs.List.{Contains}
use Rattle.std.proofs.lemmas.Bool.{eqb-true, eqb-false}
use Rattle.lru_reduce.specs.Uses.{uses_of}
use Rattle.lru_reduce.proofs.Uses.{live_yes, live_other, live_none}
use Rattle.lru_reduce.proofs.slots.SlotsLiveUses.is_live.Goals as goal

pub returns-in-Some-clause-yes : goal.returns-in-Some-clause-yes
returns-in-Some-clause-yes c same =
    subst (λ (n : ℕ). Contains (uses_of c.args.self.now.sides) (n, c.args.id)) (eqb-true c.in-Some.used c.args.known same)
    (live_yes c.args.id c.in-Some.used c.args.self.now.sides (sym c.in-Some.ensures.live) c.in-Some.ensures.known)

pub returns-in-Some-clause-no : goal.returns-in-Some-clause-no
returns-in-Some-clause-no c other =
    live_other c.args.id c.args.known c.in-Some.used c.args.self.now.sides c.in-Some.ensures.known (eqb-false c.in-Some.used c.args.known other)

pub returns-in-None-clause-no : goal.returns-in-None-clause-no
returns-in-None-clause-no c _ = live_none c.args.id c.args.known c.args.self.now.sides (sym c.in-None.ensures.live)
