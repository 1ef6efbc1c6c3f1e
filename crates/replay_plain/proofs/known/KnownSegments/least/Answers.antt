use Rattle.std.proofs.Common.{◌-◌, length, arith}
use Rattle.replay_plain.proofs.FrontIsLeast.{front_is_least, none_is_live}
use Rattle.replay_plain.proofs.known.KnownSegments.least.Goals as goal

pub returns-in-Some : goal.returns-in-Some
returns-in-Some c =
    rw (← c.self.view_is) λ events w.
    front_is_least events _ (length c.self.inside.rows.items - 1) (c.in-Some.known, c.in-Some.id) c.self.inside.uses.entries w (let some = c.self.invariant.0 in omega (arith, some)) c.self.invariant.3 c.in-Some.ensures.some

pub returns-in-None : goal.returns-in-None
returns-in-None c =
    rw (← c.self.view_is) λ events w.
    none_is_live events _ (length c.self.inside.rows.items - 1) c.self.inside.uses.entries w (let some = c.self.invariant.0 in omega (arith, some)) c.self.invariant.3 c.in-None.ensures.none
