use Rattle.std.proofs.Common.{◌≡◌, ℕ, ap, arith, length, ◌-◌}
use Rattle.client.specs.Seen.{Seen}
use Rattle.client.proofs.Sweeping.{sweeping_start, sweeping_there, sweeping_gone, sweeping_end}
use Rattle.client.proofs.client.Client.sweep.Goals as goal

pub loop-place-init : goal.loop-place-init
loop-place-init c = sweeping_start c.args.self.now

pub loop-place-preserved-then-look : goal.loop-place-preserved-then-look
loop-place-preserved-then-look c =
    sweeping_there _ _ c.look.new.self c.loop-place.place c.loop-place.invariant (rw c.if-look.true at c.look.ensures.looks) c.look.ensures.stay

pub loop-place-preserved : goal.loop-place-preserved
loop-place-preserved c =
    sweeping_gone _ _ c.look.new.self c.loop-place.place c.loop-place.invariant (rw c.if-look.false at c.look.ensures.looks) c.look.ensures.stay

pub returns-clause-sweeps : goal.returns-clause-sweeps
returns-clause-sweeps c =
    let count : Seen → ℕ = λ s. length s.leases in
    let start : length c.self.inside.leases.items ≡ count c.args.self.now = ap count c.self.view_is in
    let tested : length c.self-in-loop-place.inside.leases.items ≡ count c.loop-place.self = ap count c.self-in-loop-place.view_is in
    let left : length c.self-2.inside.leases.items ≡ count c.loop-place.self = ap count c.self-2.view_is in
    sweeping_end c.args.self.now c.loop-place.self c.loop-place.place (c.len-all.result - c.len-2.result) c.loop-place.invariant
    (omega (arith, tested, c.len.ensures, c.loop-place-test.false)) (omega (arith, start, left, c.len-all.ensures, c.len-2.ensures, c.loop-place.invariant.counted))
