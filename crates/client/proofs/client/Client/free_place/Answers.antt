use Rattle.std.proofs.Common.{refl, arith}
use Rattle.client.specs.Seen.{seen_of}
use Rattle.std.proofs.lemmas.Option.{slice_get_read}
use Rattle.client.proofs.OneStep.{has_each}
use Rattle.client.proofs.PieceCalls.{used_one_more, not_so}
use Rattle.client.proofs.client.Client.free_place.Goals as goal

pub all_free-requires : goal.all_free-requires
all_free-requires c =
    let at = slice_get_read c.self.inside.leases.items _ c.loop-place.place c.index.result.now refl (omega (arith, c.loop-place.auto.place-end, c.loop-place-test.true)) c.index.ensures in
    rw c.id.ensures (has_each (seen_of c.self.inside.number c.self.inside.standard c.self.inside.leases.items c.self.inside.heap c.self.inside.gone c.self.inside.taken) c.loop-place.place c.index.result.now c.self.invariant.sound at)

pub loop-place-preserved : goal.loop-place-preserved
loop-place-preserved c =
    let at = slice_get_read c.self.inside.leases.items _ c.loop-place.place c.index.result.now refl (omega (arith, c.loop-place.auto.place-end, c.loop-place-test.true)) c.index.ensures in
    let before = rw (← c.self.view_is) at c.loop-place.invariant in
    let tells = rw c.id.ensures at c.all_free.ensures in
    rw (← c.self.view_is) (used_one_more (seen_of c.self.inside.number c.self.inside.standard c.self.inside.leases.items c.self.inside.heap c.self.inside.gone c.self.inside.taken) c.loop-place.place c.index.result.now before at (not_so c.all_free.result _ tells c.if-all_free.false))
