use Rattle.std.proofs.Common.{true, refl, ap, length, arith, ◌∙◌}
use Rattle.std.proofs.lemmas.Option.{slice_get_within}
use Rattle.client.specs.Lease.{IsLease}
use Rattle.client.proofs.Rows.{All-at}
use Rattle.client.proofs.PieceCalls.{live_if_there, locked_not_absent, shown}
use Rattle.client.proofs.OneStep.{lease_there, range_here}
use Rattle.client.proofs.Writing.{kept_written, written_seen, writes_only, shown_length}
use Rattle.client.proofs.client.Client.bytes_mut.Goals as goal

pub unreachable-requires : goal.unreachable-requires
unreachable-requires c =
    let owns = rw (← c.self.view_is) at c.requires.owned in
    let absent = rw (c.as_slice.ensures.value, c.segment.ensures) at c.in_default.ensures in
    locked_not_absent _ c.args.piece.now owns absent c.requires.locked

pub index_mut-requires : goal.index_mut-requires
index_mut-requires c =
    let there = rw (c.as_slice.ensures.value, c.segment.ensures) at c.in-Some.ensures in
    omega (arith, slice_get_within c.self.inside.leases.items c.in-Some.place there.0 there.1)

pub bytes_mut-requires-clause-lease : goal.bytes_mut-requires-clause-lease
bytes_mut-requires-clause-lease c =
    let there = rw (c.as_slice.ensures.value, c.segment.ensures) at c.in-Some.ensures in
    let at = lease_there c.self.inside.leases.items c.in-Some.place c.args.piece.now.run.segment c.index_mut.result.now there c.index_mut.ensures.value in
    All-at IsLease c.self.inside.leases.items c.in-Some.place c.index_mut.result.now c.self.invariant.sound.leases at.0

pub bytes_mut-requires-clause-locked : goal.bytes_mut-requires-clause-locked
bytes_mut-requires-clause-locked c =
    let owns = rw (← c.self.view_is) at c.requires.owned in
    let there = rw (c.as_slice.ensures.value, c.segment.ensures) at c.in-Some.ensures in
    let at = lease_there c.self.inside.leases.items c.in-Some.place c.args.piece.now.run.segment c.index_mut.result.now there c.index_mut.ensures.value in
    let used = rw c.requires.locked at (live_if_there _ c.args.piece.now c.in-Some.place c.self.invariant.sound owns there) in
    rw (c.first.ensures, c.pages.ensures) (range_here _ c.args.piece.now.run true c.in-Some.place c.index_mut.result.now c.self.invariant.sound used at.0 at.1)

pub invariant_of-self-lent : goal.invariant_of-self-lent
invariant_of-self-lent c =
    let there = rw (c.as_slice.ensures.value, c.segment.ensures) at c.in-Some.ensures in
    let at = lease_there c.self.inside.leases.items c.in-Some.place c.args.piece.now.run.segment c.index_mut.result.now there c.index_mut.ensures.value in
    λ w. kept_written _ c.self.inside.pages c.self.inside.gone.room c.in-Some.place c.first.result c.index_mut.result.now w c.self.invariant at.0

pub returns : goal.returns
returns c =
    let owns = rw (← c.self.view_is) at c.requires.owned in
    let there = rw (c.as_slice.ensures.value, c.segment.ensures) at c.in-Some.ensures in
    let at = lease_there c.self.inside.leases.items c.in-Some.place c.args.piece.now.run.segment c.index_mut.result.now there c.index_mut.ensures.value in
    let used = rw c.requires.locked at (live_if_there _ c.args.piece.now c.in-Some.place c.self.invariant.sound owns there) in (
      (refl, λ w. rw (← c.self.view_is) (written_seen _ c.args.piece.now.run c.in-Some.place c.first.result c.index_mut.result.now w c.self.invariant.sound at.0 at.1 c.first.ensures)),
      record {
        writes_back = tt;
        value = c.bytes_mut.ensures.value ∙ (rw (c.first.ensures, c.pages.ensures, ← c.self.view_is) (shown _ c.args.piece.now c.in-Some.place c.index_mut.result.now c.self.invariant.sound used at.0 at.1));
        sized = ap length c.bytes_mut.ensures.value ∙ (rw (c.first.ensures, c.pages.ensures) (ap length (shown _ c.args.piece.now c.in-Some.place c.index_mut.result.now c.self.invariant.sound used at.0 at.1) ∙ shown_length _ c.args.piece.now c.in-Some.place c.index_mut.result.now c.self.invariant.sound used at.0 at.1 c.bytes_mut.ensures.pages));
        only = rw (← c.self.view_is) (writes_only _ c.args.piece.now c.in-Some.place c.index_mut.result.now c.self.invariant.sound owns c.requires.locked at.0 at.1 c.bytes_mut.ensures.pages);
      },
    )
