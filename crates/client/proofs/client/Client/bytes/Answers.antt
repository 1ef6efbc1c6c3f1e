use Rattle.std.proofs.Common.{true, ap, length, ◌∙◌}
use Rattle.client.proofs.PieceCalls.{live_if_there, locked_not_absent, shown}
use Rattle.client.proofs.OneStep.{lease_there, range_here}
use Rattle.client.proofs.Writing.{shown_length}
use Rattle.client.proofs.client.Client.bytes.Goals as goal

pub unreachable-requires : goal.unreachable-requires
unreachable-requires c =
    let owns = rw (← c.self.view_is) at c.requires.owned in
    let absent = rw (c.as_slice.ensures.value, c.segment.ensures) at c.in_default.ensures in
    locked_not_absent _ c.args.piece.now owns absent c.requires.locked

pub bytes-requires-clause-locked : goal.bytes-requires-clause-locked
bytes-requires-clause-locked c =
    let owns = rw (← c.self.view_is) at c.requires.owned in
    let there = rw (c.as_slice.ensures.value, c.segment.ensures) at c.in-Some.ensures in
    let at = lease_there c.self.inside.leases.items c.in-Some.place c.args.piece.now.run.segment c.index.result.now there c.index.ensures in
    let used = rw c.requires.locked at (live_if_there _ c.args.piece.now c.in-Some.place c.self.invariant.sound owns there) in
    rw (c.first.ensures, c.pages.ensures) (range_here _ c.args.piece.now.run true c.in-Some.place c.index.result.now c.self.invariant.sound used at.0 at.1)

pub returns-clause-value : goal.returns-clause-value
returns-clause-value c =
    let owns = rw (← c.self.view_is) at c.requires.owned in
    let there = rw (c.as_slice.ensures.value, c.segment.ensures) at c.in-Some.ensures in
    let at = lease_there c.self.inside.leases.items c.in-Some.place c.args.piece.now.run.segment c.index.result.now there c.index.ensures in
    let used = rw c.requires.locked at (live_if_there _ c.args.piece.now c.in-Some.place c.self.invariant.sound owns there) in
    c.bytes.ensures.value ∙ (rw (c.first.ensures, c.pages.ensures, ← c.self.view_is) (shown _ c.args.piece.now c.in-Some.place c.index.result.now c.self.invariant.sound used at.0 at.1))

pub returns-clause-sized : goal.returns-clause-sized
returns-clause-sized c =
    let owns = rw (← c.self.view_is) at c.requires.owned in
    let there = rw (c.as_slice.ensures.value, c.segment.ensures) at c.in-Some.ensures in
    let at = lease_there c.self.inside.leases.items c.in-Some.place c.args.piece.now.run.segment c.index.result.now there c.index.ensures in
    let used = rw c.requires.locked at (live_if_there _ c.args.piece.now c.in-Some.place c.self.invariant.sound owns there) in
    ap length c.bytes.ensures.value ∙ (rw (c.first.ensures, c.pages.ensures) (ap length (shown _ c.args.piece.now c.in-Some.place c.index.result.now c.self.invariant.sound used at.0 at.1) ∙ shown_length _ c.args.piece.now c.in-Some.place c.index.result.now c.self.invariant.sound used at.0 at.1 c.bytes.ensures.pages))
