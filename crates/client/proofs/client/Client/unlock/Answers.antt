use Rattle.client.proofs.PieceCalls.{live_if_locked, unlock_piece, locked_not_absent}
use Rattle.client.proofs.client.Client.unlock.Goals as goal

pub unreachable-requires : goal.unreachable-requires
unreachable-requires c =
    let owns = rw (← c.self.view_is) at c.requires.owned in
    let absent = rw (c.as_slice.ensures.value, c.segment.ensures) at c.in_default.ensures in
    locked_not_absent _ c.args.piece.now owns absent c.requires.locked

pub unlock_at-told-requires-clause-used : goal.unlock_at-told-requires-clause-used
unlock_at-told-requires-clause-used c =
    rw (c.span.ensures, ← c.requires.locked) (live_if_locked _ c.args.piece.now c.requires.owned c.requires.locked)

pub unlock_at-told-requires-clause-there : goal.unlock_at-told-requires-clause-there
unlock_at-told-requires-clause-there c =
    let there = rw (c.as_slice.ensures.value, c.segment.ensures) at c.in-Some.ensures in
    rw (c.span.ensures, ← c.self.view_is) there

pub returns-clause-unlocks : goal.returns-clause-unlocks
returns-clause-unlocks c = rw c.span.ensures at c.unlock_at-told.ensures.unlocks

pub returns-clause-leaves : goal.returns-clause-leaves
returns-clause-leaves c =
    unlock_piece _ _ c.args.piece.now c.args.now c.unlock_at-told.result c.requires.owned (rw c.span.ensures at c.unlock_at-told.ensures.unlocks) (rw c.span.ensures at c.unlock_at-told.ensures.leaves)
