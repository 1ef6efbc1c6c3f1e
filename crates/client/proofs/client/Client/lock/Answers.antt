use Rattle.std.proofs.Common.{refl, inl, inr}
use Rattle.client.proofs.PieceCalls.{dead_if_absent, live_if_there, lock_piece_held, lock_piece_gone, lock_piece_dead}
use Rattle.client.proofs.client.Client.lock.Goals as goal

pub returns-in_default-clause-locks : goal.returns-in_default-clause-locks
returns-in_default-clause-locks c =
    let owns = rw (← c.self.view_is) at c.requires.owned in
    let absent = rw (c.as_slice.ensures.value, c.segment.ensures) at c.in_default.ensures in
    rw (← c.self.view_is) (inr (dead_if_absent _ c.args.piece.now owns absent, refl, refl))

pub returns-in_default-clause-leaves : goal.returns-in_default-clause-leaves
returns-in_default-clause-leaves c =
    let owns = rw (← c.self.view_is) at c.requires.owned in
    let absent = rw (c.as_slice.ensures.value, c.segment.ensures) at c.in_default.ensures in
    rw (← c.self.view_is) (lock_piece_dead _ c.args.piece.now owns (dead_if_absent _ c.args.piece.now owns absent))

pub lock_at-requires-clause-used : goal.lock_at-requires-clause-used
lock_at-requires-clause-used c =
    let owns = rw (← c.self.view_is) at c.requires.owned in
    let there = rw (c.as_slice.ensures.value, c.segment.ensures) at c.in-Some.ensures in
    rw (c.span.ensures, ← c.requires.free, ← c.self.view_is) (live_if_there _ c.args.piece.now c.in-Some.place c.self.invariant.sound owns there)

pub lock_at-requires-clause-there : goal.lock_at-requires-clause-there
lock_at-requires-clause-there c =
    let there = rw (c.as_slice.ensures.value, c.segment.ensures) at c.in-Some.ensures in
    rw (c.span.ensures, ← c.self.view_is) there

pub returns-in-Held-clause-locks : goal.returns-in-Held-clause-locks
returns-in-Held-clause-locks c =
    let owns = rw (← c.self.view_is) at c.requires.owned in
    let there = rw (c.as_slice.ensures.value, c.segment.ensures) at c.in-Some.ensures in
    inl (rw (← c.self.view_is) (live_if_there _ c.args.piece.now c.in-Some.place c.self.invariant.sound owns there), rw c.span.ensures at c.in-Held.ensures.locks)

pub returns-in-Held-clause-leaves : goal.returns-in-Held-clause-leaves
returns-in-Held-clause-leaves c =
    lock_piece_held _ _ c.args.piece.now c.requires.owned (rw c.span.ensures at c.in-Held.ensures.locks) (rw c.span.ensures at c.in-Held.ensures.leaves)

pub returns-in-Gone-clause-locks : goal.returns-in-Gone-clause-locks
returns-in-Gone-clause-locks c =
    let owns = rw (← c.self.view_is) at c.requires.owned in
    let there = rw (c.as_slice.ensures.value, c.segment.ensures) at c.in-Some.ensures in
    inl (rw (← c.self.view_is) (live_if_there _ c.args.piece.now c.in-Some.place c.self.invariant.sound owns there), rw c.span.ensures at c.in-Gone.ensures.locks)

pub returns-in-Gone-clause-leaves : goal.returns-in-Gone-clause-leaves
returns-in-Gone-clause-leaves c =
    lock_piece_gone _ _ c.args.piece.now c.requires.owned c.requires.free (rw c.span.ensures at c.in-Gone.ensures.locks) (rw c.span.ensures at c.in-Gone.ensures.leaves)
