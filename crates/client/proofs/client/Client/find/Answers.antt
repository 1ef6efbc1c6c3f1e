use Rattle.std.proofs.Common.{ℕ, true, false, ap, ◌∙◌}
use Rattle.client.proofs.PieceCalls.{used_not_absent}
use Rattle.client.proofs.Searching.{searching_start, searching_on, searching_fewer, searching_none, searching_found}
use Rattle.client.proofs.PieceCalls.{all_on}
use Rattle.client.proofs.client.Client.find.Goals as goal

pub unreachable-requires : goal.unreachable-requires
unreachable-requires c =
    let used = rw (← c.self.view_is) at c.in-Some.ensures.fresh.used in
    let absent = rw (c.as_slice.ensures.value, c.segment.ensures) at c.in_default-place_of.ensures in
    used_not_absent _ c.in-Some.span false used absent

pub lock_at-requires-clause-there : goal.lock_at-requires-clause-there
lock_at-requires-clause-there c =
    let there = rw (c.as_slice.ensures.value, c.segment.ensures) at c.in-Some-place_of.ensures in
    rw (← c.self.view_is) there

pub returns-in-Held-clause-finds : goal.returns-in-Held-clause-finds
returns-in-Held-clause-finds c =
    (searching_found c.args.pages _ _ _ c.lock_at.new.self c.in-Some.span c.locked_piece.result c.loop-span.invariant c.in-Some.ensures.carves c.in-Some.ensures.fresh c.in-Some.ensures.stay c.in-Held.ensures.locks c.in-Held.ensures.leaves (c.locked_piece.ensures ∙ ap (λ (n : ℕ). record { client = n; run = c.in-Some.span; locked = true }) c.number.ensures.number)).0

pub returns-in-Held-clause-piece : goal.returns-in-Held-clause-piece
returns-in-Held-clause-piece c =
    (searching_found c.args.pages _ _ _ c.lock_at.new.self c.in-Some.span c.locked_piece.result c.loop-span.invariant c.in-Some.ensures.carves c.in-Some.ensures.fresh c.in-Some.ensures.stay c.in-Held.ensures.locks c.in-Held.ensures.leaves (c.locked_piece.ensures ∙ ap (λ (n : ℕ). record { client = n; run = c.in-Some.span; locked = true }) c.number.ensures.number)).1

pub returns-in-Held-clause-stay : goal.returns-in-Held-clause-stay
returns-in-Held-clause-stay c =
    (searching_found c.args.pages _ _ _ c.lock_at.new.self c.in-Some.span c.locked_piece.result c.loop-span.invariant c.in-Some.ensures.carves c.in-Some.ensures.fresh c.in-Some.ensures.stay c.in-Held.ensures.locks c.in-Held.ensures.leaves (c.locked_piece.ensures ∙ ap (λ (n : ℕ). record { client = n; run = c.in-Some.span; locked = true }) c.number.ensures.number)).2

pub loop-span-init : goal.loop-span-init
loop-span-init c = searching_start c.args.pages c.args.self.now

pub loop-span-preserved : goal.loop-span-preserved
loop-span-preserved c =
    searching_on c.args.pages _ _ _ c.lock_at.new.self c.in-Some.span c.loop-span.invariant c.in-Some.ensures.carves c.in-Some.ensures.fresh c.in-Some.ensures.stay c.in-Gone.ensures.locks c.in-Gone.ensures.leaves

pub loop-span-smaller : goal.loop-span-smaller
loop-span-smaller c = searching_fewer c.args.pages c.loop-span.self c.carve.new.self c.lock_at.new.self c.in-Some.span c.in-Some.ensures.carves c.in-Gone.ensures.locks

pub returns-clause-finds : goal.returns-clause-finds
returns-clause-finds c = searching_none c.args.pages _ _ c.carve.new.self c.loop-span.invariant c.in_default.ensures.carves

pub returns-clause-stay : goal.returns-clause-stay
returns-clause-stay c = all_on _ _ c.carve.new.self c.loop-span.invariant.stay c.carve.ensures.stay
