use Rattle.std.proofs.Common.{sym, ◌∙◌, arith}
use Rattle.client.proofs.PieceCalls.{not_used, owned_by_range}
use Rattle.std.proofs.lemmas.Option.{slice_get_within}
use Rattle.client.proofs.PieceCalls.{owned_if_dead, iff_on, never, not_so}
use Rattle.client.proofs.OneStep.{lease_there}
use Rattle.client.proofs.client.Client.is_owner.Goals as goal

pub returns-in_default : goal.returns-in_default
returns-in_default c =
    let absent = rw (c.as_slice.ensures.value, c.segment.ensures) at c.in_default.ensures in
    let mine = sym c.client.ensures ∙ c.if-client-self.false in
    let dead = rw (← c.self.view_is) at c.is_dead.ensures in
    rw (← c.self.view_is) (iff_on dead (owned_if_dead _ c.args.piece.now absent mine))

pub returns-then-not-has : goal.returns-then-not-has
returns-then-not-has c =
    let there = rw (c.as_slice.ensures.value, c.segment.ensures) at c.in-Some.ensures in
    let has = rw c.span.ensures at c.has.ensures.answer in
    rw (← c.self.view_is) (never (not_used _ c.args.piece.now c.in-Some.place c.self.invariant.sound there (not_so c.has.result _ has c.if-not-has.true)))

pub index-requires : goal.index-requires
index-requires c =
    let there = rw (c.as_slice.ensures.value, c.segment.ensures) at c.in-Some.ensures in
    omega (arith, slice_get_within c.self.inside.leases.items c.in-Some.place there.0 there.1)

pub returns : goal.returns
returns c =
    let there = rw (c.as_slice.ensures.value, c.segment.ensures) at c.in-Some.ensures in
    let mine = sym c.client.ensures ∙ c.if-client-self.false in
    let has = rw c.span.ensures at c.has.ensures.answer in
    let at = lease_there c.self.inside.leases.items c.in-Some.place c.args.piece.now.run.segment c.index.result.now there c.index.ensures in
    let range = rw (c.first.ensures, c.pages.ensures, c.locked.ensures) at c.is_range.ensures in
    rw (← c.self.view_is) (iff_on range (owned_by_range _ c.args.piece.now c.in-Some.place c.index.result.now c.self.invariant.sound at.0 at.1 mine (has.0 c.if-not-has.false)))
