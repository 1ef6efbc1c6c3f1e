use Rattle.std.proofs.Common.{reverse, refl, ap, arith, ◌∙◌}
use Rattle.client.proofs.GivingBack.{returns_start, returns_on, giving_fewer}
use Rattle.std.specs.List.{Contains}
use Rattle.client.proofs.Rows.{All-at}
use Rattle.client.proofs.GivenUp.{giving_start, giving_on, given_all, given_told, once_gone}
use Rattle.client.proofs.TakingBack.{returns_first, returns_one, returns_last, last_first, given_leases, of_lease, number_out, among_out}
use Rattle.client.proofs.returning.give_back_all.Goals as goal

pub give_back_side-requires-clause-taken : goal.give_back_side-requires-clause-taken
give_back_side-requires-clause-taken g c = omega (arith, c.in-Some.ensures.taken.taken)

pub loop-side-init : goal.loop-side-init
loop-side-init g c = record { returns = returns_start _ _; back = returns_first g.G.Granter.took_back c.args.client.now.number (reverse c.args.client.now.leases) c.args.granter.now c.args.client.now.gone; giving = giving_start _ _ c.heap_pages-before.ensures.sound.told; grants = refl; greatest = refl; standing = refl }

pub loop-side-preserved : goal.loop-side-preserved
loop-side-preserved g c =
    record {
      returns = returns_on c.give_back_side.result _ _ c.take_any.new.self _ _ _ _ _ c.in-Some.side c.loop-side.invariant.returns c.in-Some.ensures.taken c.give_back_side.ensures.client c.give_back_side.ensures.returns;
      back = returns_one g.G.Granter.took_back c.args.client.now.number (reverse c.args.client.now.leases) c.args.granter.now c.loop-side.granter c.give_back_side.new.granter c.loop-side.client.gone c.give_back_side.new.client.gone c.in-Some.ensures.taken.lease
          (reverse c.loop-side.client.leases) (reverse c.give_back_side.new.client.leases) c.loop-side.invariant.back (among_out c.give_back_side.result c.in-Some.side c.loop-side.client c.take_any.new.self c.give_back_side.new.client _ c.in-Some.ensures.taken c.give_back_side.ensures.client)
          (last_first c.loop-side.client c.take_any.new.self c.give_back_side.new.client c.in-Some.side c.in-Some.ensures.taken (given_leases c.give_back_side.result c.in-Some.side c.take_any.new.self c.give_back_side.new.client c.give_back_side.ensures.client))
          (of_lease g.G.Granter.took_back c.give_back_side.new.client.gone c.in-Some.side c.in-Some.ensures.taken.lease c.in-Some.ensures.taken.side_is (number_out c.loop-side.client c.take_any.new.self _ c.in-Some.side c.in-Some.ensures.taken ∙ c.loop-side.invariant.returns.number) c.give_back_side.ensures.took);
      giving = giving_on c.give_back_side.result _ _ c.loop-side.client c.take_any.new.self _ _ c.in-Some.side c.loop-side.invariant.giving c.in-Some.ensures.taken (All-at (Contains c.args.client.now.leases) c.loop-side.client.leases _ c.in-Some.ensures.taken.lease c.loop-side.invariant.giving.rest c.in-Some.ensures.taken.stood) c.give_back_side.ensures.client;
      grants = c.give_back_side.ensures.grants ∙ c.loop-side.invariant.grants;
      greatest = c.give_back_side.ensures.greatest ∙ c.loop-side.invariant.greatest;
      standing = c.give_back_side.ensures.standing ∙ c.loop-side.invariant.standing;
    }

pub loop-side-smaller : goal.loop-side-smaller
loop-side-smaller g c = giving_fewer c.give_back_side.result _ c.take_any.new.self _ _ c.in-Some.side c.in-Some.ensures.taken c.give_back_side.ensures.client

pub returns-clause-found : goal.returns-clause-found
returns-clause-found g c =
    rw c.in_default.ensures.none.1
    (given_all c.args.client.now c.loop-side.client _ c.loop-side.invariant.giving c.in_default.ensures.none.0 refl (once_gone c.loop-side.client (rw c.in_default.ensures.none.1 at c.heap_pages-after.ensures.sound)))

pub returns-clause-took : goal.returns-clause-took
returns-clause-took g c =
    rw c.in_default.ensures.none.1
    (returns_last g.G.Granter.took_back c.args.client.now.number (reverse c.args.client.now.leases) c.args.granter.now c.loop-side.client.gone (reverse c.loop-side.client.leases) c.loop-side.granter c.loop-side.invariant.back
    (ap reverse c.in_default.ensures.none.0))

pub returns-clause-told : goal.returns-clause-told
returns-clause-told g c = rw c.in_default.ensures.none.1 (given_told _ c.args.client.now c.loop-side.client c.loop-side.invariant.giving)
