use Rattle.std.proofs.Common.{true, false, refl, arith, ◌∙◌}
use Rattle.client.proofs.PieceCalls.{all_on}
use Rattle.client.proofs.PiecesStay.{stays_as_it_is}
use Rattle.client.proofs.GivingBack.{returns_start, returns_on, giving_whole, giving_gone, giving_fewer}
use Rattle.std.specs.List.{filter}
use Rattle.client.specs.Places.{is_all_free}
use Rattle.client.proofs.FreeOnesLeft.{leaving_start, leaving_on, giving_free_on, leaving_end, free_first, free_none}
use Rattle.client.proofs.TakingBack.{returns_first, returns_one, returns_last, of_lease, number_out, among_out}
use Rattle.client.proofs.GivenUp.{giving_start, given_free, given_told, once_gone}
use Rattle.client.proofs.returning.give_back_free.Goals as goal

pub give_back_side-requires-clause-taken : goal.give_back_side-requires-clause-taken
give_back_side-requires-clause-taken g c = omega (arith, c.in-Some.ensures.taken.2.taken)

pub loop-side-init : goal.loop-side-init
loop-side-init g c = record { returns = returns_start _ _; whole = λ low. omega arith; leaves = leaving_start _; giving = giving_start _ _ c.heap_pages-before.ensures.sound.told; back = returns_first g.G.Granter.took_back c.args.client.now.number (filter (is_all_free c.args.client.now.heap.used) c.args.client.now.leases) c.args.granter.now c.args.client.now.gone; stay = stays_as_it_is _; grants = refl; greatest = refl; standing = refl }

pub loop-side-preserved-then-give_back_side : goal.loop-side-preserved-then-give_back_side
loop-side-preserved-then-give_back_side g c =
    let gives = rw c.if-give_back_side.true at c.give_back_side.ensures.client in
    record {
      returns = returns_on true _ _ c.take_free.new.self _ _ _ _ c.in-Some.ensures.taken.0 c.in-Some.side c.loop-side.invariant.returns c.in-Some.ensures.taken.2 gives c.give_back_side.ensures.returns;
      whole = giving_whole c.args.client.now c.loop-side.client c.take_free.new.self c.give_back_side.new.client c.loop-side.whole _ c.in-Some.ensures.taken.0 c.in-Some.side c.loop-side.invariant.whole c.in-Some.ensures.taken.2 gives c.saturating_add-whole.ensures;
      leaves = leaving_on c.give_back_side.result _ _ c.take_free.new.self _ c.in-Some.ensures.taken.0 c.in-Some.side c.loop-side.invariant.leaves c.in-Some.ensures.taken.1 c.in-Some.ensures.taken.2 c.give_back_side.ensures.client;
      giving = giving_free_on c.give_back_side.result _ _ c.take_free.new.self _ c.in-Some.ensures.taken.0 c.in-Some.side c.loop-side.invariant.leaves c.loop-side.invariant.giving c.in-Some.ensures.taken.1 c.in-Some.ensures.taken.2 c.give_back_side.ensures.client;
      back = returns_one g.G.Granter.took_back c.args.client.now.number (filter (is_all_free c.args.client.now.heap.used) c.args.client.now.leases) c.args.granter.now c.loop-side.granter c.give_back_side.new.granter c.loop-side.client.gone c.give_back_side.new.client.gone c.in-Some.ensures.taken.2.lease
          (filter (is_all_free c.args.client.now.heap.used) c.loop-side.client.leases) (filter (is_all_free c.args.client.now.heap.used) c.give_back_side.new.client.leases) c.loop-side.invariant.back (among_out c.give_back_side.result c.in-Some.side c.loop-side.client c.take_free.new.self c.give_back_side.new.client _ c.in-Some.ensures.taken.2 c.give_back_side.ensures.client)
          (free_first c.give_back_side.result c.args.client.now c.loop-side.client c.take_free.new.self c.give_back_side.new.client c.in-Some.ensures.taken.0 c.in-Some.side c.loop-side.invariant.leaves c.in-Some.ensures.taken.1 c.in-Some.ensures.taken.2 c.give_back_side.ensures.client)
          (of_lease g.G.Granter.took_back c.give_back_side.new.client.gone c.in-Some.side c.in-Some.ensures.taken.2.lease c.in-Some.ensures.taken.2.side_is (number_out c.loop-side.client c.take_free.new.self c.in-Some.ensures.taken.0 c.in-Some.side c.in-Some.ensures.taken.2 ∙ c.loop-side.invariant.leaves.number) c.give_back_side.ensures.took);
      stay = all_on _ c.take_free.new.self _ (all_on _ c.loop-side.client _ c.loop-side.invariant.stay c.take_free.ensures.stay) c.give_back_side.ensures.stay;
      grants = c.give_back_side.ensures.grants ∙ c.loop-side.invariant.grants;
      greatest = c.give_back_side.ensures.greatest ∙ c.loop-side.invariant.greatest;
      standing = c.give_back_side.ensures.standing ∙ c.loop-side.invariant.standing;
    }

pub loop-side-preserved : goal.loop-side-preserved
loop-side-preserved g c =
    let gives = rw c.if-give_back_side.false at c.give_back_side.ensures.client in
    record {
      returns = returns_on false _ _ c.take_free.new.self _ _ _ _ c.in-Some.ensures.taken.0 c.in-Some.side c.loop-side.invariant.returns c.in-Some.ensures.taken.2 gives c.give_back_side.ensures.returns;
      whole = giving_gone c.args.client.now c.loop-side.client c.take_free.new.self c.give_back_side.new.client c.loop-side.whole c.in-Some.ensures.taken.0 c.in-Some.side c.loop-side.invariant.whole c.in-Some.ensures.taken.2 gives;
      leaves = leaving_on c.give_back_side.result _ _ c.take_free.new.self _ c.in-Some.ensures.taken.0 c.in-Some.side c.loop-side.invariant.leaves c.in-Some.ensures.taken.1 c.in-Some.ensures.taken.2 c.give_back_side.ensures.client;
      giving = giving_free_on c.give_back_side.result _ _ c.take_free.new.self _ c.in-Some.ensures.taken.0 c.in-Some.side c.loop-side.invariant.leaves c.loop-side.invariant.giving c.in-Some.ensures.taken.1 c.in-Some.ensures.taken.2 c.give_back_side.ensures.client;
      back = returns_one g.G.Granter.took_back c.args.client.now.number (filter (is_all_free c.args.client.now.heap.used) c.args.client.now.leases) c.args.granter.now c.loop-side.granter c.give_back_side.new.granter c.loop-side.client.gone c.give_back_side.new.client.gone c.in-Some.ensures.taken.2.lease
          (filter (is_all_free c.args.client.now.heap.used) c.loop-side.client.leases) (filter (is_all_free c.args.client.now.heap.used) c.give_back_side.new.client.leases) c.loop-side.invariant.back (among_out c.give_back_side.result c.in-Some.side c.loop-side.client c.take_free.new.self c.give_back_side.new.client _ c.in-Some.ensures.taken.2 c.give_back_side.ensures.client)
          (free_first c.give_back_side.result c.args.client.now c.loop-side.client c.take_free.new.self c.give_back_side.new.client c.in-Some.ensures.taken.0 c.in-Some.side c.loop-side.invariant.leaves c.in-Some.ensures.taken.1 c.in-Some.ensures.taken.2 c.give_back_side.ensures.client)
          (of_lease g.G.Granter.took_back c.give_back_side.new.client.gone c.in-Some.side c.in-Some.ensures.taken.2.lease c.in-Some.ensures.taken.2.side_is (number_out c.loop-side.client c.take_free.new.self c.in-Some.ensures.taken.0 c.in-Some.side c.in-Some.ensures.taken.2 ∙ c.loop-side.invariant.leaves.number) c.give_back_side.ensures.took);
      stay = all_on _ c.take_free.new.self _ (all_on _ c.loop-side.client _ c.loop-side.invariant.stay c.take_free.ensures.stay) c.give_back_side.ensures.stay;
      grants = c.give_back_side.ensures.grants ∙ c.loop-side.invariant.grants;
      greatest = c.give_back_side.ensures.greatest ∙ c.loop-side.invariant.greatest;
      standing = c.give_back_side.ensures.standing ∙ c.loop-side.invariant.standing;
    }

pub loop-side-smaller-then-give_back_side : goal.loop-side-smaller-then-give_back_side
loop-side-smaller-then-give_back_side g c = giving_fewer c.give_back_side.result _ c.take_free.new.self _ c.in-Some.ensures.taken.0 c.in-Some.side c.in-Some.ensures.taken.2 c.give_back_side.ensures.client

pub loop-side-smaller : goal.loop-side-smaller
loop-side-smaller g c = giving_fewer c.give_back_side.result _ c.take_free.new.self _ c.in-Some.ensures.taken.0 c.in-Some.side c.in-Some.ensures.taken.2 c.give_back_side.ensures.client

pub returns-clause-left : goal.returns-clause-left
returns-clause-left g c = rw c.in_default.ensures.none.1 (leaving_end c.args.client.now c.loop-side.client c.loop-side.invariant.leaves c.in_default.ensures.none.0 (rw c.in_default.ensures.none.1 at c.heap_pages-after.ensures.sound))

pub returns-clause-found : goal.returns-clause-found
returns-clause-found g c =
    rw c.in_default.ensures.none.1
    (given_free c.args.client.now c.loop-side.client c.loop-side.invariant.giving (leaving_end c.args.client.now c.loop-side.client c.loop-side.invariant.leaves c.in_default.ensures.none.0 (rw c.in_default.ensures.none.1 at c.heap_pages-after.ensures.sound)).leases (once_gone c.loop-side.client (rw c.in_default.ensures.none.1 at c.heap_pages-after.ensures.sound)))

pub returns-clause-told : goal.returns-clause-told
returns-clause-told g c = rw c.in_default.ensures.none.1 (given_told _ c.args.client.now c.loop-side.client c.loop-side.invariant.giving)

pub returns-clause-took : goal.returns-clause-took
returns-clause-took g c =
    let test = is_all_free c.args.client.now.heap.used in
    rw c.in_default.ensures.none.1
    (returns_last g.G.Granter.took_back c.args.client.now.number (filter test c.args.client.now.leases) c.args.granter.now c.loop-side.client.gone (filter test c.loop-side.client.leases) c.loop-side.granter c.loop-side.invariant.back
    (free_none c.args.client.now c.loop-side.client c.loop-side.invariant.leaves c.in_default.ensures.none.0))
