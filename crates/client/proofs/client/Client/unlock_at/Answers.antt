use Rattle.std.proofs.Common.{true, refl, arith}
use Rattle.std.proofs.lemmas.Option.{slice_get_within}
use Rattle.client.specs.Lease.{IsLease}
use Rattle.client.proofs.Rows.{All-at}
use Rattle.client.proofs.OneStep.{lease_there, range_here, kept_turned, unlock_so, follows_unlocked}
use Rattle.client.proofs.client.Client.unlock_at.Goals as goal

pub index_mut-lease-requires : goal.index_mut-lease-requires
index_mut-lease-requires c =
    let there = rw (← c.self.view_is) at c.requires.there in
    omega (arith, slice_get_within c.self.inside.leases.items c.args.place there.0 there.1)

pub unlock-requires-clause-lease : goal.unlock-requires-clause-lease
unlock-requires-clause-lease c =
    let there = rw (← c.self.view_is) at c.requires.there in
    let used = rw (← c.self.view_is) at c.requires.used in
    let lease = c.index_mut-lease.result.now in
    let items = c.self.inside.leases.items in
    let place = c.args.place in
    let run = c.args.span.now in
    let at = lease_there items place run.segment lease there c.index_mut-lease.ensures.value in
    All-at IsLease items place lease c.self.invariant.sound.leases at.0

pub unlock-requires-clause-locked : goal.unlock-requires-clause-locked
unlock-requires-clause-locked c =
    let there = rw (← c.self.view_is) at c.requires.there in
    let used = rw (← c.self.view_is) at c.requires.used in
    let lease = c.index_mut-lease.result.now in
    let items = c.self.inside.leases.items in
    let place = c.args.place in
    let run = c.args.span.now in
    let at = lease_there items place run.segment lease there c.index_mut-lease.ensures.value in
    rw (c.first.ensures, c.pages.ensures) (range_here _ run true place lease c.self.invariant.sound used at.0 at.1)

pub invariant_of-self : goal.invariant_of-self
invariant_of-self c =
    let there = rw (← c.self.view_is) at c.requires.there in
    let used = rw (← c.self.view_is) at c.requires.used in
    let lease = c.index_mut-lease.result.now in
    let items = c.self.inside.leases.items in
    let place = c.args.place in
    let run = c.args.span.now in
    let at = lease_there items place run.segment lease there c.index_mut-lease.ensures.value in
    let turned = c.unlock.new.self in
    let unlocks = rw (c.first.ensures, c.pages.ensures) at c.unlock.ensures.unlocks in
    let follows = follows_unlocked _ run c.args.now c.unlock.result place lease turned c.self.invariant.sound used at.0 at.1 unlocks c.unlock.ensures.lease in
    kept_turned _ c.self.inside.pages c.self.inside.gone.room place lease turned c.self.invariant at.0 follows.0 follows.1

pub returns-clause-unlocks : goal.returns-clause-unlocks
returns-clause-unlocks c =
    let there = rw (← c.self.view_is) at c.requires.there in
    let used = rw (← c.self.view_is) at c.requires.used in
    let lease = c.index_mut-lease.result.now in
    let items = c.self.inside.leases.items in
    let place = c.args.place in
    let run = c.args.span.now in
    let at = lease_there items place run.segment lease there c.index_mut-lease.ensures.value in
    let turned = c.unlock.new.self in
    let unlocks = rw (c.first.ensures, c.pages.ensures) at c.unlock.ensures.unlocks in
    rw (← c.self.view_is) (unlock_so _ _ run c.args.now c.unlock.result place lease turned c.self.invariant.sound used at.0 at.1 unlocks (record { leases = refl; heap = refl; name = record { number = refl; standard = refl }; gone = record { gone = refl; told = refl; taken = refl } })).0

pub returns-clause-leaves : goal.returns-clause-leaves
returns-clause-leaves c =
    let there = rw (← c.self.view_is) at c.requires.there in
    let used = rw (← c.self.view_is) at c.requires.used in
    let lease = c.index_mut-lease.result.now in
    let items = c.self.inside.leases.items in
    let place = c.args.place in
    let run = c.args.span.now in
    let at = lease_there items place run.segment lease there c.index_mut-lease.ensures.value in
    let turned = c.unlock.new.self in
    let unlocks = rw (c.first.ensures, c.pages.ensures) at c.unlock.ensures.unlocks in
    rw (← c.self.view_is) (unlock_so _ _ run c.args.now c.unlock.result place lease turned c.self.invariant.sound used at.0 at.1 unlocks (record { leases = refl; heap = refl; name = record { number = refl; standard = refl }; gone = record { gone = refl; told = refl; taken = refl } })).1
