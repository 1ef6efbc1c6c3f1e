use Rattle.std.proofs.Common.{◌≡◌, true, false, ◌++◌, ◌∷◌, [], refl, sym, ap, ◌∙◌, arith, subst}
use Rattle.std.proofs.lemmas.Option.{slice_get_within, same_Some}
use Rattle.std.proofs.lemmas.List.{length-set}
use Rattle.client.specs.Lease.{Lease, IsLease}
use Rattle.client.specs.Seen.{seen_of}
use Rattle.span_heap.specs.Heap.{has_segment}
use Rattle.span_heap.specs.Changes.{Drops}
use Rattle.segment.specs.Owned.{Owned}
use Rattle.client.proofs.Rows.{All-at, set_here, remove-set}
use Rattle.client.proofs.LeaseSteps.{found_gone}
use Rattle.client.proofs.OneStep.{lease_there, range_here, has_each, pages_fit, kept_turned, kept_lost, lock_held, lock_gone, follows_locked}
use Rattle.client.proofs.client.Client.lock_at.Goals as goal

pub index_mut-lease-requires : goal.index_mut-lease-requires
index_mut-lease-requires c =
    let there = rw (← c.self.view_is) at c.requires.there in
    omega (arith, slice_get_within c.self.inside.leases.items c.args.place there.0 there.1)

pub lock-requires-clause-lease : goal.lock-requires-clause-lease
lock-requires-clause-lease c =
    let there = rw (← c.self.view_is) at c.requires.there in
    let lease = c.index_mut-lease.result.now in
    let at = lease_there c.self.inside.leases.items c.args.place c.args.span.now.segment lease there c.index_mut-lease.ensures.value in
    All-at IsLease c.self.inside.leases.items c.args.place lease c.self.invariant.sound.leases at.0

pub lock-requires-clause-free : goal.lock-requires-clause-free
lock-requires-clause-free c =
    let there = rw (← c.self.view_is) at c.requires.there in
    let used = rw (← c.self.view_is) at c.requires.used in
    let lease = c.index_mut-lease.result.now in
    let at = lease_there c.self.inside.leases.items c.args.place c.args.span.now.segment lease there c.index_mut-lease.ensures.value in
    rw (c.first.ensures, c.pages.ensures) (range_here _ c.args.span.now false c.args.place lease c.self.invariant.sound used at.0 at.1)

pub leave-side-requires-clause-inside : goal.leave-side-requires-clause-inside
leave-side-requires-clause-inside c =
    let there = rw (← c.self.view_is) at c.requires.there in
    let used = rw (← c.self.view_is) at c.requires.used in
    let lease = c.index_mut-lease.result.now in
    let turned = c.lock.new.self in
    let items = c.self.inside.leases.items in
    let place = c.args.place in
    let run = c.args.span.now in
    let at = lease_there items place run.segment lease there c.index_mut-lease.ensures.value in
    omega (arith, slice_get_within items place lease at.0, length-set items place turned)

pub leave-side-requires-clause-there : goal.leave-side-requires-clause-there
leave-side-requires-clause-there c =
    let there = rw (← c.self.view_is) at c.requires.there in
    let used = rw (← c.self.view_is) at c.requires.used in
    let lease = c.index_mut-lease.result.now in
    let turned = c.lock.new.self in
    let items = c.self.inside.leases.items in
    let place = c.args.place in
    let run = c.args.span.now in
    let at = lease_there items place run.segment lease there c.index_mut-lease.ensures.value in
    let locks = rw (c.first.ensures, c.pages.ensures) at c.in-Gone.ensures.locks in
    let found = found_gone run.first run.pages lease turned locks in
    λ other is.
    let same : turned ≡ other = same_Some turned other (sym (set_here items place lease turned at.0) ∙ is) in
    subst (λ n. has_segment c.self.inside.heap.segments n ≡ true) (sym found.side.same ∙ ap (λ (l : Lease). l.side.id) same) (has_each (seen_of c.self.inside.number c.self.inside.standard items c.self.inside.heap c.self.inside.gone c.self.inside.taken) place lease c.self.invariant.sound at.0)

pub overflow_sub-self : goal.overflow_sub-self
overflow_sub-self c =
    let there = rw (← c.self.view_is) at c.requires.there in
    let used = rw (← c.self.view_is) at c.requires.used in
    let lease = c.index_mut-lease.result.now in
    let turned = c.lock.new.self in
    let items = c.self.inside.leases.items in
    let place = c.args.place in
    let run = c.args.span.now in
    let at = lease_there items place run.segment lease there c.index_mut-lease.ensures.value in
    let locks = rw (c.first.ensures, c.pages.ensures) at c.in-Gone.ensures.locks in
    let found = found_gone run.first run.pages lease turned locks in
    let side_is : c.leave-side.result ≡ turned.side = c.leave-side.ensures.side turned (set_here items place lease turned at.0) in
    let fit = pages_fit _ c.self.inside.pages c.self.inside.gone.room place lease c.self.invariant at.0 in
    rw (c.pages-in-Gone.ensures.value, side_is, found.side.pages) fit

pub push-requires-clause-gone : goal.push-requires-clause-gone
push-requires-clause-gone c =
    let there = rw (← c.self.view_is) at c.requires.there in
    let used = rw (← c.self.view_is) at c.requires.used in
    let lease = c.index_mut-lease.result.now in
    let turned = c.lock.new.self in
    let items = c.self.inside.leases.items in
    let place = c.args.place in
    let run = c.args.span.now in
    let at = lease_there items place run.segment lease there c.index_mut-lease.ensures.value in
    let locks = rw (c.first.ensures, c.pages.ensures) at c.in-Gone.ensures.locks in
    let found = found_gone run.first run.pages lease turned locks in
    let side_is : c.leave-side.result ≡ turned.side = c.leave-side.ensures.side turned (set_here items place lease turned at.0) in
    rw side_is found.side.phase_is

pub push-requires-clause-room : goal.push-requires-clause-room
push-requires-clause-room c =
    let there = rw (← c.self.view_is) at c.requires.there in
    let used = rw (← c.self.view_is) at c.requires.used in
    let lease = c.index_mut-lease.result.now in
    let turned = c.lock.new.self in
    let items = c.self.inside.leases.items in
    let place = c.args.place in
    let run = c.args.span.now in
    let at = lease_there items place run.segment lease there c.index_mut-lease.ensures.value in
    omega (arith, c.self.invariant.roomy, slice_get_within items place lease at.0)

pub invariant_of-self : goal.invariant_of-self
invariant_of-self c =
    let there = rw (← c.self.view_is) at c.requires.there in
    let used = rw (← c.self.view_is) at c.requires.used in
    let lease = c.index_mut-lease.result.now in
    let turned = c.lock.new.self in
    let items = c.self.inside.leases.items in
    let place = c.args.place in
    let run = c.args.span.now in
    let at = lease_there items place run.segment lease there c.index_mut-lease.ensures.value in
    let locks = rw (c.first.ensures, c.pages.ensures) at c.in-Held.ensures.locks in
    let follows = follows_locked _ run place lease turned c.self.invariant.sound used at.0 at.1 locks c.in-Held.ensures.lease in
    kept_turned _ c.self.inside.pages c.self.inside.gone.room place lease turned c.self.invariant at.0 follows.0 follows.1

pub invariant_of-self-in-Gone : goal.invariant_of-self-in-Gone
invariant_of-self-in-Gone c =
    let there = rw (← c.self.view_is) at c.requires.there in
    let used = rw (← c.self.view_is) at c.requires.used in
    let lease = c.index_mut-lease.result.now in
    let turned = c.lock.new.self in
    let items = c.self.inside.leases.items in
    let place = c.args.place in
    let run = c.args.span.now in
    let at = lease_there items place run.segment lease there c.index_mut-lease.ensures.value in
    let locks = rw (c.first.ensures, c.pages.ensures) at c.in-Gone.ensures.locks in
    let found = found_gone run.first run.pages lease turned locks in
    let side_is : c.leave-side.result ≡ turned.side = c.leave-side.ensures.side turned (set_here items place lease turned at.0) in
    let leases_is = c.leave-side.ensures.leases ∙ remove-set items place turned in
    rw (c.pages-in-Gone.ensures.value)
    (kept_lost _ c.leave-side.new.leases.items c.leave-side.new.heap c.push.new.self.sides c.push.new.self.told c.self.inside.pages c.self.inside.gone.room c.push.new.self.room place lease c.leave-side.result c.self.invariant at.0
    (ap (λ (s : Owned). s.id) side_is ∙ found.side.same) (ap (λ (s : Owned). s.pages) side_is ∙ found.side.pages) leases_is c.leave-side.ensures.heap c.leave-side.ensures.partition c.push.ensures.sides c.push.ensures.told c.push.ensures.room)

pub returns-in-Held-clause-locks : goal.returns-in-Held-clause-locks
returns-in-Held-clause-locks c =
    let there = rw (← c.self.view_is) at c.requires.there in
    let used = rw (← c.self.view_is) at c.requires.used in
    let lease = c.index_mut-lease.result.now in
    let turned = c.lock.new.self in
    let items = c.self.inside.leases.items in
    let place = c.args.place in
    let run = c.args.span.now in
    let at = lease_there items place run.segment lease there c.index_mut-lease.ensures.value in
    let locks = rw (c.first.ensures, c.pages.ensures) at c.in-Held.ensures.locks in
    rw (← c.self.view_is) (lock_held _ _ run place lease turned c.self.invariant.sound used at.0 at.1 locks (record { leases = refl; heap = refl; name = record { number = refl; standard = refl }; gone = record { gone = refl; told = refl; taken = refl } })).0

pub returns-in-Held-clause-leaves : goal.returns-in-Held-clause-leaves
returns-in-Held-clause-leaves c =
    let there = rw (← c.self.view_is) at c.requires.there in
    let used = rw (← c.self.view_is) at c.requires.used in
    let lease = c.index_mut-lease.result.now in
    let turned = c.lock.new.self in
    let items = c.self.inside.leases.items in
    let place = c.args.place in
    let run = c.args.span.now in
    let at = lease_there items place run.segment lease there c.index_mut-lease.ensures.value in
    let locks = rw (c.first.ensures, c.pages.ensures) at c.in-Held.ensures.locks in
    rw (← c.self.view_is) (lock_held _ _ run place lease turned c.self.invariant.sound used at.0 at.1 locks (record { leases = refl; heap = refl; name = record { number = refl; standard = refl }; gone = record { gone = refl; told = refl; taken = refl } })).1

pub returns-in-Gone-clause-locks : goal.returns-in-Gone-clause-locks
returns-in-Gone-clause-locks c =
    let there = rw (← c.self.view_is) at c.requires.there in
    let used = rw (← c.self.view_is) at c.requires.used in
    let lease = c.index_mut-lease.result.now in
    let turned = c.lock.new.self in
    let items = c.self.inside.leases.items in
    let place = c.args.place in
    let run = c.args.span.now in
    let at = lease_there items place run.segment lease there c.index_mut-lease.ensures.value in
    let locks = rw (c.first.ensures, c.pages.ensures) at c.in-Gone.ensures.locks in
    let found = found_gone run.first run.pages lease turned locks in
    let side_is : c.leave-side.result ≡ turned.side = c.leave-side.ensures.side turned (set_here items place lease turned at.0) in
    rw (← c.self.view_is) (lock_gone _ _ run place lease turned c.self.invariant.sound at.0 at.1 locks (record {
      leaves = record {
        leases = c.leave-side.ensures.leases ∙ remove-set items place turned;
        fewer = omega (arith, c.leave-side.ensures.fewer, length-set items place turned);
        heap = subst (λ (s : Owned). Drops c.self.inside.heap c.leave-side.new.heap s.id) side_is c.leave-side.ensures.heap;
        name = record { number = refl; standard = refl };
      };
      is_gone = found.side.phase_is;
      gone = c.push.ensures.sides ∙ ap (λ (s : Owned). c.self.inside.gone.sides ++ s ∷ []) side_is;
      told = c.push.ensures.told;
      taken = refl;
    })).0

pub returns-in-Gone-clause-leaves : goal.returns-in-Gone-clause-leaves
returns-in-Gone-clause-leaves c =
    let there = rw (← c.self.view_is) at c.requires.there in
    let used = rw (← c.self.view_is) at c.requires.used in
    let lease = c.index_mut-lease.result.now in
    let turned = c.lock.new.self in
    let items = c.self.inside.leases.items in
    let place = c.args.place in
    let run = c.args.span.now in
    let at = lease_there items place run.segment lease there c.index_mut-lease.ensures.value in
    let locks = rw (c.first.ensures, c.pages.ensures) at c.in-Gone.ensures.locks in
    let found = found_gone run.first run.pages lease turned locks in
    let side_is : c.leave-side.result ≡ turned.side = c.leave-side.ensures.side turned (set_here items place lease turned at.0) in
    rw (← c.self.view_is) (lock_gone _ _ run place lease turned c.self.invariant.sound at.0 at.1 locks (record {
      leaves = record {
        leases = c.leave-side.ensures.leases ∙ remove-set items place turned;
        fewer = omega (arith, c.leave-side.ensures.fewer, length-set items place turned);
        heap = subst (λ (s : Owned). Drops c.self.inside.heap c.leave-side.new.heap s.id) side_is c.leave-side.ensures.heap;
        name = record { number = refl; standard = refl };
      };
      is_gone = found.side.phase_is;
      gone = c.push.ensures.sides ∙ ap (λ (s : Owned). c.self.inside.gone.sides ++ s ∷ []) side_is;
      told = c.push.ensures.told;
      taken = refl;
    })).1
