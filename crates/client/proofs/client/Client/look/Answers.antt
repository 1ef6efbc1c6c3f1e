use Rattle.std.proofs.Common.{◌≡◌, true, false, ◌++◌, ◌∷◌, [], refl, sym, ap, ◌∙◌, arith, subst, Some}
use Rattle.std.specs.List.{slice_get}
use Rattle.std.proofs.lemmas.Option.{same_Some, slice_get_read}
use Rattle.std.proofs.lemmas.List.{length-set}
use Rattle.segment.specs.Owned.{Owned}
use Rattle.span_heap.specs.Heap.{has_segment}
use Rattle.span_heap.specs.Changes.{Drops}
use Rattle.client.specs.Lease.{Lease, IsLease, LooksAt}
use Rattle.client.specs.Seen.{seen_of}
use Rattle.client.proofs.Rows.{All-at, set_here, remove-set}
use Rattle.client.proofs.LeaseSteps.{looked_so}
use Rattle.client.proofs.OneStep.{has_each, pages_fit, kept_turned, kept_lost, follows_looked, look_there, look_gone}
use Rattle.client.proofs.client.Client.look.Goals as goal

pub index_mut-lease-requires : goal.index_mut-lease-requires
index_mut-lease-requires c =
    let inside = rw (← c.self.view_is) at c.requires in
    omega (arith, inside)

pub look-there-requires : goal.look-there-requires
look-there-requires c =
    let lease = c.index_mut-lease.result.now in
    let items = c.self.inside.leases.items in
    let place = c.args.place in
    let inside = rw (← c.self.view_is) at c.requires in
    let at : slice_get items place ≡ Some lease = slice_get_read items _ place lease refl inside c.index_mut-lease.ensures.value in
    record { lease = All-at IsLease items place lease c.self.invariant.sound.leases at }

pub leave-side-requires-clause-inside : goal.leave-side-requires-clause-inside
leave-side-requires-clause-inside c =
    let lease = c.index_mut-lease.result.now in
    let turned = c.look-there.new.self in
    let items = c.self.inside.leases.items in
    let place = c.args.place in
    let inside = rw (← c.self.view_is) at c.requires in
    let at : slice_get items place ≡ Some lease = slice_get_read items _ place lease refl inside c.index_mut-lease.ensures.value in
    omega (arith, inside, length-set items place turned)

pub leave-side-requires-clause-there : goal.leave-side-requires-clause-there
leave-side-requires-clause-there c =
    let lease = c.index_mut-lease.result.now in
    let turned = c.look-there.new.self in
    let items = c.self.inside.leases.items in
    let place = c.args.place in
    let inside = rw (← c.self.view_is) at c.requires in
    let at : slice_get items place ≡ Some lease = slice_get_read items _ place lease refl inside c.index_mut-lease.ensures.value in
    let looks : LooksAt false lease turned = subst (λ b. LooksAt b lease turned) c.if-not-there.true c.look-there.ensures.looks in
    let so = looked_so false lease turned looks in
    λ other is.
    let same : turned ≡ other = same_Some turned other (sym (set_here items place lease turned at) ∙ is) in
    subst (λ n. has_segment c.self.inside.heap.segments n ≡ true) (sym so.keeps.same ∙ ap (λ (l : Lease). l.side.id) same) (has_each (seen_of c.self.inside.number c.self.inside.standard items c.self.inside.heap c.self.inside.gone c.self.inside.taken) place lease c.self.invariant.sound at)

pub overflow_sub-self : goal.overflow_sub-self
overflow_sub-self c =
    let lease = c.index_mut-lease.result.now in
    let turned = c.look-there.new.self in
    let items = c.self.inside.leases.items in
    let place = c.args.place in
    let inside = rw (← c.self.view_is) at c.requires in
    let at : slice_get items place ≡ Some lease = slice_get_read items _ place lease refl inside c.index_mut-lease.ensures.value in
    let looks : LooksAt false lease turned = subst (λ b. LooksAt b lease turned) c.if-not-there.true c.look-there.ensures.looks in
    let so = looked_so false lease turned looks in
    let side_is : c.leave-side.result ≡ turned.side = c.leave-side.ensures.side turned (set_here items place lease turned at) in
    let fit = pages_fit _ c.self.inside.pages c.self.inside.gone.room place lease c.self.invariant at in
    rw (c.pages.ensures.value, side_is, so.keeps.pages) fit

pub push-requires-clause-gone : goal.push-requires-clause-gone
push-requires-clause-gone c =
    let lease = c.index_mut-lease.result.now in
    let turned = c.look-there.new.self in
    let items = c.self.inside.leases.items in
    let place = c.args.place in
    let inside = rw (← c.self.view_is) at c.requires in
    let at : slice_get items place ≡ Some lease = slice_get_read items _ place lease refl inside c.index_mut-lease.ensures.value in
    let looks : LooksAt false lease turned = subst (λ b. LooksAt b lease turned) c.if-not-there.true c.look-there.ensures.looks in
    let so = looked_so false lease turned looks in
    let side_is : c.leave-side.result ≡ turned.side = c.leave-side.ensures.side turned (set_here items place lease turned at) in
    rw side_is so.told.0

pub push-requires-clause-room : goal.push-requires-clause-room
push-requires-clause-room c =
    let lease = c.index_mut-lease.result.now in
    let turned = c.look-there.new.self in
    let items = c.self.inside.leases.items in
    let place = c.args.place in
    let inside = rw (← c.self.view_is) at c.requires in
    let at : slice_get items place ≡ Some lease = slice_get_read items _ place lease refl inside c.index_mut-lease.ensures.value in
    omega (arith, c.self.invariant.roomy, inside)

pub invariant_of-self : goal.invariant_of-self
invariant_of-self c =
    let lease = c.index_mut-lease.result.now in
    let turned = c.look-there.new.self in
    let items = c.self.inside.leases.items in
    let place = c.args.place in
    let inside = rw (← c.self.view_is) at c.requires in
    let at : slice_get items place ≡ Some lease = slice_get_read items _ place lease refl inside c.index_mut-lease.ensures.value in
    let looks : LooksAt false lease turned = subst (λ b. LooksAt b lease turned) c.if-not-there.true c.look-there.ensures.looks in
    let so = looked_so false lease turned looks in
    let side_is : c.leave-side.result ≡ turned.side = c.leave-side.ensures.side turned (set_here items place lease turned at) in
    rw (c.pages.ensures.value)
    (kept_lost _ c.leave-side.new.leases.items c.leave-side.new.heap c.push.new.self.sides c.push.new.self.told c.self.inside.pages c.self.inside.gone.room c.push.new.self.room place lease c.leave-side.result c.self.invariant at
    (ap (λ (s : Owned). s.id) side_is ∙ so.keeps.same) (ap (λ (s : Owned). s.pages) side_is ∙ so.keeps.pages) (c.leave-side.ensures.leases ∙ remove-set items place turned) c.leave-side.ensures.heap c.leave-side.ensures.partition c.push.ensures.sides c.push.ensures.told c.push.ensures.room)

pub invariant_of-self-else-not-there : goal.invariant_of-self-else-not-there
invariant_of-self-else-not-there c =
    let lease = c.index_mut-lease.result.now in
    let turned = c.look-there.new.self in
    let items = c.self.inside.leases.items in
    let place = c.args.place in
    let inside = rw (← c.self.view_is) at c.requires in
    let at : slice_get items place ≡ Some lease = slice_get_read items _ place lease refl inside c.index_mut-lease.ensures.value in
    let looks : LooksAt true lease turned = subst (λ b. LooksAt b lease turned) c.if-not-there.false c.look-there.ensures.looks in
    let follows = follows_looked _ place lease turned c.self.invariant.sound at looks c.look-there.ensures.lease in
    kept_turned _ c.self.inside.pages c.self.inside.gone.room place lease turned c.self.invariant at follows.0 follows.1

pub returns-then-not-there-clause-looks : goal.returns-then-not-there-clause-looks
returns-then-not-there-clause-looks c =
    let lease = c.index_mut-lease.result.now in
    let turned = c.look-there.new.self in
    let items = c.self.inside.leases.items in
    let place = c.args.place in
    let inside = rw (← c.self.view_is) at c.requires in
    let at : slice_get items place ≡ Some lease = slice_get_read items _ place lease refl inside c.index_mut-lease.ensures.value in
    let looks : LooksAt false lease turned = subst (λ b. LooksAt b lease turned) c.if-not-there.true c.look-there.ensures.looks in
    let so = looked_so false lease turned looks in
    let side_is : c.leave-side.result ≡ turned.side = c.leave-side.ensures.side turned (set_here items place lease turned at) in
    rw (← c.self.view_is, c.if-not-there.true) (look_gone _ _ place lease turned c.self.invariant.sound at looks (record {
      leaves = record {
        leases = c.leave-side.ensures.leases ∙ remove-set items place turned;
        fewer = omega (arith, c.leave-side.ensures.fewer, length-set items place turned);
        heap = subst (λ (s : Owned). Drops c.self.inside.heap c.leave-side.new.heap s.id) side_is c.leave-side.ensures.heap;
        name = record { number = refl; standard = refl };
      };
      is_gone = so.told.0;
      gone = c.push.ensures.sides ∙ ap (λ (s : Owned). c.self.inside.gone.sides ++ s ∷ []) side_is;
      told = c.push.ensures.told;
      taken = refl;
    })).0

pub returns-then-not-there-clause-stay : goal.returns-then-not-there-clause-stay
returns-then-not-there-clause-stay c =
    let lease = c.index_mut-lease.result.now in
    let turned = c.look-there.new.self in
    let items = c.self.inside.leases.items in
    let place = c.args.place in
    let inside = rw (← c.self.view_is) at c.requires in
    let at : slice_get items place ≡ Some lease = slice_get_read items _ place lease refl inside c.index_mut-lease.ensures.value in
    let looks : LooksAt false lease turned = subst (λ b. LooksAt b lease turned) c.if-not-there.true c.look-there.ensures.looks in
    let so = looked_so false lease turned looks in
    let side_is : c.leave-side.result ≡ turned.side = c.leave-side.ensures.side turned (set_here items place lease turned at) in
    rw (← c.self.view_is) (look_gone _ _ place lease turned c.self.invariant.sound at looks (record {
      leaves = record {
        leases = c.leave-side.ensures.leases ∙ remove-set items place turned;
        fewer = omega (arith, c.leave-side.ensures.fewer, length-set items place turned);
        heap = subst (λ (s : Owned). Drops c.self.inside.heap c.leave-side.new.heap s.id) side_is c.leave-side.ensures.heap;
        name = record { number = refl; standard = refl };
      };
      is_gone = so.told.0;
      gone = c.push.ensures.sides ∙ ap (λ (s : Owned). c.self.inside.gone.sides ++ s ∷ []) side_is;
      told = c.push.ensures.told;
      taken = refl;
    })).1

pub returns-else-not-there-clause-looks : goal.returns-else-not-there-clause-looks
returns-else-not-there-clause-looks c =
    let lease = c.index_mut-lease.result.now in
    let turned = c.look-there.new.self in
    let items = c.self.inside.leases.items in
    let place = c.args.place in
    let inside = rw (← c.self.view_is) at c.requires in
    let at : slice_get items place ≡ Some lease = slice_get_read items _ place lease refl inside c.index_mut-lease.ensures.value in
    let looks : LooksAt true lease turned = subst (λ b. LooksAt b lease turned) c.if-not-there.false c.look-there.ensures.looks in
    rw (← c.self.view_is, c.if-not-there.false) (look_there _ _ place lease turned at looks (record { leases = refl; heap = refl; name = record { number = refl; standard = refl }; gone = record { gone = refl; told = refl; taken = refl } })).0

pub returns-else-not-there-clause-stay : goal.returns-else-not-there-clause-stay
returns-else-not-there-clause-stay c =
    let lease = c.index_mut-lease.result.now in
    let turned = c.look-there.new.self in
    let items = c.self.inside.leases.items in
    let place = c.args.place in
    let inside = rw (← c.self.view_is) at c.requires in
    let at : slice_get items place ≡ Some lease = slice_get_read items _ place lease refl inside c.index_mut-lease.ensures.value in
    let looks : LooksAt true lease turned = subst (λ b. LooksAt b lease turned) c.if-not-there.false c.look-there.ensures.looks in
    rw (← c.self.view_is) (look_there _ _ place lease turned at looks (record { leases = refl; heap = refl; name = record { number = refl; standard = refl }; gone = record { gone = refl; told = refl; taken = refl } })).1
