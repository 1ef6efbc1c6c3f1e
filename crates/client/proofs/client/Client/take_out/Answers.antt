use Rattle.std.proofs.Common.{◌≡◌, ℕ, ◌∷◌, [], refl, sym, ap, arith, Some, List, length, ◌<◌, get_or}
use Rattle.std.specs.List.{slice_get}
use Rattle.std.proofs.lemmas.Option.{slice_get-get_or}
use Rattle.segment.specs.Owned.{Owned}
use Rattle.client.specs.Lease.{Lease}
use Rattle.client.specs.Seen.{seen_of}
use Rattle.client.proofs.PiecesStay.{stay_left}
use Rattle.client.proofs.OneStep.{has_each, pages_fit, taken_unknown, kept_taken}
use Rattle.client.proofs.client.Client.take_out.Goals as goal

-- the segment at a place
lease_at : (leases : List Lease) (place : ℕ) → place < length leases → (lease : Lease) × (slice_get leases place ≡ Some lease)
lease_at [] place inside = absurd (omega (arith, inside))
lease_at (l ∷ leases) place inside = (get_or (l ∷ leases) place l, slice_get-get_or (l ∷ leases) place l inside)

pub leave-side-requires-clause-inside : goal.leave-side-requires-clause-inside
leave-side-requires-clause-inside c =
    let inside = rw (← c.self.view_is) at c.requires in
    omega (arith, inside)

pub leave-side-requires-clause-there : goal.leave-side-requires-clause-there
leave-side-requires-clause-there c =
    λ lease at. has_each (seen_of c.self.inside.number c.self.inside.standard c.self.inside.leases.items c.self.inside.heap c.self.inside.gone c.self.inside.taken) c.args.place lease c.self.invariant.sound at

pub overflow_sub-self : goal.overflow_sub-self
overflow_sub-self c =
    let items = c.self.inside.leases.items in
    let place = c.args.place in
    let inside = rw (← c.self.view_is) at c.requires in
    let found = lease_at items place inside in
    let lease = found.0 in
    let at = found.1 in
    let side_is : c.leave-side.result ≡ lease.side = c.leave-side.ensures.side lease at in
    let fit = pages_fit _ c.self.inside.pages c.self.inside.gone.room place lease c.self.invariant at in
    rw (c.pages.ensures.value, side_is) fit

pub overflow_add-self : goal.overflow_add-self
overflow_add-self c =
    let inside = rw (← c.self.view_is) at c.requires in
    omega (arith, c.self.invariant.roomy, c.self.invariant.full, inside)

pub invariant_of-self : goal.invariant_of-self
invariant_of-self c =
    let items = c.self.inside.leases.items in
    let place = c.args.place in
    let inside = rw (← c.self.view_is) at c.requires in
    let found = lease_at items place inside in
    let lease = found.0 in
    let at = found.1 in
    let side_is : c.leave-side.result ≡ lease.side = c.leave-side.ensures.side lease at in
    rw (c.pages.ensures.value) (kept_taken _ c.leave-side.new.leases.items c.leave-side.new.heap c.self.inside.pages c.self.inside.gone.room place lease c.leave-side.result c.self.invariant at side_is c.leave-side.ensures.leases c.leave-side.ensures.heap c.leave-side.ensures.partition)

pub returns-clause-out : goal.returns-clause-out
returns-clause-out c =
    let items = c.self.inside.leases.items in
    let place = c.args.place in
    let inside = rw (← c.self.view_is) at c.requires in
    let found = lease_at items place inside in
    let lease = found.0 in
    let at = found.1 in
    let side_is : c.leave-side.result ≡ lease.side = c.leave-side.ensures.side lease at in
    rw (← c.self.view_is) record {
      lease = lease;
      stood = at;
      side_is = side_is;
      leaves = record { leases = c.leave-side.ensures.leases; fewer = omega (arith, c.leave-side.ensures.fewer); heap = c.leave-side.ensures.heap; name = record { number = refl; standard = refl } };
      gone = refl;
      told = refl;
      taken = refl;
    }

pub returns-clause-stay : goal.returns-clause-stay
returns-clause-stay c =
    let items = c.self.inside.leases.items in
    let place = c.args.place in
    let inside = rw (← c.self.view_is) at c.requires in
    let found = lease_at items place inside in
    let lease = found.0 in
    let at = found.1 in
    let side_is : c.leave-side.result ≡ lease.side = c.leave-side.ensures.side lease at in
    rw (← c.self.view_is) (stay_left _ _ place lease c.leave-side.result.id at (ap (λ (s : Owned). s.id) (sym side_is)) (record { leases = c.leave-side.ensures.leases; fewer = omega (arith, c.leave-side.ensures.fewer); heap = c.leave-side.ensures.heap; name = record { number = refl; standard = refl } }) (λ other was. was))

pub returns-clause-unknown : goal.returns-clause-unknown
returns-clause-unknown c =
    let items = c.self.inside.leases.items in
    let place = c.args.place in
    let inside = rw (← c.self.view_is) at c.requires in
    let found = lease_at items place inside in
    let lease = found.0 in
    let at = found.1 in
    let side_is : c.leave-side.result ≡ lease.side = c.leave-side.ensures.side lease at in
    taken_unknown _ _ place c.leave-side.result c.self.invariant.sound (record {
      lease = lease;
      stood = at;
      side_is = side_is;
      leaves = record { leases = c.leave-side.ensures.leases; fewer = omega (arith, c.leave-side.ensures.fewer); heap = c.leave-side.ensures.heap; name = record { number = refl; standard = refl } };
      gone = refl;
      told = refl;
      taken = refl;
    })
