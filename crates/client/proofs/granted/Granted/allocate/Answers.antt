use Rattle.std.proofs.Common.{◌≡◌, ◌≤◌, arith, refl, sym, ap, ◌∙◌, inl, inr}
use Rattle.units.specs.Count.{next_count}
use Rattle.client.specs.Seen.{Seen}
use Rattle.client.specs.Granting.{Misses}
use Rattle.client.proofs.PieceCalls.{all_on}
use Rattle.client.proofs.Debts.{debt_found}
use Rattle.client.proofs.GivingBack.{balanced_on}
use Rattle.std.proofs.Common.{◌+◌, ◌<◌, ◌^◌}
use Rattle.units.specs.declared.TheConstants.{MOST_PAGES}
use Rattle.span_heap.specs.Heap.{size_of}
use Rattle.client.proofs.PieceCalls.{new_since}
use Rattle.client.proofs.Allocating.{size_found, allocated, includes_on, on_error, out_of_memory}
use Rattle.client.proofs.TakingBack.{told_found, asked}
use Rattle.client.proofs.granted.Granted.allocate.Goals as goal

pub invariant_of-self : goal.invariant_of-self
invariant_of-self g c = (balanced_on _ _ _ _ _ _ _ c.find.new.self c.self.invariant.0 (debt_found c.in-Some.pages c.in-Some-find.ensures.finds.0 _ _ _ c.in-Some-find.ensures.finds.1), c.self.invariant.1)

pub invariant_of-self-2 : goal.invariant_of-self-2
invariant_of-self-2 g c = (balanced_on _ _ _ _ _ _ _ c.find.new.self c.self.invariant.0 (debt_found c.in-Some.pages c.in_default-find.ensures.finds.0 _ _ _ c.in_default-find.ensures.finds.1), c.self.invariant.1)

pub returns-in-Some-find-clause-ok : goal.returns-in-Some-find-clause-ok
returns-in-Some-find-clause-ok g c = rw (← c.self.view_is) (c.in-Some.pages, sym c.in-Some.ensures, inl c.in-Some-find.ensures.finds, c.in-Some-find.ensures.piece)

pub returns-in-Some-find-clause-stay : goal.returns-in-Some-find-clause-stay
returns-in-Some-find-clause-stay g c = rw (← c.self.view_is) c.find.ensures.stay

pub grow-requires-clause-small : goal.grow-requires-clause-small
grow-requires-clause-small g c =
    let start : size_of c.self.inside.client.heap.segments + MOST_PAGES < 2 ^ 32 = rw (← c.self.view_is) at c.requires.small in
    let found = size_found c.in-Some.pages c.in_default-find.ensures.finds.0 _ _ _ c.in_default-find.ensures.finds.1 in
    let releases = c.release_purged.ensures.releases.2 in
    let told : size_of c.release_purged.new.self.client.heap.segments ≡ size_of releases.swept.heap.segments = ap (λ (s : Seen). size_of s.heap.segments) releases.told in
    omega (arith, start, found, told, releases.sweeps.size)

pub returns-in_err-grow-clause-stay : goal.returns-in_err-grow-clause-stay
returns-in_err-grow-clause-stay g c = rw (← c.self.view_is) (all_on _ c.find.new.self _ (c.find.ensures.stay) (all_on _ c.release_purged.new.self.client _ c.release_purged.ensures.stay c.grow.ensures.stay))

pub returns-clause-ok : goal.returns-clause-ok
returns-clause-ok g c =
    let before = all_on _ c.find.new.self _ c.find.ensures.stay c.release_purged.ensures.stay in
    rw (← c.self.view_is) (
      c.in-Some.pages,
      sym c.in-Some.ensures,
      inr (record {
        missed = c.find.new.self;
        lost = c.in_default-find.ensures.finds.0;
        finds = c.in_default-find.ensures.finds.1;
        swept = c.release_purged.ensures.releases.0;
        released = c.release_purged.new.self.client;
        releases = c.release_purged.ensures.releases.2;
        grown = c.in_ok-grow.ensures.ok;
      }),
      new_since _ c.release_purged.new.self.client _ c.in-Some.pages c.in_ok-grow.field-0 before c.in_ok-grow.ensures.piece,
    )

pub returns-clause-stay : goal.returns-clause-stay
returns-clause-stay g c = rw (← c.self.view_is) (all_on _ c.find.new.self _ (c.find.ensures.stay) (all_on _ c.release_purged.new.self.client _ c.release_purged.ensures.stay c.grow.ensures.stay))

pub returns-in-Some-find-clause-size : goal.returns-in-Some-find-clause-size
returns-in-Some-find-clause-size g c = rw (← c.self.view_is) (c.in-Some.pages, sym c.in-Some.ensures, (allocated c.in-Some.pages _ _ c.find.new.self (inl c.in-Some-find.ensures.finds)).0)

pub returns-in-Some-find-clause-gone : goal.returns-in-Some-find-clause-gone
returns-in-Some-find-clause-gone g c = rw (← c.self.view_is) (debt_found c.in-Some.pages c.in-Some-find.ensures.finds.0 _ _ c.find.new.self c.in-Some-find.ensures.finds.1).gone

pub returns-in_err-grow-clause-gone : goal.returns-in_err-grow-clause-gone
returns-in_err-grow-clause-gone g c =
    let found = (debt_found c.in-Some.pages c.in_default-find.ensures.finds.0 _ _ c.find.new.self c.in_default-find.ensures.finds.1).gone in
    let same = ap (λ (s : Seen). s.gone) c.in_err-grow.ensures.same in
    rw (← c.self.view_is, same) (includes_on c.self.inside.client.gone c.find.new.self.gone c.release_purged.new.self.client.gone found c.release_purged.ensures.gone)

pub returns-clause-size : goal.returns-clause-size
returns-clause-size g c =
    rw (← c.self.view_is) (
      c.in-Some.pages,
      sym c.in-Some.ensures,
      (allocated c.in-Some.pages c.in_ok-grow.field-0 _ c.grow.new.self.client (inr (record {
        missed = c.find.new.self;
        lost = c.in_default-find.ensures.finds.0;
        finds = c.in_default-find.ensures.finds.1;
        swept = c.release_purged.ensures.releases.0;
        released = c.release_purged.new.self.client;
        releases = c.release_purged.ensures.releases.2;
        grown = c.in_ok-grow.ensures.ok;
      }))).0,
    )

pub returns-clause-gone : goal.returns-clause-gone
returns-clause-gone g c =
    rw (← c.self.view_is) (allocated c.in-Some.pages c.in_ok-grow.field-0 _ c.grow.new.self.client (inr (record {
      missed = c.find.new.self;
      lost = c.in_default-find.ensures.finds.0;
      finds = c.in_default-find.ensures.finds.1;
      swept = c.release_purged.ensures.releases.0;
      released = c.release_purged.new.self.client;
      releases = c.release_purged.ensures.releases.2;
      grown = c.in_ok-grow.ensures.ok;
    }))).1

pub returns-in-Some-find-clause-grants : goal.returns-in-Some-find-clause-grants
returns-in-Some-find-clause-grants g c = rw (← c.self.view_is) (c.in-Some.pages, sym c.in-Some.ensures, inl (c.in-Some-find.ensures.finds.0, c.in-Some-find.ensures.finds.1, refl))

pub returns-clause-grants : goal.returns-clause-grants
returns-clause-grants g c =
    rw (← c.self.view_is) (
      c.in-Some.pages,
      sym c.in-Some.ensures,
      inr (
        record {
          missed = c.find.new.self;
          lost = c.in_default-find.ensures.finds.0;
          finds = c.in_default-find.ensures.finds.1;
          swept = c.release_purged.ensures.releases.0;
          released = c.release_purged.new.self.client;
          releases = c.release_purged.ensures.releases.2;
          grown = c.in_ok-grow.ensures.ok;
        },
        c.in_ok-grow.ensures.counted ∙ ap next_count c.release_purged.ensures.grants,
      ),
    )

pub returns-in_err-grow-clause-out : goal.returns-in_err-grow-clause-out
returns-in_err-grow-clause-out g c =
    let released : Misses c.in-Some.pages c.self.inside.client c.release_purged.new.self.client = record {
      missed = c.find.new.self;
      lost = c.in_default-find.ensures.finds.0;
      finds = c.in_default-find.ensures.finds.1;
      swept = c.release_purged.ensures.releases.0;
      releases = c.release_purged.ensures.releases.2;
    } in
    rw (← c.self.view_is, c.in_err-grow.ensures.same) (out_of_memory c.args.bytes c.in-Some.pages _ _ _ (sym c.in-Some.ensures) released)

pub returns-in_err-grow-clause-no_more : goal.returns-in_err-grow-clause-no_more
returns-in_err-grow-clause-no_more g c =
    let found = size_found c.in-Some.pages c.in_default-find.ensures.finds.0 _ _ _ c.in_default-find.ensures.finds.1 in
    let releases = c.release_purged.ensures.releases.2 in
    let told : size_of c.release_purged.new.self.client.heap.segments ≡ size_of releases.swept.heap.segments = ap (λ (s : Seen). size_of s.heap.segments) releases.told in
    rw (← c.self.view_is, c.in_err-grow.ensures.same) (on_error _ (size_of c.release_purged.new.self.client.heap.segments ≤ size_of c.self.inside.client.heap.segments) (omega (arith, found, told, releases.sweeps.size)))

pub returns-in-Some-find-clause-asked : goal.returns-in-Some-find-clause-asked
returns-in-Some-find-clause-asked g c = rw (← c.self.view_is) (c.in-Some.pages, sym c.in-Some.ensures, inl refl)

pub returns-clause-asked : goal.returns-clause-asked
returns-clause-asked g c =
    let told = told_found c.in-Some.pages c.in_default-find.ensures.finds.0 _ _ c.find.new.self c.in_default-find.ensures.finds.1 in
    let releases = c.release_purged.ensures.releases.2 in
    let same = ap (λ (s : Seen). s.number) releases.told ∙ releases.sweeps.name.number in
    let both = asked g.G.Granter.granted_to g.G.Granter.took_back c.args.now c.in-Some.pages c.in_ok-grow.field-0 c.self.inside.client c.grow.new.self.client c.find.new.self c.release_purged.new.self.client _ c.release_purged.new.self.granter c.grow.new.self.granter
    told same c.release_purged.ensures.took c.in_ok-grow.ensures.granted in
    rw (← c.self.view_is) (
      c.in-Some.pages,
      sym c.in-Some.ensures,
      inr (c.release_purged.new.self.client, c.release_purged.new.self.granter, both.0, both.1),
    )
