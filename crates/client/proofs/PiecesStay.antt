-- The pieces of a client stay through each step.
use Rattle.std.proofs.Common.{◌≡◌, ◌≢◌, ℕ, zero, suc, ◌==◌, Bool, true, false, cond, not, ◌||◌, List, [], ◌∷◌, ◌++◌, Some, refl, sym, ap, subst, ◌∙◌, inl, inr, arith}
use Rattle.std.specs.List.{slice_get, remove}
use Rattle.std.proofs.Math.ListN.{set}
use Rattle.std.specs.List.Sorted.{IsPermutation}
use Rattle.std.proofs.lemmas.Bool.{eq-eqb, ne_eqb}
use Rattle.std.proofs.lemmas.List.Folds.{list_any-append}
use Rattle.std.proofs.lemmas.List.Sorted.{Contains-permutation}
use Rattle.std.proofs.lemmas.Option.{none-some, same_Some}
use Rattle.segment.specs.Owned.{Owned}
use Rattle.page_locks.specs.Locks.{IsRange, locked_count}
use Rattle.span_heap.specs.declared.run.Run.{Run}
use Rattle.span_heap.specs.Run.{lies_in}
use Rattle.span_heap.specs.Runs.{dropped}
use Rattle.span_heap.specs.Heap.{Contents}
use Rattle.span_heap.specs.Changes.{Drops}
use Rattle.client.specs.Gone.{has_side, is_side}
use Rattle.client.specs.Lease.{Lease, content_of, pages_at}
use Rattle.client.specs.Seen.{Seen, is_lease, is_gone}
use Rattle.client.specs.Pieces.{Part, Owns, IsLive, Stays, AllStay, OthersStay, StayElsewhere, content_at, bytes_of}
use Rattle.client.specs.Calls.{Turns, Leaves, Loses}
use Rattle.client.specs.Sound.{IsSoundSeen}
use Rattle.client.proofs.Rows.{cases_same, set_here, set_else, removed_keeps, filter_keeps, Contains-at, Contains-cons, Contains-rest}
use Rattle.client.proofs.Pages.{place_in, locked_some}
use Rattle.client.proofs.KeptThrough.{others_differ}

same_choice : {X : Type 0} (a b : Bool) (x y z w : X) → a ≡ b → x ≡ y → z ≡ w → cond a x z ≡ cond b y w
same_choice a b x y z w e f g = rw (e, f, g) refl

-- what the segments have in their pages where one turned and kept its own
pub content_set : (leases : List Lease) (p id : ℕ) (old new : Lease) → slice_get leases p ≡ Some old → new.side.id ≡ old.side.id → content_of new ≡ content_of old → content_at (set leases p new) id ≡ content_at leases id
content_set [] p id old new at same content = absurd (none-some old at)
content_set (l ∷ leases) zero id old new at same content =
    let is : l ≡ old = same_Some l old at in
    same_choice (is_lease id new) (is_lease id l) (content_of new) (content_of l) (content_at leases id) (content_at leases id)
    (ap (λ n. n == id) (same ∙ ap (λ (x : Lease). x.side.id) (sym is))) (content ∙ ap content_of (sym is)) refl
content_set (l ∷ leases) (suc p) id old new at same content =
    ap (λ more. cond (is_lease id l) (content_of l) more) (content_set leases p id old new at same content)

pub content_removed : (leases : List Lease) (p id : ℕ) (lease : Lease) → slice_get leases p ≡ Some lease → lease.side.id ≢ id → content_at (remove leases p) id ≡ content_at leases id
content_removed [] p id lease at other = absurd (none-some lease at)
content_removed (l ∷ leases) zero id lease at other =
    let is : l ≡ lease = same_Some l lease at in
    let away : is_lease id l ≡ false = ap (is_lease id) is ∙ ne_eqb lease.side.id id other in
    rw away refl
content_removed (l ∷ leases) (suc p) id lease at other =
    ap (λ more. cond (is_lease id l) (content_of l) more) (content_removed leases p id lease at other)

pub content_pushed : (leases : List Lease) (id : ℕ) (lease : Lease) → lease.side.id ≢ id → content_at (leases ++ lease ∷ []) id ≡ content_at leases id
content_pushed [] id lease other = rw (ne_eqb lease.side.id id other) refl
content_pushed (l ∷ leases) id lease other = ap (λ more. cond (is_lease id l) (content_of l) more) (content_pushed leases id lease other)

-- what a segment has, by its number
pub content_here : (leases : List Lease) (p : ℕ) (lease : Lease) → slice_get leases p ≡ Some lease → ((q : ℕ) (other : Lease) → slice_get leases q ≡ Some other → other.side.id ≡ lease.side.id → q ≡ p) → content_at leases lease.side.id ≡ content_of lease
content_here [] p lease at alone = absurd (none-some lease at)
content_here (l ∷ leases) zero lease at alone =
    let is : l ≡ lease = same_Some l lease at in
    rw (eq-eqb l.side.id lease.side.id (ap (λ (x : Lease). x.side.id) is)) (ap content_of is)
content_here (l ∷ leases) (suc p) lease at alone =
    let away : is_lease lease.side.id l ≡ false = ne_eqb l.side.id lease.side.id (λ e. let none = alone 0 l refl e in absurd (omega (arith, none))) in
    rw away (content_here leases p lease at (λ q other bt e. let s = alone (suc q) other bt e in omega (arith, s)))

-- what a piece needs to stay where a segment turned
pub stands_turned : (old new : Seen) (p : ℕ) (lease turned : Lease) (part : Part) → slice_get old.leases p ≡ Some lease → turned.side.id ≡ lease.side.id → Turns p turned old new
    → (part.run.segment ≡ lease.side.id → IsRange part.locked lease.locks part.run.first part.run.pages → IsRange part.locked turned.locks part.run.first part.run.pages) → IsLive old part → IsLive new part
stands_turned old new p lease turned part at same turns range live =
    elim (cases_same live.stands.place p) [
      | inl here ↦
          let is : live.stands.lease ≡ lease = same_Some live.stands.lease lease (sym live.stands.stands ∙ (ap (slice_get old.leases) here ∙ at)) in
          let number : lease.side.id ≡ part.run.segment = ap (λ (l : Lease). l.side.id) (sym is) ∙ live.stands.number in
          record {
            used = rw turns.heap live.used;
            stands = record { place = p; lease = turned; stands = rw turns.leases (set_here old.leases p lease turned at); number = same ∙ number };
            pages = range (sym number) (subst (λ (l : Lease). IsRange part.locked l.locks part.run.first part.run.pages) is live.pages);
          }
      | inr elsewhere ↦
          record {
            used = rw turns.heap live.used;
            stands = record { place = live.stands.place; lease = live.stands.lease; stands = rw turns.leases (set_else old.leases p live.stands.place turned elsewhere ∙ live.stands.stands); number = live.stands.number };
            pages = live.pages;
          }
    ]

pub stay_turned : (old new : Seen) (p : ℕ) (lease turned : Lease) → slice_get old.leases p ≡ Some lease → turned.side.id ≡ lease.side.id → content_of turned ≡ content_of lease → Turns p turned old new
    → (part : Part) → (IsLive old part → part.run.segment ≡ lease.side.id → IsRange part.locked lease.locks part.run.first part.run.pages → IsRange part.locked turned.locks part.run.first part.run.pages) → Owns old part → Stays old new part
stay_turned old new p lease turned at same content turns part range owns =
    record {
      owned = record {
        mine = owns.mine ∙ sym turns.name.number;
        there = elim owns.there [
          | inl live ↦ inl (stands_turned old new p lease turned part at same turns (range live) live)
          | inr dead ↦ inr (record { gone = rw turns.gone.gone dead.gone; free = dead.free })
        ];
      };
      gone = λ was. rw turns.gone.gone was;
      bytes = λ _. ap (pages_at part.run.first part.run.pages) (ap (λ ls. content_at ls part.run.segment) turns.leases ∙ content_set old.leases p part.run.segment lease turned at same content);
    }

pub same_turned : (old new : Seen) (p : ℕ) (lease turned : Lease) (run : Run) → slice_get old.leases p ≡ Some lease → turned.side.id ≡ lease.side.id → content_of turned ≡ content_of lease → Turns p turned old new → bytes_of new run ≡ bytes_of old run
same_turned old new p lease turned run at same content turns =
    ap (pages_at run.first run.pages) (ap (λ ls. content_at ls run.segment) turns.leases ∙ content_set old.leases p run.segment lease turned at same content)

-- a side that came among the gone ones is found there, and so are those that were
pub gone_more : (gone : List Owned) (side : Owned) (id : ℕ) → has_side gone id ≡ true → has_side (gone ++ side ∷ []) id ≡ true
gone_more gone side id was = list_any-append (is_side id) gone (side ∷ []) ∙ rw was refl

pub gone_last : (gone : List Owned) (side : Owned) → has_side (gone ++ side ∷ []) side.id ≡ true
gone_last [] side = rw (eq-eqb side.id side.id refl) refl
gone_last (s ∷ gone) side = or_right (is_side side.id s) (has_side (gone ++ side ∷ []) side.id) (gone_last gone side)
  where
    or_right : (a b : Bool) → b ≡ true → (a || b) ≡ true
    or_right true b e = refl
    or_right false b e = e

-- a piece of another segment than the one that left
elsewhere_live : (old new : Seen) (p id : ℕ) (lease : Lease) (part : Part) → slice_get old.leases p ≡ Some lease → lease.side.id ≡ id → new.leases ≡ remove old.leases p → Drops old.heap new.heap id → part.run.segment ≢ id → IsLive old part → IsLive new part
elsewhere_live old new p id lease part at number leases drops other live =
    let away : not (lies_in id part.run) ≡ true = rw (ne_eqb part.run.segment id other) refl in
    let kept = filter_keeps (λ run. not (lies_in id run)) old.heap.used live.used.0 part.run (place_in old.heap.used part.run live.used) away in
    let apart : live.stands.place ≢ p = λ e.
    let is : live.stands.lease ≡ lease = same_Some live.stands.lease lease (sym live.stands.stands ∙ (ap (slice_get old.leases) e ∙ at)) in
    other (sym live.stands.number ∙ (ap (λ (l : Lease). l.side.id) is ∙ number)) in
    let stands = removed_keeps old.leases p live.stands.place live.stands.lease live.stands.stands apart in
    record {
      used = Contains-permutation (dropped old.heap.used id) new.heap.used part.run drops.used (Contains-at (dropped old.heap.used id) kept.0 part.run kept.1);
      stands = record { place = stands.0; lease = live.stands.lease; stands = rw leases stands.1; number = live.stands.number };
      pages = live.pages;
    }

-- each piece of another segment stays where one was taken out
pub stay_left : (old new : Seen) (p : ℕ) (lease : Lease) (id : ℕ) → slice_get old.leases p ≡ Some lease → lease.side.id ≡ id → Leaves p id old new → ((other : ℕ) → has_side old.gone other ≡ true → has_side new.gone other ≡ true) → StayElsewhere id old new
stay_left old new p lease id at number leaves more part owns other =
    record {
      owned = record {
        mine = owns.mine ∙ sym leaves.name.number;
        there = elim owns.there [
          | inl live ↦ inl (elsewhere_live old new p id lease part at number leaves.leases leaves.heap other live)
          | inr dead ↦ inr (record { gone = more part.run.segment dead.gone; free = dead.free })
        ];
      };
      gone = more part.run.segment;
      bytes = λ _. ap (pages_at part.run.first part.run.pages) (ap (λ ls. content_at ls part.run.segment) leaves.leases ∙ content_removed old.leases p part.run.segment lease at (λ e. other (sym e ∙ number)));
    }

not_locked : (locks : List Bool) (b : Bool) (first count : ℕ) → IsRange b locks first count → locked_count locks ≡ 0 → b ≡ false
not_locked locks true first count range none =
    let locked = range.each first (omega arith) (let some = range.some in omega (arith, some)) in
    absurd (omega (arith, none, locked_some locks first locked))
not_locked locks false first count range none = refl

-- each piece stays where a segment of which no page is locked was found gone
pub stay_lost : (old new : Seen) (p : ℕ) (lease : Lease) (side : Owned) → IsSoundSeen old → slice_get old.leases p ≡ Some lease → lease.side.id ≡ side.id → locked_count lease.locks ≡ 0 → Loses p side old new → AllStay old new
stay_lost old new p lease side sound at number free loses part owns =
    let more : (other : ℕ) → has_side old.gone other ≡ true → has_side new.gone other ≡ true = λ other was. rw loses.gone (gone_more old.gone side other was) in
    elim (cases_same part.run.segment side.id) [
      | inr other ↦ stay_left old new p lease side.id at number loses.leaves more part owns other
      | inl same ↦
          let lost : has_side new.gone part.run.segment ≡ true = rw (loses.gone, same) (gone_last old.gone side) in
          record {
            owned = record {
              mine = owns.mine ∙ sym loses.leaves.name.number;
              there = inr (record {
                gone = lost;
                free = elim owns.there [
                  | inl live ↦ elim (cases_same live.stands.place p) [
                    | inl here ↦
                        let is : live.stands.lease ≡ lease = same_Some live.stands.lease lease (sym live.stands.stands ∙ (ap (slice_get old.leases) here ∙ at)) in
                        not_locked live.stands.lease.locks part.locked part.run.first part.run.pages live.pages (ap (λ (l : Lease). locked_count l.locks) is ∙ free)
                    | inr apart ↦ absurd (others_differ old p live.stands.place lease live.stands.lease sound at live.stands.stands apart (live.stands.number ∙ (same ∙ sym number)))
                  ]
                  | inr dead ↦ dead.free
                ];
              });
            };
            gone = λ _. lost;
            bytes = λ there. absurd (both_ways' (has_side new.gone part.run.segment) lost there);
          }
    ]
  where
    both_ways' : (b : Bool) → b ≡ true → b ≡ false → ⊥
    both_ways' b e f = cc

-- a piece that stays through two steps
pub stays_on : (one two three : Seen) (part : Part) → Stays one two part → Stays two three part → Stays one three part
stays_on one two three part first second =
    record {
      owned = second.owned;
      gone = λ was. second.gone (first.gone was);
      bytes = λ there. second.bytes there ∙ first.bytes (not_before (is_gone two part.run.segment) (is_gone three part.run.segment) second.gone there);
    }
  where
    not_before : (a b : Bool) → (a ≡ true → b ≡ true) → b ≡ false → a ≡ false
    not_before true b goes e = absurd (no_both b (goes refl) e)
      where
        no_both : (b : Bool) → b ≡ true → b ≡ false → ⊥
        no_both b e f = cc
    not_before false b goes e = refl

pub stays_as_it_is : (seen : Seen) (part : Part) → Owns seen part → Stays seen seen part
stays_as_it_is seen part owns = record { owned = owns; gone = λ was. was; bytes = λ _. refl }

-- each piece stays where a span came
pub stay_carved : (old new : Seen) (heap : Contents) (span : Run) → new ≡ record old { heap = heap } → IsPermutation (span ∷ old.heap.used) heap.used → AllStay old new
stay_carved old new heap span is came part owns =
    rw is (record {
      owned = record {
        mine = owns.mine;
        there = elim owns.there [
          | inl live ↦ inl (record { used = Contains-permutation (span ∷ old.heap.used) heap.used part.run came (Contains-cons old.heap.used span part.run live.used); stands = live.stands; pages = live.pages })
          | inr dead ↦ inr (record { gone = dead.gone; free = dead.free })
        ];
      };
      gone = λ was. was;
      bytes = λ _. refl;
    })

-- each other piece stays where a span was freed
pub stay_freed : (old new : Seen) (heap : Contents) (span : Run) → new ≡ record old { heap = heap } → IsPermutation old.heap.used (span ∷ heap.used) → OthersStay span old new
stay_freed old new heap span is left part owns other =
    rw is (record {
      owned = record {
        mine = owns.mine;
        there = elim owns.there [
          | inl live ↦ inl (record { used = Contains-rest heap.used span part.run (Contains-permutation old.heap.used (span ∷ heap.used) part.run left live.used) other; stands = live.stands; pages = live.pages })
          | inr dead ↦ inr (record { gone = dead.gone; free = dead.free })
        ];
      };
      gone = λ was. was;
      bytes = λ _. refl;
    })

-- each piece stays where sides are told
pub stay_told : (old new : Seen) (told : ℕ) → new ≡ record old { told = told } → AllStay old new
stay_told old new told is part owns =
    rw is (record {
      owned = record {
        mine = owns.mine;
        there = elim owns.there [
          | inl live ↦ inl (record { used = live.used; stands = live.stands; pages = live.pages })
          | inr dead ↦ inr (record { gone = dead.gone; free = dead.free })
        ];
      };
      gone = λ was. was;
      bytes = λ _. refl;
    })

-- each piece stays, however many sides are out
pub stay_taken : (old new : Seen) (taken : ℕ) → new ≡ record old { taken = taken } → AllStay old new
stay_taken old new taken is part owns =
    rw is (record {
      owned = record {
        mine = owns.mine;
        there = elim owns.there [
          | inl live ↦ inl (record { used = live.used; stands = live.stands; pages = live.pages })
          | inr dead ↦ inr (record { gone = dead.gone; free = dead.free })
        ];
      };
      gone = λ was. was;
      bytes = λ _. refl;
    })
