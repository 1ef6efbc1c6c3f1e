-- Segments that are all free are given back: those with a used span are left.
use Rattle.std.proofs.Common.{◌≡◌, ℕ, zero, suc, ◌<◌, Bool, true, false, not, List, [], ◌∷◌, Some, refl, sym, ap, subst, ◌∙◌, inl, inr, arith}
use Rattle.std.specs.List.{slice_get, filter, list_any, remove, Contains}
use Rattle.std.specs.List.Sorted.{IsPermutation}
use Rattle.std.proofs.lemmas.Bool.{cases_Bool, ne_eqb, or_parts, eqb-true}
use Rattle.std.proofs.lemmas.List.Elements.{All-cons, All-head, All-tail, All-nil}
use Rattle.std.proofs.lemmas.List.Sorted.{IsPermutation-refl, IsPermutation-trans, list_any-IsPermutation}
use Rattle.std.proofs.lemmas.Option.{none-some, same_Some, slice_get_within}
use Rattle.segment.specs.Owned.{Owned}
use Rattle.span_heap.specs.declared.run.Run.{Run}
use Rattle.span_heap.specs.Run.{lies_in}
use Rattle.span_heap.specs.Runs.{dropped}
use Rattle.span_heap.specs.Heap.{LiesWithin}
use Rattle.span_heap.specs.Changes.{NoneIn}
use Rattle.client.specs.Lease.{Lease}
use Rattle.client.specs.Seen.{Seen}
use Rattle.client.specs.Places.{IsFirstFree, NoneAllFree, has_used, is_all_free, is_with_used, LeavesUsed}
use Rattle.client.specs.Sound.{IsSoundSeen}
use Rattle.client.specs.Calls.{TakesOut}
use Rattle.client.specs.Granting.{GivesSide}
use Rattle.client.proofs.Rows.{differ, All-at}
use Rattle.client.proofs.Pages.{lies_from}
use Rattle.client.proofs.GivenUp.{Giving, giving_on, filtered}

-- no used span of the segment: none leaves with it
none_dropped : (used : List Run) (id : ℕ) → NoneIn id used → dropped used id ≡ used
none_dropped [] id none = refl
none_dropped (run ∷ used) id none =
    rw (ne_eqb run.segment id (All-head (λ (r : Run). r.segment ≡ id → ⊥) run used none))
    (ap (λ more. run ∷ more) (none_dropped used id (All-tail (λ (r : Run). r.segment ≡ id → ⊥) run used none)))

none_used : (used : List Run) (id : ℕ) → NoneIn id used → list_any (lies_in id) used ≡ false
none_used [] id none = refl
none_used (run ∷ used) id none =
    rw (ne_eqb run.segment id (All-head (λ (r : Run). r.segment ≡ id → ⊥) run used none))
    (none_used used id (All-tail (λ (r : Run). r.segment ≡ id → ⊥) run used none))

none_in : (used : List Run) (id : ℕ) → list_any (lies_in id) used ≡ false → NoneIn id used
none_in [] id none = All-nil (λ (r : Run). r.segment ≡ id → ⊥)
none_in (run ∷ used) id none =
    let parts = or_parts (lies_in id run) (list_any (lies_in id) used) none in
    All-cons (λ (r : Run). r.segment ≡ id → ⊥) run used (λ here. differ run.segment id here parts.0) (none_in used id parts.1)

filter_remove : {X : Type 0} (t : X → Bool) (xs : List X) (p : ℕ) (x : X) → slice_get xs p ≡ Some x → t x ≡ false → filter t (remove xs p) ≡ filter t xs
filter_remove t [] p x at fails = absurd (none-some x at)
filter_remove t (y ∷ xs) zero x at fails = rw (ap t (same_Some y x at) ∙ fails) refl
filter_remove t (y ∷ xs) (suc p) x at fails =
    let more = filter_remove t xs p x at fails in
    elim (cases_Bool (t y)) [
      | inl passed ↦ rw passed (ap (λ rest. y ∷ rest) more)
      | inr failed ↦ rw failed more
    ]

filter_all : {X : Type 0} (t : X → Bool) (xs : List X) → ((p : ℕ) (x : X) → slice_get xs p ≡ Some x → t x ≡ true) → filter t xs ≡ xs
filter_all t [] all = refl
filter_all t (y ∷ xs) all = rw (all 0 y refl) (ap (λ rest. y ∷ rest) (filter_all t xs (λ p x at. all (suc p) x at)))

-- the free runs of a segment that has no used span do not count
filter_dropped : (used runs : List Run) (id : ℕ) → list_any (lies_in id) used ≡ false → filter (is_with_used used) (dropped runs id) ≡ filter (is_with_used used) runs
filter_dropped used [] id none = refl
filter_dropped used (run ∷ runs) id none =
    let more = filter_dropped used runs id none in
    elim (cases_Bool (lies_in id run)) [
      | inl here ↦
          let fails : is_with_used used run ≡ false = ap (λ n. list_any (lies_in n) used) (eqb-true run.segment id here) ∙ none in
          rw (here, fails) more
      | inr other ↦
          rw other (elim (cases_Bool (is_with_used used run)) [
            | inl passed ↦ rw passed (ap (λ rest. run ∷ rest) more)
            | inr failed ↦ rw failed more
          ])
    ]

-- what of the segments is left so far
pub record Leaving (start now : Seen) : Type 0 where
  pub used : IsPermutation start.heap.used now.heap.used
  pub left : filter (has_used start.heap.used) now.leases ≡ filter (has_used start.heap.used) start.leases
  pub free : filter (is_with_used start.heap.used) now.heap.free ≡ filter (is_with_used start.heap.used) start.heap.free
  pub number : now.number ≡ start.number
  pub standard : now.standard ≡ start.standard

pub leaving_start : (seen : Seen) → Leaving seen seen
leaving_start seen = record { used = IsPermutation-refl seen.heap.used; left = refl; free = refl; number = refl; standard = refl }

-- what a side that is given up leaves
pub record KeepsRest (old new : Seen) : Type 0 where
  pub heap : new.heap ≡ old.heap
  pub leases : new.leases ≡ old.leases
  pub number : new.number ≡ old.number
  pub standard : new.standard ≡ old.standard

given_rest : (whole : Bool) (side : Owned) (old new : Seen) → GivesSide whole side old new → KeepsRest old new
given_rest true side old new (gave, is) = rw is (record { heap = refl; leases = refl; number = refl; standard = refl })
given_rest false side old new (gone, goes, is) = rw is (record { heap = refl; leases = refl; number = refl; standard = refl })

-- the segment that is taken out has no used span, at the start neither
record OutFree (start now : Seen) (id : ℕ) : Type 0 where
  free : NoneIn id now.heap.used
  fails : list_any (lies_in id) start.heap.used ≡ false

out_free : (start now mid : Seen) (place : ℕ) (side : Owned) → Leaving start now → IsFirstFree place now → (out : TakesOut place side now mid) → OutFree start now out.lease.side.id
out_free start now mid place side leaving first out =
    let same : first.lease ≡ out.lease = same_Some first.lease out.lease (sym first.stands ∙ out.stood) in
    let free : NoneIn out.lease.side.id now.heap.used = subst (λ (l : Lease). NoneIn l.side.id now.heap.used) same first.free in
    record {
      free = free;
      fails = list_any-IsPermutation (lies_in out.lease.side.id) start.heap.used now.heap.used leaving.used ∙ none_used now.heap.used out.lease.side.id free;
    }

pub leaving_on : (whole : Bool) (start now mid next : Seen) (place : ℕ) (side : Owned) → Leaving start now → IsFirstFree place now → TakesOut place side now mid → GivesSide whole side mid next → Leaving start next
leaving_on whole start now mid next place side leaving first out gives =
    let id : out.lease.side.id ≡ side.id = ap (λ (s : Owned). s.id) (sym out.side_is) in
    let is_free = out_free start now mid place side leaving first out in
    let stays : IsPermutation now.heap.used mid.heap.used = subst (λ runs. IsPermutation runs mid.heap.used) (none_dropped now.heap.used side.id (subst (λ n. NoneIn n now.heap.used) id is_free.free)) out.leaves.heap.used in
    let given = given_rest whole side mid next gives in
    record {
      used = rw given.heap (IsPermutation-trans start.heap.used now.heap.used mid.heap.used leaving.used stays);
      left = rw (given.leases, out.leaves.leases) (filter_remove (has_used start.heap.used) now.leases place out.lease out.stood is_free.fails ∙ leaving.left);
      free = rw (given.heap, out.leaves.heap.free) (filter_dropped start.heap.used now.heap.free side.id (ap (λ n. list_any (lies_in n) start.heap.used) (sym id) ∙ is_free.fails) ∙ leaving.free);
      number = given.number ∙ (out.leaves.name.number ∙ leaving.number);
      standard = given.standard ∙ (out.leaves.name.standard ∙ leaving.standard);
    }

-- one segment more that is all free was given up
pub giving_free_on : (whole : Bool) (start now mid next : Seen) (place : ℕ) (side : Owned) → Leaving start now → Giving (filter (is_all_free start.heap.used) start.leases) start now → IsFirstFree place now → TakesOut place side now mid → GivesSide whole side mid next
    → Giving (filter (is_all_free start.heap.used) start.leases) start next
giving_free_on whole start now mid next place side leaving giving first out gives =
    let is_free = out_free start now mid place side leaving first out in
    let passes : is_all_free start.heap.used out.lease ≡ true = ap not is_free.fails in
    let there = All-at (Contains start.leases) now.leases place out.lease giving.rest out.stood in
    giving_on whole (filter (is_all_free start.heap.used) start.leases) start now mid next place side giving out (filtered (is_all_free start.heap.used) start.leases out.lease there passes) gives

-- where none is all free, each has a used span of the start
all_used : (start now : Seen) → Leaving start now → NoneAllFree now → (p : ℕ) (lease : Lease) → slice_get now.leases p ≡ Some lease → has_used start.heap.used lease ≡ true
all_used start now leaving none p lease at =
    elim (cases_Bool (has_used start.heap.used lease)) [
      | inl passed ↦ passed
      | inr failed ↦ absurd (none p lease (slice_get_within now.leases p lease at) at (none_in now.heap.used lease.side.id
          (sym (list_any-IsPermutation (lies_in lease.side.id) start.heap.used now.heap.used leaving.used) ∙ failed)))
    ]

-- of a list the first that passes a test, and those behind it
filter_first : {X : Type 0} (t : X → Bool) (xs : List X) (p : ℕ) (x : X) → slice_get xs p ≡ Some x → t x ≡ true → ((q : ℕ) (y : X) → q < p → slice_get xs q ≡ Some y → t y ≡ false)
    → filter t xs ≡ x ∷ filter t (remove xs p)
filter_first t [] p x at passes before = absurd (none-some x at)
filter_first t (y ∷ xs) zero x at passes before =
    let same = same_Some y x at in
    rw (ap t same ∙ passes) (ap (λ z. z ∷ filter t xs) same)
filter_first t (y ∷ xs) (suc p) x at passes before =
    rw (before 0 y (omega arith) refl) (filter_first t xs p x at passes (λ q z less here. before (suc q) z (omega (arith, less)) here))

filter_none : {X : Type 0} (t : X → Bool) (xs : List X) → ((p : ℕ) (x : X) → slice_get xs p ≡ Some x → t x ≡ false) → filter t xs ≡ []
filter_none t [] none = refl
filter_none t (y ∷ xs) none = rw (none 0 y refl) (filter_none t xs (λ p x at. none (suc p) x at))

-- the segment that is taken out is the first of those that are all free
pub free_first : (whole : Bool) (start now mid next : Seen) (place : ℕ) (side : Owned) → Leaving start now → IsFirstFree place now → (out : TakesOut place side now mid) → GivesSide whole side mid next
    → filter (is_all_free start.heap.used) now.leases ≡ out.lease ∷ filter (is_all_free start.heap.used) next.leases
free_first whole start now mid next place side leaving first out gives =
    let is_free = out_free start now mid place side leaving first out in
    let test = is_all_free start.heap.used in
    rw ((given_rest whole side mid next gives).leases, out.leaves.leases) (filter_first test now.leases place out.lease out.stood (ap not is_free.fails) each)
  where
    each : (q : ℕ) (lease : Lease) → q < place → slice_get now.leases q ≡ Some lease → is_all_free start.heap.used lease ≡ false
    each q lease less at =
        elim (cases_Bool (has_used start.heap.used lease)) [
          | inl passed ↦ ap not passed
          | inr failed ↦ absurd (first.first q lease less at (none_in now.heap.used lease.side.id
              (sym (list_any-IsPermutation (lies_in lease.side.id) start.heap.used now.heap.used leaving.used) ∙ failed)))
        ]

-- and at the end there is none
pub free_none : (start now : Seen) → Leaving start now → NoneAllFree now → filter (is_all_free start.heap.used) now.leases ≡ []
free_none start now leaving none = filter_none (is_all_free start.heap.used) now.leases (λ p lease at. ap not (all_used start now leaving none p lease at))

pub leaving_end : (start now : Seen) → Leaving start now → NoneAllFree now → IsSoundSeen now → LeavesUsed start now
leaving_end start now leaving none sound =
    record {
      leases = sym (filter_all (has_used start.heap.used) now.leases (all_used start now leaving none)) ∙ leaving.left;
      used = leaving.used;
      free = sym (filter_all (is_with_used start.heap.used) now.heap.free each_run) ∙ leaving.free;
      segments = sound.segments;
      number = leaving.number;
      standard = leaving.standard;
    }
  where
    each_run : (p : ℕ) (run : Run) → slice_get now.heap.free p ≡ Some run → is_with_used start.heap.used run ≡ true
    each_run p run at =
        let lies = lies_from now.heap.segments now.leases run sound.segments (All-at (LiesWithin now.heap.segments) now.heap.free p run sound.partition.free_within at) in
        ap (λ n. list_any (lies_in n) start.heap.used) (sym lies.number) ∙ all_used start now leaving none lies.place lies.lease lies.stands
