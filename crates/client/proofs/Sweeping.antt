-- A sweep, segment by segment.
use Rattle.std.proofs.Common.{◌≡◌, ℕ, zero, suc, ◌+◌, ◌≤◌, Bool, true, false, not, List, [], ◌∷◌, ◌++◌, length, set, take, drop, Some, cond, refl, sym, ap, subst, ◌∙◌, arith, append_assoc, length-append, append-nil}
use Rattle.std.specs.List.{slice_get, remove, filter, sum_by}
use Rattle.std.specs.List.Sorted.{IsPermutation}
use Rattle.std.proofs.lemmas.List.Sums.{sum_by-cons}
use Rattle.std.proofs.lemmas.List.Sorted.{sum_by-IsPermutation}
use Rattle.std.proofs.lemmas.List.{drop-set-lt, length-set}
use Rattle.std.proofs.lemmas.Option.{none-some, same_Some, slice_get_within}
use Rattle.segment.specs.Owned.{Owned}
use Rattle.span_heap.specs.declared.run.Run.{Run}
use Rattle.span_heap.specs.Run.{lies_in}
use Rattle.span_heap.specs.Runs.{dropped}
use Rattle.std.proofs.lemmas.List.Filters.{sum_by-filter_both}
use Rattle.span_heap.specs.Segment.{Segment}
use Rattle.span_heap.specs.Heap.{Contents, has_id, size_of}
use Rattle.span_heap.specs.Changes.{Drops}
use Rattle.client.specs.Lease.{Lease}
use Rattle.client.specs.Seen.{Seen}
use Rattle.client.specs.Pieces.{AllStay}
use Rattle.client.specs.Calls.{LooksInto, KeepsName}
use Rattle.client.specs.Finding.{Sweeps, SweepsAll, SameRuns, dropped_all}
use Rattle.client.proofs.PieceCalls.{all_on}
use Rattle.client.proofs.PiecesStay.{stays_as_it_is}

-- a heap has no more pages where a segment was dropped
pub size_dropped : (old new : Contents) (id : ℕ) → Drops old new id → size_of new.segments ≤ size_of old.segments
size_dropped old new id drops =
    omega (arith, ap size_of drops.segments, sum_by-filter_both (λ s. not (has_id id s)) (has_id id) (λ s. refl_not (has_id id s)) (λ (s : Segment). s.pages) old.segments)
  where
    refl_not : (b : Bool) → b ≡ not (not b)
    refl_not true = refl
    refl_not false = refl

-- the segments before this place were looked at, and those of these sides have left
pub record Sweeping (start now : Seen) (place : ℕ) : Type 0 where
  pub lost : List Owned
  pub counted : length lost + length now.leases ≡ length start.leases
  pub within : place ≤ length now.leases
  pub more : (kept : List Lease) (later : List Owned) → Sweeps (drop place now.leases) kept later → Sweeps start.leases (take place now.leases ++ kept) (lost ++ later)
  pub used : SameRuns now.heap.used (dropped_all lost start.heap.used)
  pub free : now.heap.free ≡ dropped_all lost start.heap.free
  pub gone : now.gone ≡ start.gone ++ lost
  pub told : now.told ≡ start.told
  pub taken : now.taken ≡ start.taken
  pub name : KeepsName start now
  pub stay : AllStay start now
  pub size : size_of now.heap.segments ≤ size_of start.heap.segments

pub sweeping_start : (seen : Seen) → Sweeping seen seen 0
sweeping_start seen = record {
  lost = [];
  counted = omega arith;
  within = omega arith;
  more = λ kept later sweeps. sweeps;
  used = λ weight. refl;
  free = refl;
  gone = sym (append-nil seen.gone);
  told = refl;
  taken = refl;
  name = record { number = refl; standard = refl };
  stay = stays_as_it_is seen;
  size = omega arith;
}

drop_at : {X : Type 0} (xs : List X) (p : ℕ) (x : X) → slice_get xs p ≡ Some x → drop p xs ≡ x ∷ drop (suc p) xs
drop_at [] p x at = absurd (none-some x at)
drop_at (y ∷ xs) zero x at = ap (λ z. z ∷ xs) (same_Some y x at)
drop_at (y ∷ xs) (suc p) x at = drop_at xs p x at

take_set_more : {X : Type 0} (xs : List X) (p : ℕ) (x y : X) → slice_get xs p ≡ Some x → take (suc p) (set xs p y) ≡ take p xs ++ y ∷ []
take_set_more [] p x y at = absurd (none-some x at)
take_set_more (z ∷ xs) zero x y at = refl
take_set_more (z ∷ xs) (suc p) x y at = ap (λ more. z ∷ more) (take_set_more xs p x y at)

take_removed : {X : Type 0} (xs : List X) (p : ℕ) (x : X) → slice_get xs p ≡ Some x → take p (remove xs p) ≡ take p xs
take_removed [] p x at = absurd (none-some x at)
take_removed (y ∷ xs) zero x at = refl
take_removed (y ∷ xs) (suc p) x at = ap (λ more. y ∷ more) (take_removed xs p x at)

drop_removed : {X : Type 0} (xs : List X) (p : ℕ) (x : X) → slice_get xs p ≡ Some x → drop p (remove xs p) ≡ drop (suc p) xs
drop_removed [] p x at = absurd (none-some x at)
drop_removed (y ∷ xs) zero x at = refl
drop_removed (y ∷ xs) (suc p) x at = drop_removed xs p x at

dropped_one_more : (lost : List Owned) (side : Owned) (runs : List Run) → dropped_all (lost ++ side ∷ []) runs ≡ dropped (dropped_all lost runs) side.id
dropped_one_more [] side runs = refl
dropped_one_more (s ∷ lost) side runs = dropped_one_more lost side (dropped runs s.id)

-- a sum with one element more, where it passes
sum_one : {X : Type 0} (weight : X → ℕ) (x : X) (more : List X) (b : Bool) → sum_by weight (cond {A = List X} b (x ∷ more) more) ≡ cond {A = ℕ} b (weight x) 0 + sum_by weight more
sum_one weight x more true = sum_by-cons weight x more
sum_one weight x more false = omega arith

-- a sum over what passes a test
sum_passed : {X : Type 0} (weight : X → ℕ) (t : X → Bool) (xs : List X) → sum_by weight (filter t xs) ≡ sum_by (λ x. cond {A = ℕ} (t x) (weight x) 0) xs
sum_passed weight t [] = refl
sum_passed weight t (x ∷ xs) =
    sum_one weight x (filter t xs) (t x)
    ∙ (ap (λ n. cond {A = ℕ} (t x) (weight x) 0 + n) (sum_passed weight t xs) ∙ sym (sum_by-cons (λ y. cond {A = ℕ} (t y) (weight y) 0) x xs))

-- the same used spans, where one segment more was dropped
used_dropped : (lost : List Owned) (side : Owned) (now next start : List Run) → SameRuns now (dropped_all lost start) → IsPermutation (dropped now side.id) next → SameRuns next (dropped_all (lost ++ side ∷ []) start)
used_dropped lost side now next start same left weight =
    let t : Run → Bool = λ run. not (lies_in side.id run) in
    sum_by-IsPermutation weight (dropped now side.id) next left
    ∙ (sum_passed weight t now ∙ (same (λ run. cond {A = ℕ} (t run) (weight run) 0) ∙ (sym (sum_passed weight t (dropped_all lost start)) ∙ ap (sum_by weight) (sym (dropped_one_more lost side start)))))

drop_past : {X : Type 0} (xs : List X) (p : ℕ) → length xs ≤ p → drop p xs ≡ []
drop_past [] zero past = refl
drop_past [] (suc p) past = refl
drop_past (x ∷ xs) zero past = absurd (omega (arith, past))
drop_past (x ∷ xs) (suc p) past = drop_past xs p (omega (arith, past))

take_past : {X : Type 0} (xs : List X) (p : ℕ) → length xs ≤ p → take p xs ≡ xs
take_past [] zero past = refl
take_past [] (suc p) past = refl
take_past (x ∷ xs) zero past = absurd (omega (arith, past))
take_past (x ∷ xs) (suc p) past = ap (λ more. x ∷ more) (take_past xs p (omega (arith, past)))

-- a segment is there
pub sweeping_there : (start now next : Seen) (p : ℕ) → Sweeping start now p → LooksInto p true now next → AllStay now next → Sweeping start next (p + 1)
sweeping_there start now next p sweeping looks stay =
    let next_is : p + 1 ≡ suc p = omega arith in
    let turns = looks.after in
    let same_length : length next.leases ≡ length now.leases = ap length turns.leases ∙ length-set now.leases p looks.looked in
    let rest : drop (suc p) next.leases ≡ drop (suc p) now.leases = ap (drop (suc p)) turns.leases ∙ drop-set-lt (suc p) now.leases p looks.looked (omega arith) in
    let front : take (suc p) next.leases ≡ take p now.leases ++ looks.looked ∷ [] = ap (take (suc p)) turns.leases ∙ take_set_more now.leases p looks.lease looks.looked looks.stood in
    let at : drop p now.leases ≡ looks.lease ∷ drop (suc p) now.leases = drop_at now.leases p looks.lease looks.stood in
    record {
      lost = sweeping.lost;
      counted = ap (λ n. length sweeping.lost + n) same_length ∙ sweeping.counted;
      within = omega (arith, same_length, slice_get_within now.leases p looks.lease looks.stood);
      more = rw next_is (λ kept later sweeps.
          let sweeps' : Sweeps (drop (suc p) now.leases) kept later = subst (λ (ls : List Lease). Sweeps ls kept later) rest sweeps in
          let whole : Sweeps (drop p now.leases) (looks.looked ∷ kept) later = subst (λ (ls : List Lease). Sweeps ls (looks.looked ∷ kept) later) (sym at) (true, looks.looked, looks.looks, (kept, refl, sweeps')) in
          subst (λ (ls : List Lease). Sweeps start.leases ls (sweeping.lost ++ later)) (sym (append_assoc (take p now.leases) (looks.looked ∷ []) kept) ∙ ap (λ ls. ls ++ kept) (sym front)) (sweeping.more (looks.looked ∷ kept) later whole));
      used = λ weight. ap (λ (h : Contents). sum_by weight h.used) turns.heap ∙ sweeping.used weight;
      free = ap (λ (h : Contents). h.free) turns.heap ∙ sweeping.free;
      gone = turns.gone.gone ∙ sweeping.gone;
      told = turns.gone.told ∙ sweeping.told;
      taken = turns.gone.taken ∙ sweeping.taken;
      name = record { number = turns.name.number ∙ sweeping.name.number; standard = turns.name.standard ∙ sweeping.name.standard };
      stay = all_on start now next sweeping.stay stay;
      size = omega (arith, sweeping.size, ap (λ (h : Contents). size_of h.segments) turns.heap);
    }

-- a segment was found gone
pub sweeping_gone : (start now next : Seen) (p : ℕ) → Sweeping start now p → LooksInto p false now next → AllStay now next → Sweeping start next p
sweeping_gone start now next p sweeping looks stay =
    let loses = looks.after in
    let leases = loses.leaves.leases in
    let side = looks.looked.side in
    let at : drop p now.leases ≡ looks.lease ∷ drop (suc p) now.leases = drop_at now.leases p looks.lease looks.stood in
    let rest : drop p next.leases ≡ drop (suc p) now.leases = ap (drop p) leases ∙ drop_removed now.leases p looks.lease looks.stood in
    let front : take p next.leases ≡ take p now.leases = ap (take p) leases ∙ take_removed now.leases p looks.lease looks.stood in
    record {
      lost = sweeping.lost ++ side ∷ [];
      counted = omega (arith, sweeping.counted, loses.leaves.fewer, length-append sweeping.lost (side ∷ []));
      within = omega (arith, loses.leaves.fewer, slice_get_within now.leases p looks.lease looks.stood);
      more = λ kept later sweeps.
          let sweeps' : Sweeps (drop (suc p) now.leases) kept later = subst (λ (ls : List Lease). Sweeps ls kept later) rest sweeps in
          let whole : Sweeps (drop p now.leases) kept (side ∷ later) = subst (λ (ls : List Lease). Sweeps ls kept (side ∷ later)) (sym at) (false, looks.looked, looks.looks, (later, refl, sweeps')) in
          subst (λ (ls : List Lease). Sweeps start.leases (ls ++ kept) ((sweeping.lost ++ side ∷ []) ++ later)) (sym front)
          (subst (λ (sides : List Owned). Sweeps start.leases (take p now.leases ++ kept) sides) (sym (append_assoc sweeping.lost (side ∷ []) later)) (sweeping.more kept (side ∷ later) whole));
      used = λ weight. used_dropped sweeping.lost side now.heap.used next.heap.used start.heap.used sweeping.used loses.leaves.heap.used weight;
      free = loses.leaves.heap.free ∙ (ap (λ runs. dropped runs side.id) sweeping.free ∙ sym (dropped_one_more sweeping.lost side start.heap.free));
      gone = loses.gone ∙ (ap (λ sides. sides ++ side ∷ []) sweeping.gone ∙ append_assoc start.gone sweeping.lost (side ∷ []));
      told = loses.told ∙ sweeping.told;
      taken = loses.taken ∙ sweeping.taken;
      name = record { number = loses.leaves.name.number ∙ sweeping.name.number; standard = loses.leaves.name.standard ∙ sweeping.name.standard };
      stay = all_on start now next sweeping.stay stay;
      size = omega (arith, sweeping.size, size_dropped now.heap next.heap side.id loses.leaves.heap);
    }

-- all were looked at
pub sweeping_end : (start now : Seen) (p n : ℕ) → Sweeping start now p → length now.leases ≤ p → n + length now.leases ≡ length start.leases → (lost : List Owned) × (n ≡ length lost) × SweepsAll lost start now
sweeping_end start now p n sweeping past counted = (
  sweeping.lost,
  omega (arith, counted, sweeping.counted),
  record {
    leases =
        subst (λ (ls : List Lease). Sweeps start.leases ls sweeping.lost) (append-nil (take p now.leases) ∙ take_past now.leases p past)
        (subst (λ (sides : List Owned). Sweeps start.leases (take p now.leases ++ []) sides) (append-nil sweeping.lost)
        (sweeping.more [] [] (subst (λ (ls : List Lease). Sweeps ls [] []) (sym (drop_past now.leases p past)) (refl, refl))));
    used = sweeping.used;
    free = sweeping.free;
    gone = sweeping.gone;
    told = sweeping.told;
    taken = sweeping.taken;
    name = sweeping.name;
    size = sweeping.size;
  },
)
