-- What holds of a client holds after each step.
use Rattle.std.proofs.Common.{◌≡◌, ◌≢◌, ℕ, zero, suc, ◌+◌, ◌≤◌, ◌==◌, true, false, cond, not, List, [], ◌∷◌, length, get_or, set, map, Some, refl, sym, ap, ◌∙◌, inl, inr, arith}
use Rattle.std.specs.List.{All, slice_get, sum_by, count_by, filter, remove}
use Rattle.std.specs.List.Sorted.{IsPermutation}
use Rattle.std.proofs.Math.Seq.{map-set_same}
use Rattle.std.proofs.lemmas.Bool.{cases_Bool, eq-eqb}
use Rattle.std.proofs.lemmas.List.Elements.{All-weaker, All-set}
use Rattle.std.proofs.lemmas.List.Sorted.{sum_by-IsPermutation}
use Rattle.std.proofs.lemmas.List.Sums.{sum_by-cons, sum_by-append, sum_by-remove}
use Rattle.std.proofs.lemmas.Option.{slice_get_within, get_or_from_slice_get, none-some, same_Some, slice_get-get_or, slice_get-map}
use Rattle.segment.specs.Owned.{Owned}
use Rattle.segment.specs.declared.owner.Phase.TheVariants.{Gone}
use Rattle.page_locks.specs.Locks.{IsRange}
use Rattle.span_heap.specs.declared.run.Run.{Run}
use Rattle.span_heap.specs.Run.{has_page}
use Rattle.span_heap.specs.Runs.{dropped}
use Rattle.span_heap.specs.Segment.{Segment}
use Rattle.span_heap.specs.Heap.{Contents, IsPartition, has_id, size_of}
use Rattle.span_heap.specs.Changes.{Uses, Frees, Drops}
use Rattle.client.specs.Lease.{Lease, IsLease}
use Rattle.client.specs.Seen.{Seen, known, numbers_of, segment_of}
use Rattle.client.specs.Sound.{IsSoundSeen, LockedAreUsed}
use Rattle.client.proofs.Rows.{counted_at, one_place, All-at, All-remove, removed_from, pushed_keeps, sum_by-map}
use Rattle.client.proofs.Pages.{used_more, used_less, dropped_covers}

-- what is known of one number
abbrev pub is_id : ℕ → ℕ → ℕ
is_id id n = cond {A = ℕ} (n == id) 1 0

-- A search: a span came, and no segment changed.
pub sound_used : (seen : Seen) (heap : Contents) (span : Run) → IsSoundSeen seen → Uses seen.heap heap span → IsPartition heap → IsSoundSeen (record seen { heap = heap })
sound_used seen heap span sound uses partition =
    record {
      numbered = sound.numbered;
      sized = sound.sized;
      segments = uses.segments ∙ sound.segments;
      partition = partition;
      leases = sound.leases;
      locked = All-weaker (LockedAreUsed seen.heap.used) (LockedAreUsed heap.used) (λ lease. used_more seen.heap.used heap.used span lease uses.used) seen.leases sound.locked;
      live = sound.live;
      once = sound.once;
      told = sound.told;
    }

-- A free: a span whose pages are free left.
pub sound_freed : (seen : Seen) (heap : Contents) (span : Run) → IsSoundSeen seen → Frees seen.heap heap span → IsPartition heap
    → All (λ (lease : Lease). span.segment ≡ lease.side.id → IsRange false lease.locks span.first span.pages) seen.leases → IsSoundSeen (record seen { heap = heap })
sound_freed seen heap span sound frees partition free =
    record {
      numbered = sound.numbered;
      sized = sound.sized;
      segments = frees.segments ∙ sound.segments;
      partition = partition;
      leases = sound.leases;
      locked = λ k d within. used_less seen.heap.used heap.used span (get_or seen.leases k d) frees.used (free k d within) (sound.locked k d within);
      live = sound.live;
      once = sound.once;
      told = sound.told;
    }

-- a segment became another of its number and its pages
pub record Follows (seen : Seen) (old new : Lease) : Type 0 where
  pub same : new.side.id ≡ old.side.id
  pub pages : new.side.pages ≡ old.side.pages
  pub lease : IsLease new
  pub locked : LockedAreUsed seen.heap.used new

-- the numbers stay
pub numbers_set : (leases : List Lease) (p : ℕ) (old new : Lease) → slice_get leases p ≡ Some old → new.side.id ≡ old.side.id → numbers_of (set leases p new) ≡ numbers_of leases
numbers_set leases p old new at same = map-set_same (λ (l : Lease). l.side.id) leases p new old (same ∙ ap (λ (l : Lease). l.side.id) (sym (get_or_from_slice_get leases p old old at)))

-- the segments stay
pub segments_set : (leases : List Lease) (p : ℕ) (old new : Lease) → slice_get leases p ≡ Some old → new.side.id ≡ old.side.id → new.side.pages ≡ old.side.pages → map segment_of (set leases p new) ≡ map segment_of leases
segments_set leases p old new at same pages =
    let here : segment_of new ≡ segment_of old = rw (same, pages) refl in
    map-set_same segment_of leases p new old (here ∙ ap segment_of (sym (get_or_from_slice_get leases p old old at)))

-- A segment turned: pages were locked or unlocked, or it was looked at and is there.
pub sound_turned : (seen : Seen) (p : ℕ) (old new : Lease) → IsSoundSeen seen → slice_get seen.leases p ≡ Some old → Follows seen old new → new.side.phase ≢ Gone → IsSoundSeen (record seen { leases = set seen.leases p new })
sound_turned seen p old new sound at follows live =
    record {
      numbered = sound.numbered;
      sized = sound.sized;
      segments = sound.segments ∙ sym (segments_set seen.leases p old new at follows.same follows.pages);
      partition = sound.partition;
      leases = All-set IsLease seen.leases p new follows.lease sound.leases;
      locked = All-set (LockedAreUsed seen.heap.used) seen.leases p new follows.locked sound.locked;
      live = All-set (λ (l : Lease). l.side.phase ≢ Gone) seen.leases p new live sound.live;
      once = λ id. rw (numbers_set seen.leases p old new at follows.same) (sound.once id);
      told = sound.told;
    }

-- the segments without those of a number that none has
none_left_out : (leases : List Lease) (id : ℕ) → count_by (λ n. n == id) (numbers_of leases) ≡ 0 → filter (λ s. not (has_id id s)) (map segment_of leases) ≡ map segment_of leases
none_left_out [] id none = refl
none_left_out (l ∷ leases) id none =
    let split = sum_by-cons (is_id id) l.side.id (numbers_of leases) in
    elim (cases_Bool (l.side.id == id)) [
      | inl same ↦
          let one : cond {A = ℕ} (l.side.id == id) 1 0 ≡ 1 = rw same refl in
          absurd (omega (arith, one, none, split))
      | inr other ↦
          let zero_here : cond {A = ℕ} (l.side.id == id) 1 0 ≡ 0 = rw other refl in
          rw other (ap (λ more. segment_of l ∷ more) (none_left_out leases id (omega (arith, zero_here, none, split))))
    ]

-- the segments without the one at a place
pub segments_removed : (leases : List Lease) (p : ℕ) (lease : Lease) → slice_get leases p ≡ Some lease → count_by (λ n. n == lease.side.id) (numbers_of leases) ≤ 1
    → filter (λ s. not (has_id lease.side.id s)) (map segment_of leases) ≡ map segment_of (remove leases p)
segments_removed [] p lease at few = absurd (none-some lease at)
segments_removed (l ∷ leases) zero lease at few =
    let same : l ≡ lease = same_Some l lease at in
    let id : l.side.id ≡ lease.side.id = ap (λ (x : Lease). x.side.id) same in
    let yes : (l.side.id == lease.side.id) ≡ true = eq-eqb l.side.id lease.side.id id in
    let one : cond {A = ℕ} (l.side.id == lease.side.id) 1 0 ≡ 1 = rw yes refl in
    let none : count_by (λ n. n == lease.side.id) (numbers_of leases) ≡ 0 = omega (arith, one, few, sum_by-cons (is_id lease.side.id) l.side.id (numbers_of leases)) in
    rw yes (none_left_out leases lease.side.id none)
segments_removed (l ∷ leases) (suc p) lease at few =
    let split = sum_by-cons (is_id lease.side.id) l.side.id (numbers_of leases) in
    let there : slice_get (numbers_of leases) p ≡ Some lease.side.id = slice_get-map (λ (x : Lease). x.side.id) leases p ∙ rw at refl in
    let some : 1 ≤ count_by (λ n. n == lease.side.id) (numbers_of leases) = counted_at (λ n. n == lease.side.id) (numbers_of leases) p lease.side.id there (eq-eqb lease.side.id lease.side.id refl) in
    elim (cases_Bool (l.side.id == lease.side.id)) [
      | inl same ↦
          let one : cond {A = ℕ} (l.side.id == lease.side.id) 1 0 ≡ 1 = rw same refl in
          absurd (omega (arith, one, some, few, split))
      | inr other ↦ rw other (ap (λ more. segment_of l ∷ more) (segments_removed leases p lease at (omega (arith, few, split))))
    ]

-- the count of one number among those of segments
numbers_sum : (leases : List Lease) (id : ℕ) → count_by (λ n. n == id) (numbers_of leases) ≡ sum_by (λ (l : Lease). is_id id l.side.id) leases
numbers_sum leases id = sum_by-map (is_id id) (λ (l : Lease). l.side.id) leases

-- what is known of one number once a segment was removed
pub numbers_removed : (leases : List Lease) (p id : ℕ) (lease : Lease) → slice_get leases p ≡ Some lease → count_by (λ n. n == id) (numbers_of (remove leases p)) + is_id id lease.side.id ≡ count_by (λ n. n == id) (numbers_of leases)
numbers_removed leases p id lease at =
    let f : Lease → ℕ = λ l. is_id id l.side.id in
    let here : f (get_or leases p lease) ≡ is_id id lease.side.id = ap f (get_or_from_slice_get leases p lease lease at) in
    omega (arith, here, numbers_sum leases id, numbers_sum (remove leases p) id, sum_by-remove f leases p lease (slice_get_within leases p lease at))

-- the pages of the segments
pub pages_sum : (leases : List Lease) → size_of (map segment_of leases) ≡ sum_by (λ (l : Lease). l.side.pages) leases
pages_sum leases = sum_by-map (λ (s : Segment). s.pages) segment_of leases

-- the count of a number among two lists
pub known_sum : (leases : List Lease) (gone : List Owned) (id : ℕ) → count_by (λ n. n == id) (known leases gone) ≡ count_by (λ n. n == id) (numbers_of leases) + count_by (λ n. n == id) (map (λ (side : Owned). side.id) gone)
known_sum leases gone id = sum_by-append (is_id id) (numbers_of leases) (map (λ (side : Owned). side.id) gone)

-- the pages stay used in the other segments where one was dropped
pub locked_elsewhere : (old new : List Run) (id : ℕ) (lease : Lease) → IsPermutation (dropped old id) new → lease.side.id ≢ id → LockedAreUsed old lease → LockedAreUsed new lease
locked_elsewhere old new id lease left other kept page locked =
    omega (arith, kept page locked, dropped_covers old id lease.side.id page other, sum_by-IsPermutation (λ r. cond {A = ℕ} (has_page lease.side.id page r) 1 0) (dropped old id) new left)

-- each segment that stays has another number than the one that left
pub others_differ : (seen : Seen) (p q : ℕ) (lease other : Lease) → IsSoundSeen seen → slice_get seen.leases p ≡ Some lease → slice_get seen.leases q ≡ Some other → q ≢ p → other.side.id ≢ lease.side.id
others_differ seen p q lease other sound at bt apart same =
    let numbers = known seen.leases seen.gone in
    let ids : Lease → ℕ = λ l. l.side.id in
    let here : slice_get numbers p ≡ Some lease.side.id = pushed_keeps (numbers_of seen.leases) (map (λ (side : Owned). side.id) seen.gone) p lease.side.id (slice_get-map ids seen.leases p ∙ rw at refl) in
    let there : slice_get numbers q ≡ Some other.side.id = pushed_keeps (numbers_of seen.leases) (map (λ (side : Owned). side.id) seen.gone) q other.side.id (slice_get-map ids seen.leases q ∙ rw bt refl) in
    apart (one_place (λ n. n == lease.side.id) numbers q p other.side.id lease.side.id there here (eq-eqb other.side.id lease.side.id same) (eq-eqb lease.side.id lease.side.id refl) (sound.once lease.side.id))

-- one number of a segment is counted at most once
pub few_numbers : (seen : Seen) (id : ℕ) → IsSoundSeen seen → count_by (λ n. n == id) (numbers_of seen.leases) ≤ 1
few_numbers seen id sound = omega (arith, sound.once id, known_sum seen.leases seen.gone id)

-- A segment left.
pub sound_left : (seen : Seen) (heap : Contents) (gone : List Owned) (told taken p : ℕ) (lease : Lease) → IsSoundSeen seen → slice_get seen.leases p ≡ Some lease → Drops seen.heap heap lease.side.id → IsPartition heap
    → told ≤ length gone → ((id : ℕ) → count_by (λ n. n == id) (map (λ (side : Owned). side.id) gone) ≤ count_by (λ n. n == id) (map (λ (side : Owned). side.id) seen.gone) + is_id id lease.side.id)
    → IsSoundSeen (record seen { leases = remove seen.leases p; heap = heap; gone = gone; told = told; taken = taken })
sound_left seen heap gone told taken p lease sound at drops partition within_told more =
    let inside = slice_get_within seen.leases p lease at in
    record {
      numbered = sound.numbered;
      sized = sound.sized;
      segments = drops.segments ∙ (ap (filter (λ s. not (has_id lease.side.id s))) sound.segments ∙ segments_removed seen.leases p lease at (few_numbers seen lease.side.id sound));
      partition = partition;
      leases = All-remove IsLease seen.leases p sound.leases;
      locked = λ k d within.
          let here = slice_get-get_or (remove seen.leases p) k d within in
          let from = removed_from seen.leases p k (get_or (remove seen.leases p) k d) inside here in
          locked_elsewhere seen.heap.used heap.used lease.side.id (get_or (remove seen.leases p) k d) drops.used
          (others_differ seen p from.0 lease (get_or (remove seen.leases p) k d) sound at from.1 from.2)
          (All-at (LockedAreUsed seen.heap.used) seen.leases from.0 (get_or (remove seen.leases p) k d) sound.locked from.1);
      live = All-remove (λ (l : Lease). l.side.phase ≢ Gone) seen.leases p sound.live;
      once = λ id. omega (arith, sound.once id, known_sum seen.leases seen.gone id, known_sum (remove seen.leases p) gone id, numbers_removed seen.leases p id lease at, more id);
      told = within_told;
    }
