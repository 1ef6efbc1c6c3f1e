-- What one step on one segment does to the client.
use Rattle.std.proofs.Common.{◌≡◌, ◌≢◌, ℕ, zero, suc, ◌+◌, ◌-◌, ◌<◌, ◌≤◌, ◌==◌, Bool, true, false, ◌||◌, List, [], ◌∷◌, ◌++◌, length, get_or, set, map, Option, Some, None, refl, sym, ap, subst, ◌∙◌, inl, inr, arith, length-append}
use Rattle.std.specs.List.{slice_get, count_by, list_any, remove, sum_by}
use Rattle.std.specs.Option.{IfSome, IfNone, option_map}
use Rattle.span_heap.specs.Pick.{pick}
use Rattle.span_heap.specs.Runs.{front_of, carved}
use Rattle.client.specs.Finding.{CarvesPick}
use Rattle.std.proofs.lemmas.Bool.{cases_Bool, eq-eqb, both_ways}
use Rattle.std.proofs.lemmas.List.Edits.{length-remove}
use Rattle.std.proofs.lemmas.List.Sums.{sum_by_push, sum_by-remove}
use Rattle.std.proofs.lemmas.List.{length-set, get_or-set_same, get_or-set_other}
use Rattle.std.proofs.lemmas.List.Quantifiers.{all_pairs_remove}
use Rattle.span_heap.specs.Segment.{Segment}
use Rattle.std.proofs.lemmas.List.Folds.{Any-from_list_any, list_any_at}
use Rattle.std.proofs.lemmas.Option.{slice_get_within, slice_get_read, none-some, same_Some, slice_get-map, get_or_from_slice_get, slice_get-get_or}
use Rattle.std.proofs.lemmas.List.Elements.{All-contains}
use Rattle.segment.specs.Owned.{Owned}
use Rattle.segment.specs.declared.owner.Phase.TheVariants as phase
use Rattle.segment.specs.declared.owner.Lock.TheVariants.{Held, Gone}
use Rattle.page_locks.specs.Locks.{IsRange, is_page_locked}
use Rattle.span_heap.specs.declared.run.Run.{Run}
use Rattle.span_heap.specs.Heap.{Contents, IsPartition, LiesWithin, has_id, has_segment, size_of}
use Rattle.span_heap.specs.Changes.{Drops, Uses, Frees}
use Rattle.client.specs.Gone.{has_side, is_side}
use Rattle.client.specs.Lease.{Lease, IsLease, LocksPages, UnlocksPages, LooksAt, locked_pages}
use Rattle.client.specs.Seen.{Seen, known, numbers_of, segment_of, IsUnknown}
use Rattle.client.specs.Places.{IsThere, Rises}
use Rattle.client.specs.Pieces.{Part, IsUsed, IsLive, AllStay, AreApart, FitsIn, LocksSo, UnlocksSo, IsFresh}
use Rattle.client.specs.Calls.{Turns, Loses, LocksRun, UnlocksRun, LooksInto, TakesOut}
use Rattle.client.specs.Sound.{IsSoundSeen, IsSoundClient, LockedAreUsed}
use Rattle.client.specs.declared.answers.Unlocked.{Unlocked}
use Rattle.client.proofs.Rows.{cases_same, All-at, set_here, sum_by-map, counted_at, not_counted}
use Rattle.client.proofs.Pages.{set_range, other_range, locked_used, unlocked_used, apart_or_same, used_once, lies_from, came_free, apart_from_old, apart_segments}
use Rattle.client.proofs.KeptThrough.{is_id, Follows, sound_turned, sound_left, sound_used, sound_freed, others_differ, pages_sum, known_sum, numbers_removed}
use Rattle.client.proofs.LeaseSteps.{locked_so, found_gone, unlocked_so, looked_so}
use Rattle.client.proofs.PiecesStay.{stay_turned, same_turned, stay_lost, gone_last, stays_as_it_is, stay_carved}

-- the segment that a place gives
pub lease_there : (leases : List Lease) (place id : ℕ) (lease : Lease) → IsThere place id leases → lease ≡ get_or leases place lease → (slice_get leases place ≡ Some lease) × (lease.side.id ≡ id)
lease_there leases place id lease there is =
    let at = slice_get_read leases (length leases) place lease refl (slice_get_within leases place there.0 there.1) is in
    (at, ap (λ (l : Lease). l.side.id) (same_Some lease there.0 (sym at ∙ there.1)) ∙ there.2)

-- the segment of a used span is the one at its place
pub same_lease : (seen : Seen) (run : Run) (b : Bool) (p : ℕ) (lease : Lease) → IsSoundSeen seen → (used : IsUsed seen run b) → slice_get seen.leases p ≡ Some lease → lease.side.id ≡ run.segment → used.stands.lease ≡ lease
same_lease seen run b p lease sound used at number =
    elim (cases_same used.stands.place p) [
      | inl here ↦ same_Some used.stands.lease lease (sym used.stands.stands ∙ (ap (slice_get seen.leases) here ∙ at))
      | inr apart ↦ absurd (others_differ seen p used.stands.place lease used.stands.lease sound at used.stands.stands apart (used.stands.number ∙ sym number))
    ]

pub range_here : (seen : Seen) (run : Run) (b : Bool) (p : ℕ) (lease : Lease) → IsSoundSeen seen → IsUsed seen run b → slice_get seen.leases p ≡ Some lease → lease.side.id ≡ run.segment → IsRange b lease.locks run.first run.pages
range_here seen run b p lease sound used at number =
    subst (λ (l : Lease). IsRange b l.locks run.first run.pages) (same_lease seen run b p lease sound used at number) used.pages

-- the heap has each segment of the client
pub has_each : (seen : Seen) (p : ℕ) (lease : Lease) → IsSoundSeen seen → slice_get seen.leases p ≡ Some lease → has_segment seen.heap.segments lease.side.id ≡ true
has_each seen p lease sound at =
    rw sound.segments (has_mapped seen.leases p lease at)
  where
    or_right : (a b : Bool) → b ≡ true → (a || b) ≡ true
    or_right true b e = refl
    or_right false b e = e

    has_mapped : (leases : List Lease) (p : ℕ) (lease : Lease) → slice_get leases p ≡ Some lease → list_any (has_id lease.side.id) (map segment_of leases) ≡ true
    has_mapped [] p lease at = absurd (none-some lease at)
    has_mapped (l ∷ leases) zero lease at = rw (eq-eqb l.side.id lease.side.id (ap (λ (x : Lease). x.side.id) (same_Some l lease at))) refl
    has_mapped (l ∷ leases) (suc p) lease at = or_right (has_id lease.side.id (segment_of l)) (list_any (has_id lease.side.id) (map segment_of leases)) (has_mapped leases p lease at)

-- the pages of a segment are among those of all
pub pages_fit : {rising : Bool} (seen : Seen) (pages room p : ℕ) (lease : Lease) → IsSoundClient seen pages room rising → slice_get seen.leases p ≡ Some lease → lease.side.pages ≤ pages
pages_fit seen pages room p lease kept at =
    let f : Lease → ℕ = λ l. l.side.pages in
    let here : f (get_or seen.leases p lease) ≡ lease.side.pages = ap f (get_or_from_slice_get seen.leases p lease lease at) in
    let all : size_of seen.heap.segments ≡ sum_by f seen.leases = ap size_of kept.sound.segments ∙ pages_sum seen.leases in
    omega (arith, here, all, kept.counted, sum_by-remove f seen.leases p lease (slice_get_within seen.leases p lease at))

-- a segment of the client is not known to be gone
pub not_gone : (seen : Seen) (p : ℕ) (lease : Lease) → IsSoundSeen seen → slice_get seen.leases p ≡ Some lease → has_side seen.gone lease.side.id ≡ false
not_gone seen p lease sound at =
    elim (cases_Bool (has_side seen.gone lease.side.id)) [
      | inr absent ↦ absent
      | inl there ↦
          let some = counted_side seen.gone lease.side.id there in
          let one = counted_at (λ n. n == lease.side.id) (numbers_of seen.leases) p lease.side.id (slice_get-map (λ (l : Lease). l.side.id) seen.leases p ∙ rw at refl) (eq-eqb lease.side.id lease.side.id refl) in
          absurd (omega (arith, some, one, sound.once lease.side.id, known_sum seen.leases seen.gone lease.side.id))
    ]
  where
    counted_side : (gone : List Owned) (id : ℕ) → has_side gone id ≡ true → 1 ≤ count_by (λ n. n == id) (map (λ (s : Owned). s.id) gone)
    counted_side gone id there =
        let (k, side, within, is, passes) = Any-from_list_any (is_side id) gone there in
        let sum = sum_by-map (is_id id) (λ (s : Owned). s.id) gone in
        omega (arith, sum, counted_at (is_side id) gone k side (slice_get_read gone (length gone) k side refl within (sym is)) passes)

-- the numbers rise as before where a segment turned, and where one left
rises_set : (leases : List Lease) (p : ℕ) (old new : Lease) → slice_get leases p ≡ Some old → new.side.id ≡ old.side.id → Rises leases → Rises (set leases p new)
rises_set leases p old new at same rises = λ i j d less within.
    let long = length-set leases p new in
    let first = set_number leases p i old new d at same (omega (arith, less, within, long)) in
    let second = set_number leases p j old new d at same (omega (arith, within, long)) in
    omega (arith, first, second, rises i j d less (omega (arith, within, long)))
  where
    set_number : (leases : List Lease) (p k : ℕ) (old new d : Lease) → slice_get leases p ≡ Some old → new.side.id ≡ old.side.id → k < length leases → (get_or (set leases p new) k d).side.id ≡ (get_or leases k d).side.id
    set_number leases p k old new d at same within = elim (cases_same k p) [
      | inl here ↦
          ap (λ (l : Lease). l.side.id) (ap (λ n. get_or (set leases p new) n d) here ∙ get_or-set_same leases p new d (slice_get_within leases p old at))
          ∙ (same ∙ ap (λ (l : Lease). l.side.id) (sym (ap (λ n. get_or leases n d) here ∙ get_or_from_slice_get leases p old d at)))
      | inr other ↦ ap (λ (l : Lease). l.side.id) (get_or-set_other leases p k new d other)
    ]

rises_left : (leases : List Lease) (p : ℕ) → p < length leases → Rises leases → Rises (remove leases p)
rises_left leases p within rises = all_pairs_remove (λ (one later : Lease). one.side.id < later.side.id) leases p within rises

-- A segment turned: the client is kept.
pub kept_turned : {rising : Bool} (seen : Seen) (pages room p : ℕ) (old new : Lease) → IsSoundClient seen pages room rising → slice_get seen.leases p ≡ Some old → Follows seen old new → new.side.phase ≢ phase.Gone → IsSoundClient (record seen { leases = set seen.leases p new }) pages room rising
kept_turned seen pages room p old new kept at follows live =
    record {
      sound = sound_turned seen p old new kept.sound at follows live;
      counted = kept.counted;
      small = kept.small;
      roomy = omega (arith, kept.roomy, length-set seen.leases p new);
      full = kept.full;
      rises = λ on. rises_set seen.leases p old new at follows.same (kept.rises on);
    }

-- the segments' pages without one
pages_left : {rising : Bool} (seen : Seen) (pages room p : ℕ) (lease : Lease) (segments : List Segment) → IsSoundClient seen pages room rising → slice_get seen.leases p ≡ Some lease → segments ≡ map segment_of (remove seen.leases p) → pages - lease.side.pages ≡ size_of segments
pages_left seen pages room p lease segments kept at is =
    let f : Lease → ℕ = λ l. l.side.pages in
    let here : f (get_or seen.leases p lease) ≡ lease.side.pages = ap f (get_or_from_slice_get seen.leases p lease lease at) in
    let all : size_of seen.heap.segments ≡ sum_by f seen.leases = ap size_of kept.sound.segments ∙ pages_sum seen.leases in
    let left : size_of segments ≡ sum_by f (remove seen.leases p) = ap size_of is ∙ pages_sum (remove seen.leases p) in
    omega (arith, here, all, left, kept.counted, sum_by-remove f seen.leases p lease (slice_get_within seen.leases p lease at))

-- A segment was found gone: the client is kept.
pub kept_lost : {rising : Bool} (seen : Seen) (leases : List Lease) (heap : Contents) (gone : List Owned) (told pages room room' p : ℕ) (lease : Lease) (side : Owned) → IsSoundClient seen pages room rising → slice_get seen.leases p ≡ Some lease → side.id ≡ lease.side.id → side.pages ≡ lease.side.pages
    → leases ≡ remove seen.leases p → Drops seen.heap heap side.id → IsPartition heap → gone ≡ seen.gone ++ side ∷ [] → told ≡ seen.told → room' + 1 ≡ room
    → IsSoundClient (record seen { leases = leases; heap = heap; gone = gone; told = told }) (pages - side.pages) room' rising
kept_lost seen leases heap gone told pages room room' p lease side kept at number size leases_is drops partition gone_is told_is less =
    let within_told : told ≤ length gone = rw (gone_is, told_is) (omega (arith, kept.sound.told, length-append seen.gone (side ∷ []))) in
    let inside = slice_get_within seen.leases p lease at in
    let drops' : Drops seen.heap heap lease.side.id = subst (Drops seen.heap heap) number drops in
    let more : (id : ℕ) → count_by (λ n. n == id) (map (λ (s : Owned). s.id) gone) ≤ count_by (λ n. n == id) (map (λ (s : Owned). s.id) seen.gone) + is_id id lease.side.id = λ id.
    let pushed : count_by (λ n. n == id) (map (λ (s : Owned). s.id) (seen.gone ++ side ∷ [])) ≡ sum_by (λ (s : Owned). is_id id s.id) (seen.gone ++ side ∷ []) = sum_by-map (is_id id) (λ (s : Owned). s.id) (seen.gone ++ side ∷ []) in
    let before : count_by (λ n. n == id) (map (λ (s : Owned). s.id) seen.gone) ≡ sum_by (λ (s : Owned). is_id id s.id) seen.gone = sum_by-map (is_id id) (λ (s : Owned). s.id) seen.gone in
    let one : is_id id side.id ≡ is_id id lease.side.id = ap (is_id id) number in
    rw gone_is (omega (arith, pushed, before, one, sum_by_push (λ (s : Owned). is_id id s.id) seen.gone side)) in
    let sound = sound_left seen heap gone seen.told seen.taken p lease kept.sound at drops' partition (rw gone_is (omega (arith, kept.sound.told, length-append seen.gone (side ∷ [])))) more in
    let sound' : IsSoundSeen (record seen { leases = leases; heap = heap; gone = gone; told = told }) = rw leases_is (record {
      numbered = sound.numbered;
      sized = sound.sized;
      segments = sound.segments;
      partition = sound.partition;
      leases = sound.leases;
      locked = sound.locked;
      live = sound.live;
      once = sound.once;
      told = within_told;
    }) in
    record {
      sound = sound';
      counted = rw size (pages_left seen pages room p lease heap.segments kept at sound.segments);
      small = omega (arith, kept.small);
      roomy = rw leases_is (omega (arith, kept.roomy, less, length-remove seen.leases p inside));
      full = omega (arith, kept.full, less);
      rises = λ on. rw leases_is (rises_left seen.leases p inside (kept.rises on));
    }

-- A lock of some free pages that was held.
pub lock_held : (old new : Seen) (run : Run) (p : ℕ) (lease turned : Lease) → IsSoundSeen old → IsUsed old run false → slice_get old.leases p ≡ Some lease → lease.side.id ≡ run.segment → LocksPages run.first run.pages Held lease turned → Turns p turned old new
    → LocksRun run Held old new × LocksSo Held run old new
lock_held old new run p lease turned sound used at number locks turns =
    let range = range_here old run false p lease sound used at number in
    let so = locked_so run.first run.pages lease turned range.some locks in
    let same = so.keeps.same in (
      record { place = p; lease = lease; turned = turned; stood = at; number = number; same = same ∙ number; locks = locks; after = turns },
      record {
        held = λ _. (
          record {
            used = rw turns.heap used.used;
            stands = record { place = p; lease = turned; stands = rw turns.leases (set_here old.leases p lease turned at); number = same ∙ number };
            pages = set_range true false lease.locks turned.locks run.first run.pages so.sets range;
          },
          same_turned old new p lease turned run at same so.keeps.content turns,
          rw (turns.gone.gone, ← number) (not_gone old p lease sound at),
        );
        gone = λ e. absurd (held_is_not_gone e);
        stay = λ part owns other. stay_turned old new p lease turned at same so.keeps.content turns part
            (λ live where_ range'. other_range true part.locked lease.locks turned.locks run part.run so.sets (sym number ∙ sym where_) (apart_run part live other) range') owns;
      },
    )
  where
    held_is_not_gone : Held ≡ Gone → ⊥
    held_is_not_gone e = cc

    apart_run : (part : Part) → IsLive old part → part.run ≢ run → AreApart run part.run
    apart_run part live other =
        elim (apart_or_same old.heap.used run part.run (used_once old.heap sound.partition) used.used live.used) [
          | inl apart ↦ apart
          | inr same ↦ absurd (other (sym same))
        ]

-- A lock of some free pages that found the segment gone.
pub lock_gone : (old new : Seen) (run : Run) (p : ℕ) (lease turned : Lease) → IsSoundSeen old → slice_get old.leases p ≡ Some lease → lease.side.id ≡ run.segment → LocksPages run.first run.pages Gone lease turned → Loses p turned.side old new
    → LocksRun run Gone old new × LocksSo Gone run old new
lock_gone old new run p lease turned sound at number locks loses =
    let found = found_gone run.first run.pages lease turned locks in
    let id : turned.side.id ≡ run.segment = found.side.same ∙ number in
    let stay = stay_lost old new p lease turned.side sound at (sym found.side.same) found.free loses in
    let lost : has_side new.gone run.segment ≡ true = rw loses.gone (subst (λ n. has_side (old.gone ++ turned.side ∷ []) n ≡ true) id (gone_last old.gone turned.side)) in (
      record { place = p; lease = lease; turned = turned; stood = at; number = number; same = id; locks = locks; after = loses },
      record {
        held = λ e. absurd (gone_is_not_held e);
        gone = λ _. lost;
        stay = λ part owns other. stay part owns;
      },
    )
  where
    gone_is_not_held : Gone ≡ Held → ⊥
    gone_is_not_held e = cc

-- an unlock
pub unlock_so : (old new : Seen) (run : Run) (now : ℕ) (told : Unlocked) (p : ℕ) (lease turned : Lease) → IsSoundSeen old → IsUsed old run true → slice_get old.leases p ≡ Some lease → lease.side.id ≡ run.segment → UnlocksPages run.first run.pages now told lease turned → Turns p turned old new
    → UnlocksRun run now told old new × UnlocksSo run old new
unlock_so old new run now told p lease turned sound used at number unlocks turns =
    let range = range_here old run true p lease sound used at number in
    let so = unlocked_so now run.first run.pages told lease turned range unlocks in
    let same = so.keeps.same in (
      record { place = p; lease = lease; turned = turned; stood = at; number = number; same = same ∙ number; locks = unlocks; turns = turns },
      record {
        free = record {
          used = rw turns.heap used.used;
          stands = record { place = p; lease = turned; stands = rw turns.leases (set_here old.leases p lease turned at); number = same ∙ number };
          pages = set_range false true lease.locks turned.locks run.first run.pages so.sets range;
        };
        bytes = same_turned old new p lease turned run at same so.keeps.content turns;
        there = rw (turns.gone.gone, ← number) (not_gone old p lease sound at);
        stay = λ part owns other. stay_turned old new p lease turned at same so.keeps.content turns part
            (λ live where_ range'. other_range false part.locked lease.locks turned.locks run part.run so.sets (sym number ∙ sym where_) (apart_run part live other) range') owns;
      },
    )
  where
    apart_run : (part : Part) → IsLive old part → part.run ≢ run → AreApart run part.run
    apart_run part live other =
        elim (apart_or_same old.heap.used run part.run (used_once old.heap sound.partition) used.used live.used) [
          | inl apart ↦ apart
          | inr same ↦ absurd (other (sym same))
        ]

-- what follows a lock that was held
pub follows_locked : (seen : Seen) (run : Run) (p : ℕ) (lease turned : Lease) → IsSoundSeen seen → IsUsed seen run false → slice_get seen.leases p ≡ Some lease → lease.side.id ≡ run.segment → LocksPages run.first run.pages Held lease turned → IsLease turned
    → Follows seen lease turned × (turned.side.phase ≢ phase.Gone)
follows_locked seen run p lease turned sound used at number locks is =
    let range = range_here seen run false p lease sound used at number in
    let so = locked_so run.first run.pages lease turned range.some locks in (
      record {
        same = so.keeps.same;
        pages = so.keeps.pages;
        lease = is;
        locked = locked_used seen.heap.used run lease turned so.keeps.same (sym number) used.used so.sets (All-at (LockedAreUsed seen.heap.used) seen.leases p lease sound.locked at);
      },
      so.live (All-at (λ (l : Lease). l.side.phase ≢ phase.Gone) seen.leases p lease sound.live at),
    )

-- what follows an unlock
pub follows_unlocked : (seen : Seen) (run : Run) (now : ℕ) (told : Unlocked) (p : ℕ) (lease turned : Lease) → IsSoundSeen seen → IsUsed seen run true → slice_get seen.leases p ≡ Some lease → lease.side.id ≡ run.segment → UnlocksPages run.first run.pages now told lease turned → IsLease turned
    → Follows seen lease turned × (turned.side.phase ≢ phase.Gone)
follows_unlocked seen run now told p lease turned sound used at number unlocks is =
    let range = range_here seen run true p lease sound used at number in
    let so = unlocked_so now run.first run.pages told lease turned range unlocks in (
      record {
        same = so.keeps.same;
        pages = so.keeps.pages;
        lease = is;
        locked = unlocked_used seen.heap.used run lease turned so.keeps.same so.sets (All-at (LockedAreUsed seen.heap.used) seen.leases p lease sound.locked at);
      },
      so.live (All-at (λ (l : Lease). l.side.phase ≢ phase.Gone) seen.leases p lease sound.live at),
    )

-- what follows a look at a segment that is there
pub follows_looked : (seen : Seen) (p : ℕ) (lease turned : Lease) → IsSoundSeen seen → slice_get seen.leases p ≡ Some lease → LooksAt true lease turned → IsLease turned → Follows seen lease turned × (turned.side.phase ≢ phase.Gone)
follows_looked seen p lease turned sound at looks is =
    let so = looked_so true lease turned looks in (
      record {
        same = so.keeps.same;
        pages = so.keeps.pages;
        lease = is;
        locked = λ page locked. rw so.keeps.same (All-at (LockedAreUsed seen.heap.used) seen.leases p lease sound.locked at page (ap (λ ls. is_page_locked ls page) (sym so.locks) ∙ locked));
      },
      so.told (All-at (λ (l : Lease). l.side.phase ≢ phase.Gone) seen.leases p lease sound.live at),
    )

-- a look at a segment that is there
pub look_there : (old new : Seen) (p : ℕ) (lease turned : Lease) → slice_get old.leases p ≡ Some lease → LooksAt true lease turned → Turns p turned old new → LooksInto p true old new × AllStay old new
look_there old new p lease turned at looks turns =
    let so = looked_so true lease turned looks in (
      record { lease = lease; looked = turned; stood = at; same = so.keeps.same; looks = looks; after = turns },
      λ part owns. stay_turned old new p lease turned at so.keeps.same so.keeps.content turns part (λ live where_ range. rw so.locks range) owns,
    )

-- a look that found the segment gone
pub look_gone : (old new : Seen) (p : ℕ) (lease turned : Lease) → IsSoundSeen old → slice_get old.leases p ≡ Some lease → LooksAt false lease turned → Loses p turned.side old new → LooksInto p false old new × AllStay old new
look_gone old new p lease turned sound at looks loses =
    let so = looked_so false lease turned looks in
    let is = All-at IsLease old.leases p lease sound.leases at in (
      record { lease = lease; looked = turned; stood = at; same = so.keeps.same; looks = looks; after = loses },
      stay_lost old new p lease turned.side sound at (sym so.keeps.same) (none_locked lease is so.told.1) loses,
    )
  where
    none_locked : (lease : Lease) → IsLease lease → lease.side.phase ≢ phase.Held → locked_pages lease ≡ 0
    none_locked lease is free = elim (cases_same (locked_pages lease) 0) [ inl none ↦ none | inr some ↦ absurd (free (is.held (omega (arith, some)))) ]

-- A search: the client is kept.
pub kept_used : {rising : Bool} (seen : Seen) (heap : Contents) (span : Run) (pages room : ℕ) → IsSoundClient seen pages room rising → Uses seen.heap heap span → IsPartition heap → IsSoundClient (record seen { heap = heap }) pages room rising
kept_used seen heap span pages room kept uses partition =
    record {
      sound = sound_used seen heap span kept.sound uses partition;
      counted = rw uses.segments kept.counted;
      small = kept.small;
      roomy = kept.roomy;
      full = kept.full;
      rises = kept.rises;
    }

-- a used span lies within its segment, which is the only one of its number
pub fits_used : (seen : Seen) (run : Run) (locked : Bool) → IsSoundSeen seen → IsUsed seen run locked → FitsIn seen run
fits_used seen run locked sound used =
    record {
      leases = λ k d within number.
          let range = range_here seen run locked k (get_or seen.leases k d) sound used (slice_get-get_or seen.leases k d within) number in
          omega (arith, range.inside, (sound.leases k d within).sized);
      gone = λ k d within number.
          let absent = not_gone seen used.stands.place used.stands.lease sound used.stands.stands in
          absurd (both_ways (has_side seen.gone run.segment) (rw (← used.stands.number) absent) (list_any_at (is_side run.segment) seen.gone k d within (eq-eqb (get_or seen.gone k d).id run.segment number)));
    }

-- a search found a span: its pages are free, and no piece has one of them
pub fresh_span : (seen : Seen) (heap : Contents) (span : Run) → IsSoundSeen seen → Uses seen.heap heap span → IsPartition heap → IsFresh span seen (record seen { heap = heap })
fresh_span seen heap span sound uses partition =
    let lies = lies_from heap.segments seen.leases span (uses.segments ∙ sound.segments) (All-contains (LiesWithin heap.segments) heap.used span partition.used_within uses.has) in
    let kept = All-at (LockedAreUsed seen.heap.used) seen.leases lies.place lies.lease sound.locked lies.stands in
    let is = All-at IsLease seen.leases lies.place lies.lease sound.leases lies.stands in
    let used : IsUsed (record seen { heap = heap }) span false = record {
      used = uses.has;
      stands = record { place = lies.place; lease = lies.lease; stands = lies.stands; number = lies.number };
      pages = came_free seen.heap.used heap.used span seen.leases lies uses.used (used_once heap partition) is.sized kept;
    } in
    record {
      used = used;
      fits = fits_used (record seen { heap = heap }) span false (sound_used seen heap span sound uses partition) used;
      apart = λ other owns. elim owns.there [
        | inl live ↦ apart_from_old seen.heap.used heap.used span other.run uses.used (used_once heap partition) live.used
        | inr dead ↦ apart_segments span other.run (λ e. two (has_side seen.gone other.run.segment) dead.gone (rw (sym e, ← lies.number) (not_gone seen lies.place lies.lease sound lies.stands)))
      ];
    }
  where
    two : (b : Bool) → b ≡ true → b ≡ false → ⊥
    two b e f = cc

-- A free: the client is kept.
pub kept_freed : {rising : Bool} (seen : Seen) (heap : Contents) (span : Run) (pages room : ℕ) → IsSoundClient seen pages room rising → IsUsed seen span false → Frees seen.heap heap span → IsPartition heap → IsSoundClient (record seen { heap = heap }) pages room rising
kept_freed seen heap span pages room kept used frees partition =
    record {
      sound = sound_freed seen heap span kept.sound frees partition (λ k d within number.
          range_here seen span false k (get_or seen.leases k d) kept.sound used (slice_get-get_or seen.leases k d within) (sym number));
      counted = rw frees.segments kept.counted;
      small = kept.small;
      roomy = kept.roomy;
      full = kept.full;
      rises = kept.rises;
    }

-- A segment was taken out: the client is kept.
pub kept_taken : {rising : Bool} (seen : Seen) (leases : List Lease) (heap : Contents) (pages room p : ℕ) (lease : Lease) (side : Owned) → IsSoundClient seen pages room rising → slice_get seen.leases p ≡ Some lease → side ≡ lease.side
    → leases ≡ remove seen.leases p → Drops seen.heap heap side.id → IsPartition heap → IsSoundClient (record seen { leases = leases; heap = heap; taken = seen.taken + 1 }) (pages - side.pages) room rising
kept_taken seen leases heap pages room p lease side kept at side_is leases_is drops partition =
    let inside = slice_get_within seen.leases p lease at in
    let sound = sound_left seen heap seen.gone seen.told (seen.taken + 1) p lease kept.sound at (subst (λ (s : Owned). Drops seen.heap heap s.id) side_is drops) partition kept.sound.told (λ id. omega arith) in
    record {
      sound = rw leases_is sound;
      counted = rw side_is (pages_left seen pages room p lease heap.segments kept at sound.segments);
      small = omega (arith, kept.small);
      roomy = rw leases_is (omega (arith, kept.roomy, length-remove seen.leases p inside));
      full = kept.full;
      rises = λ on. rw leases_is (rises_left seen.leases p inside (kept.rises on));
    }

-- a span that a search may have found
pub fresh_found : (seen : Seen) (heap : Contents) (found : Option Run) → IsSoundSeen seen → IfSome found (Uses seen.heap heap) → IsPartition heap → IfSome found (λ run. IsFresh run seen (record seen { heap = heap }))
fresh_found seen heap None sound uses partition = tt
fresh_found seen heap (Some span) sound uses partition = fresh_span seen heap span sound uses partition

pub kept_found : {rising : Bool} (seen : Seen) (heap : Contents) (found : Option Run) (pages room : ℕ) → IsSoundClient seen pages room rising → IfSome found (Uses seen.heap heap) → IfNone found (heap ≡ seen.heap) → IsPartition heap → IsSoundClient (record seen { heap = heap }) pages room rising
kept_found seen heap None pages room kept uses same partition = rw same kept
kept_found seen heap (Some span) pages room kept uses same partition = kept_used seen heap span pages room kept uses partition

pub stay_found : (seen : Seen) (heap : Contents) (found : Option Run) → IfSome found (Uses seen.heap heap) → IfNone found (heap ≡ seen.heap) → AllStay seen (record seen { heap = heap })
stay_found seen heap None uses same part owns = rw same (stays_as_it_is seen part owns)
stay_found seen heap (Some span) uses same part owns = stay_carved seen (record seen { heap = heap }) heap span refl uses.used part owns

-- what a search carves, as the heap tells it
pub carves_pick : (seen : Seen) (heap : Contents) (pages : ℕ) (found picked : Option Run) → picked ≡ pick seen.heap.free pages (seen.standard - pages) → found ≡ option_map (λ run. front_of run pages) picked → IfSome picked (λ run. heap.free ≡ carved seen.heap.free run pages)
    → IfSome found (Uses seen.heap heap) → IfNone found (heap ≡ seen.heap) → CarvesPick pages found seen (record seen { heap = heap })
carves_pick seen heap pages found None is told free uses same =
    rw (← is, told) (refl, rw (same_none found told same) refl)
  where
    same_none : (found : Option Run) → found ≡ None → IfNone found (heap ≡ seen.heap) → heap ≡ seen.heap
    same_none None e same = same
    same_none (Some run) e same = cc
carves_pick seen heap pages found (Some run) is told free uses same =
    rw (← is) (told, record { uses = used_some found told uses; free = free; same = refl })
  where
    used_some : (found : Option Run) → found ≡ Some (front_of run pages) → IfSome found (Uses seen.heap heap) → Uses seen.heap heap (front_of run pages)
    used_some None e uses = cc
    used_some (Some span) e uses = subst (Uses seen.heap heap) (same_Some span (front_of run pages) e) uses

-- the number of a segment that was taken out is not known any more
pub taken_unknown : (old new : Seen) (place : ℕ) (side : Owned) → IsSoundSeen old → TakesOut place side old new → IsUnknown side.id new
taken_unknown old new place side sound out =
    let id : side.id ≡ out.lease.side.id = ap (λ (s : Owned). s.id) out.side_is in
    let one : is_id side.id out.lease.side.id ≡ 1 = rw (eq-eqb out.lease.side.id side.id (sym id)) refl in
    let none : count_by (λ n. n == side.id) (known (remove old.leases place) old.gone) ≡ 0 =
    omega (arith, one, sound.once side.id, known_sum old.leases old.gone side.id, known_sum (remove old.leases place) old.gone side.id, numbers_removed old.leases place side.id out.lease out.stood) in
    rw (out.leaves.leases, out.gone) (not_counted (known (remove old.leases place) old.gone) side.id none)
