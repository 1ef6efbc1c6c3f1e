-- The coming of a segment, and a side that is kept.
use Rattle.std.proofs.Common.{◌≡◌, ◌≢◌, ℕ, ◌+◌, ◌-◌, ◌^◌, ◌<◌, ◌≤◌, ◌==◌, Bool, true, false, cond, ◌||◌, List, [], ◌∷◌, ◌++◌, length, map, take, drop, refl, sym, ap, subst, ◌∙◌, inl, inr, arith, take-append-drop, length-append, ltb}
use Rattle.std.specs.List.{count_by, list_any, sum_by}
use Rattle.std.proofs.lemmas.Bool.{cases_Bool, eqb-true, or_parts, lt-ltb, ltb-true}
use Rattle.std.proofs.lemmas.List.{map-append}
use Rattle.std.proofs.lemmas.List.Quantifiers.{all_pairs_push}
use Rattle.std.proofs.lemmas.List.Elements.{All-push, All-weaker}
use Rattle.std.proofs.lemmas.List.Folds.{list_any-append}
use Rattle.std.proofs.lemmas.List.Sums.{sum_by-append, sum_by-cons, sum_by_push}
use Rattle.std.proofs.lemmas.Option.{slice_get-map}
use Rattle.segment.specs.Owned.{Owned}
use Rattle.segment.specs.declared.owner.Phase.{Phase}
use Rattle.segment.specs.declared.owner.Phase.TheVariants as phase
use Rattle.span_heap.specs.declared.run.Run.{Run}
use Rattle.span_heap.specs.Runs.{rest_of}
use Rattle.span_heap.specs.Segment.{Segment}
use Rattle.span_heap.specs.Heap.{Contents, IsPartition, has_segment, has_id, size_of}
use Rattle.span_heap.specs.Changes.{whole_of, GrowsFront}
use Rattle.client.specs.Coming.{IsFrontLocked}
use Rattle.client.specs.Gone.{has_side, is_side, kept_side, after_next}
use Rattle.client.specs.Lease.{Lease, IsLease, pages_at}
use Rattle.client.specs.Places.{AreBelow}
use Rattle.client.specs.Seen.{Seen, is_gone, known, numbers_of, segment_of, IsUnknown}
use Rattle.client.specs.Pieces.{Part, Owns, AllStay, IsNew, content_at}
use Rattle.client.specs.Finding.{Adopts, part_of}
use Rattle.client.specs.Sound.{IsSoundSeen, IsSoundClient, LockedAreUsed}
use Rattle.client.proofs.Fitting.{fits_front}
use Rattle.client.proofs.Rows.{not_there, pushed_keeps, pushed_last, counted_nowhere, sum_by-map}
use Rattle.client.proofs.Pages.{covers, has_within, within_range, apart_segments}
use Rattle.client.proofs.KeptThrough.{is_id, known_sum}
use Rattle.client.proofs.PiecesStay.{content_pushed}

-- a side that is kept is found among the gone ones, and so are the others
kept_has : (side : Owned) (told : ℕ) (gone : List Owned) (id : ℕ) → has_side gone id ≡ true → has_side (kept_side side told gone) id ≡ true
kept_has side told gone id was =
    list_any-append (is_side id) (take told gone) (side ∷ drop told gone)
    ∙ among (has_side (take told gone) id) (has_side (drop told gone) id) (is_side id side) (sym (list_any-append (is_side id) (take told gone) (drop told gone)) ∙ (ap (λ sides. has_side sides id) (take-append-drop told gone) ∙ was))
  where
    among : (a b n : Bool) → (a || b) ≡ true → (a || (n || b)) ≡ true
    among true b n e = refl
    among false b true e = refl
    among false b false e = e

-- each piece stays where a side is kept
pub stay_kept : (old new : Seen) (side : Owned) → new.number ≡ old.number → new.leases ≡ old.leases → new.heap ≡ old.heap → new.gone ≡ kept_side side old.told old.gone → AllStay old new
stay_kept old new side number leases heap gone part owns =
    let more : is_gone old part.run.segment ≡ true → is_gone new part.run.segment ≡ true = λ was. rw gone (kept_has side old.told old.gone part.run.segment was) in
    record {
      owned = record {
        mine = owns.mine ∙ sym number;
        there = elim owns.there [
          | inl live ↦ inl (record { used = rw heap live.used; stands = record { place = live.stands.place; lease = live.stands.lease; stands = rw leases live.stands.stands; number = live.stands.number }; pages = live.pages })
          | inr dead ↦ inr (record { gone = more dead.gone; free = dead.free })
        ];
      };
      gone = more;
      bytes = λ _. ap (λ ls. pages_at part.run.first part.run.pages (content_at ls part.run.segment)) leases;
    }

-- the numbers of the gone ones once a side is kept
kept_numbers : (side : Owned) (told : ℕ) (gone : List Owned) (id : ℕ) → count_by (λ n. n == id) (map (λ (s : Owned). s.id) (kept_side side told gone)) ≡ count_by (λ n. n == id) (map (λ (s : Owned). s.id) gone) + is_id id side.id
kept_numbers side told gone id =
    let f : Owned → ℕ = λ s. is_id id s.id in
    let all : sum_by f gone ≡ sum_by f (take told gone) + sum_by f (drop told gone) = ap (sum_by f) (sym (take-append-drop told gone)) ∙ sum_by-append f (take told gone) (drop told gone) in
    omega (
      arith,
      all,
      sum_by-map (is_id id) (λ (s : Owned). s.id) (kept_side side told gone),
      sum_by-map (is_id id) (λ (s : Owned). s.id) gone,
      sum_by-append f (take told gone) (side ∷ drop told gone),
      sum_by-cons f side (drop told gone),
    )

-- one more number that was not known
one_more : (n id k : ℕ) → n ≤ 1 → (id ≡ k → n ≡ 0) → n + is_id k id ≤ 1
one_more n id k few fresh =
    elim (cases_Bool (id == k)) [
      | inl same ↦
          let one : is_id k id ≡ 1 = rw same refl in
          omega (arith, one, fresh (eqb-true id k same))
      | inr other ↦
          let none : is_id k id ≡ 0 = rw other refl in
          omega (arith, none, few)
    ]

-- a side is kept: the client is
pub kept_kept : {rising : Bool} (seen : Seen) (side : Owned) (gone : List Owned) (told pages room room' : ℕ) → IsSoundClient seen pages room rising → IsUnknown side.id seen → 1 ≤ seen.taken → gone ≡ kept_side side seen.told seen.gone → told ≡ seen.told + 1 → room' + 1 ≡ room
    → IsSoundClient (record seen { gone = gone; told = told; taken = seen.taken - 1 }) pages room' rising
kept_kept seen side gone told pages room room' kept unknown some gone_is told_is less =
    let sound = kept.sound in
    record {
      sound = record {
        numbered = sound.numbered;
        sized = sound.sized;
        segments = sound.segments;
        partition = sound.partition;
        leases = sound.leases;
        locked = sound.locked;
        live = sound.live;
        once = λ id.
            let before = sound.once id in
            let fresh : side.id ≡ id → count_by (λ n. n == id) (known seen.leases seen.gone) ≡ 0 = λ same. subst (λ k. count_by (λ n. n == k) (known seen.leases seen.gone) ≡ 0) same (counted_nowhere (known seen.leases seen.gone) side.id unknown) in
            rw gone_is (omega (arith, one_more (count_by (λ n. n == id) (known seen.leases seen.gone)) side.id id before fresh, known_sum seen.leases seen.gone id, known_sum seen.leases (kept_side side seen.told seen.gone) id, kept_numbers side seen.told seen.gone id));
        told = rw (told_is, gone_is) (omega (arith, sound.told, length-append (take seen.told seen.gone) (side ∷ drop seen.told seen.gone), ap length (take-append-drop seen.told seen.gone), length-append (take seen.told seen.gone) (drop seen.told seen.gone)));
      };
      counted = kept.counted;
      small = kept.small;
      roomy = omega (arith, kept.roomy, some, less);
      full = omega (arith, kept.full, less);
      rises = kept.rises;
    }

-- the numbers with one segment more
numbers_pushed : (leases : List Lease) (lease : Lease) (id : ℕ) → count_by (λ n. n == id) (numbers_of (leases ++ lease ∷ [])) ≡ count_by (λ n. n == id) (numbers_of leases) + is_id id lease.side.id
numbers_pushed leases lease id =
    let f : Lease → ℕ = λ l. is_id id l.side.id in
    omega (arith, sum_by-map (is_id id) (λ (l : Lease). l.side.id) (leases ++ lease ∷ []), sum_by-map (is_id id) (λ (l : Lease). l.side.id) leases, sum_by_push f leases lease)

-- a side that was taken out gave its block: the client is kept
pub kept_whole : {rising : Bool} (seen : Seen) (pages room : ℕ) → IsSoundClient seen pages room rising → IsSoundClient (record seen { taken = seen.taken - 1 }) pages room rising
kept_whole seen pages room kept =
    let sound = kept.sound in
    record {
      sound = record {
        numbered = sound.numbered;
        sized = sound.sized;
        segments = sound.segments;
        partition = sound.partition;
        leases = sound.leases;
        locked = sound.locked;
        live = sound.live;
        once = sound.once;
        told = sound.told;
      };
      counted = kept.counted;
      small = kept.small;
      roomy = omega (arith, kept.roomy);
      full = kept.full;
      rises = kept.rises;
    }

both' : (b : Bool) → b ≡ true → b ≡ false → ⊥
both' b e f = cc

-- A segment came: the client is kept.
pub kept_adopted : {rising rising' : Bool} (seen : Seen) (heap : Contents) (side : Owned) (locks : List Bool) (leases : List Lease) (span : Run) (whole pages all room room' : ℕ) → IsSoundClient seen all room rising → side.phase ≡ phase.Held → side.pages ≡ whole → IsUnknown side.id seen → 1 ≤ pages → pages ≤ whole
    → IsFrontLocked whole pages locks → GrowsFront seen.heap heap side.id whole pages span → IsPartition heap → leases ≡ seen.leases ++ record { side = side; locks = locks } ∷ [] → length seen.leases + 1 + seen.taken ≤ room' → room' < 2 ^ 64 → size_of seen.heap.segments + whole < 2 ^ 32
    → (rising' ≡ true → (rising ≡ true) × AreBelow side.id seen.leases) → IsSoundClient (record seen { leases = leases; heap = heap }) (all + whole) room' rising'
kept_adopted seen heap side locks leases span whole pages all room room' kept held size unknown some less front grows partition leases_is roomy full small below =
    let sound = kept.sound in
    let lease : Lease = record { side = side; locks = locks } in
    let segment : Segment = segment_of lease in
    let segment_is : segment ≡ record { id = side.id; pages = whole } = ap (λ (n : ℕ). record { id = side.id; pages = n }) size in
    rw leases_is (record {
      sound = record {
        numbered = sound.numbered;
        sized = sound.sized;
        segments = grows.segments ∙ (ap (λ ss. ss ++ record { id = side.id; pages = whole } ∷ []) sound.segments ∙ (ap (λ (s : Segment). map segment_of seen.leases ++ s ∷ []) (sym segment_is) ∙ sym (map-append segment_of seen.leases (lease ∷ []))));
        partition = partition;
        leases = All-push IsLease seen.leases lease sound.leases (record { sized = front.size ∙ sym size; held = λ _. held; free = λ none. absurd (omega (arith, none, front.counted, some)) });
        locked = All-push (LockedAreUsed heap.used) seen.leases lease
            (All-weaker (LockedAreUsed seen.heap.used) (LockedAreUsed heap.used) (λ l was page locked. omega (arith, was page locked, grows.covers l.side.id page)) seen.leases sound.locked)
            (λ page locked.
            let within : page < pages = ltb-true page pages (sym (front.each page) ∙ locked) in
            covers heap.used span side.id page grows.has (has_within span side.id page (ap (λ (r : Run). r.segment) grows.front) (rw grows.front (within_range 0 pages page (omega arith) (omega (arith, within))))));
        live = All-push (λ (l : Lease). l.side.phase ≢ phase.Gone) seen.leases lease sound.live (λ e. held_not_gone side.phase held e);
        once = λ id.
            let before = sound.once id in
            let fresh : side.id ≡ id → count_by (λ n. n == id) (known seen.leases seen.gone) ≡ 0 = λ same. subst (λ k. count_by (λ n. n == k) (known seen.leases seen.gone) ≡ 0) same (counted_nowhere (known seen.leases seen.gone) side.id unknown) in
            omega (arith, one_more (count_by (λ n. n == id) (known seen.leases seen.gone)) side.id id before fresh, known_sum seen.leases seen.gone id, known_sum (seen.leases ++ lease ∷ []) seen.gone id, numbers_pushed seen.leases lease id);
        told = sound.told;
      };
      counted = rw grows.segments (omega (arith, kept.counted, sum_by_push (λ (s : Segment). s.pages) seen.heap.segments (record { id = side.id; pages = whole })));
      small = omega (arith, kept.counted, small);
      roomy = omega (arith, roomy, length-append seen.leases (lease ∷ []));
      full = full;
      rises = λ on. all_pairs_push (λ (one later : Lease). one.side.id < later.side.id) seen.leases lease (kept.rises (below on).0) (below on).1;
    })
  where
    held_not_gone : (p : Phase) → p ≡ phase.Held → p ≡ phase.Gone → ⊥
    held_not_gone p e f = cc

-- a piece is in a segment that is known
known_segment : (seen : Seen) (part : Part) (id : ℕ) → Owns seen part → IsUnknown id seen → part.run.segment ≢ id
known_segment seen part id owns unknown =
    let leases = seen.leases in
    let gone = seen.gone in
    elim owns.there [
      | inl live ↦ λ same.
          not_there (known leases gone) id live.stands.place live.stands.lease.side.id unknown
          (pushed_keeps (numbers_of leases) (map (λ (s : Owned). s.id) gone) live.stands.place live.stands.lease.side.id (slice_get-map (λ (l : Lease). l.side.id) leases live.stands.place ∙ rw live.stands.stands refl)) (live.stands.number ∙ same)
      | inr dead ↦ λ same.
          let absent = (or_parts (list_any (λ n. n == id) (numbers_of leases)) (list_any (λ n. n == id) (map (λ (s : Owned). s.id) gone)) (sym (list_any-append (λ n. n == id) (numbers_of leases) (map (λ (s : Owned). s.id) gone)) ∙ unknown)).1 in
          both' (has_side gone id) (subst (λ n. has_side gone n ≡ true) same dead.gone) (has_mapped gone id ∙ absent)
    ]
  where
    has_mapped : (gone : List Owned) (id : ℕ) → has_side gone id ≡ list_any (λ n. n == id) (map (λ (s : Owned). s.id) gone)
    has_mapped [] id = refl
    has_mapped (s ∷ gone) id = ap (λ more. is_side id s || more) (has_mapped gone id)

-- what an adoption does
pub adopted : (old new : Seen) (side : Owned) (locks : List Bool) (span : Run) (whole pages : ℕ) (part : Part) → side.pages ≡ whole → IsUnknown side.id old → 1 ≤ pages → pages ≤ whole → IsFrontLocked whole pages locks → GrowsFront old.heap new.heap side.id whole pages span
    → new ≡ record old { leases = old.leases ++ record { side = side; locks = locks } ∷ []; heap = new.heap } → part ≡ record { client = old.number; run = span; locked = true } → Adopts side pages part old new × IsNew pages old new part × AllStay old new
adopted old new side locks span whole pages part size unknown some less front grows new_is part_is =
    let lease : Lease = record { side = side; locks = locks } in
    let leases : new.leases ≡ old.leases ++ lease ∷ [] = ap (λ (s : Seen). s.leases) new_is in
    let number : new.number ≡ old.number = ap (λ (s : Seen). s.number) new_is in
    let gone : new.gone ≡ old.gone = ap (λ (s : Seen). s.gone) new_is in
    let run_is : part.run ≡ span = ap (λ (p : Part). p.run) part_is in
    let in_segment : span.segment ≡ side.id = ap (λ (r : Run). r.segment) grows.front in (
      record {
        lease = lease;
        leases = leases;
        side_is = refl;
        size = front.size ∙ sym size;
        locks = front.each;
        part_is = part_is ∙ (ap (λ (r : Run). record { client = old.number; run = r; locked = true }) grows.front ∙ ap (λ (n : ℕ). part_of old (whole_of side.id n) pages) (sym size));
        segments = grows.segments ∙ ap (λ (n : ℕ). old.heap.segments ++ record { id = side.id; pages = n } ∷ []) (sym size);
        free = grows.free ∙ ap (λ (n : ℕ). old.heap.free ++ rest_of (whole_of side.id n) pages) (sym size);
        name = record { number = number; standard = ap (λ (s : Seen). s.standard) new_is };
        gone = gone;
        told = ap (λ (s : Seen). s.told) new_is;
        taken = ap (λ (s : Seen). s.taken) new_is;
      },
      rw part_is (record {
        owned = record {
          mine = sym number;
          there = inl (record {
            used = grows.has;
            stands = record { place = length old.leases; lease = lease; stands = rw leases (pushed_last old.leases lease); number = sym in_segment };
            pages = record {
              some = rw grows.front (omega (arith, some));
              inside = rw (grows.front, front.size) (omega (arith, less));
              each = λ page low high.
                  let high' : page < 0 + pages = subst (λ (r : Run). page < r.first + r.pages) grows.front high in
                  front.each page ∙ lt-ltb page pages (omega (arith, high'));
            };
          });
        };
        locked = refl;
        sized = ap (λ (r : Run). r.pages) grows.front;
        fits = fits_front old new lease span (rw in_segment unknown) leases gone (rw (grows.front, size) (omega (arith, less)));
        apart = λ other owns. apart_segments span other.run (λ same. known_segment old other side.id owns unknown (sym same ∙ in_segment));
      }),
      λ other owns.
          let away = known_segment old other side.id owns unknown in
          record {
            owned = record {
              mine = owns.mine ∙ sym number;
              there = elim owns.there [
                | inl live ↦ inl (record {
                  used = grows.keeps other.run live.used away;
                  stands = record { place = live.stands.place; lease = live.stands.lease; stands = rw leases (pushed_keeps old.leases (lease ∷ []) live.stands.place live.stands.lease live.stands.stands); number = live.stands.number };
                  pages = live.pages;
                })
                | inr dead ↦ inr (record { gone = rw gone dead.gone; free = dead.free })
              ];
            };
            gone = λ was. rw gone was;
            bytes = λ _. ap (pages_at other.run.first other.run.pages) (ap (λ ls. content_at ls other.run.segment) leases ∙ content_pushed old.leases other.run.segment lease (λ same. away (sym same)));
          },
    )

-- a client that differs in nothing
pub same_seen : (number standard told told' taken : ℕ) (leases leases' : List Lease) (heap : Contents) (gone gone' : List Owned) → leases ≡ leases' → gone ≡ gone' → told ≡ told'
    → ◌≡◌ {A = Seen} (record { number = number; standard = standard; leases = leases; heap = heap; gone = gone; told = told; taken = taken }) (record { number = number; standard = standard; leases = leases'; heap = heap; gone = gone'; told = told'; taken = taken })
same_seen number standard told told' taken leases leases' heap gone gone' e f g = rw (e, f, g) refl

-- the heap has no segment of a number that is not known
pub not_in_heap : (seen : Seen) (id : ℕ) → IsSoundSeen seen → IsUnknown id seen → has_segment seen.heap.segments id ≡ false
not_in_heap seen id sound unknown =
    let absent = (or_parts (list_any (λ n. n == id) (numbers_of seen.leases)) (list_any (λ n. n == id) (map (λ (s : Owned). s.id) seen.gone)) (sym (list_any-append (λ n. n == id) (numbers_of seen.leases) (map (λ (s : Owned). s.id) seen.gone)) ∙ unknown)).0 in
    rw sound.segments (has_mapped seen.leases ∙ absent)
  where
    has_mapped : (leases : List Lease) → list_any (has_id id) (map segment_of leases) ≡ list_any (λ n. n == id) (numbers_of leases)
    has_mapped [] = refl
    has_mapped (l ∷ leases) = ap (λ more. has_id id (segment_of l) || more) (has_mapped leases)

-- one more side is told: the client is kept
pub kept_told : {rising : Bool} (seen : Seen) (gone : List Owned) (told pages room room' : ℕ) → IsSoundClient seen pages room rising → gone ≡ seen.gone → told ≡ after_next seen.gone seen.told → room' ≡ room → IsSoundClient (record seen { gone = gone; told = told }) pages room' rising
kept_told seen gone told pages room room' kept gone_is told_is same =
    let sound = kept.sound in
    rw (gone_is, told_is, same) (record {
      sound = record {
        numbered = sound.numbered;
        sized = sound.sized;
        segments = sound.segments;
        partition = sound.partition;
        leases = sound.leases;
        locked = sound.locked;
        live = sound.live;
        once = sound.once;
        told = next_within seen.told (length seen.gone) sound.told;
      };
      counted = kept.counted;
      small = kept.small;
      roomy = kept.roomy;
      full = kept.full;
      rises = kept.rises;
    })
  where
    next_within : (told n : ℕ) → told ≤ n → cond (ltb told n) (told + 1) told ≤ n
    next_within told n within =
        elim (cases_Bool (ltb told n)) [ inl less ↦ rw less (let l = ltb-true told n less in omega (arith, l)) | inr past ↦ rw past within ]
