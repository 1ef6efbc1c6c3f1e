-- Pages of runs, and locks of pages.
use Rattle.std.proofs.Common.{◌≡◌, ◌≢◌, ℕ, zero, suc, ◌+◌, ◌<◌, ◌≤◌, Bool, true, false, cond, ◌&&◌, List, [], ◌∷◌, length, map, Option, Some, None, refl, sym, ap, ◌∙◌, ◌⊎◌, inl, inr, arith, leb, ltb, eqb, if◌then◌else◌}
use Rattle.std.specs.List.{Contains, slice_get, count_by, list_any}
use Rattle.std.specs.List.Sorted.{IsPermutation}
use Rattle.std.specs.Option.{option_map}
use Rattle.std.proofs.lemmas.Bool.{cases_Bool, eqb-true, eq-eqb, and_parts, and_from, le-leb, lt-ltb, leb-true, ltb-true}
use Rattle.std.proofs.lemmas.List.Sorted.{sum_by-IsPermutation}
use Rattle.std.proofs.lemmas.List.Sums.{sum_by-cons}
use Rattle.std.proofs.lemmas.Option.{slice_get-map, same_Some, slice_get_read}
use Rattle.units.specs.Range.{is_within}
use Rattle.page_locks.specs.Locks.{is_page_locked, page_count, locked_count, IsRange}
use Rattle.span_heap.specs.declared.run.Run.{Run}
use Rattle.span_heap.specs.Run.{has_page, lies_in}
use Rattle.span_heap.specs.Runs.{dropped}
use Rattle.span_heap.specs.Segment.{Segment}
use Rattle.span_heap.specs.Heap.{Contents, IsPartition, LiesWithin, holds_page}
use Rattle.client.specs.Lease.{Lease}
use Rattle.client.specs.Seen.{segment_of}
use Rattle.client.specs.Pieces.{AreApart}
use Rattle.client.specs.Sound.{LockedAreUsed}
use Rattle.client.proofs.Rows.{cases_same, counted_at, one_place}

both : (a b : Bool) → a ≡ true → a ≡ false → ⊥
both a b e f = cc

-- a run has each of its pages
pub has_within : (run : Run) (id page : ℕ) → run.segment ≡ id → is_within run.first run.pages page ≡ true → has_page id page run ≡ true
has_within run id page same within = and_from _ _ (eq-eqb run.segment id same) within

pub within_range : (first count page : ℕ) → first ≤ page → page < first + count → is_within first count page ≡ true
within_range first count page low high = and_from _ _ (le-leb first page low) (lt-ltb page (first + count) high)

pub has_parts : (run : Run) (id page : ℕ) → has_page id page run ≡ true → (run.segment ≡ id) × (is_within run.first run.pages page ≡ true)
has_parts run id page has =
    let parts = and_parts (eqb run.segment id) (is_within run.first run.pages page) has in
    (eqb-true run.segment id parts.0, parts.1)

pub within_parts : (first count page : ℕ) → is_within first count page ≡ true → (first ≤ page) × (page < first + count)
within_parts first count page within =
    let parts = and_parts (leb first page) (ltb page (first + count)) within in
    (leb-true first page parts.0, ltb-true page (first + count) parts.1)

-- a locked page is counted
pub locked_some : (locks : List Bool) (page : ℕ) → is_page_locked locks page ≡ true → 1 ≤ locked_count locks
locked_some [] page locked = cc
locked_some (b ∷ locks) zero locked =
    let one : cond {A = ℕ} b 1 0 ≡ 1 = rw locked refl in
    omega (arith, one, sum_by-cons (λ (l : Bool). cond {A = ℕ} l 1 0) b locks)
locked_some (b ∷ locks) (suc page) locked =
    omega (arith, locked_some locks page locked, sum_by-cons (λ (l : Bool). cond {A = ℕ} l 1 0) b locks)

-- where a run stands among others
pub place_in : (runs : List Run) (run : Run) (there : Contains runs run) → slice_get runs there.0 ≡ Some run
place_in runs run there = slice_get_read runs (length runs) there.0 run refl there.1 (sym there.2)

-- a run that is there is counted at each of its pages
pub covers : (runs : List Run) (run : Run) (id page : ℕ) → Contains runs run → has_page id page run ≡ true → 1 ≤ count_by (has_page id page) runs
covers runs run id page there has = counted_at (has_page id page) runs there.0 run (place_in runs run there) has

le_one : (b : Bool) (m n : ℕ) → m + n ≡ cond {A = ℕ} b 1 0 → m ≤ 1
le_one true m n e = omega (arith, e)
le_one false m n e = omega (arith, e)

-- each page lies in one used span at most
pub used_once : (heap : Contents) → IsPartition heap → (id page : ℕ) → count_by (has_page id page) heap.used ≤ 1
used_once heap partition id page = le_one (list_any (holds_page id page) heap.segments) _ _ (partition.once id page)

not_both : (a b : Bool) → (a ≡ true → b ≡ true → ⊥) → (a && b) ≡ false
not_both true true apart = absurd (apart refl refl)
not_both true false apart = refl
not_both false b apart = refl

-- two of the used spans are apart, or one
pub apart_or_same : (runs : List Run) (one other : Run) → ((id page : ℕ) → count_by (has_page id page) runs ≤ 1) → Contains runs one → Contains runs other → AreApart one other ⊎ (one ≡ other)
apart_or_same runs one other once here there =
    elim (cases_same here.0 there.0) [
      | inl same ↦ inr (same_Some one other (sym (place_in runs one here) ∙ (ap (λ k. slice_get runs k) same ∙ place_in runs other there)))
      | inr apart ↦ inl (λ id page. not_both (has_page id page one) (has_page id page other) (λ a b.
          apart (one_place (has_page id page) runs here.0 there.0 one other (place_in runs one here) (place_in runs other there) a b (once id page))))
    ]

-- a span that came is apart from each that was there
pub apart_from_old : (old new : List Run) (span run : Run) → IsPermutation (span ∷ old) new → ((id page : ℕ) → count_by (has_page id page) new ≤ 1) → Contains old run → AreApart span run
apart_from_old old new span run came once there id page =
    not_both (has_page id page span) (has_page id page run) (λ a b.
    let one : cond {A = ℕ} (has_page id page span) 1 0 ≡ 1 = rw a refl in
    absurd (omega (arith, one, covers old run id page there b, once id page, sum_by-IsPermutation (λ r. cond {A = ℕ} (has_page id page r) 1 0) (span ∷ old) new came, sum_by-cons (λ r. cond {A = ℕ} (has_page id page r) 1 0) span old)))

-- Locks of some pages were all set one way, and no other changed.
pub record Sets (to : Bool) (old new : List Bool) (first count : ℕ) : Type 0 where
  pub size : page_count new ≡ page_count old
  pub each : (page : ℕ) → is_page_locked new page ≡ (if is_within first count page then to else is_page_locked old page)

-- the pages that were set
pub set_range : (to was : Bool) (old new : List Bool) (first count : ℕ) → Sets to old new first count → IsRange was old first count → IsRange to new first count
set_range to was old new first count sets range =
    record {
      some = range.some;
      inside = rw sets.size range.inside;
      each = λ page low high. sets.each page ∙ rw (within_range first count page low high) refl;
    }

-- the pages of a run that is apart
pub other_range : (to was : Bool) (old new : List Bool) (run other : Run) → Sets to old new run.first run.pages → run.segment ≡ other.segment → AreApart run other → IsRange was old other.first other.pages → IsRange was new other.first other.pages
other_range to was old new run other sets same apart range =
    record {
      some = range.some;
      inside = rw sets.size range.inside;
      each = λ page low high.
          let there = has_within other other.segment page refl (within_range other.first other.pages page low high) in
          let outside : is_within run.first run.pages page ≡ false =
          elim (cases_Bool (is_within run.first run.pages page)) [
            | inl within ↦ absurd (two_true (has_page other.segment page run) (has_page other.segment page other) (has_within run other.segment page same within) there (apart other.segment page))
            | inr without ↦ without
          ]
          in
          sets.each page ∙ (rw outside refl ∙ range.each page low high);
    }
  where
    two_true : (a b : Bool) → a ≡ true → b ≡ true → (a && b) ≡ false → ⊥
    two_true true true e f g = cc
    two_true true false e f g = cc
    two_true false b e f g = cc

-- a lock of used pages
pub locked_used : (used : List Run) (run : Run) (old new : Lease) → new.side.id ≡ old.side.id → run.segment ≡ old.side.id → Contains used run → Sets true old.locks new.locks run.first run.pages → LockedAreUsed used old → LockedAreUsed used new
locked_used used run old new same number there sets kept page locked =
    elim (cases_Bool (is_within run.first run.pages page)) [
      | inl within ↦ covers used run new.side.id page there (has_within run new.side.id page (number ∙ sym same) within)
      | inr without ↦ rw same (kept page (sym (sets.each page ∙ rw without refl) ∙ locked))
    ]

-- an unlock
pub unlocked_used : (used : List Run) (run : Run) (old new : Lease) → new.side.id ≡ old.side.id → Sets false old.locks new.locks run.first run.pages → LockedAreUsed used old → LockedAreUsed used new
unlocked_used used run old new same sets kept page locked =
    elim (cases_Bool (is_within run.first run.pages page)) [
      | inl within ↦ absurd (both (is_page_locked new.locks page) false locked (sets.each page ∙ rw within refl))
      | inr without ↦ rw same (kept page (sym (sets.each page ∙ rw without refl) ∙ locked))
    ]

-- a span came
pub used_more : (old new : List Run) (span : Run) (lease : Lease) → IsPermutation (span ∷ old) new → LockedAreUsed old lease → LockedAreUsed new lease
used_more old new span lease came kept page locked =
    omega (arith, kept page locked, sum_by-IsPermutation (λ r. cond {A = ℕ} (has_page lease.side.id page r) 1 0) (span ∷ old) new came, sum_by-cons (λ r. cond {A = ℕ} (has_page lease.side.id page r) 1 0) span old)

-- a span whose pages are free left
pub used_less : (old new : List Run) (span : Run) (lease : Lease) → IsPermutation old (span ∷ new) → (span.segment ≡ lease.side.id → IsRange false lease.locks span.first span.pages) → LockedAreUsed old lease → LockedAreUsed new lease
used_less old new span lease left free kept page locked =
    elim (cases_Bool (has_page lease.side.id page span)) [
      | inl has ↦
          let parts = has_parts span lease.side.id page has in
          let at = within_parts span.first span.pages page parts.1 in
          absurd (both (is_page_locked lease.locks page) false locked ((free parts.0).each page at.0 at.1))
      | inr hasnt ↦
          let none : cond {A = ℕ} (has_page lease.side.id page span) 1 0 ≡ 0 = rw hasnt refl in
          omega (arith, none, kept page locked, sum_by-IsPermutation (λ r. cond {A = ℕ} (has_page lease.side.id page r) 1 0) old (span ∷ new) left, sum_by-cons (λ r. cond {A = ℕ} (has_page lease.side.id page r) 1 0) span new)
    ]

-- pages of other segments are covered as before where a segment was dropped
pub dropped_covers : (runs : List Run) (id other page : ℕ) → other ≢ id → count_by (has_page other page) (dropped runs id) ≡ count_by (has_page other page) runs
dropped_covers [] id other page apart = refl
dropped_covers (run ∷ runs) id other page apart =
    let f : Run → ℕ = λ r. cond {A = ℕ} (has_page other page r) 1 0 in
    let rest = dropped_covers runs id other page apart in
    elim (cases_Bool (lies_in id run)) [
      | inl lies ↦
          let none : cond {A = ℕ} (has_page other page run) 1 0 ≡ 0 = rw (hasnt lies) refl in
          rw lies (omega (arith, none, rest, sum_by-cons f run runs))
      | inr away ↦ rw away (omega (arith, rest, sum_by-cons f run runs, sum_by-cons f run (dropped runs id)))
    ]
  where
    hasnt : lies_in id run ≡ true → has_page other page run ≡ false
    hasnt lies =
        elim (cases_Bool (has_page other page run)) [
          | inl has ↦ absurd (apart (sym (has_parts run other page has).0 ∙ eqb-true run.segment id lies))
          | inr without ↦ without
        ]

-- a run lies in a segment of these
pub record Lies (leases : List Lease) (run : Run) : Type 0 where
  pub place : ℕ
  pub lease : Lease
  pub stands : slice_get leases place ≡ Some lease
  pub number : lease.side.id ≡ run.segment
  pub end : run.first + run.pages ≤ lease.side.pages
  pub some : 1 ≤ run.pages

some_of : (o : Option Lease) (s : Segment) → option_map segment_of o ≡ Some s → (lease : Lease) × (o ≡ Some lease) × (segment_of lease ≡ s)
some_of None s e = cc
some_of (Some lease) s e = (lease, refl, same_Some (segment_of lease) s e)

pub lies_from : (segments : List Segment) (leases : List Lease) (run : Run) → segments ≡ map segment_of leases → LiesWithin segments run → Lies leases run
lies_from segments leases run are (some, (k, segment, within, is, (id, end))) =
    let at : slice_get (map segment_of leases) k ≡ Some segment = rw (← are) (slice_get_read segments (length segments) k segment refl within (sym is)) in
    let found = some_of (slice_get leases k) segment (sym (slice_get-map segment_of leases k) ∙ at) in
    record {
      place = k;
      lease = found.0;
      stands = found.1;
      number = ap (λ (s : Segment). s.id) found.2 ∙ id;
      end = omega (arith, end, ap (λ (s : Segment). s.pages) found.2);
      some = some;
    }

-- the pages of a span that came are free
pub came_free : (old new : List Run) (span : Run) (leases : List Lease) (lies : Lies leases span) → IsPermutation (span ∷ old) new → ((id page : ℕ) → count_by (has_page id page) new ≤ 1) → page_count lies.lease.locks ≡ lies.lease.side.pages → LockedAreUsed old lies.lease → IsRange false lies.lease.locks span.first span.pages
came_free old new span leases lies came once sized kept =
    record {
      some = lies.some;
      inside = rw sized lies.end;
      each = λ page low high.
          elim (cases_Bool (is_page_locked lies.lease.locks page)) [
            | inl locked ↦
                let has = has_within span lies.lease.side.id page (sym lies.number) (within_range span.first span.pages page low high) in
                let one : cond {A = ℕ} (has_page lies.lease.side.id page span) 1 0 ≡ 1 = rw has refl in
                absurd (omega (arith, one, kept page locked, once lies.lease.side.id page, sum_by-IsPermutation (λ r. cond {A = ℕ} (has_page lies.lease.side.id page r) 1 0) (span ∷ old) new came, sum_by-cons (λ r. cond {A = ℕ} (has_page lies.lease.side.id page r) 1 0) span old))
            | inr free ↦ free
          ];
    }

-- runs of two segments share no page
pub apart_segments : (one other : Run) → one.segment ≢ other.segment → AreApart one other
apart_segments one other away id page =
    not_both (has_page id page one) (has_page id page other) (λ a b. away ((has_parts one id page a).0 ∙ sym (has_parts other id page b).0))
