-- What holds of a client's heap holds after each call.
use Rattle.std.proofs.Common.{◌≡◌, ◌≢◌, ℕ, zero, suc, ◌+◌, ◌<◌, ◌≤◌, ◌==◌, Bool, true, false, not, cond, List, [], ◌∷◌, ◌++◌, get_or, set, map, Option, Some, None, refl, sym, ap, subst, ◌∙◌, inl, inr, arith}
use Rattle.std.specs.List.{All, filter, list_any, count_by, Contains}
use Rattle.std.specs.List.Sorted.{IsPermutation}
use Rattle.std.proofs.lemmas.Bool.{eq-eqb, ne_eqb}
use Rattle.std.proofs.lemmas.Bool.Decides.{nat_tests}
use Rattle.std.proofs.lemmas.List.{map-append}
use Rattle.std.proofs.lemmas.List.Elements.{All-contains, All-filter, All-weaker, All-append, All-nil, All-cons}
use Rattle.std.proofs.lemmas.List.Sorted.{sum_by-IsPermutation, Contains-permutation}
use Rattle.std.proofs.lemmas.List.Sums.{get_or-le-sum_by, sum_by-cons}
use Rattle.std.proofs.lemmas.Option.{same_Some}
use Rattle.units.specs.declared.TheConstants.{MOST_PAGES}
use Rattle.span_heap.specs.declared.run.Run.{Run}
use Rattle.span_heap.specs.Run.{lies_in, has_page}
use Rattle.span_heap.specs.Runs.{dropped}
use Rattle.span_heap.specs.Segment.{Segment}
use Rattle.span_heap.specs.Heap.{Contents, contents, IsPartition, LiesWithin, has_id, has_segment, holds_page}
use Rattle.span_heap.specs.Changes.{GrowsFront, Uses, Frees, Drops, segment_of}
use Rattle.script_heaps.specs.Sound.{IsSoundClientHeap, IsPiece, IsSmall}
use Rattle.script_heaps.proofs.PiecesAtPlaces.{piece_pushed, piece_set}
use Rattle.script_heaps.proofs.SegmentsByNumber.{has_left, has_grown, numbers_left}

-- ---- what a list contains

pub Contains-cons : {X : Type 0} (xs : List X) (y x : X) → Contains xs x → Contains (y ∷ xs) x
Contains-cons xs y x there = (suc there.0, omega (arith, there.1), there.2)

pub Contains-rest : {X : Type 0} (xs : List X) (y x : X) → Contains (y ∷ xs) x → x ≢ y → Contains xs x
Contains-rest xs y x (zero, within, is) other = absurd (other (sym is))
Contains-rest xs y x (suc k, within, is) other = (k, omega (arith, within), is)

-- ---- pages of used spans

pub covers : (runs : List Run) (run : Run) (id page : ℕ) → Contains runs run → has_page id page run ≡ true → 1 ≤ count_by (has_page id page) runs
covers runs run id page there has =
    let f : Run → ℕ = λ r. cond {A = ℕ} (has_page id page r) 1 0 in
    let one : f (get_or runs there.0 run) ≡ 1 = rw there.2 (rw has refl) in
    omega (arith, one, get_or-le-sum_by f runs there.0 run there.1)

pub has_first : (run : Run) → 1 ≤ run.pages → has_page run.segment run.first run ≡ true
has_first run some = rw (eq-eqb run.segment run.segment refl) (grind (arith, nat_tests))

le_one : (b : Bool) (m n : ℕ) → m + n ≡ cond {A = ℕ} b 1 0 → m ≤ 1
le_one true m n e = omega (arith, e)
le_one false m n e = omega (arith, e)

pub used_once : (heap : Contents) → IsPartition heap → (id page : ℕ) → count_by (has_page id page) heap.used ≤ 1
used_once heap partition id page = le_one (list_any (holds_page id page) heap.segments) _ _ (partition.once id page)

-- a span that came is none of those that were there
pub came_new : (old new : List Run) (span run : Run) → IsPermutation (span ∷ old) new → ((id page : ℕ) → count_by (has_page id page) new ≤ 1) → 1 ≤ span.pages → Contains old run → run ≢ span
came_new old new span run came once some there = λ same.
    let f : Run → ℕ = λ r. cond {A = ℕ} (has_page span.segment span.first r) 1 0 in
    let has = has_first span some in
    let one : f span ≡ 1 = rw has refl in
    let more = covers old run span.segment span.first there (ap (has_page span.segment span.first) same ∙ has) in
    absurd (omega (arith, one, more, once span.segment span.first, sum_by-IsPermutation f (span ∷ old) new came, sum_by-cons f span old))

-- the segment of a span is none past the last
small_at : (last : ℕ) (heap : Contents) (run : Run) → All (IsSmall last) heap.segments → LiesWithin heap.segments run → run.segment ≤ last
small_at last heap run small lies =
    let (k, segment, within, is, parts) = lies.1 in
    let at : IsSmall last segment = subst (IsSmall last) is (small k segment within) in
    omega (arith, at.0, parts.0)

-- a run of another segment stays where a segment was dropped
dropped_more : (b : Bool) (x y : Run) (rest : List Run) → Contains rest y → Contains (cond (not b) (x ∷ rest) rest) y
dropped_more true x y rest is = is
dropped_more false x y rest is = Contains-cons rest x y is

abbrev Stays : ℕ → List Run → Run → Type 0
Stays id rest run = run.segment ≢ id → Contains (dropped rest id) run

all_left : (id : ℕ) (rest : List Run) → All (Stays id rest) rest
all_left id [] = All-nil (Stays id [])
all_left id (x ∷ rest) =
    All-cons (Stays id (x ∷ rest)) x rest
    (λ apart. subst (λ (rs : List Run). Contains rs x) (sym (ap (λ b. cond (not b) (x ∷ dropped rest id) (dropped rest id)) (ne_eqb x.segment id apart))) (0, omega arith, refl))
    (All-weaker (Stays id rest) (Stays id (x ∷ rest)) (λ r is apart. dropped_more (lies_in id x) x r (dropped rest id) (is apart)) rest (all_left id rest))

contains_left : (runs : List Run) (id : ℕ) (run : Run) → Contains runs run → run.segment ≢ id → Contains (dropped runs id) run
contains_left runs id run there other = All-contains (Stays id runs) runs run (all_left id runs) there other

-- ---- the calls

-- a client that has nothing
pub kept_empty : (last : ℕ) (pieces : List (Option Run)) → ((place : ℕ) (run : Run) → IsPiece pieces place run → ⊥) → IsSoundClientHeap (contents [] [] []) [] pieces last
kept_empty last pieces none =
    record {
      partition = record {
        once = λ id page. refl;
        distinct = λ id. omega arith;
        used_within = All-nil (LiesWithin []);
        free_within = All-nil (LiesWithin []);
        apart = λ id page. omega arith;
      };
      numbers = refl;
      small = All-nil (IsSmall last);
      drawn = λ place run is. absurd (none place run is);
      used = λ place run is has. absurd (none place run is);
      once = λ place other run is too has. absurd (none place run is);
    }

-- fewer pieces are there
pub kept_fewer : (heap : Contents) (ids : List ℕ) (pieces fewer : List (Option Run)) (last : ℕ) → IsSoundClientHeap heap ids pieces last → ((place : ℕ) (run : Run) → IsPiece fewer place run → IsPiece pieces place run) → IsSoundClientHeap heap ids fewer last
kept_fewer heap ids pieces fewer last kept were =
    record {
      partition = kept.partition;
      numbers = kept.numbers;
      small = kept.small;
      drawn = λ place run is. kept.drawn place run (were place run is);
      used = λ place run is has. kept.used place run (were place run is) has;
      once = λ place other run is too has. kept.once place other run (were place run is) (were other run too) has;
    }

-- a search found a span, which is a piece
pub kept_searched : (heap new : Contents) (ids : List ℕ) (pieces : List (Option Run)) (last : ℕ) (span : Run) → IsSoundClientHeap heap ids pieces last → Uses heap new span → IsPartition new → IsSoundClientHeap new ids (pieces ++ Some span ∷ []) last
kept_searched heap new ids pieces last span kept uses partition =
    let small : All (IsSmall last) new.segments = rw uses.segments kept.small in
    let lies = All-contains (LiesWithin new.segments) new.used span partition.used_within uses.has in
    let apart : (run : Run) → Contains heap.used run → run ≢ span = λ run there. came_new heap.used new.used span run uses.used (used_once new partition) lies.0 there in
    let was : (run : Run) → has_segment new.segments run.segment ≡ true → has_segment heap.segments run.segment ≡ true = λ run is. subst (λ (ss : List Segment). has_segment ss run.segment ≡ true) uses.segments is in
    record {
      partition = partition;
      numbers = kept.numbers ∙ ap (λ (ss : List Segment). map (λ (s : Segment). s.id) ss) (sym uses.segments);
      small = small;
      drawn = λ place run is. elim (piece_pushed pieces (Some span) place run is) [
        | inl old ↦ kept.drawn place run old
        | inr came ↦ subst (λ (r : Run). r.segment ≤ last) (same_Some span run came.1) (small_at last new span small lies)
      ];
      used = λ place run is has. elim (piece_pushed pieces (Some span) place run is) [
        | inl old ↦ Contains-permutation (span ∷ heap.used) new.used run uses.used (Contains-cons heap.used span run (kept.used place run old (was run has)))
        | inr came ↦ subst (Contains new.used) (same_Some span run came.1) uses.has
      ];
      once = λ place other run is too has. elim (piece_pushed pieces (Some span) place run is) [
        | inl one ↦ elim (piece_pushed pieces (Some span) other run too) [
          | inl two ↦ kept.once place other run one two (was run has)
          | inr came ↦ absurd (apart run (kept.used place run one (was run has)) (sym (same_Some span run came.1)))
        ]
        | inr came ↦ elim (piece_pushed pieces (Some span) other run too) [
          | inl two ↦ absurd (apart run (kept.used other run two (was run has)) (sym (same_Some span run came.1)))
          | inr also ↦ came.0 ∙ sym also.0
        ]
      ];
    }

-- a segment left
pub kept_left : (heap new : Contents) (ids fewer : List ℕ) (pieces : List (Option Run)) (last id : ℕ) → IsSoundClientHeap heap ids pieces last → Drops heap new id → IsPartition new → fewer ≡ filter (λ n. not (n == id)) ids → IsSoundClientHeap new fewer pieces last
kept_left heap new ids fewer pieces last id kept drops partition fewer_is =
    let left : (run : Run) → has_segment new.segments run.segment ≡ true → (has_segment heap.segments run.segment ≡ true) × (run.segment ≢ id) =
    λ run is. has_left heap.segments id run.segment (subst (λ (ss : List Segment). has_segment ss run.segment ≡ true) drops.segments is) in
    record {
      partition = partition;
      numbers = fewer_is ∙ (ap (filter (λ n. not (n == id))) kept.numbers ∙ (numbers_left heap.segments id ∙ ap (λ (ss : List Segment). map (λ (s : Segment). s.id) ss) (sym drops.segments)));
      small = rw drops.segments (All-filter (λ (s : Segment). not (has_id id s)) (IsSmall last) heap.segments kept.small);
      drawn = kept.drawn;
      used = λ place run is has.
          let was = left run has in
          Contains-permutation (dropped heap.used id) new.used run drops.used (contains_left heap.used id run (kept.used place run is was.0) was.1);
      once = λ place other run is too has. kept.once place other run is too (left run has).0;
    }

-- a piece was freed
pub kept_freed : (heap new : Contents) (ids : List ℕ) (pieces : List (Option Run)) (last place : ℕ) (span : Run) → IsSoundClientHeap heap ids pieces last → IsPiece pieces place span → Frees heap new span → IsPartition new → IsSoundClientHeap new ids (set pieces place None) last
kept_freed heap new ids pieces last place span kept here frees partition =
    let was : (run : Run) → has_segment new.segments run.segment ≡ true → has_segment heap.segments run.segment ≡ true = λ run is. subst (λ (ss : List Segment). has_segment ss run.segment ≡ true) frees.segments is in
    record {
      partition = partition;
      numbers = kept.numbers ∙ ap (λ (ss : List Segment). map (λ (s : Segment). s.id) ss) (sym frees.segments);
      small = rw frees.segments kept.small;
      drawn = λ other run is. kept.drawn other run (piece_set pieces place other run is).0;
      used = λ other run is has.
          let old = piece_set pieces place other run is in
          Contains-rest new.used span run (Contains-permutation heap.used (span ∷ new.used) run frees.used (kept.used other run old.0 (was run has)))
          (λ same. old.1 (kept.once other place run old.0 (subst (IsPiece pieces place) (sym same) here) (was run has)));
      once = λ one other run is too has. kept.once one other run (piece_set pieces place one run is).0 (piece_set pieces place other run too).0 (was run has);
    }

-- a segment came, with a piece
pub kept_adopted : (heap new : Contents) (ids : List ℕ) (pieces : List (Option Run)) (last id whole pages : ℕ) (span : Run) → IsSoundClientHeap heap ids pieces last → last < id → whole ≤ MOST_PAGES → GrowsFront heap new id whole pages span → IsPartition new
    → IsSoundClientHeap new (ids ++ id ∷ []) (pieces ++ Some span ∷ []) id
kept_adopted heap new ids pieces last id whole pages span kept past sized grows partition =
    let at : span.segment ≡ id = ap (λ (r : Run). r.segment) grows.front in
    let older : (place : ℕ) (run : Run) → IsPiece pieces place run → run.segment ≢ id = λ place run is same. let low = kept.drawn place run is in absurd (omega (arith, same, low, past)) in
    let was : (place : ℕ) (run : Run) → IsPiece pieces place run → has_segment new.segments run.segment ≡ true → has_segment heap.segments run.segment ≡ true =
    λ place run is has. has_grown heap.segments id whole run.segment (subst (λ (ss : List Segment). has_segment ss run.segment ≡ true) grows.segments has) (older place run is) in
    record {
      partition = partition;
      numbers = ap (λ ns. ns ++ id ∷ []) kept.numbers ∙ (sym (map-append (λ (s : Segment). s.id) heap.segments (segment_of id whole ∷ [])) ∙ ap (λ (ss : List Segment). map (λ (s : Segment). s.id) ss) (sym grows.segments));
      small = rw grows.segments (All-append (IsSmall id) heap.segments (segment_of id whole ∷ []) (All-weaker (IsSmall last) (IsSmall id) (λ s is. (omega (arith, is.0, past), is.1)) heap.segments kept.small)
          (All-cons (IsSmall id) (segment_of id whole) [] (omega arith, sized) (All-nil (IsSmall id))));
      drawn = λ place run is. elim (piece_pushed pieces (Some span) place run is) [
        | inl old ↦ let low = kept.drawn place run old in omega (arith, low, past)
        | inr came ↦ subst (λ (r : Run). r.segment ≤ id) (same_Some span run came.1) (omega (arith, at))
      ];
      used = λ place run is has. elim (piece_pushed pieces (Some span) place run is) [
        | inl old ↦ grows.keeps run (kept.used place run old (was place run old has)) (older place run old)
        | inr came ↦ subst (Contains new.used) (same_Some span run came.1) grows.has
      ];
      once = λ place other run is too has. elim (piece_pushed pieces (Some span) place run is) [
        | inl one ↦ elim (piece_pushed pieces (Some span) other run too) [
          | inl two ↦ kept.once place other run one two (was place run one has)
          | inr came ↦ absurd (older place run one (ap (λ (r : Run). r.segment) (sym (same_Some span run came.1)) ∙ at))
        ]
        | inr came ↦ elim (piece_pushed pieces (Some span) other run too) [
          | inl two ↦ absurd (older other run two (ap (λ (r : Run). r.segment) (sym (same_Some span run came.1)) ∙ at))
          | inr also ↦ came.0 ∙ sym also.0
        ]
      ];
    }
