-- What a cache stands for after one more request.
use Rattle.std.proofs.Common.{◌≡◌, ℕ, zero, suc, ◌+◌, ◌<◌, ◌≤◌, Bool, true, false, ◌||◌, cond, List, [], ◌∷◌, ◌++◌, length, take, reverse, Some, refl, sym, ap, ◌∙◌, arith, append_assoc, append-nil, length-append}
use Rattle.std.proofs.lemmas.List.{reverse-append}
use Rattle.std.specs.Map.{lookup}
use Rattle.std.proofs.lemmas.Bool.{both_ways, true_from_ne_false, or_parts}
use Rattle.std.proofs.lemmas.List.Folds.{list_any-append}
use Rattle.tile_source.specs.declared.tile.Tile.{Tile}
use Rattle.client.specs.Pieces.{Part}
use Rattle.client.specs.Granting.{LAST_COUNT}
use Rattle.tile_cache.specs.declared.counts.Counts.{Counts}
use Rattle.tile_cache.specs.declared.counts.Shown.{Shown}
use Rattle.tile_cache.specs.declared.counts.Shown.TheVariants.{Kept, First, Rebuilt, Again}
use Rattle.tile_cache.specs.Recent.{is_same, has_tile, each_once, is_hit, is_first, is_again, count_after}
use Rattle.tile_cache.specs.Shown.{counted, no_counts}
use Rattle.tile_cache.specs.Cached.{Cached, tiles_of}
use Rattle.tile_cache.specs.Asked.{Count, StandsFor, Fits}
use Rattle.tile_cache.specs.Getting.{Answers, left}
use Rattle.tile_cache.proofs.TilesAskedLast.{absent_less, recent_more, same_turned}
use Rattle.tile_cache.proofs.EntriesReordered.{key_there}

count_more : (kind : List Tile → Tile → Bool) (before asked : List Tile) (tile : Tile) → count_after kind before (asked ++ tile ∷ []) ≡ count_after kind before asked + cond {A = ℕ} (kind (before ++ asked) tile) 1 0
count_more kind before [] tile = rw (append-nil before) (omega arith)
count_more kind before (x ∷ asked) tile =
    omega (arith, rw (append_assoc before (x ∷ []) asked) at (count_more kind (before ++ x ∷ []) asked tile))

count_le : (kind : List Tile → Tile → Bool) (before asked : List Tile) → count_after kind before asked ≤ length asked
count_le kind before [] = omega arith
count_le kind before (x ∷ asked) = go (kind before x) (count_le kind (before ++ x ∷ []) asked)
  where
    go : (b : Bool) → count_after kind (before ++ x ∷ []) asked ≤ length asked → cond {A = ℕ} b 1 0 + count_after kind (before ++ x ∷ []) asked ≤ length (x ∷ asked)
    go true low = omega (arith, low)
    go false low = omega (arith, low)

rises : (kind : List Tile → Tile → Bool) (asked : List Tile) (tile : Tile) → kind asked tile ≡ true → count_after kind [] (asked ++ tile ∷ []) ≡ count_after kind [] asked + 1
rises kind asked tile is = rw is at (count_more kind [] asked tile)

stays : (kind : List Tile → Tile → Bool) (asked : List Tile) (tile : Tile) → kind asked tile ≡ false → count_after kind [] (asked ++ tile ∷ []) ≡ count_after kind [] asked
stays kind asked tile none = omega (arith, rw none at (count_more kind [] asked tile))

-- a tile that was never asked is not among those asked last
absent_reverse : (tile : Tile) (asked : List Tile) → has_tile asked tile ≡ false → has_tile (reverse asked) tile ≡ false
absent_reverse tile [] absent = refl
absent_reverse tile (x ∷ asked) absent =
    let parts = or_parts (is_same tile x) (has_tile asked tile) absent in
    ap (λ xs. has_tile xs tile) (reverse-append (x ∷ []) asked) ∙ (list_any-append (is_same tile) (reverse asked) (x ∷ []) ∙ rw (absent_reverse tile asked parts.1, parts.0) refl)

absent_once : (tile : Tile) (tiles : List Tile) → has_tile tiles tile ≡ false → has_tile (each_once tiles) tile ≡ false
absent_once tile [] absent = refl
absent_once tile (x ∷ tiles) absent =
    let parts = or_parts (is_same tile x) (has_tile tiles tile) absent in
    rw parts.0 (absent_less tile x (each_once tiles) (absent_once tile tiles parts.1))

absent_take : (tile : Tile) (n : ℕ) (tiles : List Tile) → has_tile tiles tile ≡ false → has_tile (take n tiles) tile ≡ false
absent_take tile zero tiles absent = refl
absent_take tile (suc n) [] absent = refl
absent_take tile (suc n) (x ∷ tiles) absent =
    let parts = or_parts (is_same tile x) (has_tile tiles tile) absent in
    rw parts.0 (absent_take tile n tiles parts.1)

no_hit : (n : ℕ) (asked : List Tile) (tile : Tile) → has_tile asked tile ≡ false → is_hit n asked tile ≡ false
no_hit n asked tile absent = absent_take tile n _ (absent_once tile _ (absent_reverse tile asked absent))

was_asked : (n : ℕ) (asked : List Tile) (tile : Tile) → is_hit n asked tile ≡ true → has_tile asked tile ≡ true
was_asked n asked tile hit = true_from_ne_false _ (λ absent. both_ways _ (no_hit n asked tile absent) hit)

-- which kinds a request is of
hit_kinds : (n : ℕ) (asked : List Tile) (tile : Tile) → is_hit n asked tile ≡ true → (is_first asked tile ≡ false) × (is_again n asked tile ≡ false)
hit_kinds n asked tile hit = (rw (was_asked n asked tile hit) refl, rw (was_asked n asked tile hit, hit) refl)

first_kinds : (n : ℕ) (asked : List Tile) (tile : Tile) → has_tile asked tile ≡ false → (is_hit n asked tile ≡ false) × ((is_first asked tile ≡ true) × (is_again n asked tile ≡ false))
first_kinds n asked tile absent = (no_hit n asked tile absent, (rw absent refl, rw absent refl))

again_kinds : (n : ℕ) (asked : List Tile) (tile : Tile) → has_tile asked tile ≡ true → is_hit n asked tile ≡ false → (is_first asked tile ≡ false) × (is_again n asked tile ≡ true)
again_kinds n asked tile was missed = (rw was refl, rw (was, missed) refl)

module _ (n : ℕ) (asked : List Tile) (tile : Tile) (counts : Counts) (short : length (asked ++ tile ∷ []) < LAST_COUNT) (before : length asked < LAST_COUNT → Count n asked counts) where
  shorter : length asked + 1 < LAST_COUNT
  shorter = omega (arith, short, length-append asked (tile ∷ []))

  was : Count n asked counts
  was = before (omega (arith, shorter))

  counts_hit : is_hit n asked tile ≡ true → Count n (asked ++ tile ∷ []) (counted Kept counts) × Count n (asked ++ tile ∷ []) (counted Rebuilt counts)
  counts_hit hit =
      let kinds = hit_kinds n asked tile hit in
      let first = was.first ∙ sym (stays is_first asked tile kinds.0) in
      let again = was.again ∙ sym (stays (is_again n) asked tile kinds.1) in
      let few = count_le (is_hit n) [] asked in
      let more = rises (is_hit n) asked tile hit in (
        record { first = first; hit = omega (arith, more, few, was.hit, shorter); again = again },
        record { first = first; hit = omega (arith, more, few, was.hit, shorter); again = again },
      )

  counts_first : has_tile asked tile ≡ false → Count n (asked ++ tile ∷ []) (counted First counts)
  counts_first absent =
      let kinds = first_kinds n asked tile absent in
      record {
        first = omega (arith, rises is_first asked tile kinds.1.0, count_le is_first [] asked, was.first, shorter);
        hit = was.hit ∙ sym (stays (is_hit n) asked tile kinds.0);
        again = was.again ∙ sym (stays (is_again n) asked tile kinds.1.1);
      }

  counts_again : has_tile asked tile ≡ true → is_hit n asked tile ≡ false → Count n (asked ++ tile ∷ []) (counted Again counts)
  counts_again there missed =
      let kinds = again_kinds n asked tile there missed in
      record {
        first = was.first ∙ sym (stays is_first asked tile kinds.0);
        hit = was.hit ∙ sym (stays (is_hit n) asked tile missed);
        again = omega (arith, rises (is_again n) asked tile kinds.1, count_le (is_again n) [] asked, was.again, shorter);
      }

-- a list of requests with one more has its tile, and those that it had
has_more : (asked : List Tile) (tile other : Tile) → has_tile (asked ++ tile ∷ []) other ≡ (is_same tile other || has_tile asked other)
has_more asked tile other = list_any-append (is_same other) asked (tile ∷ []) ∙ turn (has_tile asked other) (is_same other tile) (is_same tile other) (same_turned other tile)
  where
    turn : (a b c : Bool) → b ≡ c → (a || (b || false)) ≡ (c || a)
    turn true true c is = rw (← is) refl
    turn true false c is = rw (← is) refl
    turn false true c is = rw (← is) refl
    turn false false c is = rw (← is) refl

module _ {G : Type 0} (asked : List Tile) (tile : Tile) (told : Shown) (old new : Cached G) (stands : StandsFor asked old) where
  -- whether the request is a hit, by the entries
  hit_is : is_hit old.most asked tile ≡ has_tile (tiles_of old) tile
  hit_is = ap (λ tiles. has_tile tiles tile) (sym stands.entries)

  there : (piece : Part) → lookup (is_same tile) old.entries ≡ Some piece → is_hit old.most asked tile ≡ true
  there piece found = hit_is ∙ key_there tile old.entries piece found

  fits : (told : Shown) → Answers told tile old new → Fits told old.most asked tile
  fits Kept answer = there answer.0 answer.1
  fits Rebuilt answer = there answer.0 answer.1
  fits First answer = (first_kinds old.most asked tile (sym (stands.shown tile) ∙ answer)).1.0
  fits Again answer = (again_kinds old.most asked tile (sym (stands.shown tile) ∙ answer.0) (hit_is ∙ answer.1)).1

  counts_fit : (told : Shown) → Answers told tile old new → length (asked ++ tile ∷ []) < LAST_COUNT → Count old.most (asked ++ tile ∷ []) (counted told old.counts)
  counts_fit Kept answer short = (counts_hit old.most asked tile old.counts short stands.counts (there answer.0 answer.1)).0
  counts_fit Rebuilt answer short = (counts_hit old.most asked tile old.counts short stands.counts (there answer.0 answer.1)).1
  counts_fit First answer short = counts_first old.most asked tile old.counts short stands.counts (sym (stands.shown tile) ∙ answer)
  counts_fit Again answer short = counts_again old.most asked tile old.counts short stands.counts (sym (stands.shown tile) ∙ answer.0) (hit_is ∙ answer.1)

-- a cache that stands for some requests, after one more get
pub stands_more : {G : Type 0} (asked : List Tile) (tile : Tile) (told : Shown) (old new : Cached G) → 1 ≤ old.most → Answers told tile old new
    → tiles_of new ≡ tile ∷ left old.most tile (tiles_of old)
    → ((other : Tile) → has_tile new.shown other ≡ (is_same tile other || has_tile old.shown other))
    → new.counts ≡ counted told old.counts → new.most ≡ old.most
    → StandsFor asked old → Fits told old.most asked tile × StandsFor (asked ++ tile ∷ []) new
stands_more asked tile told old new some answer tiles shown counts most stands = (
  fits asked tile told old new stands told answer,
  record {
    entries = rw most (tiles ∙ (ap (λ ts. tile ∷ left old.most tile ts) stands.entries ∙ sym (recent_more asked tile old.most some)));
    shown = λ other. shown other ∙ (ap (λ b. is_same tile other || b) (stands.shown other) ∙ sym (has_more asked tile other));
    counts = λ short. rw (most, counts) (counts_fit asked tile told old new stands told answer short);
  },
)

-- a new cache stands for no request
pub stands_new : {G : Type 0} (cache : Cached G) → tiles_of cache ≡ [] → cache.shown ≡ [] → cache.counts ≡ no_counts → StandsFor [] cache
stands_new cache tiles shown counts = record {
  entries = tiles ∙ sym (none cache.most);
  shown = λ tile. ap (λ ts. has_tile ts tile) shown;
  counts = λ short. rw counts record { first = refl; hit = refl; again = refl };
}
  where
    none : (n : ℕ) → take {A = Tile} n [] ≡ []
    none zero = refl
    none (suc n) = refl

-- a cache with the same tiles, shown tiles and counts stands for the same requests
pub stands_same : {G : Type 0} (asked : List Tile) (old new : Cached G) → tiles_of new ≡ tiles_of old → new.shown ≡ old.shown → new.counts ≡ old.counts → new.most ≡ old.most → StandsFor asked old → StandsFor asked new
stands_same asked old new tiles shown counts most stands = record {
  entries = rw most (tiles ∙ stands.entries);
  shown = λ tile. ap (λ ts. has_tile ts tile) shown ∙ stands.shown tile;
  counts = λ short. rw (most, counts) (stands.counts short);
}
