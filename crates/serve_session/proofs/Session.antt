-- What a session has done after one more request, and at its end.
use Rattle.std.proofs.Common.{◌≡◌, ◌⊎◌, ℕ, ◌+◌, ◌*◌, ◌/◌, ◌<◌, ◌≤◌, max, min, List, [], ◌∷◌, ◌++◌, length, inl, inr, sym, ap, subst, ◌∙◌, arith, length-append}
use Rattle.request_text.specs.declared.limits.TheConstants.{MOST_REQUESTS}
use Rattle.tile_source.specs.declared.tile.Tile.{Tile}
use Rattle.tile_source.specs.Image.{tile}
use Rattle.tile_source.specs.Maker.{MakerValue}
use Rattle.client.specs.Sizes.{pages_for}
use Rattle.client.specs.Granting.{LAST_COUNT, RoseBy, Session}
use Rattle.tile_cache.specs.declared.counts.Counts.{Counts}
use Rattle.tile_cache.specs.declared.counts.Shown.{Shown}
use Rattle.tile_cache.specs.declared.counts.Shown.TheVariants.{Kept, First, Rebuilt, Again}
use Rattle.tile_cache.specs.Recent.{recent}
use Rattle.tile_cache.specs.Shown.{counted}
use Rattle.tile_cache.specs.Cached.{Cached, IsUsedWith}
use Rattle.tile_cache.specs.Asked.{Count}
use Rattle.tile_cache.specs.Bound.{IsFresh, IsBounded, EndsBounded}
use Rattle.tile_cache.specs.Getting.{Gets, Rests, pages_of}
use Rattle.tile_cache.specs.Ended.{Ended, Closes}
use Rattle.serve_texts.specs.Config.{IsServeCfg, IsSide}
use Rattle.serve_session.specs.Tiling.{TilingValue, Makes, size_of, asked_by}
use Rattle.serve_session.specs.Running.{ServingValue, IsUsed, HasServed, all_counts}
use Rattle.serve_session.specs.Served.{IsServed, IsBoundedBySegments, counts_of, tile_pages}
use Rattle.serve_session.specs.declared.served.ServedClient.{ServedClient}

-- one more answer is one more count
one_more_count : (told : Shown) (counts : Counts) → all_counts counts < LAST_COUNT → all_counts (counted told counts) ≡ all_counts counts + 1
one_more_count Kept counts few = omega arith
one_more_count First counts few = omega arith
one_more_count Rebuilt counts few = omega arith
one_more_count Again counts few = omega arith

-- a tile takes at most 16 pages
few_pages : (side : ℕ) → IsSide side → pages_for (side * side) ≤ 16
few_pages side (inl h) = rw h (omega arith)
few_pages side (inr (inl h)) = rw h (omega arith)
few_pages side (inr (inr h)) = rw h (omega arith)

few_used : (bytes side : ℕ) → IsSide side → (bytes ≡ 0) ⊎ (bytes ≡ side * side) → pages_for bytes ≤ 16
few_used bytes side is (inl h) = rw h (omega arith)
few_used bytes side is (inr h) = rw h (few_pages side is)

-- the tally of a client is the one of its cache's end
pub record TalliesEnd (number : ℕ) (asked : List Tile) (served : ServedClient) : Type 0 where
  pub client : served.tally.client ≡ number
  pub requests : served.tally.requests ≡ length asked
  pub counts : counts_of served.tally ≡ served.end.counts
  pub grants : served.tally.grants ≡ served.end.client.grants

module _ {G : Type 0} where
  -- a cache that was used with a maker of the tiling's tiles was used for these tiles
  pub used_with_maker : (tiling : TilingValue) (maker : MakerValue) (cache : Cached G) → Makes tiling maker
      → IsUsedWith (λ (t : Tile). tile maker.image t.z t.x t.y maker.side) (maker.side * maker.side) cache → IsUsed tiling cache
  used_with_maker tiling maker cache makes used =
      subst (λ (f : Tile → List ℕ). IsUsedWith f (size_of tiling) cache) makes.tiles
      (subst (λ (n : ℕ). IsUsedWith (λ (t : Tile). tile maker.image t.z t.x t.y maker.side) n cache) makes.size used)

  -- a request was served: its tile was shown and copied behind its head, and the cache rested
  pub served_more : {begun moment : ℕ} (run : ServingValue) (asked : List Tile) (granter : G) (tile : Tile) (told : Shown) (old shown new : Cached G)
      → IsServeCfg run.cfg → length asked < MOST_REQUESTS
      → HasServed run asked granter old
      → Gets begun tile told old shown → IsUsed run.tiling shown → Rests moment shown new
      → HasServed run (asked ++ tile ∷ []) granter new
  served_more run asked granter tile told old shown new lawful few has gets used rests =
      let counts : new.counts ≡ counted told old.counts = ap (λ (c : Cached G). c.counts) rests.same ∙ gets.counts in
      let before : all_counts old.counts ≡ length asked = has.count in
      let rises : all_counts (counted told old.counts) ≡ all_counts old.counts + 1 = one_more_count told old.counts (omega arith) in
      let more : length (asked ++ tile ∷ []) ≡ length asked + 1 = length-append asked (tile ∷ []) in
      let small : pages_for shown.tile_bytes ≤ 16 = few_used shown.tile_bytes run.tiling.side (subst IsSide (sym has.side) lawful.side) used.sized in
      let start : new.start ≡ old.start = ap (λ (c : Cached G). c.start) rests.same ∙ gets.keeps.start in
      let same : pages_of new.session.client ≡ pages_of shown.session.client = ap (λ h. pages_of (record shown.session.client { heap = h })) rests.heap in
      record {
        side = has.side;
        stands = rests.asked _ (gets.asked asked has.stands).1;
        used = rests.used _ _ used;
        count = ap all_counts counts ∙ (rises ∙ omega arith);
        most = ap (λ (c : Cached G). c.most) rests.same ∙ (gets.keeps.most ∙ has.most);
        failed = ap (λ (c : Cached G). c.failed) rests.same ∙ (gets.failed ∙ has.failed);
        idle = rests.free;
        fresh = subst IsFresh (sym start) has.fresh;
        first_standard = ap (λ (s : Session G). s.client.standard) start ∙ has.first_standard;
        over = ap (λ (c : Cached G). c.start.start) rests.same ∙ (ap (λ s. s.start) gets.keeps.start ∙ has.over);
        standard = rests.name.standard ∙ (gets.keeps.name.standard ∙ has.standard);
        pages = omega (arith, same, gets.pages, small, more, has.pages, has.standard, lawful.standard);
      }

  -- a cache's end is bounded by its client's segments
  end_bounded : (run : ServingValue) (asked : List Tile) (granter : G) (cache : Cached G) (end : Ended)
      → HasServed run asked granter cache → EndsBounded cache end
      → IsBounded (tile_pages run.cfg.side) run.cfg.standard end
  end_bounded run asked granter cache end has ends =
      subst (λ (n : ℕ). IsBounded (tile_pages run.cfg.side) n end) has.first_standard
      (subst (λ (n : ℕ). IsBounded (tile_pages n) cache.start.client.standard end) has.side (ends has.fresh has.failed (size_of run.tiling) has.used.sized))

  -- a client whose requests were all served, at the closing of its cache
  pub served_closed : (run : ServingValue) (number : ℕ) (granter : G) (cache : Cached G) (served : ServedClient)
      → length (asked_by number run.requests) ≤ MOST_REQUESTS
      → HasServed run (asked_by number run.requests) granter cache
      → Closes cache served.end → EndsBounded cache served.end
      → TalliesEnd number (asked_by number run.requests) served
      → IsServed run.cfg number run.requests served
  served_closed run number granter cache served few has closes ends tallies =
      let asked = asked_by number run.requests in
      let told : counts_of served.tally ≡ cache.counts = tallies.counts ∙ closes.counts in
      let count : Count run.cfg.entries asked cache.counts = subst (λ (n : ℕ). Count n asked cache.counts) has.most (has.stands.counts (omega arith)) in
      let tiles : served.end.tiles ≡ recent asked run.cfg.entries = closes.tiles ∙ (has.stands.entries ∙ ap (recent asked) has.most) in
      let bounded = end_bounded run asked granter cache served.end has ends in
      let rebuilt : served.tally.rebuilt ≡ served.end.counts.rebuilt = ap (λ (c : Counts). c.rebuilt) tallies.counts in
      let first : served.tally.first ≡ served.end.counts.first = ap (λ (c : Counts). c.first) tallies.counts in
      let again : served.tally.again ≡ served.end.counts.again = ap (λ (c : Counts). c.again) tallies.counts in
      record {
        client = tallies.client;
        tallies = record {
          requests = tallies.requests;
          first = ap (λ (c : Counts). c.first) told ∙ count.first;
          hits = ap (λ (c : Counts). c.kept + c.rebuilt) told ∙ count.hit;
          again = ap (λ (c : Counts). c.again) told ∙ count.again;
          tiles = tiles;
          counts = sym tallies.counts;
          grants = sym tallies.grants;
        };
        bounded = record {
          gone = closes.gone;
          lost = omega (arith, rebuilt, bounded.lost);
          kept = subst (λ (n : ℕ). length (recent asked run.cfg.entries) ≤ n * (max run.cfg.standard (tile_pages run.cfg.side) / tile_pages run.cfg.side)) (sym tallies.grants)
              (subst (λ (l : List Tile). length l ≤ served.end.client.grants * (max run.cfg.standard (tile_pages run.cfg.side) / tile_pages run.cfg.side)) tiles bounded.kept);
          granted = omega (arith, rebuilt, first, again, tallies.grants, bounded.granted);
        };
      }

  -- so it was granted few segments
  pub few_granted : (run : ServingValue) (asked : List Tile) (granter : G) (cache : Cached G) (served : ServedClient)
      → length asked ≤ MOST_REQUESTS → HasServed run asked granter cache → Closes cache served.end
      → counts_of served.tally ≡ served.end.counts → IsBoundedBySegments run.cfg asked served
      → served.tally.grants ≤ MOST_REQUESTS
  few_granted run asked granter cache served few has closes counts bounded =
      let told : counts_of served.tally ≡ cache.counts = counts ∙ closes.counts in
      let all : served.tally.first + (served.tally.kept + (served.tally.rebuilt + served.tally.again)) ≡ length asked = ap all_counts told ∙ has.count in
      omega (arith, all, few, bounded.granted)

-- a count that rose from 0 is what it rose by
pub rose_from_none : (then now n : ℕ) → then ≡ 0 → n ≤ LAST_COUNT → RoseBy then now n → now ≡ n
rose_from_none then now n none within rose =
    let is : now ≡ min LAST_COUNT (then + n) = rose (omega arith) in
    omega (arith, is)
