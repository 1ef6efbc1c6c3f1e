-- What the accounts of a cache tell once it is closed.
use Rattle.std.proofs.Common.{◌≡◌, ℕ, suc, ◌≤◌, List, [], ◌∷◌, length, get_or, refl, ap, inl, inr, arith}
use Rattle.std.specs.List.{All}
use Rattle.std.specs.Map.{keys_of}
use Rattle.std.proofs.lemmas.List.Elements.{All-nil}
use Rattle.span_heap.specs.declared.run.Run.{Run}
use Rattle.client.specs.Gone.{Includes}
use Rattle.units.specs.Sizes.{pages_for}
use Rattle.client.specs.Granting.{LAST_COUNT}
use Rattle.tile_cache.specs.Cached.{Cached, runs_of}
use Rattle.tile_cache.specs.Sound.{IsSoundCache}
use Rattle.tile_cache.specs.Ended.{Ended, Closes}
use Rattle.tile_cache.specs.Bound.{EndsBounded}
use Rattle.tile_cache.specs.Accounts.{makes_of, over_segments}
use Rattle.tile_cache.proofs.EntriesReordered.{Entry, runs_all}
use Rattle.tile_cache.proofs.Accounting.{AreKnown, present, known_owned, lost_bounded, kept_bounded}

-- one run for each tile
runs_as_keys : (entries : List Entry) → length (runs_of entries) ≡ length (keys_of entries)
runs_as_keys [] = refl
runs_as_keys (e ∷ entries) = ap suc (runs_as_keys entries)

length_keys : (entries : List Entry) → length (keys_of entries) ≡ length entries
length_keys [] = refl
length_keys (e ∷ entries) = ap suc (length_keys entries)

pub ends_bounded : {G : Type 0} (cache : Cached G) (room : ℕ) (end : Ended) → IsSoundCache cache room → Closes cache end → Includes cache.session.client.gone end.client.gone → length cache.entries ≤ LAST_COUNT → EndsBounded cache end
ends_bounded cache room end kept closes includes few fresh all size sized =
    let is = kept.accounts fresh all size sized in
    let some : 1 ≤ pages_for size = omega arith in
    let known : AreKnown cache.session.client (runs_of cache.entries) = runs_all (λ (run : Run). 1 ≤ over_segments (present run.segment) cache.session.client) cache.entries (λ k d within. known_owned cache.session.client (get_or cache.entries k d).1 (kept.entries.owned k d within)) in
    let less : length (runs_of cache.entries) ≤ LAST_COUNT = omega (arith, few, runs_as_keys cache.entries, length_keys cache.entries) in
    let lost = lost_bounded (pages_for size) cache.start.client.standard cache.session.client cache.session.grants cache.counts.rebuilt (makes_of cache.counts) (runs_of cache.entries) some is end.client.gone includes in
    let held = kept_bounded (pages_for size) cache.start.client.standard cache.session.client cache.session.grants cache.counts.rebuilt (makes_of cache.counts) (runs_of cache.entries) some is sized_all known less in
    record {
      lost = rw closes.counts lost;
      kept = rw (closes.tiles, closes.grants, ← runs_as_keys cache.entries) held;
      granted = rw (closes.counts, closes.grants) is.granted;
    }
  where
    sized_all : All (λ (run : Run). run.pages ≡ pages_for size) (runs_of cache.entries)
    sized_all =
        elim sized [
          | inl new ↦ rw (kept.unused new) (All-nil (λ (run : Run). run.pages ≡ pages_for size))
          | inr same ↦ rw same at kept.sized
        ]
