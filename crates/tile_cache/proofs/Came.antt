-- What an entry's coming does to the client and the entries, from the calls that it makes.
use Rattle.std.proofs.Common.{◌≡◌, ◌≢◌, ℕ, ◌-◌, ◌<◌, ◌≤◌, Bool, true, false, ◌||◌, cond, List, [], ◌∷◌, length, get_or, Some, None, Err, refl, ap, ◌∙◌, inl, inr, arith}
use Rattle.std.specs.Map.{lookup, lookup_entry}
use Rattle.std.proofs.lemmas.Bool.{both_ways}
use Rattle.std.proofs.lemmas.List.{take_all}
use Rattle.lru.specs.LruCache.{LruCache, put_entries}
use Rattle.tile_cache.specs.Recent.{is_same}
use Rattle.tile_source.specs.declared.tile.Tile.{Tile}
use Rattle.client.specs.declared.granted.ClientFault.{ClientFault}
use Rattle.client.specs.declared.granted.ClientFault.TheVariants as fault
use Rattle.client.specs.Gone.{Includes}
use Rattle.client.specs.Seen.{Seen}
use Rattle.client.specs.Pieces.{Part, AllStay, OthersStay, IsNew, AreApart}
use Rattle.client.specs.Calls.{KeepsName, AfterFree}
use Rattle.client.specs.Granting.{Session, Misses, IsTooLarge, IsOutOfMemory}
use Rattle.tile_cache.specs.Cached.{OwnsEntries}
use Rattle.tile_cache.specs.Steps.{NoneComes}
use Rattle.tile_cache.specs.Coming.{EntriesStay, GoneStay}
use Rattle.tile_cache.proofs.ClientSteps.{same_name, name_on, name_found, still_gone}
use Rattle.tile_cache.proofs.EntriesReordered.{Entry}
use Rattle.tile_cache.proofs.EntriesStay.{all_stay, not_gone_before, has_first}

name_missed : (pages : ℕ) (old new : Seen) → Misses pages old new → KeepsName old new
name_missed pages old new misses =
    let told : KeepsName misses.releases.swept new = record { number = ap (λ (seen : Seen). seen.number) misses.releases.told; standard = ap (λ (seen : Seen). seen.standard) misses.releases.told } in
    name_on old misses.missed new (name_found pages misses.lost None old misses.missed misses.finds) (name_on misses.missed misses.releases.swept new misses.releases.sweeps.name told)

pub name_none : {G : Type 0} (size : ℕ) (fault : ClientFault) (old new : Session G) → IsTooLarge size (Err fault) old new → IsOutOfMemory size (Err fault) old new → KeepsName old.client new.client
name_none size fault.NoMemory old new large out = name_missed out.0 old.client new.client out.2
name_none size (fault.TooLarge pages) old new large out = rw large.2 (same_name old.client)

pub none_came : {G : Type 0} (now size : ℕ) (fault : ClientFault) (old new : Session G) → IsTooLarge size (Err fault) old new → IsOutOfMemory size (Err fault) old new → NoneComes now size old new
none_came now size fault.NoMemory old new large out = inr (inl out)
none_came now size (fault.TooLarge pages) old new large out = inl large.2

pub gone_stays : (old new : Seen) → Includes old.gone new.gone → GoneStay old new
gone_stays old new includes = λ id was. still_gone old.gone new.gone id includes was

other_run : (piece part : Part) → 1 ≤ piece.run.pages → AreApart piece.run part.run → part.run ≢ piece.run
other_run piece part some apart = λ same.
    let here = has_first piece.run some in
    both_ways _ (apart piece.run.segment piece.run.first) (rw (same, here) refl)

-- a piece came and was freed again
pub stay_freed : (told : Bool) (pages now : ℕ) (piece : Part) (old between new : Seen) (entries : List Entry) → OwnsEntries old entries → 1 ≤ pages → IsNew pages old between piece → AllStay old between
    → AfterFree told piece now between new → OthersStay piece.run between new → EntriesStay old new entries
stay_freed told pages now piece old between new entries owned some fresh stay frees stays = λ k d within.
    let first = all_stay old between entries stay owned.owned k d within in
    let differ = other_run piece (get_or entries k d).1 (rw fresh.sized some) (fresh.apart (get_or entries k d).1 (owned.owned k d within)) in
    let second = stays (get_or entries k d).1 first.owned differ in
    record {
      owned = second.owned;
      gone = λ was. second.gone (first.gone was);
      bytes = λ there. second.bytes there ∙ first.bytes (not_gone_before between new (get_or entries k d).1 second there);
    }

-- an entry is put in front, where there is room and the tile has none
entry_absent : (tile : Tile) (es : List Entry) → lookup (is_same tile) es ≡ None → lookup_entry (is_same tile) es ≡ None
entry_absent tile [] none = refl
entry_absent tile (x ∷ es) none = go (is_same tile x.0) none (entry_absent tile es)
  where
    go : (b : Bool) → cond b (Some x.1) (lookup (is_same tile) es) ≡ None → (lookup (is_same tile) es ≡ None → lookup_entry (is_same tile) es ≡ None) → cond b (Some x) (lookup_entry (is_same tile) es) ≡ None
    go true is rest = cc
    go false is rest = rest is

pub put_front : (lru : LruCache Tile Part) (tile : Tile) (piece : Part) → lookup (is_same tile) lru.entries ≡ None → length lru.entries < lru.cap → put_entries is_same lru tile piece ≡ (tile, piece) ∷ lru.entries
put_front lru tile piece none room = rw (entry_absent tile lru.entries none) (ap (λ (es : List Entry). (tile, piece) ∷ es) (take_all (lru.cap - 1) lru.entries (omega (arith, room))))

pub or_cond : (a b : Bool) → cond a true b ≡ (a || b)
or_cond true b = refl
or_cond false b = refl
