-- What the calls on the entries and the client give, in the form in which they answer.
use Rattle.std.proofs.Common.{◌≡◌, ℕ, zero, suc, ◌+◌, ◌-◌, ◌<◌, ◌≤◌, Bool, true, false, List, [], ◌∷◌, ◌++◌, length, take, drop, Some, None, refl, sym, ap, subst, ◌∙◌, arith}
use Rattle.std.specs.List.{All, slice_get, IsDistinct}
use Rattle.std.specs.Option.{option_map_or}
use Rattle.std.specs.Map.{lookup, lookup_entry, remove_entry, set_value}
use Rattle.std.proofs.lemmas.Nat.{div-add-mod', mod_below}
use Rattle.std.proofs.lemmas.List.{length-take}
use Rattle.std.specs.Prelude.{◌*◌, ◌/◌, ◌%◌}
use Rattle.std.proofs.lemmas.Option.{same_Some}
use Rattle.std.proofs.lemmas.List.Elements.{All-head, All-contains}
use Rattle.lru.proofs.CallerLemmas.{Contains-lookup_entry}
use Rattle.tile_source.specs.declared.tile.Tile.{Tile}
use Rattle.segment.specs.declared.owner.Lock.{Lock}
use Rattle.span_heap.specs.declared.run.Run.{Run}
use Rattle.client.specs.Seen.{Seen}
use Rattle.client.specs.Pieces.{Part, Owns, OthersStay, UnlocksPiece, LocksPiece, WritesPiece, bytes_of, part_after_lock, written_run}
use Rattle.client.specs.Calls.{KeepsName, UnlocksRun, LocksPart, AfterFree}
use Rattle.units.specs.Sizes.{pages_for}
use Rattle.units.specs.declared.TheConstants.{PAGE}
use Rattle.client.specs.Granting.{Session}
use Rattle.client.specs.declared.answers.Unlocked.{Unlocked}
use Rattle.tile_cache.specs.declared.counts.Shown.TheVariants.{Rebuilt}
use Rattle.tile_cache.specs.Recent.{is_same}
use Rattle.tile_cache.specs.Cached.{Cached, OwnsEntries, AreFree, HaveTiles, IsUsedWith, tiles_of, runs_of}
use Rattle.tile_cache.specs.Sound.{IsSoundCache}
use Rattle.tile_cache.specs.Coming.{Clears}
use Rattle.tile_cache.specs.Accounts.{SameSegments}
use Rattle.tile_cache.proofs.Segments.{segments_same}
use Rattle.tile_cache.specs.Getting.{Rests, LocksEntry, MakesRoom, IsFirst, Lent, Writes}
use Rattle.tile_cache.proofs.TilesAskedLast.{same_itself}
use Rattle.tile_cache.proofs.EntriesReordered.{Entry, value_found, found_key, once_distinct}
use Rattle.tile_cache.proofs.CacheSteps.{with_entries, first_is, none_first, set_first, unlocked_first, locked_found, left_last, cleared, filled}

-- the piece that is found at the first entry's tile is the first entry's
pub found_first : (entries : List Entry) (e : Entry) (piece : Part) → slice_get entries 0 ≡ Some e → Some piece ≡ lookup (is_same e.0) entries → piece ≡ e.1
found_first [] e piece is found = cc
found_first (x ∷ entries) e piece is found =
    let same : x ≡ e = cc in
    let test : is_same e.0 x.0 ≡ true = rw (ap (λ (y : Entry). y.0) same) (same_itself e.0) in
    same_Some _ _ (rw test at found) ∙ ap (λ (y : Entry). y.1) same

pub first_owned : (client : Seen) (entries : List Entry) (e : Entry) (piece : Part) → OwnsEntries client entries → slice_get entries 0 ≡ Some e → Some piece ≡ lookup (is_same e.0) entries → Owns client piece
first_owned client entries e piece owned is found =
    rw (found_first entries e piece is found) (All-head (λ (e : Entry). Owns client e.1) e (drop 1 entries) (rw (first_is entries e is) at owned.owned))

pub first_is_owned : (client : Seen) (entries : List Entry) (e : Entry) → OwnsEntries client entries → slice_get entries 0 ≡ Some e → Owns client e.1
first_is_owned client entries e owned is = All-head (λ (e : Entry). Owns client e.1) e (drop 1 entries) (rw (first_is entries e is) at owned.owned)

-- what is found among owned entries of which none is locked
pub found_owned : (client : Seen) (tile : Tile) (entries : List Entry) (piece : Part) → OwnsEntries client entries → AreFree entries → Some piece ≡ lookup (is_same tile) entries → Owns client piece × (piece.locked ≡ false)
found_owned client tile entries piece owned free found =
    let (e, at, is) = value_found (is_same tile) entries piece (sym found) in
    let there = (Contains-lookup_entry (is_same tile) entries e at).0 in
    (rw (← is) (All-contains (λ (e : Entry). Owns client e.1) entries e owned.owned there), rw (← is) (All-contains (λ (e : Entry). e.1.locked ≡ false) entries e free there))

module _ {G : Type 0} (old : Cached G) (room : ℕ) (kept : IsSoundCache old room) (session : Session G) (same : session ≡ record old.session { client = session.client }) where
  -- the cache with another session and other entries
  abbrev pub with_session : List Entry → Cached G
  with_session entries = record old { session = session; entries = entries }

  with_same : (entries others : List Entry) → entries ≡ others → with_session entries ≡ with_entries old session.client others
  with_same entries others is =
      ap (λ (s : Session G). record old { session = s; entries = entries }) same ∙ ap (λ (es : List Entry). with_entries old session.client es) is

  -- the first piece was unlocked
  pub rest_done : (e : Entry) (found piece : Part) (now : ℕ) (told : Unlocked) → slice_get old.entries 0 ≡ Some e → e.1.locked ≡ true → Some found ≡ lookup (is_same e.0) old.entries
      → UnlocksRun found.run now told old.session.client session.client → UnlocksPiece found old.session.client session.client → piece ≡ record found { locked = false }
      → Rests now old (with_session (set_value (is_same e.0) old.entries piece)) × IsSoundCache (with_session (set_value (is_same e.0) old.entries piece)) room
  rest_done e found piece now told first locked at run unlocks is =
      let found_is = found_first old.entries e found first at in
      let done = unlocked_first old room e.0 e.1 (drop 1 old.entries) session.client now told kept (first_is old.entries e first) locked (rw found_is at run) (rw found_is at unlocks) in
      let entries : set_value (is_same e.0) old.entries piece ≡ (e.0, record e.1 { locked = false }) ∷ drop 1 old.entries = set_first e.0 piece old.entries e first refl ∙ ap (λ (p : Part). (e.0, p) ∷ drop 1 old.entries) (is ∙ ap (λ (p : Part). record p { locked = false }) found_is) in
      let new = with_same _ _ entries in
      (subst (λ (c : Cached G). Rests now old c) (sym new) done.0, subst (λ (c : Cached G). IsSoundCache c room) (sym new) done.1)

  -- a tile's entry was brought to the front and locked
  pub lock_done : (tile : Tile) (found piece : Part) (told : Lock) → AreFree old.entries → IsDistinct is_same (tiles_of old) → length old.entries ≤ room → Some found ≡ lookup (is_same tile) old.entries
      → LocksPart found told old.session.client session.client → LocksPiece told found old.session.client session.client → piece ≡ part_after_lock told found
      → LocksEntry tile told old (with_session (set_value (is_same tile) (option_map_or (λ e. e ∷ remove_entry (is_same tile) old.entries) (lookup_entry (is_same tile) old.entries) old.entries) piece))
      × IsSoundCache (with_session (set_value (is_same tile) (option_map_or (λ e. e ∷ remove_entry (is_same tile) old.entries) (lookup_entry (is_same tile) old.entries) old.entries) piece)) room
  lock_done tile found piece told free distinct few at locks leaves is =
      let (e, there, found_is) = value_found (is_same tile) old.entries found (sym at) in
      let key = found_key tile old.entries e there in
      let test : is_same tile e.0 ≡ true = rw key (same_itself tile) in
      let done = locked_found old room tile e session.client told kept free (once_distinct tile (tiles_of old) distinct) (rw kept.sized_room at few) there (rw (← found_is) at locks) (rw (← found_is) at leaves) in
      let set : set_value (is_same tile) (option_map_or (λ e. e ∷ remove_entry (is_same tile) old.entries) (lookup_entry (is_same tile) old.entries) old.entries) piece ≡ (e.0, piece) ∷ remove_entry (is_same tile) old.entries = rw there (rw test refl) in
      let entries = set ∙ ap (λ (p : Part). (e.0, p) ∷ remove_entry (is_same tile) old.entries) (is ∙ ap (part_after_lock told) (sym found_is)) in
      let new = with_same _ _ entries in
      (subst (λ (c : Cached G). LocksEntry tile told old c) (sym new) done.0, subst (λ (c : Cached G). IsSoundCache c room) (sym new) done.1)

  -- the last entry left
  pub room_done : (e : Entry) (entries : List Entry) (told : Bool) (now : ℕ) → AreFree old.entries → length old.entries ≤ room → old.most ≤ length old.entries → Some e ≡ slice_get old.entries (length old.entries - 1)
      → entries ≡ take (length old.entries - 1) old.entries → AfterFree told e.1 now old.session.client session.client → OthersStay e.1.run old.session.client session.client
      → MakesRoom now old (with_session entries) × IsSoundCache (with_session entries) room
  room_done e entries told now free few full last is frees stays =
      let size : length old.entries ≡ old.most = omega (arith, few, full, kept.sized_room) in
      let front : entries ≡ take (old.most - 1) old.entries = rw size at is in
      let split = split_last old.entries e (sym last) in
      let done = left_last old room e entries session.client told now kept free (split ∙ ap (λ (es : List Entry). es ++ e ∷ []) (sym is)) front frees stays in
      let new = with_same entries entries refl in
      (subst (λ (c : Cached G). MakesRoom now old c) (sym new) done.0, subst (λ (c : Cached G). IsSoundCache c room) (sym new) done.1)
    where
      split_last : (es : List Entry) (e : Entry) → slice_get es (length es - 1) ≡ Some e → es ≡ take (length es - 1) es ++ e ∷ []
      split_last [] e is = cc
      split_last (x ∷ []) e is =
          let same : x ≡ e = cc in
          ap (λ (y : Entry). y ∷ []) same
      split_last (x ∷ y ∷ es) e is =
          let less : length (x ∷ y ∷ es) - 1 ≡ suc (length (y ∷ es) - 1) = omega arith in
          rw less (ap (λ (zs : List Entry). x ∷ zs) (split_last (y ∷ es) e (rw less at is)))

-- the last of owned entries
pub last_owned : (client : Seen) (entries : List Entry) (e : Entry) → OwnsEntries client entries → Some e ≡ slice_get entries (length entries - 1) → Owns client e.1
last_owned client entries e owned last = go entries owned.owned (sym last)
  where
    go : (es : List Entry) → All (λ (e : Entry). Owns client e.1) es → slice_get es (length es - 1) ≡ Some e → Owns client e.1
    go [] all is = cc
    go (x ∷ es) all is = at (length (x ∷ es) - 1) (x ∷ es) all is
      where
        at : (k : ℕ) (ys : List Entry) → All (λ (e : Entry). Owns client e.1) ys → slice_get ys k ≡ Some e → Owns client e.1
        at k [] all is = cc
        at zero (y ∷ ys) all is =
            let same : y ≡ e = cc in
            subst (λ (z : Entry). Owns client z.1) same (All-head (λ (e : Entry). Owns client e.1) y ys all)
        at (suc k) (y ∷ ys) all is = at k ys (λ j d within. all (suc j) d (omega (arith, within))) is

-- entries that are as many as there may be have a last one
pub last_there : (entries : List Entry) (most : ℕ) → None ≡ slice_get entries (length entries - 1) → 1 ≤ most → most ≤ length entries → ⊥
last_there [] most none some full = omega (arith, some, full)
last_there (x ∷ entries) most none some full = no_last x entries none
  where
    no_last : (x : Entry) (es : List Entry) → None ≡ slice_get (x ∷ es) (length (x ∷ es) - 1) → ⊥
    no_last x [] is = cc
    no_last x (y ∷ es) is =
        let less : length (x ∷ y ∷ es) - 1 ≡ suc (length (y ∷ es) - 1) = omega arith in
        no_last y es (rw less at is)

-- a lost entry left
pub clear_done : {G : Type 0} (now : ℕ) (told : Bool) (e : Entry) (entries entries_now : List Entry) (old new : Session G) → OwnsEntries old.client entries → AreFree entries → slice_get entries 0 ≡ Some e
    → entries_now ≡ drop 1 entries → AfterFree told e.1 now old.client new.client → OthersStay e.1.run old.client new.client → new ≡ record old { client = new.client } → Clears now Rebuilt old new entries entries_now
clear_done {G} now told e entries entries_now old new owned free first left frees stays same =
    let is = first_is entries e first in
    let done = cleared now told e.0 e.1 (drop 1 entries) old new (rw is at owned) (rest_free e (drop 1 entries) (rw is at free)) frees stays same in
    subst (λ (es : List Entry). Clears now Rebuilt old new entries es) (sym left) (rw is done)
  where
    rest_free : (e : Entry) (es : List Entry) → AreFree (e ∷ es) → AreFree es
    rest_free e es all = λ k d within. all (suc k) d (omega (arith, within))

-- there is none
pub clear_empty : {G : Type 0} (now : ℕ) (session : Session G) (entries entries_now : List Entry) → OwnsEntries session.client entries → None ≡ slice_get entries 0 → entries_now ≡ drop 1 entries → Clears now Rebuilt session session entries entries_now
clear_empty now session entries entries_now owned none left =
    let empty = none_first entries (sym none) in
    record {
      entries = left;
      frees = λ first rest is. absurd (no_first (sym empty ∙ is));
      owned = rw empty (rw empty at owned);
      stay = rw empty (λ k d within. absurd (omega (arith, within)));
      gone = refl;
      name = record { number = refl; standard = refl };
      fits = omega arith;
      segments = segments_same session.client session.client refl;
      same = refl;
    }
  where
    no_first : {first : Entry} {rest : List Entry} → [] ≡ first ∷ rest → ⊥
    no_first e = cc

-- the first entry as it is peeked at is the first
pub peeked : (entries : List Entry) (tile key : Tile) (piece found : Part) (others : List Entry) → entries ≡ (tile, piece) ∷ others → Some (key, found) ≡ slice_get entries 0 → found ≡ piece
peeked [] tile key piece found others is at = cc
peeked (x ∷ entries) tile key piece found others is at =
    let first : x ≡ (tile, piece) = cc in
    ap (λ (y : Entry). y.1) (same_Some _ _ at ∙ first)

module _ {G : Type 0} (old : Cached G) (room : ℕ) (kept : IsSoundCache old room) (tile : Tile) (tile_of : Tile → List ℕ) (first : IsFirst tile old) (key : Tile) (piece : Part) (at : Some (key, piece) ≡ slice_get old.entries 0) where
  -- the first piece was written
  pub fill_done : (client : Seen) (w : List ℕ) → WritesPiece piece w old.session.client client → client ≡ written_run old.session.client piece.run w → client.gone ≡ old.session.client.gone → client.heap ≡ old.session.client.heap → KeepsName old.session.client client → SameSegments old.session.client client
      → take old.tile_bytes w ≡ tile_of tile → HaveTiles tile_of old.session.client old.tile_bytes (drop 1 old.entries)
      → (Lent tile (tile_of tile) (record old { session = record old.session { client = client } }) × IsUsedWith tile_of old.tile_bytes (record old { session = record old.session { client = client } }))
      × (Writes old (record old { session = record old.session { client = client } }) × IsSoundCache (record old { session = record old.session { client = client } }) room)
  fill_done client w writes written gone heap name segments front tiles =
      let is = peeked old.entries tile key first.0 piece first.1 first.2 at in
      filled old room tile first.0 first.1 client w tile_of kept first.2 first.3 (rw is at writes) (rw is at written) gone heap name segments front tiles

-- a tile's bytes lie in its pages
pub pages_hold : (n : ℕ) → n ≤ PAGE * pages_for n
pages_hold n =
    let whole : (n + (PAGE - 1)) / PAGE * PAGE + (n + (PAGE - 1)) % PAGE ≡ n + (PAGE - 1) = div-add-mod' (n + (PAGE - 1)) PAGE in
    let below : (n + (PAGE - 1)) % PAGE < PAGE = mod_below (n + (PAGE - 1)) PAGE (omega arith) in
    omega (arith, whole, below)

pub length_front : (n pages : ℕ) (bytes : List ℕ) → length bytes ≡ PAGE * pages → pages ≡ pages_for n → n ≡ length (take n bytes)
length_front n pages bytes size is = omega (arith, length-take n bytes, size, rw (← is) at (pages_hold n))

-- the pages of the piece at the front
pub sized_first : (entries : List Entry) (key : Tile) (piece : Part) (pages : ℕ) → Some (key, piece) ≡ slice_get entries 0 → All (λ (run : Run). run.pages ≡ pages) (runs_of entries) → piece.run.pages ≡ pages
sized_first [] key piece pages at all = cc
sized_first (x ∷ entries) key piece pages at all =
    let first : x ≡ (key, piece) = sym (same_Some _ _ at) in
    rw (← ap (λ (y : Entry). y.1.run.pages) first) (All-head (λ (run : Run). run.pages ≡ pages) x.1.run (runs_of entries) all)

-- what is lent is what is shown
pub lent_is : {G : Type 0} (cache : Cached G) (tile key : Tile) (piece : Part) (bytes shown : List ℕ) → Some (key, piece) ≡ slice_get cache.entries 0 → shown ≡ bytes_of cache.session.client piece.run → Lent tile bytes cache → take cache.tile_bytes shown ≡ bytes
lent_is cache tile key piece bytes shown at is lent =
    let same = peeked cache.entries tile key lent.piece piece lent.others lent.entries at in
    ap (take cache.tile_bytes) (is ∙ ap (λ (p : Part). bytes_of cache.session.client p.run) same) ∙ sym lent.front

pub locked_first : (entries : List Entry) (tile key : Tile) (piece found : Part) (others : List Entry) → entries ≡ (tile, piece) ∷ others → piece.locked ≡ true → Some (key, found) ≡ slice_get entries 0 → found.locked ≡ true
locked_first entries tile key piece found others is locked at = rw (peeked entries tile key piece found others is at) locked
