-- What the steps of a get do to a cache, from what they do to its client and its entries.
use Rattle.std.proofs.Common.{◌≡◌, ◌≢◌, ℕ, suc, ◌+◌, ◌-◌, ◌<◌, ◌≤◌, Bool, true, false, ◌||◌, cond, max, ◌⊎◌, List, [], ◌∷◌, ◌++◌, length, take, drop, map, get_or, Some, None, refl, sym, ap, subst, ◌∙◌, inl, inr, arith}
use Rattle.std.specs.List.{All, slice_get}
use Rattle.std.specs.Map.{keys_of, lookup_entry, remove_entry, set_value}
use Rattle.std.proofs.lemmas.Bool.{both_ways}
use Rattle.std.proofs.lemmas.List.{take_all, map-append, append_cancel_left, length-append}
use Rattle.std.proofs.lemmas.List.Elements.{All-head, All-tail, All-cons, All-nil, All-drop}
use Rattle.std.proofs.lemmas.List.Sums.{sum_by-cons, sum_by_push}
use Rattle.tile_source.specs.declared.tile.Tile.{Tile}
use Rattle.segment.specs.declared.owner.Lock.{Lock}
use Rattle.segment.specs.declared.owner.Lock.TheVariants.{Held, Gone}
use Rattle.span_heap.specs.declared.run.Run.{Run}
use Rattle.span_heap.specs.Run.{has_page}
use Rattle.client.specs.Seen.{Seen, is_gone}
use Rattle.client.specs.Pieces.{Part, Owns, OthersStay, SameBytes, UnlocksPiece, LocksPiece, AreApart, WritesPiece, part_after_lock, bytes_of, written_run}
use Rattle.units.specs.Sizes.{pages_for}
use Rattle.client.specs.Sizes.{wanted}
use Rattle.client.specs.Granting.{Session, Allocates, AllocatesCounted, granted_pages}
use Rattle.units.specs.declared.TheConstants.{MOST_PAGES}
use Rattle.std.proofs.lemmas.Option.{same_Some}
use Rattle.std.specs.Prelude.{nat_lt}
use Rattle.client.specs.Calls.{KeepsName, UnlocksRun, LocksPart, AfterFree}
use Rattle.client.specs.declared.answers.Unlocked.{Unlocked}
use Rattle.tile_cache.specs.Recent.{is_same, has_tile, without}
use Rattle.tile_cache.specs.Cached.{Cached, OwnsEntries, AreFree, HaveTiles, HasBytes, IsUsedWith, ShareNoPage, runs_of, tiles_of}
use Rattle.tile_cache.specs.Sound.{IsSoundCache}
use Rattle.tile_cache.specs.Bound.{IsFresh}
use Rattle.tile_cache.specs.Accounts.{SameSegments, IsAccounted, Fits, makes_of, over_segments}
use Rattle.units.specs.Count.{next_count}
use Rattle.tile_cache.specs.declared.counts.Shown.{Shown}
use Rattle.tile_cache.specs.declared.counts.Shown.TheVariants.{Kept, First, Rebuilt, Again}
use Rattle.tile_cache.specs.Shown.{counted, no_counts}
use Rattle.tile_cache.specs.declared.counts.Counts.{Counts}
use Rattle.tile_cache.specs.Coming.{EntriesStay, GoneStay, Clears, Comes, ComesNone}
use Rattle.tile_cache.specs.Steps.{UnlocksFirst, FreesFirst, NoneComes, unlocked}
use Rattle.tile_cache.specs.Getting.{Rests, LocksEntry, MakesRoom, Adds, AddsInSteps, AddsNone, KeepsBytes, Lent, Writes, IsLost, others_of}
use Rattle.tile_cache.proofs.TilesAskedLast.{StandsOnce, same_itself, absent_without}
use Rattle.tile_cache.proofs.EntriesStay.{AreOthers, owned_stay, tiles_stay, others_stay, all_stay, first_differs, owned_rest, owned_again, others_differ, once_more}
use Rattle.tile_cache.proofs.EntriesReordered.{Entry, sum_runs, sum_found, runs_all, owned_found, found_key, found_value, keys_found, runs_found, all_found, keys_without, length_without, absent_value}
use Rattle.tile_cache.proofs.ClientSteps.{same_name, name_on, name_allocated, unmoved_unlocked, unmoved_freed, heap_unlocked, goes_locked, locked_gone}
use Rattle.tile_cache.proofs.OneMoreRequest.{stands_same}
use Rattle.tile_cache.proofs.Segments.{segments_same, same_unlocked, same_locked, same_freed, same_found, same_before, one_came}
use Rattle.tile_cache.proofs.Accounting.{AreAmong, AreKnown, IsBeside, present, known_owned, accounted_moved, accounted_lost, accounted_counts, accounted_found, accounted_grown, few_counted, enough_found, enough_grown}

module _ {G : Type 0} where
  -- the cache with another client and other entries
  abbrev pub with_entries : Cached G → Seen → List Entry → Cached G
  with_entries old client entries = record old { session = record old.session { client = client }; entries = entries }

  pub kept_with : (old : Cached G) (room : ℕ) (client : Seen) (entries : List Entry) → IsSoundCache old room → SameSegments old.session.client client → AreAmong (runs_of entries) (runs_of old.entries) → OwnsEntries client entries
      → All (λ (run : Run). run.pages ≡ pages_for old.tile_bytes) (runs_of entries) → All (λ (tile : Tile). has_tile old.shown tile ≡ true) (keys_of entries)
      → (old.entries ≡ [] → entries ≡ []) → IsSoundCache (with_entries old client entries) room
  kept_with old room client entries kept same among owned sized shown none = record {
    entries = owned;
    sized = sized;
    shown = shown;
    unused = λ new. none (kept.unused new);
    sized_room = kept.sized_room;
    some = kept.some;
    granter = kept.granter;
    few = kept.few;
    accounts = λ fresh all size is.
        accounted_moved (pages_for size) old.start.client.standard old.session.grants old.counts.rebuilt (makes_of old.counts) old.session.client client (runs_of entries) (runs_of old.entries) same among (kept.accounts fresh all size is);
  }

  -- nothing was locked
  pub rests_same : (now : ℕ) (cache : Cached G) → AreFree cache.entries → Rests now cache cache
  rests_same now cache free = record {
    unlocks = unlocks_none cache.entries free;
    entries = unlocked_same cache.entries free;
    bytes = λ k d within there. refl;
    free = free;
    tiles = refl;
    runs = refl;
    heap = refl;
    name = same_name cache.session.client;
    same = refl;
    used = λ tile_of size used. used;
    asked = λ asked stands. stands;
  }
    where
      unlocks_none : (entries : List Entry) → AreFree entries → UnlocksFirst now entries cache.session.client cache.session.client
      unlocks_none [] free = refl
      unlocks_none (first ∷ others) free = rw (All-head (λ (e : Entry). e.1.locked ≡ false) first others free) refl

      unlocked_same : (entries : List Entry) → AreFree entries → entries ≡ unlocked entries
      unlocked_same [] free = refl
      unlocked_same (first ∷ others) free = ap (λ b. (first.0, record first.1 { locked = b }) ∷ others) (All-head (λ (e : Entry). e.1.locked ≡ false) first others free)

-- the same entries have the same first one
same_first : (one other : Entry) (ones others : List Entry) → one ∷ ones ≡ other ∷ others → one ≡ other
same_first one other ones others is = cc

-- the first of some entries
pub first_is : (entries : List Entry) (e : Entry) → slice_get entries 0 ≡ Some e → entries ≡ e ∷ drop 1 entries
first_is [] e is = cc
first_is (x ∷ entries) e is =
    let same : x ≡ e = cc in
    ap (λ y. y ∷ entries) same

pub none_first : (entries : List Entry) → slice_get entries 0 ≡ None → entries ≡ []
none_first [] is = refl
none_first (x ∷ entries) is = cc

-- where the first is free, all are
pub free_all : (entries : List Entry) (e : Entry) → slice_get entries 0 ≡ Some e → e.1.locked ≡ false → AreFree (drop 1 entries) → AreFree entries
free_all entries e is free rest = rw (first_is entries e is) (All-cons (λ (e : Entry). e.1.locked ≡ false) e (drop 1 entries) free rest)

pub free_none : (entries : List Entry) → slice_get entries 0 ≡ None → AreFree entries
free_none entries is = rw (none_first entries is) (All-nil (λ (e : Entry). e.1.locked ≡ false))

-- a value set anew at the first entry
pub set_first : (tile : Tile) (piece : Part) (entries : List Entry) (e : Entry) → slice_get entries 0 ≡ Some e → tile ≡ e.0 → set_value (is_same tile) entries piece ≡ (tile, piece) ∷ drop 1 entries
set_first tile piece [] e is same = cc
set_first tile piece (x ∷ entries) e is same = go (is_same tile x.0) refl
  where
    first : x ≡ e
    first = cc

    go : (b : Bool) → is_same tile x.0 ≡ b → cond b ((x.0, piece) ∷ entries) (x ∷ set_value (is_same tile) entries piece) ≡ (tile, piece) ∷ entries
    go true is = ap (λ t. (t, piece) ∷ entries) (ap (λ (y : Entry). y.0) first ∙ sym same)
    go false is = absurd (both_ways _ is (rw (ap (λ (y : Entry). y.0) first, ← same) (same_itself tile)))

-- the first entry was unlocked
unlocked_tiles : (tile_of : Tile → List ℕ) (old new : Seen) (count : ℕ) (tile : Tile) (piece : Part) (others : List Entry) → new.gone ≡ old.gone → UnlocksPiece piece old new → EntriesStay old new others
    → HaveTiles tile_of old count ((tile, piece) ∷ others) → HaveTiles tile_of new count ((tile, record piece { locked = false }) ∷ others)
unlocked_tiles tile_of old new count tile piece others gone unlocks stay tiles =
    All-cons (λ (e : Entry). HasBytes new count (tile_of e.0) e.1) (tile, record piece { locked = false }) others
    (λ there. ap (take count) unlocks.bytes ∙ All-head (λ (e : Entry). HasBytes old count (tile_of e.0) e.1) (tile, piece) others tiles (rw gone at there))
    (tiles_stay tile_of old new count others stay (All-tail (λ (e : Entry). HasBytes old count (tile_of e.0) e.1) (tile, piece) others tiles))

module _ {G : Type 0} (old : Cached G) (room : ℕ) (tile : Tile) (piece : Part) (others : List Entry) (client : Seen) (now : ℕ) (told : Unlocked) where
  pub unlocked_first : IsSoundCache old room → old.entries ≡ (tile, piece) ∷ others → piece.locked ≡ true → UnlocksRun piece.run now told old.session.client client → UnlocksPiece piece old.session.client client
      → Rests now old (with_entries old client ((tile, record piece { locked = false }) ∷ others)) × IsSoundCache (with_entries old client ((tile, record piece { locked = false }) ∷ others)) room
  unlocked_first kept is locked run unlocks =
      let owned : OwnsEntries old.session.client ((tile, piece) ∷ others) = rw is at kept.entries in
      let free : AreFree others = owned.free in
      let rest = owned_rest old.session.client tile piece others owned free in
      let stay = others_stay old.session.client client piece.run others unlocks.stay rest.owned (first_differs old.session.client tile piece others owned) in
      let unmoved = unmoved_unlocked piece.run now told old.session.client client run in (
        record {
          unlocks = rw is (rw locked (told, run));
          entries = sym (ap unlocked is);
          bytes = rw is (All-cons (λ (e : Entry). SameBytes e.1.run old.session.client client) (tile, piece) others (λ there. unlocks.bytes) (λ k d within. (stay k d within).bytes));
          free = All-cons (λ (e : Entry). e.1.locked ≡ false) (tile, record piece { locked = false }) others refl free;
          tiles = sym (ap keys_of is);
          runs = sym (ap runs_of is);
          heap = heap_unlocked piece.run now told old.session.client client run;
          name = unmoved.goes.name;
          same = refl;
          used = λ tile_of size used. record { sized = used.sized; tiles = unlocked_tiles tile_of old.session.client client old.tile_bytes tile piece others unmoved.gone unlocks stay (rw is at used.tiles) };
          asked = λ asked stands. stands_same asked old (with_entries old client ((tile, record piece { locked = false }) ∷ others)) (sym (ap keys_of is)) refl refl refl stands;
        },
        kept_with old room client ((tile, record piece { locked = false }) ∷ others) kept
            (same_unlocked piece.run now told old.session.client client run)
            (λ f. rw is (omega arith))
            (owned_again old.session.client client tile piece (record piece { locked = false }) others owned refl unlocks.owned stay)
            (rw is at kept.sized)
            (rw is at kept.shown)
            (λ none. absurd (not_none (sym is ∙ none))),
      )
    where
      not_none : (tile, piece) ∷ others ≡ [] → ⊥
      not_none e = cc

-- the entry that was found was locked, or its segment found gone
run_after_lock : (told : Lock) (piece : Part) → (part_after_lock told piece).run ≡ piece.run
run_after_lock Held piece = refl
run_after_lock Gone piece = refl

locked_bytes : (told : Lock) (old new : Seen) (count : ℕ) (bytes : List ℕ) (piece : Part) → LocksPart piece told old new → LocksPiece told piece old new → HasBytes old count bytes piece → HasBytes new count bytes (part_after_lock told piece)
locked_bytes Held old new count bytes piece locks leaves has = λ there.
    ap (take count) (leaves.held refl).0 ∙ has (rw (locked_gone piece old new locks) at there)
locked_bytes Gone old new count bytes piece locks leaves has = λ there. absurd (both_ways _ there (leaves.gone refl))

module _ {G : Type 0} (old : Cached G) (room : ℕ) (tile : Tile) (e : Entry) (client : Seen) (told : Lock) where
  abbrev pub others_found : List Entry
  others_found = remove_entry (is_same tile) old.entries

  pub locked_found : IsSoundCache old room → AreFree old.entries → StandsOnce tile (tiles_of old) → length old.entries ≤ old.most → lookup_entry (is_same tile) old.entries ≡ Some e
      → LocksPart e.1 told old.session.client client → LocksPiece told e.1 old.session.client client
      → LocksEntry tile told old (with_entries old client ((e.0, part_after_lock told e.1) ∷ others_found)) × IsSoundCache (with_entries old client ((e.0, part_after_lock told e.1) ∷ others_found)) room
  locked_found kept free once few found locks leaves =
      let key : e.0 ≡ tile = found_key tile old.entries e found in
      let value = found_value (is_same tile) old.entries e found in
      let front = owned_found old.session.client (is_same tile) old.entries e found free kept.entries in
      let owned : OwnsEntries old.session.client ((e.0, e.1) ∷ others_found) = front.0 in
      let rest = owned_rest old.session.client e.0 e.1 others_found owned front.1 in
      let stay = others_stay old.session.client client e.1.run others_found leaves.stay rest.owned (first_differs old.session.client e.0 e.1 others_found owned) in
      let goes = goes_locked e.1 told old.session.client client locks in
      let keys : keys_of others_found ≡ without tile (tiles_of old) = keys_without tile old.entries once in
      let found_shown : has_tile old.shown tile ≡ true = rw key at (All-head (λ (t : Tile). has_tile old.shown t ≡ true) e.0 (keys_of others_found) (keys_found (λ (t : Tile). has_tile old.shown t ≡ true) (is_same tile) old.entries e found kept.shown)) in
      let fewer = length_without tile old.entries e.1 value in
      let keys_few : length (without tile (tiles_of old)) ≤ old.most - 1 = subst (λ ts. length ts ≤ old.most - 1) keys (omega (arith, length_keys others_found, fewer, few)) in (
        record {
          piece = e.1;
          found = value;
          locks = locks;
          there = λ is. rw (locked_gone e.1 old.session.client client (rw is at locks)) at (leaves.held is).1;
          bytes = λ is. (leaves.held is).0;
          shown = found_shown;
          others = others_found;
          entries = ap (λ t. (t, part_after_lock told e.1) ∷ others_found) key;
          was_free = All-head (λ (e : Entry). e.1.locked ≡ false) e others_found (all_found (λ (e : Entry). e.1.locked ≡ false) (is_same tile) old.entries e found free);
          rest = sym (take_all (old.most - 1) others_found (omega (arith, fewer, few)));
          left = keys ∙ sym (take_all (old.most - 1) (without tile (tiles_of old)) keys_few);
          few = omega (arith, fewer, few);
          free = front.1;
          absent = absent_value tile others_found (ap (λ ts. has_tile ts tile) keys ∙ absent_without tile (tiles_of old));
          held = λ is. (leaves.held is).1;
          gone = leaves.gone;
          name = goes.name;
          pages = goes.pages;
          same = refl;
          used = λ tile_of size used. record {
            sized = used.sized;
            tiles =
                let all = all_found (λ (e : Entry). HasBytes old.session.client old.tile_bytes (tile_of e.0) e.1) (is_same tile) old.entries e found used.tiles in
                All-cons (λ (e : Entry). HasBytes client old.tile_bytes (tile_of e.0) e.1) (e.0, part_after_lock told e.1) others_found
                (locked_bytes told old.session.client client old.tile_bytes (tile_of e.0) e.1 locks leaves (All-head (λ (e : Entry). HasBytes old.session.client old.tile_bytes (tile_of e.0) e.1) e others_found all))
                (tiles_stay tile_of old.session.client client old.tile_bytes others_found stay (All-tail (λ (e : Entry). HasBytes old.session.client old.tile_bytes (tile_of e.0) e.1) e others_found all));
          };
        },
        kept_with old room client ((e.0, part_after_lock told e.1) ∷ others_found) kept
            (same_locked e.1 told old.session.client client locks)
            (λ f. omega (arith, sum_runs f old.entries, sum_runs f others_found, sum_found (λ (e : Entry). f e.1.run) (is_same tile) old.entries e found, sum_by-cons f (part_after_lock told e.1).run (runs_of others_found), ap f (run_after_lock told e.1)))
            (owned_again old.session.client client e.0 e.1 (part_after_lock told e.1) others_found owned (run_after_lock told e.1) leaves.owned stay)
            (subst (λ r. All (λ (run : Run). run.pages ≡ pages_for old.tile_bytes) (r ∷ runs_of others_found)) (sym (run_after_lock told e.1)) (runs_found (λ (run : Run). run.pages ≡ pages_for old.tile_bytes) (is_same tile) old.entries e found kept.sized))
            (keys_found (λ (t : Tile). has_tile old.shown t ≡ true) (is_same tile) old.entries e found kept.shown)
            (λ none. absurd (not_none (rw none at value))),
      )
    where
      length_keys : (es : List Entry) → length (keys_of es) ≡ length es
      length_keys [] = refl
      length_keys (x ∷ es) = ap suc (length_keys es)

      not_none : None ≡ Some e.1 → ⊥
      not_none is = cc

-- the others of owned entries, where one is left out
front_all : {X : Type 0} (P : X → Type 0) (xs : List X) (x : X) → All P (xs ++ x ∷ []) → All P xs
front_all P [] x all = All-nil P
front_all P (y ∷ xs) x all = All-cons P y xs (All-head P y (xs ++ x ∷ []) all) (front_all P xs x (All-tail P y (xs ++ x ∷ []) all))

last_all : {X : Type 0} (P : X → Type 0) (xs : List X) (x : X) → All P (xs ++ x ∷ []) → P x
last_all P [] x all = All-head P x [] all
last_all P (y ∷ xs) x all = last_all P xs x (All-tail P y (xs ++ x ∷ []) all)

-- all but the last of owned entries
pub owned_front : (client : Seen) (others : List Entry) (last : Entry) → AreFree (others ++ last ∷ []) → OwnsEntries client (others ++ last ∷ []) → OwnsEntries client others × AreOthers last.1.run others
owned_front client others last free owned =
    let runs : runs_of (others ++ last ∷ []) ≡ runs_of others ++ last.1.run ∷ [] = map-append (λ (e : Entry). e.1.run) others (last ∷ []) in
    let some = rw runs at owned.some in
    let once : ShareNoPage (last.1.run ∷ runs_of others) = λ id page.
    omega (
      arith,
      rw runs at (owned.once id page),
      sum_by_push (λ (r : Run). cond {A = ℕ} (has_page id page r) 1 0) (runs_of others) last.1.run,
      sum_by-cons (λ (r : Run). cond {A = ℕ} (has_page id page r) 1 0) last.1.run (runs_of others),
    )
    in (
      record {
        owned = front_all (λ (e : Entry). Owns client e.1) others last owned.owned;
        free = All-drop (λ (e : Entry). e.1.locked ≡ false) 1 others (front_all (λ (e : Entry). e.1.locked ≡ false) others last free);
        some = front_all (λ (run : Run). 1 ≤ run.pages) (runs_of others) last.1.run some;
        once = λ id page. omega (arith, once id page, sum_by-cons (λ (r : Run). cond {A = ℕ} (has_page id page r) 1 0) last.1.run (runs_of others));
      },
      others_differ last.1.run others (last_all (λ (run : Run). 1 ≤ run.pages) (runs_of others) last.1.run some) once,
    )

-- owned entries after another piece was freed
pub owned_freed : (told : Bool) (piece : Part) (now : ℕ) (old new : Seen) (entries : List Entry) → OwnsEntries old entries → AreOthers piece.run entries → OthersStay piece.run old new → OwnsEntries new entries × EntriesStay old new entries
owned_freed told piece now old new entries owned differ stays =
    let stay = others_stay old new piece.run entries stays owned.owned differ in
    (record { owned = owned_stay old new entries stay; free = owned.free; some = owned.some; once = owned.once }, stay)

-- the last entry left
module _ {G : Type 0} (old : Cached G) (room : ℕ) (gone : Entry) (others : List Entry) (client : Seen) (told : Bool) (now : ℕ) where
  pub left_last : IsSoundCache old room → AreFree old.entries → old.entries ≡ others ++ gone ∷ [] → others ≡ take (old.most - 1) old.entries
      → AfterFree told gone.1 now old.session.client client → OthersStay gone.1.run old.session.client client
      → MakesRoom now old (with_entries old client others) × IsSoundCache (with_entries old client others) room
  left_last kept free is front frees stays =
      let parts = owned_front old.session.client others gone (rw is at free) (rw is at kept.entries) in
      let freed = owned_freed told gone.1 now old.session.client client others parts.0 parts.1 stays in
      let unmoved = unmoved_freed told gone.1 now old.session.client client frees in
      let runs_is : runs_of old.entries ≡ runs_of others ++ gone.1.run ∷ [] = ap runs_of is ∙ map-append (λ (e : Entry). e.1.run) others (gone ∷ []) in
      let keys_is : keys_of old.entries ≡ keys_of others ++ gone.0 ∷ [] = ap keys_of is ∙ map-append (λ (e : Entry). e.0) others (gone ∷ []) in (
        record {
          left = front;
          frees = record {
            freed = λ last at. (told, subst (λ (e : Entry). AfterFree told e.1 now old.session.client client) (same_last (append_cancel_left others (gone ∷ []) (last ∷ []) (sym is ∙ at))) frees);
            same = λ all. absurd (omega (arith, ap length (all ∙ is), length-append others (gone ∷ [])));
          };
          gone = unmoved.gone;
          name = unmoved.goes.name;
          pages = unmoved.goes.pages;
          same = refl;
          used = λ tile_of size used. record {
            sized = used.sized;
            tiles = tiles_stay tile_of old.session.client client old.tile_bytes others freed.1 (front_all (λ (e : Entry). HasBytes old.session.client old.tile_bytes (tile_of e.0) e.1) others gone (rw is at used.tiles));
          };
        },
        kept_with old room client others kept
            (same_freed told gone.1 now old.session.client client frees)
            (λ f. rw runs_is (omega (arith, sum_by_push f (runs_of others) gone.1.run)))
            freed.0
            (front_all (λ (run : Run). run.pages ≡ pages_for old.tile_bytes) (runs_of others) gone.1.run (rw runs_is at kept.sized))
            (front_all (λ (t : Tile). has_tile old.shown t ≡ true) (keys_of others) gone.0 (rw keys_is at kept.shown))
            (λ none. absurd (not_none others (sym is ∙ none))),
      )
    where
      not_none : (es : List Entry) → es ++ gone ∷ [] ≡ [] → ⊥
      not_none [] e = cc
      not_none (x ∷ es) e = cc

      same_last : {last : Entry} → gone ∷ [] ≡ last ∷ [] → gone ≡ last
      same_last e = cc

-- where there is room, nothing is left out
pub left_none : {G : Type 0} (now : ℕ) (old : Cached G) → length old.entries < old.most → MakesRoom now old old
left_none now old room = record {
  frees = record { freed = λ last at. absurd (omega (arith, ap length at, length-append old.entries (last ∷ []))); same = λ all. refl };
  left = sym (take_all (old.most - 1) old.entries (omega (arith, room)));
  gone = refl;
  name = same_name old.session.client;
  pages = omega arith;
  same = refl;
  used = λ tile_of size used. used;
}

-- the first entry left, where it is lost
pub cleared : {G : Type 0} (now : ℕ) (told : Bool) (tile : Tile) (piece : Part) (others : List Entry) (old new : Session G) → OwnsEntries old.client ((tile, piece) ∷ others) → AreFree others
    → AfterFree told piece now old.client new.client → OthersStay piece.run old.client new.client → new ≡ record old { client = new.client } → Clears now Rebuilt old new ((tile, piece) ∷ others) others
cleared now told tile piece others old new owned free frees stays same =
    let freed = owned_freed told piece now old.client new.client others (owned_rest old.client tile piece others owned free) (first_differs old.client tile piece others owned) stays in
    let unmoved = unmoved_freed told piece now old.client new.client frees in
    record {
      entries = refl;
      frees = λ first rest is. (told, subst (λ (e : Entry). AfterFree told e.1 now old.client new.client) (same_first (tile, piece) first others rest is) frees);
      owned = freed.0;
      stay = freed.1;
      gone = unmoved.gone;
      name = unmoved.goes.name;
      fits = unmoved.goes.pages;
      segments = same_freed told piece now old.client new.client frees;
      same = same;
    }

-- nothing left
stays_same : (client : Seen) (entries : List Entry) → OwnsEntries client entries → EntriesStay client client entries
stays_same client entries owned = λ k d within. record { owned = owned.owned k d within; gone = λ is. is; bytes = λ there. refl }

pub cleared_none : {G : Type 0} (now : ℕ) (told : Shown) (session : Session G) (entries : List Entry) → (told ≡ Rebuilt → ⊥) → OwnsEntries session.client entries → Clears now told session session entries entries
cleared_none now told session entries differ owned =
    let same : others_of told entries ≡ entries = others_same told differ in
    record {
      entries = sym same;
      frees = frees_none told differ;
      owned = rw same owned;
      stay = rw same (stays_same session.client entries owned);
      gone = refl;
      name = same_name session.client;
      fits = omega arith;
      segments = segments_same session.client session.client refl;
      same = refl;
    }
  where
    frees_none : (told : Shown) → (told ≡ Rebuilt → ⊥) → FreesFirst now told entries session.client session.client
    frees_none Rebuilt differ = absurd (differ refl)
    frees_none Kept differ = refl
    frees_none First differ = refl
    frees_none Again differ = refl

    others_same : (told : Shown) → (told ≡ Rebuilt → ⊥) → others_of told entries ≡ entries
    others_same Rebuilt differ = absurd (differ refl)
    others_same Kept differ = refl
    others_same First differ = refl
    others_same Again differ = refl

-- an entry came, or none came
pub wanted_is : (size pages : ℕ) → wanted size ≡ Some pages → (pages ≡ pages_for size) × (1 ≤ pages)
wanted_is size pages is = go (nat_lt MOST_PAGES (pages_for size)) is
  where
    go : (b : Bool) → cond b None (Some (pages_for size)) ≡ Some pages → (pages ≡ pages_for size) × (1 ≤ pages)
    go true is = cc
    go false is =
        let same : pages_for size ≡ pages = same_Some _ _ is in
        (sym same, rw (← same) (omega arith))

module _ {G : Type 0} (old : Cached G) (room size : ℕ) (now : ℕ) (told : Shown) (between : Session G) (entries : List Entry) (kept : IsSoundCache old room) (sized : (old.tile_bytes ≡ 0) ⊎ (old.tile_bytes ≡ size)) (clears : Clears now told old.session between old.entries entries) where
  abbrev pub others : List Entry
  others = others_of told old.entries

  all_others : {X : Type 0} (f : Entry → X) (P : X → Type 0) → All P (map f old.entries) → All P (map f others)
  all_others f P all = go told
    where
      tail : (es : List Entry) → All P (map f es) → All P (map f (drop 1 es))
      tail [] all = all
      tail (e ∷ es) all = All-tail P (f e) (map f es) all

      go : (told : Shown) → All P (map f (others_of told old.entries))
      go Rebuilt = tail old.entries all
      go Kept = all
      go First = all
      go Again = all

  none_others : old.entries ≡ [] → others ≡ []
  none_others none = go told
    where
      go : (told : Shown) → others_of told old.entries ≡ []
      go Rebuilt = ap (drop 1) none
      go Kept = none
      go First = none
      go Again = none

  -- the pieces of the others have the pages of a tile
  sized_still : All (λ (run : Run). run.pages ≡ pages_for size) (runs_of others)
  sized_still =
      elim sized [
        | inl new ↦ rw (none_others (kept.unused new)) (All-nil (λ (run : Run). run.pages ≡ pages_for size))
        | inr same ↦ all_others (λ (e : Entry). e.1.run) (λ (run : Run). run.pages ≡ pages_for size) (rw same at kept.sized)
      ]

  sized_all : All (λ (run : Run). run.pages ≡ pages_for size) (runs_of old.entries)
  sized_all =
      elim sized [
        | inl new ↦ rw (kept.unused new) (All-nil (λ (run : Run). run.pages ≡ pages_for size))
        | inr same ↦ rw same at kept.sized
      ]

  tiles_others : (tile_of : Tile → List ℕ) → HaveTiles tile_of old.session.client size old.entries → HaveTiles tile_of between.client size others
  tiles_others tile_of tiles = tiles_stay tile_of old.session.client between.client size others clears.stay (rest told)
    where
      tail : (es : List Entry) → HaveTiles tile_of old.session.client size es → HaveTiles tile_of old.session.client size (drop 1 es)
      tail [] all = all
      tail (e ∷ es) all = All-tail (λ (e : Entry). HasBytes old.session.client size (tile_of e.0) e.1) e es all

      rest : (told : Shown) → HaveTiles tile_of old.session.client size (others_of told old.entries)
      rest Rebuilt = tail old.entries tiles
      rest Kept = tiles
      rest First = tiles
      rest Again = tiles

  tiles_sized : (tile_of : Tile → List ℕ) → IsUsedWith tile_of size old → HaveTiles tile_of old.session.client size old.entries
  tiles_sized tile_of used =
      elim sized [
        | inl new ↦ rw (kept.unused new) (All-nil (λ (e : Entry). HasBytes old.session.client size (tile_of e.0) e.1))
        | inr same ↦ rw same at used.tiles
      ]

  gone_still : (session : Session G) → GoneStay between.client session.client → GoneStay old.session.client session.client
  gone_still session gone = λ id was. gone id (rw clears.gone was)

  start_still : (session : Session G) → session.start ≡ between.start → session.start ≡ old.session.start
  start_still session start = start ∙ ap (λ (s : Session G). s.start) clears.same

  module _ (session : Session G) (entries_now : List Entry) (shown : List Tile) where
    abbrev pub cache_none : Cached G
    cache_none = record old { session = session; entries = entries_now; shown = shown; tile_bytes = size; failed = true }

    pub came_none : 1 ≤ size → ComesNone now size between session entries entries_now old.shown shown
        → (AddsNone now told size old cache_none × ((tile_of : Tile → List ℕ) → IsUsedWith tile_of size old → IsUsedWith tile_of size cache_none)) × IsSoundCache cache_none room
    came_none some none =
        let is : entries_now ≡ others = none.entries ∙ clears.entries in
        let stay : EntriesStay between.client session.client others = rw clears.entries at none.stay in
        let start = start_still session none.start in
        let standard : granted_pages between.client (pages_for size) ≡ granted_pages old.session.client (pages_for size) = ap (max (pages_for size)) clears.name.standard in (
          (
            record {
              ready = between.client;
              frees = clears.frees;
              none = subst (λ (s : Session G). NoneComes now size s session) clears.same none.none;
              entries = is;
              shown = none.shown;
              counts = refl;
              pages = omega (arith, none.fits, clears.fits, standard);
              bytes = refl;
              keeps = record { start = refl; granter = start; most = refl; name = name_on old.session.client between.client session.client clears.name none.name };
              failed = refl;
            },
            λ tile_of used. record {
              sized = inr refl;
              tiles = rw is (tiles_stay tile_of between.client session.client size others stay (tiles_others tile_of (tiles_sized tile_of used)));
            },
          ),
          record {
            entries = rw is (record { owned = owned_stay between.client session.client others stay; free = clears.owned.free; some = clears.owned.some; once = clears.owned.once });
            sized = rw is sized_still;
            shown = rw is (all_shown (keys_of others) (all_others (λ (e : Entry). e.0) (λ (t : Tile). has_tile old.shown t ≡ true) kept.shown));
            unused = λ zero. absurd (omega (arith, some, zero));
            sized_room = kept.sized_room;
            some = kept.some;
            granter = start ∙ kept.granter;
            few = kept.few;
            accounts = λ fresh all. absurd (not_failed all);
          },
        )
      where
        not_failed : true ≡ false → ⊥
        not_failed e = cc

        all_shown : (ts : List Tile) → All (λ (t : Tile). has_tile old.shown t ≡ true) ts → All (λ (t : Tile). has_tile shown t ≡ true) ts
        all_shown ts all = λ k d within. none.shown (get_or ts k d) ∙ all k d within

    -- the accounts before the entry comes: where a tile is rebuilt, its piece was lost
    accounts_cleared : (tile : Tile) → (told ≡ Rebuilt → IsLost tile old) → IsFresh old.start → old.failed ≡ false
        → IsAccounted (pages_for size) old.start.client.standard old.session.client old.session.grants (counted told old.counts).rebuilt (makes_of old.counts) (runs_of others)
    accounts_cleared tile lost fresh all = go told lost
      where
        was : IsAccounted (pages_for size) old.start.client.standard old.session.client old.session.grants old.counts.rebuilt (makes_of old.counts) (runs_of old.entries)
        was = kept.accounts fresh all size sized

        go : (told : Shown) → (told ≡ Rebuilt → IsLost tile old) → IsAccounted (pages_for size) old.start.client.standard old.session.client old.session.grants (counted told old.counts).rebuilt (makes_of old.counts) (runs_of (others_of told old.entries))
        go Kept lost = was
        go First lost = was
        go Again lost = was
        go Rebuilt lost =
            let (piece, rest, is, gone) = lost refl in
            let long = All-head (λ (run : Run). run.pages ≡ pages_for size) piece.run (runs_of rest) (rw is at sized_all) in
            rw is (accounted_counts (pages_for size) old.start.client.standard old.session.grants (old.counts.rebuilt + 1) (makes_of old.counts) (counted Rebuilt old.counts).rebuilt (makes_of old.counts) old.session.client (runs_of rest) (omega arith) was.granted
            (accounted_lost (pages_for size) old.start.client.standard old.session.grants old.counts.rebuilt (makes_of old.counts) old.session.client piece.run (runs_of rest) gone long (rw is at was)))

    -- the accounts after it came
    accounts_one : (tile : Tile) → told ≢ Kept → (told ≡ Rebuilt → IsLost tile old) → (comes : Comes tile size between session entries entries_now old.shown shown) → entries_now ≡ (tile, comes.piece) ∷ others → IsFresh old.start → old.failed ≡ false
        → IsAccounted (pages_for size) old.start.client.standard session.client session.grants (counted told old.counts).rebuilt (makes_of (counted told old.counts)) (runs_of entries_now)
    accounts_one tile made lost comes is fresh all =
        let cleared = accounts_cleared tile lost fresh all in
        let moved = accounted_moved (pages_for size) old.start.client.standard old.session.grants (counted told old.counts).rebuilt (makes_of old.counts) old.session.client between.client (runs_of others) (runs_of others) clears.segments (λ f. omega arith) cleared in
        let grants : between.grants ≡ old.session.grants = ap (λ (s : Session G). s.grants) clears.same in
        let pages = (wanted_is size comes.pages comes.wants).0 in
        let beside : IsBeside between.client comes.piece.run (runs_of others) = record {
          gone = λ other gone. comes.fresh.apart (record { client = between.client.number; run = other; locked = false }) (record { mine = refl; there = inr (record { gone = gone; free = refl }) });
          apart = runs_all (AreApart comes.piece.run) others (λ k d within. comes.fresh.apart _ (clears.owned.owned k d within));
        } in
        let known : AreKnown between.client (runs_of others) = runs_all (λ (run : Run). 1 ≤ over_segments (present run.segment) between.client) others (λ k d within. known_owned between.client (get_or others k d).1 (clears.owned.owned k d within)) in
        rw is (elim comes.counted [
          | inl found ↦
              accounted_counts (pages_for size) old.start.client.standard session.grants (counted told old.counts).rebuilt (makes_of old.counts) (counted told old.counts).rebuilt (makes_of (counted told old.counts)) session.client (comes.piece.run ∷ runs_of others) (omega arith)
              (enough_found told old.counts session.grants kept.few (rw (found.2, grants) cleared.granted))
              (rw (found.2, grants) (accounted_found (pages_for size) old.start.client.standard old.session.grants (counted told old.counts).rebuilt (makes_of old.counts) between.client session.client comes.piece.run (runs_of others) (same_found comes.pages found.0 (Some comes.piece) between.client session.client found.1) comes.fresh.fits beside moved))
          | inr grown ↦
              let before = same_before comes.pages comes.piece between.client session.client grown.0 in
              let rose : session.grants ≡ next_count old.session.grants = grown.1 ∙ ap next_count grants in
              accounted_grown (pages_for size) old.start.client.standard old.session.grants (counted told old.counts).rebuilt (makes_of old.counts) session.grants (makes_of (counted told old.counts)) grown.0.grown.side.id between.client grown.0.released session.client comes.piece.run (runs_of others) before
              (rw (← pages) (one_came comes.pages comes.piece grown.0.released session.client grown.0.grown)) grown.0.grown.unknown (λ k d within. rw (before.sums (present (get_or (runs_of others) k d).segment)) (known k d within))
              comes.fresh.fits beside rose (rw rose (enough_grown told old.counts old.session.grants made kept.few cleared.granted)) moved
        ])

    abbrev pub cache_one : Cached G
    cache_one = record old { session = session; entries = entries_now; shown = shown; counts = counted told old.counts; tile_bytes = size }

    -- the steps of it
    pub came_steps : (tile : Tile) → Comes tile size between session entries entries_now old.shown shown → AddsInSteps now told tile size old cache_one
    came_steps tile comes = record {
      ready = between.client;
      frees = clears.frees;
      piece = comes.piece;
      pages = comes.pages;
      wants = comes.wants;
      counted = subst (λ (s : Session G). AllocatesCounted comes.pages comes.piece s session) clears.same comes.counted;
      fresh = comes.fresh;
      entries = comes.entries ∙ ap (λ es. (tile, comes.piece) ∷ es) clears.entries;
    }

    pub came_one : (tile : Tile) → 1 ≤ size → AreFree old.entries → (told ≢ Kept) → (told ≡ Rebuilt → IsLost tile old) → Comes tile size between session entries entries_now old.shown shown
        → (Adds told tile size old cache_one × KeepsBytes size old cache_one) × IsSoundCache cache_one room
    came_one tile some free made lost comes =
        let is : entries_now ≡ (tile, comes.piece) ∷ others = comes.entries ∙ ap (λ es. (tile, comes.piece) ∷ es) clears.entries in
        let wants = wanted_is size comes.pages comes.wants in
        let stay = all_stay between.client session.client others comes.stay clears.owned.owned in
        let apart : All (λ (e : Entry). AreApart comes.piece.run e.1.run) others = λ k d within. comes.fresh.apart _ (clears.owned.owned k d within) in
        let start = start_still session comes.start in
        let name = name_allocated comes.pages comes.piece between.client session.client (not_counted comes.counted) in
        let standard : granted_pages between.client comes.pages ≡ granted_pages old.session.client comes.pages = ap (max comes.pages) clears.name.standard in (
          (
            record {
              piece = comes.piece;
              entries = is;
              locked = comes.fresh.locked;
              shown = comes.shown;
              counts = refl;
              pages = rw (← wants.0) (omega (arith, comes.fits, clears.fits, standard));
              gone = gone_still session comes.gone;
              bytes = refl;
              keeps = record { start = refl; granter = start; most = refl; name = name_on old.session.client between.client session.client clears.name name };
              failed = refl;
            },
            λ tile_of used. rw is (tiles_stay tile_of between.client session.client size others stay (tiles_others tile_of (tiles_sized tile_of used))),
          ),
          record {
            entries = rw is (record {
              owned = All-cons (λ (e : Entry). Owns session.client e.1) (tile, comes.piece) others comes.fresh.owned (owned_stay between.client session.client others stay);
              free = free_others;
              some = All-cons (λ (run : Run). 1 ≤ run.pages) comes.piece.run (runs_of others) (rw comes.fresh.sized wants.1) clears.owned.some;
              once = once_more comes.piece others apart clears.owned.once;
            });
            sized = rw is (All-cons (λ (run : Run). run.pages ≡ pages_for size) comes.piece.run (runs_of others) (comes.fresh.sized ∙ wants.0) sized_still);
            shown = rw is (All-cons (λ (t : Tile). has_tile shown t ≡ true) tile (keys_of others) (comes.shown tile ∙ first_of tile) (all_more (keys_of others) (all_others (λ (e : Entry). e.0) (λ (t : Tile). has_tile old.shown t ≡ true) kept.shown)));
            unused = λ zero. absurd (omega (arith, some, zero));
            sized_room = kept.sized_room;
            some = kept.some;
            granter = start ∙ kept.granter;
            few = few_counted told old.counts kept.few;
            accounts = λ fresh all size' is'.
                rw (← same_size is') (accounts_one tile made lost comes is fresh all);
          },
        )
      where
        same_size : {size' : ℕ} → (size ≡ 0) ⊎ (size ≡ size') → size ≡ size'
        same_size (inl none) = absurd (omega (arith, some, none))
        same_size (inr same) = same

        first_of : (t : Tile) → (is_same t t || has_tile old.shown t) ≡ true
        first_of t = rw (same_itself t) refl

        or_true : (a b : Bool) → b ≡ true → (a || b) ≡ true
        or_true true b is = refl
        or_true false b is = is

        all_more : (ts : List Tile) → All (λ (t : Tile). has_tile old.shown t ≡ true) ts → All (λ (t : Tile). has_tile shown t ≡ true) ts
        all_more ts all = λ k d within. comes.shown (get_or ts k d) ∙ or_true (is_same tile (get_or ts k d)) _ (all k d within)

        free_others : AreFree others
        free_others = go told
          where
            tail : (es : List Entry) → AreFree es → AreFree (drop 1 es)
            tail [] all = all
            tail (e ∷ es) all = All-tail (λ (e : Entry). e.1.locked ≡ false) e es all

            go : (told : Shown) → AreFree (others_of told old.entries)
            go Rebuilt = tail old.entries free
            go Kept = free
            go First = free
            go Again = free

        not_counted : AllocatesCounted comes.pages comes.piece between session → Allocates comes.pages comes.piece between.client session.client
        not_counted (inl found) = inl (found.0, found.1)
        not_counted (inr grows) = inr grows.0

-- the first piece was written
module _ {G : Type 0} (old : Cached G) (room : ℕ) (tile : Tile) (piece : Part) (others : List Entry) (client : Seen) (w : List ℕ) (tile_of : Tile → List ℕ) where
  abbrev pub with_bytes_of : Cached G
  with_bytes_of = record old { session = record old.session { client = client } }

  pub filled : IsSoundCache old room → old.entries ≡ (tile, piece) ∷ others → piece.locked ≡ true → WritesPiece piece w old.session.client client
      → client ≡ written_run old.session.client piece.run w → client.gone ≡ old.session.client.gone → client.heap ≡ old.session.client.heap → KeepsName old.session.client client → SameSegments old.session.client client
      → take old.tile_bytes w ≡ tile_of tile → HaveTiles tile_of old.session.client old.tile_bytes (drop 1 old.entries)
      → (Lent tile (tile_of tile) with_bytes_of × IsUsedWith tile_of old.tile_bytes with_bytes_of) × (Writes old with_bytes_of × IsSoundCache with_bytes_of room)
  filled kept is locked writes written gone heap name segments front tiles =
      let owned : OwnsEntries old.session.client ((tile, piece) ∷ others) = rw is at kept.entries in
      let rest = owned_rest old.session.client tile piece others owned owned.free in
      let stay = others_stay old.session.client client piece.run others writes.stay rest.owned (first_differs old.session.client tile piece others owned) in
      let again = owned_again old.session.client client tile piece piece others owned refl writes.owned stay in
      let bytes : take old.tile_bytes (bytes_of client piece.run) ≡ tile_of tile = ap (take old.tile_bytes) writes.bytes ∙ front in (
        (
          record { piece = piece; others = others; entries = is; locked = locked; front = sym bytes },
          record {
            sized = inr refl;
            tiles = rw is (All-cons (λ (e : Entry). HasBytes client old.tile_bytes (tile_of e.0) e.1) (tile, piece) others (λ there. bytes) (tiles_stay tile_of old.session.client client old.tile_bytes others stay (rw is at tiles)));
          },
        ),
        (
          record {
            wrote = λ first others' at. (w, subst (λ (e : Entry). client ≡ written_run old.session.client e.1.run w) (same_first (tile, piece) first others others' (sym is ∙ at)) written);
            heap = heap;
            gone = gone;
            name = name;
            same = refl;
          },
          record {
            entries = rw is again;
            sized = kept.sized;
            shown = kept.shown;
            unused = kept.unused;
            sized_room = kept.sized_room;
            some = kept.some;
            granter = kept.granter;
            few = kept.few;
            accounts = λ fresh all size is.
                accounted_moved (pages_for size) old.start.client.standard old.session.grants old.counts.rebuilt (makes_of old.counts) old.session.client client (runs_of old.entries) (runs_of old.entries) segments (λ f. omega arith) (kept.accounts fresh all size is);
          },
        ),
      )

-- a get that was kept is counted
pub kept_counted : {G : Type 0} (old : Cached G) (room : ℕ) → IsSoundCache old room → IsSoundCache (record old { counts = counted Kept old.counts }) room
kept_counted old room kept = record {
  entries = kept.entries;
  sized = kept.sized;
  shown = kept.shown;
  unused = kept.unused;
  sized_room = kept.sized_room;
  some = kept.some;
  granter = kept.granter;
  few = few_counted Kept old.counts kept.few;
  accounts = kept.accounts;
}

-- a cache as it is made
pub kept_new : {G : Type 0} (session start : Session G) (entries : List Entry) (most room : ℕ) (shown : List Tile) (counts : Counts) → start ≡ session → entries ≡ [] → counts ≡ no_counts → room ≡ most → 1 ≤ most
    → IsSoundCache (record { session = session; start = start; entries = entries; most = most; shown = shown; counts = counts; tile_bytes = 0; failed = false }) room
kept_new session start entries most room shown counts same none unmade size some =
    rw (same, none, unmade) (record {
      entries = record {
        owned = All-nil (λ (e : Entry). Owns session.client e.1);
        free = All-nil (λ (e : Entry). e.1.locked ≡ false);
        some = All-nil (λ (run : Run). 1 ≤ run.pages);
        once = λ id page. omega arith;
      };
      sized = All-nil (λ (run : Run). run.pages ≡ pages_for 0);
      shown = All-nil (λ (tile : Tile). has_tile shown tile ≡ true);
      unused = λ _. refl;
      sized_room = size;
      some = some;
      granter = refl;
      few = record { first = omega arith; rebuilt = omega arith; again = omega arith };
      accounts = λ fresh all size is. record {
        lost = [];
        gone = All-nil (λ (run : Run). is_gone session.client run.segment ≡ true);
        sized = All-nil (λ (run : Run). run.pages ≡ pages_for size);
        lost_fit = All-nil (Fits session.client);
        fit = All-nil (Fits session.client);
        once = λ id page. omega arith;
        counted = omega arith;
        room = λ low. rw (fresh.leases, fresh.gone, fresh.grants) (omega arith);
        granted = rw fresh.grants (omega arith);
        name = refl;
      };
    })
