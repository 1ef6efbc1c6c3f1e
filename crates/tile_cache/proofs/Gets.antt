-- A get, from its steps.
use Rattle.std.proofs.Common.{◌≡◌, ℕ, zero, suc, ◌-◌, ◌≤◌, max, Bool, true, false, ◌||◌, cond, List, [], ◌∷◌, take, drop, Some, None, refl, sym, ap, subst, ◌∙◌, inl, inr, arith, length-take}
use Rattle.std.specs.Map.{keys_of, lookup, remove_entry}
use Rattle.std.proofs.lemmas.Bool.{cases_Bool}
use Rattle.std.proofs.lemmas.List.{take-map}
use Rattle.std.proofs.lemmas.List.Elements.{All-cons, All-take, All-head, All-tail}
use Rattle.std.proofs.lemmas.Option.{same_Some}
use Rattle.std.specs.List.{All}
use Rattle.tile_source.specs.declared.tile.Tile.{Tile}
use Rattle.units.specs.Count.{next_count}
use Rattle.segment.specs.declared.owner.Lock.{Lock}
use Rattle.segment.specs.declared.owner.Lock.TheVariants as lock
use Rattle.span_heap.specs.Heap.{size_of}
use Rattle.client.specs.Seen.{Seen, is_gone}
use Rattle.client.specs.Pieces.{Part, SameBytes, part_after_lock}
use Rattle.units.specs.Sizes.{pages_for}
use Rattle.client.specs.Calls.{KeepsName}
use Rattle.client.specs.Granting.{Session, AllocatesCounted, granted_pages}
use Rattle.tile_cache.specs.declared.counts.Shown.{Shown}
use Rattle.tile_cache.specs.declared.counts.Shown.TheVariants.{Kept, First, Rebuilt, Again}
use Rattle.tile_cache.specs.Recent.{is_same, has_tile, without}
use Rattle.tile_cache.specs.Shown.{counted, made_after}
use Rattle.tile_cache.specs.declared.counts.Counts.{Counts}
use Rattle.tile_cache.specs.Cached.{Cached, IsUsedWith, HasBytes, runs_of, tiles_of}
use Rattle.tile_cache.specs.Steps.{FreesFirst, LooksFor, ComesWritten, ShowsPiece, ShowsInSteps, NoneComes, unlocked, left_entries}
use Rattle.tile_cache.specs.Getting.{Answers, HasEntry, KeepsPiece, Gets, Fails, Lent, KeepsMaking, ChangesEntries, KeepsUse, Rests, LocksEntry, HasNone, MakesRoom, IsReady, StandsReady, LeavesRoom, BringsEntry, FindsEntry, LooksUp, Adds, AddsInSteps, AddsNone, Writes, left, others_of, pages_of}
use Rattle.tile_cache.proofs.TilesAskedLast.{without_absent, same_is}
use Rattle.tile_cache.proofs.EntriesReordered.{Entry, key_absent}
use Rattle.tile_cache.proofs.ClientSteps.{name_on}
use Rattle.tile_cache.proofs.OneMoreRequest.{stands_more}

-- a tile that is found among entries is found among those with the same tiles and pages, with the same pages
pub found_same : (tile : Tile) (es fs : List Entry) (piece : Part) → keys_of fs ≡ keys_of es → runs_of fs ≡ runs_of es → lookup (is_same tile) es ≡ Some piece → (other : Part) × (lookup (is_same tile) fs ≡ Some other) × (other.run ≡ piece.run)
found_same tile [] fs piece keys runs found = cc
found_same tile (e ∷ es) [] piece keys runs found = cc
found_same tile (e ∷ es) (f ∷ fs) piece keys runs found =
    let key : f.0 ≡ e.0 = cc in
    let keys_rest : keys_of fs ≡ keys_of es = cc in
    let run : f.1.run ≡ e.1.run = cc in
    let runs_rest : runs_of fs ≡ runs_of es = cc in
    go (is_same tile e.0) refl found key run (found_same tile es fs piece keys_rest runs_rest)
  where
    go : (b : Bool) → is_same tile e.0 ≡ b → cond b (Some e.1) (lookup (is_same tile) es) ≡ Some piece → f.0 ≡ e.0 → f.1.run ≡ e.1.run
        → (lookup (is_same tile) es ≡ Some piece → (other : Part) × (lookup (is_same tile) fs ≡ Some other) × (other.run ≡ piece.run))
        → (other : Part) × (cond (is_same tile f.0) (Some f.1) (lookup (is_same tile) fs) ≡ Some other) × (other.run ≡ piece.run)
    go true is at key run rest =
        let same : e.1 ≡ piece = cc in
        (f.1, rw (key, is) refl, run ∙ ap (λ (p : Part). p.run) same)
    go false is at key run rest =
        let later = rest at in
        (later.0, rw (key, is) later.1, later.2)

absent_fewer : (tile : Tile) (n : ℕ) (es : List Entry) → lookup (is_same tile) es ≡ None → lookup (is_same tile) (take n es) ≡ None
absent_fewer tile zero es none = refl
absent_fewer tile (suc n) [] none = refl
absent_fewer tile (suc n) (e ∷ es) none = go (is_same tile e.0) none (absent_fewer tile n es)
  where
    go : (b : Bool) → cond b (Some e.1) (lookup (is_same tile) es) ≡ None → (lookup (is_same tile) es ≡ None → lookup (is_same tile) (take n es) ≡ None) → cond b (Some e.1) (lookup (is_same tile) (take n es)) ≡ None
    go true is rest = cc
    go false is rest = rest is

-- no entry is removed where none is the tile's
remove_absent : (tile : Tile) (es : List Entry) → lookup (is_same tile) es ≡ None → remove_entry (is_same tile) es ≡ es
remove_absent tile [] none = refl
remove_absent tile (e ∷ es) none = go (is_same tile e.0) none (remove_absent tile es)
  where
    go : (b : Bool) → cond b (Some e.1) (lookup (is_same tile) es) ≡ None → (lookup (is_same tile) es ≡ None → remove_entry (is_same tile) es ≡ es) → cond b es (e ∷ remove_entry (is_same tile) es) ≡ e ∷ es
    go true is rest = cc
    go false is rest = ap (λ xs. e ∷ xs) (rest is)

-- what holds of each entry's piece holds of the one that is found
found_all : (P : Part → Type 0) (tile : Tile) (es : List Entry) (piece : Part) → lookup (is_same tile) es ≡ Some piece → All (λ (e : Entry). P e.1) es → P piece
found_all P tile [] piece found all = cc
found_all P tile (e ∷ es) piece found all = go (is_same tile e.0) found (λ later. found_all P tile es piece later (All-tail (λ (e : Entry). P e.1) e es all))
  where
    go : (b : Bool) → cond b (Some e.1) (lookup (is_same tile) es) ≡ Some piece → (lookup (is_same tile) es ≡ Some piece → P piece) → P piece
    go true is rest = subst P (same_Some _ _ is) (All-head (λ (e : Entry). P e.1) e es all)
    go false is rest = rest is

again_differs : Again ≡ Rebuilt → ⊥
again_differs e = cc

first_differs : First ≡ Rebuilt → ⊥
first_differs e = cc

rebuilt_made : Rebuilt ≡ Kept → ⊥
rebuilt_made e = cc

again_made : Again ≡ Kept → ⊥
again_made e = cc

first_made : First ≡ Kept → ⊥
first_made e = cc

module _ {G : Type 0} where
  pub changes_on : (one two three : Cached G) → ChangesEntries one two → ChangesEntries two three → ChangesEntries one three
  changes_on one two three first second =
      second ∙ ap (λ (c : Cached G). record c { session = record c.session { client = three.session.client }; entries = three.entries }) first

  keeps_changed : (old new : Cached G) → ChangesEntries old new → KeepsName old.session.client new.session.client → KeepsMaking old new
  keeps_changed old new same name = record {
    start = ap (λ (c : Cached G). c.start) same;
    granter = ap (λ (c : Cached G). c.session.start) same;
    most = ap (λ (c : Cached G). c.most) same;
    name = name;
  }

  keeps_on : (one two three : Cached G) → KeepsMaking one two → KeepsMaking two three → KeepsMaking one three
  keeps_on one two three first second = record {
    start = second.start ∙ first.start;
    granter = second.granter ∙ first.granter;
    most = second.most ∙ first.most;
    name = name_on one.session.client two.session.client three.session.client first.name second.name;
  }

  use_on : (one two three : Cached G) → KeepsUse one two → KeepsUse two three → KeepsUse one three
  use_on one two three first second = λ tile_of size used. second tile_of size (first tile_of size used)

  module _ (tile : Tile) (old rested : Cached G) {moment : ℕ} (rests : Rests moment old rested) where
    most_same : rested.most ≡ old.most
    most_same = ap (λ (c : Cached G). c.most) rests.same

    shown_same : rested.shown ≡ old.shown
    shown_same = ap (λ (c : Cached G). c.shown) rests.same

    pages_same : pages_of rested.session.client ≡ pages_of old.session.client
    pages_same = ap (λ heap. size_of heap.segments) rests.heap

    left_same : left rested.most tile (tiles_of rested) ≡ left old.most tile (tiles_of old)
    left_same = rw (most_same, rests.tiles) refl

    entries_left : (entries : List Entry) → entries ≡ left_entries rested.most tile rested.entries → entries ≡ left_entries old.most tile (unlocked old.entries)
    entries_left entries is = is ∙ rw (most_same, rests.entries) refl

    brings : (told : Lock) (new : Cached G) → LocksEntry tile told rested new → BringsEntry tile told rested.session.client old new
    brings told new locks = record {
      piece = locks.piece;
      was_free = locks.was_free;
      locks = record { found = rw rests.entries at locks.found; locks = locks.locks };
      entries = locks.entries ∙ ap (λ es. (tile, part_after_lock told locks.piece) ∷ es) (entries_left locks.others locks.rest);
    }

    piece_kept : (new : Cached G) → LocksEntry tile lock.Held rested new → KeepsPiece tile old new
    piece_kept new locks =
        let (piece, found, run) = found_same tile rested.entries old.entries locks.piece (sym rests.tiles) (sym rests.runs) locks.found in
        let before : SameBytes piece.run old.session.client rested.session.client = found_all (λ (p : Part). SameBytes p.run old.session.client rested.session.client) tile old.entries piece found rests.bytes in
        record {
          piece = piece;
          found = found;
          shown = part_after_lock lock.Held locks.piece;
          others = locks.others;
          entries = locks.entries;
          run = sym run;
          bytes = rw (← run) at (locks.bytes refl) ∙ before (rw (← run) at (locks.there refl));
        }

    entry_before : (gone : Bool) (new : Cached G) (piece : Part) → lookup (is_same tile) rested.entries ≡ Some piece → is_gone new.session.client piece.run.segment ≡ gone → HasEntry gone tile old new
    entry_before gone new piece found is =
        let was = found_same tile rested.entries old.entries piece (sym rests.tiles) (sym rests.runs) found in
        (was.0, was.1, rw was.2 is)

    pub looked_kept : (new : Cached G) → LocksEntry tile lock.Held rested new → LooksUp moment Kept tile old new
    looked_kept new locks = record {
      rested = rested.session.client;
      rests = rests.unlocks;
      finds = brings lock.Held new locks;
      kept = λ is. piece_kept new locks;
      answer = entry_before false new locks.piece locks.found (locks.held refl);
      ready = record {
        piece = part_after_lock lock.Held locks.piece;
        others = locks.others;
        entries = locks.entries;
        locked = refl;
        there = locks.held refl;
        left = locks.left ∙ left_same;
        shown = rw shown_same at locks.shown;
      };
      some = omega (arith, locks.few, most_same);
      name = name_on old.session.client rested.session.client new.session.client rests.name locks.name;
      pages = omega (arith, locks.pages, pages_same);
      same = changes_on old rested new rests.same locks.same;
      used = use_on old rested new rests.used locks.used;
    }

    pub looked_gone : (new : Cached G) → LocksEntry tile lock.Gone rested new → LooksUp moment Rebuilt tile old new
    looked_gone new locks =
        let others : drop 1 new.entries ≡ locks.others = ap (drop 1) locks.entries in
        let most : new.most ≡ rested.most = ap (λ (c : Cached G). c.most) locks.same in
        record {
          rested = rested.session.client;
          rests = rests.unlocks;
          finds = brings lock.Gone new locks;
          kept = λ is. absurd (rebuilt_made is);
          answer = entry_before true new locks.piece locks.found (locks.gone refl);
          ready = record {
            can = record {
              lost = λ is. (locks.piece, locks.others, locks.entries, locks.gone refl);
              few = rw (others, most) locks.few;
              free = rw locks.entries (All-cons (λ (e : Entry). e.1.locked ≡ false) (tile, locks.piece) locks.others locks.was_free locks.free);
              absent = rw others locks.absent;
            };
            left = ap keys_of others ∙ (locks.left ∙ left_same);
          };
          some = omega (arith, locks.few, most_same);
          name = name_on old.session.client rested.session.client new.session.client rests.name locks.name;
          pages = omega (arith, locks.pages, pages_same);
          same = changes_on old rested new rests.same locks.same;
          used = use_on old rested new rests.used locks.used;
        }

    leaves_room : (none new : Cached G) → HasNone tile rested none → MakesRoom moment none new → LeavesRoom moment tile rested.session.client old new
    leaves_room none new has leaves =
        let leaves' : MakesRoom moment rested new = rw has.same at leaves in
        let kept : take (rested.most - 1) rested.entries ≡ left_entries rested.most tile rested.entries = ap (take (rested.most - 1)) (sym (remove_absent tile rested.entries has.none)) in
        let entries : new.entries ≡ left_entries old.most tile (unlocked old.entries) = entries_left new.entries (leaves'.left ∙ kept) in
        record {
          none = rw rests.entries at has.none;
          frees = rw (entries, rests.entries) at leaves'.frees;
          entries = entries;
        }

    ready_none : (now : ℕ) (told : Shown) (none new : Cached G) → others_of told new.entries ≡ new.entries → (told ≡ Rebuilt → ⊥) → HasNone tile rested none → MakesRoom now none new → IsReady told tile old new
    ready_none now told none new others differ has leaves =
        let most_none : none.most ≡ rested.most = ap (λ (c : Cached G). c.most) has.same in
        let entries : new.entries ≡ take (rested.most - 1) rested.entries = leaves.left ∙ rw has.same refl in
        let most : new.most ≡ rested.most = ap (λ (c : Cached G). c.most) leaves.same ∙ most_none in
        let keys : tiles_of new ≡ take (rested.most - 1) (tiles_of rested) = ap keys_of entries ∙ sym (take-map (λ (e : Entry). e.0) (rested.most - 1) rested.entries) in
        let absent : without tile (tiles_of rested) ≡ tiles_of rested = without_absent tile (tiles_of rested) (key_absent tile rested.entries has.none) in
        record {
          can = record {
            lost = λ is. absurd (differ is);
            few = rw (others, entries, most) (omega (arith, has.some, length-take (rested.most - 1) rested.entries));
            free = rw entries (All-take (λ (e : Entry). e.1.locked ≡ false) (rested.most - 1) rested.entries rests.free);
            absent = rw (others, entries) (absent_fewer tile (rested.most - 1) rested.entries has.none);
          };
          left = ap keys_of others ∙ (keys ∙ (ap (take (rested.most - 1)) (sym absent) ∙ left_same));
        }

    pub looked_none : (none new : Cached G) (told : Shown) → HasNone tile rested none → MakesRoom moment none new → told ≡ cond (has_tile new.shown tile) Again First → LooksUp moment told tile old new
    looked_none none new told has leaves kind =
        let now = moment in
        let finds = leaves_room none new has leaves in
        let shown : new.shown ≡ old.shown = ap (λ (c : Cached G). c.shown) leaves.same ∙ (ap (λ (c : Cached G). c.shown) has.same ∙ shown_same) in
        let some : 1 ≤ old.most = omega (arith, has.some, most_same) in
        let name = name_on old.session.client rested.session.client new.session.client rests.name (rw has.same at leaves.name) in
        let pages : pages_of new.session.client ≤ pages_of old.session.client = omega (arith, leaves.pages, ap (λ (c : Cached G). pages_of c.session.client) has.same, pages_same) in
        let same = changes_on old rested new rests.same (rw has.same at leaves.same) in
        let used = use_on old rested new rests.used (rw has.same at leaves.used) in
        let absent : has_tile (tiles_of old) tile ≡ false = rw rests.tiles at (key_absent tile rested.entries has.none) in
        subst (λ k. LooksUp moment k tile old new) (sym (kind ∙ ap (λ ts. cond (has_tile ts tile) Again First) shown)) (elim (has_tile old.shown tile) as (λ b. has_tile old.shown tile ≡ b → LooksUp moment (cond b Again First) tile old new) [
          | true ↦ λ is. record { rested = rested.session.client; rests = rests.unlocks; finds = finds; kept = λ same. absurd (again_made same); answer = (is, absent); ready = ready_none now Again none new refl again_differs has leaves; some = some; name = name; pages = pages; same = same; used = used }
          | false ↦ λ is. record { rested = rested.session.client; rests = rests.unlocks; finds = finds; kept = λ same. absurd (first_made same); answer = is; ready = ready_none now First none new refl first_differs has leaves; some = some; name = name; pages = pages; same = same; used = used }
        ] refl)

  session_looked : (old looked : Cached G) (ready : Seen) → ChangesEntries old looked → record looked.session { client = ready } ≡ record old.session { client = ready }
  session_looked old looked ready same = ap (λ (c : Cached G). record c.session { client = ready }) same

  steps_kept : (now : ℕ) (tile : Tile) (old looked : Cached G) → LooksUp now Kept tile old looked → ShowsInSteps now tile Kept old (record looked { counts = counted Kept looked.counts })
  steps_kept now tile old looked looks =
      let finds = looks.finds in
      record {
        ready = looked.session.client;
        looks = record { rested = looks.rested; rests = looks.rests; looks = (finds.piece, finds.locks) };
        piece = part_after_lock lock.Held finds.piece;
        shows = (finds.locks.found ∙ ap (λ b. Some (record finds.piece { locked = b })) finds.was_free, session_looked old looked looked.session.client looks.same);
        entries = finds.entries;
      }

  -- a look-up and what was freed after it, where the tile was not kept
  looks_made : (now : ℕ) (told : Shown) (tile : Tile) (rested ready : Seen) (old looked : Cached G) → (told ≡ Kept → ⊥) → FindsEntry now told tile rested old looked → FreesFirst now told looked.entries looked.session.client ready
      → LooksFor now old.most tile told (unlocked old.entries) rested ready × (others_of told looked.entries ≡ left_entries old.most tile (unlocked old.entries))
  looks_made now Kept tile rested ready old looked made finds frees = absurd (made refl)
  looks_made now Rebuilt tile rested ready old looked made finds frees =
      ((finds.piece, looked.session.client, finds.locks, frees (tile, finds.piece) (left_entries old.most tile (unlocked old.entries)) finds.entries), ap (drop 1) finds.entries)
  looks_made now First tile rested ready old looked made finds frees = ((finds.none, rw (← frees) at finds.frees), finds.entries)
  looks_made now Again tile rested ready old looked made finds frees = ((finds.none, rw (← frees) at finds.frees), finds.entries)

  shows_made : (told : Shown) (tile : Tile) (size : ℕ) (piece : Part) (entries : List Entry) (old new : Session G) → (told ≡ Kept → ⊥) → ComesWritten size piece old new → ShowsPiece told tile size piece entries old new
  shows_made Kept tile size piece entries old new made comes = absurd (made refl)
  shows_made Rebuilt tile size piece entries old new made comes = comes
  shows_made First tile size piece entries old new made comes = comes
  shows_made Again tile size piece entries old new made comes = comes

  steps_made : (now : ℕ) (told : Shown) (size : ℕ) (tile : Tile) (old looked added new : Cached G) → (told ≡ Kept → ⊥) → LooksUp now told tile old looked → AddsInSteps now told tile size looked added → added.tile_bytes ≡ size → Writes added new → ShowsInSteps now tile told old new
  steps_made now told size tile old looked added new made looks adds bytes writes =
      let ready = looks_made now told tile looks.rested adds.ready old looked made looks.finds adds.frees in
      let wrote = writes.wrote (tile, adds.piece) (others_of told looked.entries) adds.entries in
      let size_is : new.tile_bytes ≡ size = ap (λ (c : Cached G). c.tile_bytes) writes.same ∙ bytes in
      record {
        ready = adds.ready;
        looks = record { rested = looks.rested; rests = looks.rests; looks = ready.0 };
        piece = adds.piece;
        shows = rw size_is (shows_made told tile size adds.piece (unlocked old.entries) (record old.session { client = adds.ready }) new.session made (record {
          pages = adds.pages;
          wants = adds.wants;
          allocated = added.session;
          counted = subst (λ (s : Session G). AllocatesCounted adds.pages adds.piece s added.session) (session_looked old looked adds.ready looks.same) adds.counted;
          fresh = adds.fresh;
          bytes = wrote.0;
          written = ap (λ (c : Cached G). c.session) writes.same ∙ ap (λ (client : Seen). record added.session { client = client }) wrote.1;
        }));
        entries = ap (λ (c : Cached G). c.entries) writes.same ∙ (adds.entries ∙ ap (λ es. (tile, adds.piece) ∷ es) ready.1);
      }

  -- a get of a tile that was kept
  pub got_kept : (now : ℕ) (tile : Tile) (old looked : Cached G) → LooksUp now Kept tile old looked → Gets now tile Kept old (record looked { counts = counted Kept looked.counts })
  got_kept now tile old looked looks =
      let tiles : tiles_of looked ≡ tile ∷ left old.most tile (tiles_of old) = ap keys_of looks.ready.entries ∙ ap (λ ts. tile ∷ ts) looks.ready.left in
      let shown : looked.shown ≡ old.shown = ap (λ (c : Cached G). c.shown) looks.same in
      let counts : counted Kept looked.counts ≡ counted Kept old.counts = ap (counted Kept) (ap (λ (c : Cached G). c.counts) looks.same) in
      let keeps = keeps_changed old looked looks.same looks.name in
      let is : (other : Tile) → has_tile looked.shown other ≡ (is_same tile other || has_tile old.shown other) = λ other. ap (λ ts. has_tile ts other) shown ∙ sym (shown_already tile other old.shown looks.ready.shown) in
      record {
        steps = steps_kept now tile old looked looks;
        kept = λ is.
            let kept = looks.kept is in
            record { piece = kept.piece; found = kept.found; shown = kept.shown; others = kept.others; entries = kept.entries; run = kept.run; bytes = kept.bytes };
        answer = looks.answer;
        tiles = tiles;
        shown = is;
        counts = counts;
        asked = λ asked stands. stands_more asked tile Kept old (record looked { counts = counted Kept looked.counts }) looks.some looks.answer tiles is counts keeps.most stands;
        pages = omega (arith, looks.pages);
        keeps = record { start = keeps.start; granter = keeps.granter; most = keeps.most; name = keeps.name };
        failed = ap (λ (c : Cached G). c.failed) looks.same;
      }
    where
      shown_already : (tile other : Tile) (tiles : List Tile) → has_tile tiles tile ≡ true → (is_same tile other || has_tile tiles other) ≡ has_tile tiles other
      shown_already tile other tiles has =
          elim (cases_Bool (is_same tile other)) [
            | inl is ↦ rw is (sym (rw (same_is tile other is) has))
            | inr differ ↦ rw differ refl
          ]

  answer_on : (told : Shown) (tile : Tile) (old looked new : Cached G) → (told ≡ Kept → ⊥) → ((id : ℕ) → is_gone looked.session.client id ≡ true → is_gone new.session.client id ≡ true) → Answers told tile old looked → Answers told tile old new
  answer_on Kept tile old looked new made gone answer = absurd (made refl)
  answer_on Rebuilt tile old looked new made gone answer = (answer.0, answer.1, gone answer.0.run.segment answer.2)
  answer_on First tile old looked new made gone answer = answer
  answer_on Again tile old looked new made gone answer = answer

  pub ready_made : (told : Shown) (tile : Tile) (old looked : Cached G) → (told ≡ Kept → ⊥) → StandsReady told tile old looked → IsReady told tile old looked
  ready_made Kept tile old looked made ready = absurd (made refl)
  ready_made Rebuilt tile old looked made ready = ready
  ready_made First tile old looked made ready = ready
  ready_made Again tile old looked made ready = ready

  -- what a made tile adds, after it was written
  pub adds_written : (told : Shown) (tile : Tile) (size : ℕ) (old added new : Cached G) → Adds told tile size old added → Writes added new → Adds told tile size old new
  adds_written told tile size old added new adds writes = record {
    piece = adds.piece;
    entries = ap (λ (c : Cached G). c.entries) writes.same ∙ adds.entries;
    locked = adds.locked;
    shown = λ other. ap (λ (c : Cached G). has_tile c.shown other) writes.same ∙ adds.shown other;
    counts = ap (λ (c : Cached G). c.counts) writes.same ∙ adds.counts;
    pages = omega (arith, adds.pages, ap (λ heap. size_of heap.segments) writes.heap);
    gone = λ id was. rw writes.gone (adds.gone id was);
    bytes = ap (λ (c : Cached G). c.tile_bytes) writes.same ∙ adds.bytes;
    keeps = keeps_on old added new adds.keeps (record {
      start = ap (λ (c : Cached G). c.start) writes.same;
      granter = ap (λ (c : Cached G). c.session.start) writes.same;
      most = ap (λ (c : Cached G). c.most) writes.same;
      name = writes.name;
    });
    failed = ap (λ (c : Cached G). c.failed) writes.same ∙ adds.failed;
  }

  -- a get of a tile that was made
  pub got_made : (now : ℕ) (told : Shown) (size : ℕ) (tile : Tile) (old looked added made : Cached G) → (told ≡ Kept → ⊥) → LooksUp now told tile old looked → Adds told tile size looked added → AddsInSteps now told tile size looked added → Writes added made → Gets now tile told old made
  got_made now told size tile old looked added made new looks added_so steps writes =
      let adds = adds_written told tile size looked added made added_so writes in
      let ready = ready_made told tile old looked new looks.ready in
      let tiles : tiles_of made ≡ tile ∷ left old.most tile (tiles_of old) = ap keys_of adds.entries ∙ ap (λ ts. tile ∷ ts) ready.left in
      let shown : looked.shown ≡ old.shown = ap (λ (c : Cached G). c.shown) looks.same in
      let counts : made.counts ≡ counted told old.counts = adds.counts ∙ ap (λ (c : Cached G). counted told c.counts) looks.same in
      let keeps = keeps_on old looked made (keeps_changed old looked looks.same looks.name) adds.keeps in
      let is : (other : Tile) → has_tile made.shown other ≡ (is_same tile other || has_tile old.shown other) = λ other. adds.shown other ∙ ap (λ ts. is_same tile other || has_tile ts other) shown in
      let answer = answer_on told tile old looked made new adds.gone looks.answer in
      let granted : granted_pages looked.session.client (pages_for size) ≡ granted_pages old.session.client (pages_for size) = ap (max (pages_for size)) looks.name.standard in
      record {
        steps = steps_made now told size tile old looked added made new looks steps added_so.bytes writes;
        kept = λ is. absurd (new is);
        answer = answer;
        tiles = tiles;
        shown = is;
        counts = counts;
        asked = λ asked stands. stands_more asked tile told old made looks.some answer tiles is counts keeps.most stands;
        pages = rw adds.bytes (omega (arith, looks.pages, adds.pages, granted));
        keeps = keeps;
        failed = adds.failed ∙ ap (λ (c : Cached G). c.failed) looks.same;
      }

  -- a get that is out of memory
  pub got_none : (now : ℕ) (told : Shown) (size : ℕ) (tile : Tile) (old looked new : Cached G) → (told ≡ Kept → ⊥) → LooksUp now told tile old looked → AddsNone now told size looked new → Fails now tile old new
  got_none now told size tile old looked new made looks none =
      let ready = ready_made told tile old looked made looks.ready in
      let granted : granted_pages looked.session.client (pages_for size) ≡ granted_pages old.session.client (pages_for size) = ap (max (pages_for size)) looks.name.standard in
      let found = looks_made now told tile looks.rested none.ready old looked made looks.finds none.frees in
      record {
        steps = record {
          told = told;
          made = made;
          ready = none.ready;
          looks = record { rested = looks.rested; rests = looks.rests; looks = found.0 };
          none = rw none.bytes (subst (λ (s : Session G). NoneComes now size s new.session) (session_looked old looked none.ready looks.same) none.none);
          entries = none.entries ∙ found.1;
        };
        tiles = ap keys_of none.entries ∙ ready.left;
        shown = λ other. none.shown other ∙ ap (λ (c : Cached G). has_tile c.shown other) looks.same;
        counts = none.counts ∙ ap (λ (c : Cached G). c.counts) looks.same;
        pages = rw none.bytes (omega (arith, looks.pages, none.pages, granted));
        keeps = keeps_on old looked new (keeps_changed old looked looks.same looks.name) none.keeps;
        failed = none.failed;
      }

  -- what is lent of a tile that was kept
  pub lent_kept : {now : ℕ} (tile_of : Tile → List ℕ) (size : ℕ) (tile : Tile) (old looked : Cached G) → LooksUp now Kept tile old looked → IsUsedWith tile_of size looked → Lent tile (tile_of tile) looked
  lent_kept tile_of size tile old looked looks used =
      let shown = looks.ready in
      record {
        piece = shown.piece;
        others = shown.others;
        entries = shown.entries;
        locked = shown.locked;
        front = sym (All-head (λ (e : Entry). HasBytes looked.session.client looked.tile_bytes (tile_of e.0) e.1) (tile, shown.piece) shown.others (rw shown.entries at used.tiles) shown.there);
      }

  -- a count changes nothing of what is lent, and of the use
  pub lent_counted : (tile : Tile) (bytes : List ℕ) (cache : Cached G) (counts : Counts) → Lent tile bytes cache → Lent tile bytes (record cache { counts = counts })
  lent_counted tile bytes cache counts lent = record { piece = lent.piece; others = lent.others; entries = lent.entries; locked = lent.locked; front = lent.front }

  pub used_counted : (tile_of : Tile → List ℕ) (size : ℕ) (cache : Cached G) (counts : Counts) → IsUsedWith tile_of size cache → IsUsedWith tile_of size (record cache { counts = counts })
  used_counted tile_of size cache counts used = record { sized = used.sized; tiles = used.tiles }

pub made_is : (told : Shown) (n : ℕ) → (told ≡ Kept → ⊥) → made_after told n ≡ next_count n
made_is Kept n made = absurd (made refl)
made_is First n made = refl
made_is Rebuilt n made = refl
made_is Again n made = refl
