-- The entries stay while the client makes a step on another piece.
use Rattle.std.proofs.Common.{◌≡◌, ◌≢◌, ℕ, zero, suc, ◌+◌, ◌<◌, ◌≤◌, Bool, true, false, cond, List, [], ◌∷◌, length, take, drop, get_or, refl, sym, ap, subst, ◌∙◌, arith}
use Rattle.std.specs.List.{All, count_by}
use Rattle.std.proofs.lemmas.Bool.{eq-eqb, and_from, le-leb, lt-ltb, both_ways, false_from_ne_true}
use Rattle.std.proofs.lemmas.List.Elements.{All-head, All-tail, All-cons}
use Rattle.std.proofs.lemmas.List.Sums.{sum_by-cons}
use Rattle.tile_source.specs.declared.tile.Tile.{Tile}
use Rattle.span_heap.specs.declared.run.Run.{Run}
use Rattle.span_heap.specs.Run.{has_page}
use Rattle.client.specs.Seen.{Seen, is_gone}
use Rattle.client.specs.Pieces.{Part, Owns, Stays, AllStay, OthersStay, AreApart}
use Rattle.tile_cache.specs.Coming.{EntriesStay}
use Rattle.tile_cache.specs.Cached.{OwnsEntries, AreFree, HaveTiles, HasBytes, ShareNoPage, runs_of}

pub not_gone_before : (old new : Seen) (part : Part) → Stays old new part → is_gone new part.run.segment ≡ false → is_gone old part.run.segment ≡ false
not_gone_before old new part stays there = false_from_ne_true _ (λ gone. both_ways _ there (stays.gone gone))

pub owned_stay : (old new : Seen) (entries : List (Tile × Part)) → EntriesStay old new entries → All (λ (e : Tile × Part). Owns new e.1) entries
owned_stay old new entries stay = λ k d within. (stay k d within).owned

pub bytes_stay : (old new : Seen) (count : ℕ) (bytes : List ℕ) (part : Part) → Stays old new part → HasBytes old count bytes part → HasBytes new count bytes part
bytes_stay old new count bytes part stays has = λ there. ap (take count) (stays.bytes there) ∙ has (not_gone_before old new part stays there)

pub tiles_stay : (tile_of : Tile → List ℕ) (old new : Seen) (count : ℕ) (entries : List (Tile × Part)) → EntriesStay old new entries → HaveTiles tile_of old count entries → HaveTiles tile_of new count entries
tiles_stay tile_of old new count entries stay tiles =
    λ k d within. bytes_stay old new count (tile_of (get_or entries k d).0) (get_or entries k d).1 (stay k d within) (tiles k d within)

pub all_stay : (old new : Seen) (entries : List (Tile × Part)) → AllStay old new → All (λ (e : Tile × Part). Owns old e.1) entries → EntriesStay old new entries
all_stay old new entries stay owned = λ k d within. stay _ (owned k d within)

-- each of these runs is another than this one
abbrev pub AreOthers : Run → List (Tile × Part) → Type 0
AreOthers run entries = All (λ (e : Tile × Part). e.1.run ≢ run) entries

pub others_stay : (old new : Seen) (run : Run) (entries : List (Tile × Part)) → OthersStay run old new → All (λ (e : Tile × Part). Owns old e.1) entries → AreOthers run entries → EntriesStay old new entries
others_stay old new run entries stay owned others = λ k d within. stay _ (owned k d within) (others k d within)

pub has_first : (run : Run) → 1 ≤ run.pages → has_page run.segment run.first run ≡ true
has_first run some =
    and_from _ _ (eq-eqb run.segment run.segment refl) (and_from _ _ (le-leb run.first run.first (omega arith)) (lt-ltb run.first (run.first + run.pages) (omega (arith, some))))

counted_once : (run : Run) (entries : List (Tile × Part)) (k : ℕ) (d : Tile × Part) → k < length entries → 1 ≤ run.pages → (get_or entries k d).1.run ≡ run → 1 ≤ count_by (has_page run.segment run.first) (runs_of entries)
counted_once run (e ∷ entries) zero d within some same =
    omega (arith, sum_by-cons (λ r. cond {A = ℕ} (has_page run.segment run.first r) 1 0) e.1.run (runs_of entries), one)
  where
    one : cond {A = ℕ} (has_page run.segment run.first e.1.run) 1 0 ≡ 1
    one = rw (same, has_first run some) refl
counted_once run (e ∷ entries) (suc k) d within some same =
    omega (arith, sum_by-cons (λ r. cond {A = ℕ} (has_page run.segment run.first r) 1 0) e.1.run (runs_of entries), counted_once run entries k d (omega (arith, within)) some same)
counted_once run [] k d within some same = absurd (omega (arith, within))

-- where no page is in two of the runs, each of the others is another than the first
pub others_differ : (first : Run) (entries : List (Tile × Part)) → 1 ≤ first.pages → ShareNoPage (first ∷ runs_of entries) → AreOthers first entries
others_differ first entries some once = λ k d within same.
    let here : cond {A = ℕ} (has_page first.segment first.first first) 1 0 ≡ 1 = rw (has_first first some) refl in
    omega (
      arith,
      once first.segment first.first,
      here,
      sum_by-cons (λ r. cond {A = ℕ} (has_page first.segment first.first r) 1 0) first (runs_of entries),
      counted_once first entries k d within some same,
    )

-- the others of owned entries, and what is known of the first
pub owned_rest : (client : Seen) (tile : Tile) (piece : Part) (entries : List (Tile × Part)) → OwnsEntries client ((tile, piece) ∷ entries) → AreFree entries → OwnsEntries client entries
owned_rest client tile piece entries owned free = record {
  owned = All-tail (λ (e : Tile × Part). Owns client e.1) (tile, piece) entries owned.owned;
  free = rest entries free;
  some = All-tail (λ (run : Run). 1 ≤ run.pages) piece.run (runs_of entries) owned.some;
  once = λ id page. omega (arith, owned.once id page, sum_by-cons (λ r. cond {A = ℕ} (has_page id page r) 1 0) piece.run (runs_of entries));
}
  where
    rest : (es : List (Tile × Part)) → AreFree es → AreFree (drop 1 es)
    rest [] free = free
    rest (e ∷ es) free = All-tail (λ (e : Tile × Part). e.1.locked ≡ false) e es free

pub first_differs : (client : Seen) (tile : Tile) (piece : Part) (entries : List (Tile × Part)) → OwnsEntries client ((tile, piece) ∷ entries) → AreOthers piece.run entries
first_differs client tile piece entries owned =
    others_differ piece.run entries (All-head (λ (run : Run). 1 ≤ run.pages) piece.run (runs_of entries) owned.some) owned.once

-- a first entry with the run of another, whose others stay
pub owned_again : (old new : Seen) (tile : Tile) (was is : Part) (entries : List (Tile × Part)) → OwnsEntries old ((tile, was) ∷ entries) → is.run ≡ was.run → Owns new is → EntriesStay old new entries → OwnsEntries new ((tile, is) ∷ entries)
owned_again old new tile was is entries owned same now stay = record {
  owned = All-cons (λ (e : Tile × Part). Owns new e.1) (tile, is) entries now (owned_stay old new entries stay);
  free = owned.free;
  some = subst (λ r. All (λ (run : Run). 1 ≤ run.pages) (r ∷ runs_of entries)) (sym same) owned.some;
  once = subst (λ r. ShareNoPage (r ∷ runs_of entries)) (sym same) owned.once;
}

-- no page of a new piece is in an entry's
none_of : (id page : ℕ) (part : Part) (entries : List (Tile × Part)) → has_page id page part.run ≡ true → All (λ (e : Tile × Part). AreApart part.run e.1.run) entries → count_by (has_page id page) (runs_of entries) ≡ 0
none_of id page part [] has apart = refl
none_of id page part (e ∷ entries) has apart =
    let away : has_page id page e.1.run ≡ false = rw has at (All-head (λ (e : Tile × Part). AreApart part.run e.1.run) e entries apart id page) in
    let one : cond {A = ℕ} (has_page id page e.1.run) 1 0 ≡ 0 = rw away refl in
    omega (
      arith,
      one,
      sum_by-cons (λ r. cond {A = ℕ} (has_page id page r) 1 0) e.1.run (runs_of entries),
      none_of id page part entries has (All-tail (λ (e : Tile × Part). AreApart part.run e.1.run) e entries apart),
    )

pub once_more : (part : Part) (entries : List (Tile × Part)) → All (λ (e : Tile × Part). AreApart part.run e.1.run) entries → ShareNoPage (runs_of entries) → ShareNoPage (part.run ∷ runs_of entries)
once_more part entries apart once = λ id page. go id page (has_page id page part.run) refl
  where
    go : (id page : ℕ) (b : Bool) → has_page id page part.run ≡ b → count_by (has_page id page) (part.run ∷ runs_of entries) ≤ 1
    go id page true has =
        let one : cond {A = ℕ} (has_page id page part.run) 1 0 ≡ 1 = rw has refl in
        omega (arith, one, none_of id page part entries has apart, sum_by-cons (λ r. cond {A = ℕ} (has_page id page r) 1 0) part.run (runs_of entries))
    go id page false has =
        let one : cond {A = ℕ} (has_page id page part.run) 1 0 ≡ 0 = rw has refl in
        omega (arith, one, once id page, sum_by-cons (λ r. cond {A = ℕ} (has_page id page r) 1 0) part.run (runs_of entries))
