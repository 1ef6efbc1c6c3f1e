-- How an entry comes and leaves.
use Rattle.std.specs.Prelude.{◌≡◌, ℕ, ◌+◌, ◌≤◌, true, ◌||◌, List, ◌∷◌, All, Some}
use Rattle.span_heap.specs.Heap.{size_of}
use Rattle.tile_source.specs.declared.tile.Tile.{Tile}
use Rattle.client.specs.Seen.{Seen, is_gone}
use Rattle.client.specs.Pieces.{Part, AllStay, IsNew, Stays}
use Rattle.units.specs.Sizes.{pages_for}
use Rattle.client.specs.Sizes.{wanted}
use Rattle.client.specs.Calls.{KeepsName}
use Rattle.client.specs.Granting.{Session, AllocatesCounted, granted_pages}
use Rattle.tile_cache.specs.declared.counts.Shown.{Shown}
use Rattle.tile_cache.specs.Recent.{is_same, has_tile}
use Rattle.tile_cache.specs.Cached.{OwnsEntries}
use Rattle.tile_cache.specs.Steps.{FreesFirst, NoneComes}
use Rattle.tile_cache.specs.Getting.{others_of}
use Rattle.tile_cache.specs.Accounts.{SameSegments}

-- each piece of these entries stays
abbrev pub EntriesStay : Seen → Seen → List (Tile × Part) → Type 0
EntriesStay old new entries = All (λ (e : Tile × Part). Stays old new e.1) entries

-- what was known to be gone still is
abbrev pub GoneStay : Seen → Seen → Type 0
GoneStay old new = (id : ℕ) → is_gone old id ≡ true → is_gone new id ≡ true

module _ {G : Type 0} where
  -- Where a tile is rebuilt its entry, the first, left, and its piece was freed at the moment. The others are owned, and stay.
  pub record Clears (now : ℕ) (told : Shown) (old new : Session G) (entries_then entries_now : List (Tile × Part)) : Type 0 where
    pub entries : entries_now ≡ others_of told entries_then
    pub frees : FreesFirst now told entries_then old.client new.client
    pub owned : OwnsEntries new.client (others_of told entries_then)
    pub stay : EntriesStay old.client new.client (others_of told entries_then)
    pub gone : new.client.gone ≡ old.client.gone
    pub name : KeepsName old.client new.client
    pub fits : size_of new.client.heap.segments ≤ size_of old.client.heap.segments
    pub segments : SameSegments old.client new.client
    pub same : new ≡ record old { client = new.client }

  -- A new piece came, for a tile of so many bytes, and its entry is in front. The tile is among those shown.
  pub record Comes (tile : Tile) (size : ℕ) (old new : Session G) (entries_then entries_now : List (Tile × Part)) (shown_then shown_now : List Tile) : Type 0 where
    pub piece : Part
    pub pages : ℕ
    pub wants : wanted size ≡ Some pages
    pub entries : entries_now ≡ (tile, piece) ∷ entries_then
    pub fresh : IsNew pages old.client new.client piece
    pub counted : AllocatesCounted pages piece old new
    pub stay : AllStay old.client new.client
    pub gone : GoneStay old.client new.client
    pub fits : size_of new.client.heap.segments ≤ size_of old.client.heap.segments + granted_pages old.client pages
    pub start : new.start ≡ old.start
    pub shown : (other : Tile) → has_tile shown_now other ≡ (is_same tile other || has_tile shown_then other)

  -- out of memory: no entry came, no piece is left behind, and each piece stays
  pub record ComesNone (now size : ℕ) (old new : Session G) (entries_then entries_now : List (Tile × Part)) (shown_then shown_now : List Tile) : Type 0 where
    pub entries : entries_now ≡ entries_then
    pub none : NoneComes now size old new
    pub stay : EntriesStay old.client new.client entries_then
    pub gone : GoneStay old.client new.client
    pub name : KeepsName old.client new.client
    pub fits : size_of new.client.heap.segments ≤ size_of old.client.heap.segments + granted_pages old.client (pages_for size)
    pub start : new.start ≡ old.start
    pub shown : (other : Tile) → has_tile shown_now other ≡ has_tile shown_then other
