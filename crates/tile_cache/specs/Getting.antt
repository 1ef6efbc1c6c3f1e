-- What a get does.
use Rattle.std.specs.Prelude.{◌≡◌, ℕ, ◌+◌, ◌-◌, ◌<◌, ◌≤◌, Bool, true, false, ◌||◌, List, [], ◌∷◌, ◌++◌, take, drop, length, All, Some, None}
use Rattle.std.specs.Map.{keys_of, lookup}
use Rattle.span_heap.specs.Heap.{size_of}
use Rattle.segment.specs.declared.owner.Lock.{Lock}
use Rattle.segment.specs.declared.owner.Lock.TheVariants as lock
use Rattle.tile_source.specs.declared.tile.Tile.{Tile}
use Rattle.client.specs.Seen.{Seen, is_gone}
use Rattle.client.specs.Pieces.{Part, SameBytes, IsNew, bytes_of, part_after_lock, written_run}
use Rattle.units.specs.Sizes.{pages_for}
use Rattle.client.specs.Sizes.{wanted}
use Rattle.client.specs.Calls.{KeepsName, LocksPart}
use Rattle.client.specs.Granting.{granted_pages, AllocatesCounted}
use Rattle.tile_cache.specs.declared.counts.Shown.{Shown}
use Rattle.tile_cache.specs.declared.counts.Shown.TheVariants.{Kept, First, Rebuilt, Again}
use Rattle.tile_cache.specs.Recent.{is_same, has_tile, without}
use Rattle.tile_cache.specs.Shown.{counted}
use Rattle.tile_cache.specs.Asked.{StandsFor, Fits}
use Rattle.tile_cache.specs.Cached.{Cached, IsUsedWith, HaveTiles, tiles_of, runs_of, AreFree}
use Rattle.tile_cache.specs.Steps.{UnlocksFirst, FreesFirst, FreesLast, LocksFound, NoneComes, ShowsInSteps, FailsInSteps, unlocked, left_entries}

-- what a get leaves of the other entries' tiles: where there is no room, the last one leaves
abbrev pub left : ℕ → Tile → List Tile → List Tile
left n tile tiles = take (n - 1) (without tile tiles)

-- how many pages a client's segments have
abbrev pub pages_of : Seen → ℕ
pages_of client = size_of client.heap.segments

-- the entries beside the one that a get of this answer puts in front: where a tile is rebuilt, the first leaves
abbrev pub others_of : Shown → List (Tile × Part) → List (Tile × Part)
others_of Rebuilt entries = drop 1 entries
others_of other entries = entries

module _ {G : Type 0} where
  -- the tile has an entry, and the segment of its piece is known to be gone afterwards, or is not
  abbrev pub HasEntry : Bool → Tile → Cached G → Cached G → Type 0
  HasEntry gone tile old new = (piece : Part) × (lookup (is_same tile) old.entries ≡ Some piece) × (is_gone new.session.client piece.run.segment ≡ gone)

  -- Which answer comes when. Kept: the tile had an entry, and its piece is there. Rebuilt: it had one, and its piece is gone.
  -- First: the tile was never shown. Again: it was shown, and had no entry.
  abbrev pub Answers : Shown → Tile → Cached G → Cached G → Type 0
  Answers Kept tile old new = HasEntry false tile old new
  Answers Rebuilt tile old new = HasEntry true tile old new
  Answers First tile old new = has_tile old.shown tile ≡ false
  Answers Again tile old new = (has_tile old.shown tile ≡ true) × (has_tile (tiles_of old) tile ≡ false)

  -- what no get changes
  pub record KeepsMaking (old new : Cached G) : Type 0 where
    pub start : new.start ≡ old.start
    pub granter : new.session.start ≡ old.session.start
    pub most : new.most ≡ old.most
    pub name : KeepsName old.session.client new.session.client

  -- the piece is the first entry's, for this tile; it is locked, and these bytes are in front
  pub record Lent (tile : Tile) (bytes : List ℕ) (cache : Cached G) : Type 0 where
    pub piece : Part
    pub others : List (Tile × Part)
    pub entries : cache.entries ≡ (tile, piece) ∷ others
    pub locked : piece.locked ≡ true
    pub front : bytes ≡ take cache.tile_bytes (bytes_of cache.session.client piece.run)

  -- what is in front has the pages of the piece that the tile's entry had, with the bytes that it had
  pub record KeepsPiece (tile : Tile) (old new : Cached G) : Type 0 where
    pub piece : Part
    pub found : lookup (is_same tile) old.entries ≡ Some piece
    pub shown : Part
    pub others : List (Tile × Part)
    pub entries : new.entries ≡ (tile, shown) ∷ others
    pub run : shown.run ≡ piece.run
    pub bytes : bytes_of new.session.client piece.run ≡ bytes_of old.session.client piece.run

  -- A get at a moment that answers. The piece shown before was unlocked at it; the tile is now the first, and the others are left; and no piece
  -- is left behind. Kept: what is shown is the piece that its entry had, with the bytes that it had.
  pub record Gets (now : ℕ) (tile : Tile) (told : Shown) (old new : Cached G) : Type 0 where
    pub steps : ShowsInSteps now tile told old new
    pub kept : told ≡ Kept → KeepsPiece tile old new
    pub answer : Answers told tile old new
    pub tiles : tiles_of new ≡ tile ∷ left old.most tile (tiles_of old)
    pub shown : (other : Tile) → has_tile new.shown other ≡ (is_same tile other || has_tile old.shown other)
    pub counts : new.counts ≡ counted told old.counts
    pub asked : (asked : List Tile) → StandsFor asked old → Fits told old.most asked tile × StandsFor (asked ++ tile ∷ []) new
    pub pages : pages_of new.session.client ≤ pages_of old.session.client + granted_pages old.session.client (pages_for new.tile_bytes)
    pub keeps : KeepsMaking old new
    pub failed : new.failed ≡ old.failed

  -- A get at a moment that is out of memory. The piece shown before was unlocked at it; the tile has no entry, and the others are as a get
  -- leaves them; and no piece is left behind.
  pub record Fails (now : ℕ) (tile : Tile) (old new : Cached G) : Type 0 where
    pub steps : FailsInSteps now tile old new
    pub tiles : tiles_of new ≡ left old.most tile (tiles_of old)
    pub shown : (other : Tile) → has_tile new.shown other ≡ has_tile old.shown other
    pub counts : new.counts ≡ old.counts
    pub pages : pages_of new.session.client ≤ pages_of old.session.client + granted_pages old.session.client (pages_for new.tile_bytes)
    pub keeps : KeepsMaking old new
    pub failed : new.failed ≡ true

  -- only the client and the entries changed
  abbrev pub ChangesEntries : Cached G → Cached G → Type 0
  ChangesEntries old new = new ≡ record old { session = record old.session { client = new.session.client }; entries = new.entries }

  -- it was used with no other meaning than before
  abbrev pub KeepsUse : Cached G → Cached G → Type 0
  KeepsUse old new = (tile_of : Tile → List ℕ) (size : ℕ) → IsUsedWith tile_of size old → IsUsedWith tile_of size new

  -- The first piece was unlocked at a moment, where it was locked, and no other changed. Each has the bytes that it had, and the cache stands
  -- for the requests that it stood for.
  pub record Rests (now : ℕ) (old new : Cached G) : Type 0 where
    pub unlocks : UnlocksFirst now old.entries old.session.client new.session.client
    pub entries : new.entries ≡ unlocked old.entries
    pub bytes : All (λ (e : Tile × Part). SameBytes e.1.run old.session.client new.session.client) old.entries
    pub free : AreFree new.entries
    pub tiles : tiles_of new ≡ tiles_of old
    pub runs : runs_of new.entries ≡ runs_of old.entries
    pub heap : new.session.client.heap ≡ old.session.client.heap
    pub name : KeepsName old.session.client new.session.client
    pub same : ChangesEntries old new
    pub used : KeepsUse old new
    pub asked : (asked : List Tile) → StandsFor asked old → StandsFor asked new

  -- the tile's entry was brought to the front, and its piece was locked, or its segment found gone
  pub record LocksEntry (tile : Tile) (told : Lock) (old new : Cached G) : Type 0 where
    pub piece : Part
    pub found : lookup (is_same tile) old.entries ≡ Some piece
    pub locks : LocksPart piece told old.session.client new.session.client
    pub there : told ≡ lock.Held → is_gone old.session.client piece.run.segment ≡ false
    pub bytes : told ≡ lock.Held → bytes_of new.session.client piece.run ≡ bytes_of old.session.client piece.run
    pub shown : has_tile old.shown tile ≡ true
    pub others : List (Tile × Part)
    pub entries : new.entries ≡ (tile, part_after_lock told piece) ∷ others
    pub was_free : piece.locked ≡ false
    pub rest : others ≡ left_entries old.most tile old.entries
    pub left : keys_of others ≡ left old.most tile (tiles_of old)
    pub few : length others < old.most
    pub free : AreFree others
    pub absent : lookup (is_same tile) others ≡ None
    pub held : told ≡ lock.Held → is_gone new.session.client piece.run.segment ≡ false
    pub gone : told ≡ lock.Gone → is_gone new.session.client piece.run.segment ≡ true
    pub name : KeepsName old.session.client new.session.client
    pub pages : pages_of new.session.client ≤ pages_of old.session.client
    pub same : ChangesEntries old new
    pub used : KeepsUse old new

  -- the tile has no entry, and nothing changed
  pub record HasNone (tile : Tile) (old new : Cached G) : Type 0 where
    pub none : lookup (is_same tile) old.entries ≡ None
    pub some : 1 ≤ old.most
    pub same : new ≡ old

  -- the last entry left where there was no room, and its piece was freed at the moment
  pub record MakesRoom (now : ℕ) (old new : Cached G) : Type 0 where
    pub left : new.entries ≡ take (old.most - 1) old.entries
    pub frees : FreesLast now old.entries new.entries old.session.client new.session.client
    pub gone : new.session.client.gone ≡ old.session.client.gone
    pub name : KeepsName old.session.client new.session.client
    pub pages : pages_of new.session.client ≤ pages_of old.session.client
    pub same : ChangesEntries old new
    pub used : KeepsUse old new

  -- the first entry is the tile's, its piece is locked and there, and the others are left
  pub record IsShown (tile : Tile) (old new : Cached G) : Type 0 where
    pub piece : Part
    pub others : List (Tile × Part)
    pub entries : new.entries ≡ (tile, piece) ∷ others
    pub locked : piece.locked ≡ true
    pub there : is_gone new.session.client piece.run.segment ≡ false
    pub left : keys_of others ≡ left old.most tile (tiles_of old)
    pub shown : has_tile old.shown tile ≡ true

  -- the first entry is the tile's, and its piece is gone
  abbrev pub IsLost : Tile → Cached G → Type 0
  IsLost tile cache = (piece : Part) × (others : List (Tile × Part)) × (cache.entries ≡ (tile, piece) ∷ others) × (is_gone cache.session.client piece.run.segment ≡ true)

  -- A tile can be made, for a get of this answer: where it is Rebuilt its entry is the first, and lost; else it has none. There is room for
  -- it beside the others, and no piece is locked.
  pub record CanMake (told : Shown) (tile : Tile) (cache : Cached G) : Type 0 where
    pub lost : told ≡ Rebuilt → IsLost tile cache
    pub few : length (others_of told cache.entries) < cache.most
    pub free : AreFree cache.entries
    pub absent : lookup (is_same tile) (others_of told cache.entries) ≡ None

  -- it can be made, and the others are left
  pub record IsReady (told : Shown) (tile : Tile) (old new : Cached G) : Type 0 where
    pub can : CanMake told tile new
    pub left : keys_of (others_of told new.entries) ≡ left old.most tile (tiles_of old)

  abbrev pub StandsReady : Shown → Tile → Cached G → Cached G → Type 0
  StandsReady Kept tile old new = IsShown tile old new
  StandsReady other tile old new = IsReady other tile old new

  -- the tile's entry came to the front of those that are left, and the lock of its piece gave this answer
  pub record BringsEntry (tile : Tile) (told : Lock) (rested : Seen) (old new : Cached G) : Type 0 where
    pub piece : Part
    pub was_free : piece.locked ≡ false
    pub locks : LocksFound tile told piece (unlocked old.entries) rested new.session.client
    pub entries : new.entries ≡ (tile, part_after_lock told piece) ∷ left_entries old.most tile (unlocked old.entries)

  -- the tile has no entry, and the entries are those that are left
  pub record LeavesRoom (now : ℕ) (tile : Tile) (rested : Seen) (old new : Cached G) : Type 0 where
    pub none : lookup (is_same tile) (unlocked old.entries) ≡ None
    pub frees : FreesLast now (unlocked old.entries) (left_entries old.most tile (unlocked old.entries)) rested new.session.client
    pub entries : new.entries ≡ left_entries old.most tile (unlocked old.entries)

  -- what a look-up does after the rest, by its answer
  abbrev pub FindsEntry : ℕ → Shown → Tile → Seen → Cached G → Cached G → Type 0
  FindsEntry now Kept tile rested old new = BringsEntry tile lock.Held rested old new
  FindsEntry now Rebuilt tile rested old new = BringsEntry tile lock.Gone rested old new
  FindsEntry now other tile rested old new = LeavesRoom now tile rested old new

  -- A tile was looked up, after the piece that was shown was unlocked at a moment: it is shown, or all is ready to make it.
  pub record LooksUp (now : ℕ) (told : Shown) (tile : Tile) (old new : Cached G) : Type 0 where
    pub rested : Seen
    pub rests : UnlocksFirst now old.entries old.session.client rested
    pub finds : FindsEntry now told tile rested old new
    pub kept : told ≡ Kept → KeepsPiece tile old new
    pub answer : Answers told tile old new
    pub ready : StandsReady told tile old new
    pub some : 1 ≤ old.most
    pub name : KeepsName old.session.client new.session.client
    pub pages : pages_of new.session.client ≤ pages_of old.session.client
    pub same : ChangesEntries old new
    pub used : KeepsUse old new

  -- the pieces beside the first have the bytes of their tiles, as before
  abbrev pub KeepsBytes : ℕ → Cached G → Cached G → Type 0
  KeepsBytes size old new = (tile_of : Tile → List ℕ) → IsUsedWith tile_of size old → HaveTiles tile_of new.session.client size (drop 1 new.entries)

  -- An entry came in front, with a new locked piece; its tile counts as shown, and the get is counted. What was known to be gone still is.
  pub record Adds (told : Shown) (tile : Tile) (size : ℕ) (old new : Cached G) : Type 0 where
    pub piece : Part
    pub entries : new.entries ≡ (tile, piece) ∷ others_of told old.entries
    pub locked : piece.locked ≡ true
    pub shown : (other : Tile) → has_tile new.shown other ≡ (is_same tile other || has_tile old.shown other)
    pub counts : new.counts ≡ counted told old.counts
    pub pages : pages_of new.session.client ≤ pages_of old.session.client + granted_pages old.session.client (pages_for size)
    pub gone : (id : ℕ) → is_gone old.session.client id ≡ true → is_gone new.session.client id ≡ true
    pub bytes : new.tile_bytes ≡ size
    pub keeps : KeepsMaking old new
    pub failed : new.failed ≡ old.failed

  -- where a tile is rebuilt its dead piece, the first, was freed at the moment; and then the client allocated the piece of the new entry
  pub record AddsInSteps (now : ℕ) (told : Shown) (tile : Tile) (size : ℕ) (old new : Cached G) : Type 0 where
    pub ready : Seen
    pub frees : FreesFirst now told old.entries old.session.client ready
    pub piece : Part
    pub pages : ℕ
    pub wants : wanted size ≡ Some pages
    pub counted : AllocatesCounted pages piece (record old.session { client = ready }) new.session
    pub fresh : IsNew pages ready new.session.client piece
    pub entries : new.entries ≡ (tile, piece) ∷ others_of told old.entries

  -- Out of memory, no entry came. Where a tile is rebuilt its dead piece, the first, was freed at the moment; and no piece is left behind.
  pub record AddsNone (now : ℕ) (told : Shown) (size : ℕ) (old new : Cached G) : Type 0 where
    pub ready : Seen
    pub frees : FreesFirst now told old.entries old.session.client ready
    pub none : NoneComes now size (record old.session { client = ready }) new.session
    pub entries : new.entries ≡ others_of told old.entries
    pub shown : (other : Tile) → has_tile new.shown other ≡ has_tile old.shown other
    pub counts : new.counts ≡ old.counts
    pub pages : pages_of new.session.client ≤ pages_of old.session.client + granted_pages old.session.client (pages_for size)
    pub bytes : new.tile_bytes ≡ size
    pub keeps : KeepsMaking old new
    pub failed : new.failed ≡ true

  -- the first entry is the tile's, and its piece is locked
  abbrev pub IsFirst : Tile → Cached G → Type 0
  IsFirst tile cache = (piece : Part) × (others : List (Tile × Part)) × (cache.entries ≡ (tile, piece) ∷ others) × (piece.locked ≡ true)

  -- only bytes of the first piece were written
  pub record Writes (old new : Cached G) : Type 0 where
    pub wrote : (first : Tile × Part) (others : List (Tile × Part)) → old.entries ≡ first ∷ others
        → (bytes : List ℕ) × (new.session.client ≡ written_run old.session.client first.1.run bytes)
    pub heap : new.session.client.heap ≡ old.session.client.heap
    pub gone : new.session.client.gone ≡ old.session.client.gone
    pub name : KeepsName old.session.client new.session.client
    pub same : new ≡ record old { session = record old.session { client = new.session.client } }
