-- What a get does with the pieces of its client, in order.
use Rattle.std.specs.Prelude.{◌≡◌, ◌≢◌, ◌⊎◌, ℕ, ◌-◌, Bool, List, [], ◌∷◌, ◌++◌, take, Some, None, false}
use Rattle.std.specs.Map.{lookup, remove_entry}
use Rattle.segment.specs.declared.owner.Lock.{Lock}
use Rattle.segment.specs.declared.owner.Lock.TheVariants as lock
use Rattle.tile_source.specs.declared.tile.Tile.{Tile}
use Rattle.client.specs.Seen.{Seen}
use Rattle.client.specs.Pieces.{Part, IsNew, written_run}
use Rattle.client.specs.Sizes.{wanted}
use Rattle.client.specs.Calls.{AfterFree, LocksPart, Unlocks}
use Rattle.client.specs.Granting.{Session, AllocatesCounted, Misses}
use Rattle.tile_cache.specs.declared.counts.Shown.{Shown}
use Rattle.tile_cache.specs.declared.counts.Shown.TheVariants.{Kept, Rebuilt}
use Rattle.tile_cache.specs.Recent.{is_same}
use Rattle.tile_cache.specs.Cached.{Cached}

-- the entries after the first piece was unlocked
abbrev pub unlocked : List (Tile × Part) → List (Tile × Part)
unlocked [] = []
unlocked (first ∷ others) = (first.0, record first.1 { locked = false }) ∷ others

-- the entries that a get leaves beside the tile's, each with its piece: where there is no room, the last one leaves
abbrev pub left_entries : ℕ → Tile → List (Tile × Part) → List (Tile × Part)
left_entries n tile entries = take (n - 1) (remove_entry (is_same tile) entries)

-- the first piece was unlocked at the moment, where it was locked
abbrev pub UnlocksFirst : ℕ → List (Tile × Part) → Seen → Seen → Type 0
UnlocksFirst now [] old new = new ≡ old
UnlocksFirst now (first ∷ others) old new = Unlocks first.1 now old new

-- a piece was freed at the moment
abbrev pub FreesPiece : ℕ → Part → Seen → Seen → Type 0
FreesPiece now piece old new = (told : Bool) × AfterFree told piece now old new

-- the tile's entry has this piece, and the lock of it gave this answer
pub record LocksFound (tile : Tile) (told : Lock) (piece : Part) (entries : List (Tile × Part)) (old new : Seen) : Type 0 where
  pub found : lookup (is_same tile) entries ≡ Some piece
  pub locks : LocksPart piece told old new

-- where the last entry left, its piece was freed at the moment; where each was kept, nothing changed
pub record FreesLast (now : ℕ) (entries kept : List (Tile × Part)) (old new : Seen) : Type 0 where
  pub freed : (last : Tile × Part) → entries ≡ kept ++ last ∷ [] → FreesPiece now last.1 old new
  pub same : kept ≡ entries → new ≡ old

-- The tile was looked up among entries of which no piece is locked. Kept: its piece was locked. Rebuilt: the lock found the segment of its piece
-- gone, and the piece was freed. Else it has no entry, and the piece of an entry that left was freed.
abbrev pub LooksFor : ℕ → ℕ → Tile → Shown → List (Tile × Part) → Seen → Seen → Type 0
LooksFor now n tile Kept entries old new = (piece : Part) × LocksFound tile lock.Held piece entries old new
LooksFor now n tile Rebuilt entries old new = (piece : Part) × (lost : Seen) × LocksFound tile lock.Gone piece entries old lost × FreesPiece now piece lost new
LooksFor now n tile other entries old new = (lookup (is_same tile) entries ≡ None) × FreesLast now entries (left_entries n tile entries) old new

-- where a tile is rebuilt the first piece was freed at the moment, and else nothing changed
abbrev pub FreesFirst : ℕ → Shown → List (Tile × Part) → Seen → Seen → Type 0
FreesFirst now Rebuilt entries old new = (first : Tile × Part) (others : List (Tile × Part)) → entries ≡ first ∷ others → FreesPiece now first.1 old new
FreesFirst now other entries old new = new ≡ old

module _ {G : Type 0} where
  -- the client allocated a piece for a tile of so many bytes, new and locked; and then bytes were written to it, and nowhere else
  pub record ComesWritten (size : ℕ) (piece : Part) (old new : Session G) : Type 0 where
    pub pages : ℕ
    pub wants : wanted size ≡ Some pages
    pub allocated : Session G
    pub counted : AllocatesCounted pages piece old allocated
    pub fresh : IsNew pages old.client allocated.client piece
    pub bytes : List ℕ
    pub written : new ≡ record allocated { client = written_run allocated.client piece.run bytes }

  -- The piece that is shown. Kept: the tile's entry had it, and nothing more changed. Else it came now.
  abbrev pub ShowsPiece : Shown → Tile → ℕ → Part → List (Tile × Part) → Session G → Session G → Type 0
  ShowsPiece Kept tile size piece entries old new = (lookup (is_same tile) entries ≡ Some (record piece { locked = false })) × (new ≡ old)
  ShowsPiece other tile size piece entries old new = ComesWritten size piece old new

  -- the client allocated a piece for a tile of so many bytes, which was freed again at the moment
  pub record ComesAndGoes (now size : ℕ) (old new : Session G) : Type 0 where
    pub piece : Part
    pub pages : ℕ
    pub wants : wanted size ≡ Some pages
    pub allocated : Session G
    pub counted : AllocatesCounted pages piece old allocated
    pub freed : FreesPiece now piece allocated.client new.client
    pub same : new ≡ record allocated { client = new.client }

  -- out of memory: the client was not asked, or it found no pages, or a piece came and was freed again
  abbrev pub NoneComes : ℕ → ℕ → Session G → Session G → Type 0
  NoneComes now size old new = (new ≡ old) ⊎ (((pages : ℕ) × (wanted size ≡ Some pages) × Misses pages old.client new.client) ⊎ ComesAndGoes now size old new)

  -- before a tile of this answer is shown: the piece shown before was unlocked at the moment, and then the tile was looked up
  pub record LooksRested (now : ℕ) (tile : Tile) (told : Shown) (old : Cached G) (ready : Seen) : Type 0 where
    pub rested : Seen
    pub rests : UnlocksFirst now old.entries old.session.client rested
    pub looks : LooksFor now old.most tile told (unlocked old.entries) rested ready

  -- A tile of this answer was shown: it was looked up after the rest; its piece is the one that its entry had, or it came now; and that entry
  -- is in front of the entries that are left. So no piece of an entry that left stays with the client.
  pub record ShowsInSteps (now : ℕ) (tile : Tile) (told : Shown) (old new : Cached G) : Type 0 where
    pub ready : Seen
    pub looks : LooksRested now tile told old ready
    pub piece : Part
    pub shows : ShowsPiece told tile new.tile_bytes piece (unlocked old.entries) (record old.session { client = ready }) new.session
    pub entries : new.entries ≡ (tile, piece) ∷ left_entries old.most tile (unlocked old.entries)

  -- A tile was to be made, and there was no memory: it was looked up after the rest, no piece came, and the entries are those that are left.
  pub record FailsInSteps (now : ℕ) (tile : Tile) (old new : Cached G) : Type 0 where
    pub told : Shown
    pub made : told ≢ Kept
    pub ready : Seen
    pub looks : LooksRested now tile told old ready
    pub none : NoneComes now new.tile_bytes (record old.session { client = ready }) new.session
    pub entries : new.entries ≡ left_entries old.most tile (unlocked old.entries)
