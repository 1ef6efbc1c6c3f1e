-- How a run of `tile` ends, by its status, and by what the file and the sink tell before it and after it. What is said of
-- bytes is said where they are told.
use Rattle.std.specs.Prelude.{◌≡◌, ℕ, List, [], ◌∷◌, Option}
use Rattle.units.specs.Count.{HasRisen}
use Rattle.discard_io.specs.declared.status.Status.{Status}
use Rattle.discard_io.specs.declared.status.Status.TheVariants.{Done, NoMemory, Usage, BadInput, ReadFault, WriteFault, FileFault}
use Rattle.discard_io.specs.Streams.{appended, WroteFront}
use Rattle.tile_source.specs.declared.tile.Tile.{Tile}
use Rattle.tile_source.specs.Image.{ImageValue}
use Rattle.tile_source.specs.Tile.{reply}
use Rattle.top_call.specs.ImageFile.{IsImage, IsNoImage}

-- what the file and the sink of a run tell: the bytes of the file, the bytes written, and how often each has failed
pub record Drives : Type 0 where
  pub file : Option (List ℕ)
  pub file_faults : ℕ
  pub written : Option (List ℕ)
  pub write_faults : ℕ

abbrev pub drives : Option (List ℕ) → ℕ → Option (List ℕ) → ℕ → Drives
drives file file_faults written write_faults =
    record { file = file; file_faults = file_faults; written = written; write_faults = write_faults }

-- the file is an image, and this text is its tile with its head
pub record IsTileText (side : ℕ) (tile : Tile) (file : Option (List ℕ)) (text : List ℕ) : Type 0 where
  pub image : ImageValue
  pub read : IsImage file image
  pub made : text ≡ reply image side (tile ∷ [])

-- the file is an image, and its tile was written
pub record TileDone (side : ℕ) (tile : Tile) (before after : Drives) : Type 0 where
  pub text : List ℕ
  pub right : IsTileText side tile before.file text
  pub written : after.written ≡ appended before.written text

-- the bytes of the file are refused, first at this place and for this cause, and nothing was written
pub record FileRefused (place cause : ℕ) (before after : Drives) : Type 0 where
  pub refused : IsNoImage before.file place cause
  pub unwritten : after.written ≡ before.written

-- the files failed, and nothing was written
pub record FilesFailed (before after : Drives) : Type 0 where
  pub fault : HasRisen before.file_faults after.file_faults
  pub unwritten : after.written ≡ before.written

-- the file is an image, and the sink failed when a front of its tile was written
pub record TileCut (side : ℕ) (tile : Tile) (before after : Drives) : Type 0 where
  pub fault : HasRisen before.write_faults after.write_faults
  pub text : List ℕ
  pub right : IsTileText side tile before.file text
  pub front : WroteFront before.written text after.written

-- how a tile with this status ended; it ends in no other way
abbrev pub TileEnds : ℕ → Tile → Status → Drives → Drives → Type 0
TileEnds side tile Done before after = TileDone side tile before after
TileEnds side tile (BadInput place cause) before after = FileRefused place cause before after
TileEnds side tile FileFault before after = FilesFailed before after
TileEnds side tile WriteFault before after = TileCut side tile before after
-- it was out of memory, and nothing was written
TileEnds side tile NoMemory before after = after.written ≡ before.written
TileEnds side tile Usage before after = ⊥
TileEnds side tile ReadFault before after = ⊥
