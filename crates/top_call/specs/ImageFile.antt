-- What the bytes of a file are: an image, or the first place where they are refused and the cause.
use Rattle.std.specs.Prelude.{◌≡◌, ℕ, nat_lt, if◌then◌else◌, List, length, Option, Result, Ok, Err}
use Rattle.units.specs.Count.{HasRisen}
use Rattle.discard_io.specs.declared.status.Status.{Status}
use Rattle.discard_io.specs.declared.status.Status.TheVariants.{NoMemory, BadInput, FileFault}
use Rattle.discard_io.specs.Streams.{IsAllOf}
use Rattle.tile_source.specs.declared.causes.TheConstants.{BAD_MAGIC, BAD_NUMBER, TOO_LARGE, SHORT, WIDE_SAMPLES, FILE_TOO_LONG}
use Rattle.tile_source.specs.declared.fault.PgmFault.{PgmFault}
use Rattle.tile_source.specs.declared.fault.PgmFault.TheVariants as fault
use Rattle.tile_source.specs.declared.limits.TheConstants.{MOST_FILE_BYTES}
use Rattle.tile_source.specs.Image.{ImageValue}
use Rattle.tile_source.specs.Pgm.{pgm_of}

-- where a file is refused, and for which cause
pub record FileRefusal : Type 0 where
  pub place : ℕ
  pub cause : ℕ

abbrev pub file_refusal : ℕ → ℕ → FileRefusal
file_refusal place cause = record { place = place; cause = cause }

-- the place and the cause for a fault of a file that has `len` bytes
abbrev pub refusal_of : ℕ → PgmFault → FileRefusal
refusal_of len fault.BadMagic = file_refusal 0 BAD_MAGIC
refusal_of len (fault.BadNumber at) = file_refusal at BAD_NUMBER
refusal_of len (fault.TooLarge at) = file_refusal at TOO_LARGE
refusal_of len (fault.Short have want) = file_refusal len SHORT
refusal_of len (fault.WideSamples at) = file_refusal at WIDE_SAMPLES
refusal_of len fault.NoMemory = file_refusal 0 0

abbrev pub or_refused : ℕ → Result ImageValue PgmFault → Result ImageValue FileRefusal
or_refused len (Ok image) = Ok image
or_refused len (Err why) = Err (refusal_of len why)

-- what the bytes of a file are: an image, or the first place where they are refused and the cause
abbrev pub image_of : List ℕ → Result ImageValue FileRefusal
image_of bytes =
    if nat_lt MOST_FILE_BYTES (length bytes) then Err (file_refusal MOST_FILE_BYTES FILE_TOO_LONG)
    else or_refused (length bytes) (pgm_of bytes)

-- what reading an image answers is what the bytes are, or it is out of memory
abbrev pub Reads : Result ImageValue Status → List ℕ → Type 0
Reads (Ok image) bytes = image_of bytes ≡ Ok image
Reads (Err (BadInput place cause)) bytes = image_of bytes ≡ Err (file_refusal place cause)
Reads (Err NoMemory) bytes = Unit {0}
Reads (Err _) bytes = ⊥

-- the status for a fault of a file that has `len` bytes
abbrev pub StatusFor : ℕ → PgmFault → Status → Type 0
StatusFor len fault.NoMemory status = status ≡ NoMemory
StatusFor len why status = status ≡ BadInput (refusal_of len why).place (refusal_of len why).cause

-- the bytes of the file are this image
pub record IsImage (file : Option (List ℕ)) (image : ImageValue) : Type 0 where
  pub bytes : List ℕ
  pub standing : IsAllOf file bytes
  pub read : image_of bytes ≡ Ok image

-- the bytes of the file are refused, first at this place and for this cause
pub record IsNoImage (file : Option (List ℕ)) (place cause : ℕ) : Type 0 where
  pub bytes : List ℕ
  pub standing : IsAllOf file bytes
  pub refused : image_of bytes ≡ Err (file_refusal place cause)

-- what reading the image in a file answers: the image that the file is, or where the file is refused; or the files failed, or
-- it was out of memory
abbrev pub ReadsFile : Result ImageValue Status → Option (List ℕ) → ℕ → ℕ → Type 0
ReadsFile (Ok image) file before after = IsImage file image
ReadsFile (Err (BadInput place cause)) file before after = IsNoImage file place cause
ReadsFile (Err FileFault) file before after = HasRisen before after
ReadsFile (Err NoMemory) file before after = Unit {0}
ReadsFile (Err _) file before after = ⊥
