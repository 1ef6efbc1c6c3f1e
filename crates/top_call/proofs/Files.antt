-- A file that is too long.
use Rattle.std.proofs.Common.{◌≡◌, ℕ, ◌<◌, ◌+◌, true, List, [], ◌∷◌, length, Option, Some, None, Err, refl, arith, suc, zero, nat_lt}
use Rattle.std.proofs.lemmas.Bool.{lt-ltb}
use Rattle.discard_io.specs.Streams.{IsAllOf, Exceeds}
use Rattle.tile_source.specs.declared.causes.TheConstants.{FILE_TOO_LONG}
use Rattle.tile_source.specs.declared.limits.TheConstants.{MOST_FILE_BYTES}
use Rattle.top_call.specs.ImageFile.{image_of, file_refusal, IsNoImage}

long_refused : (bytes : List ℕ) → MOST_FILE_BYTES < length bytes → image_of bytes ≡ Err (file_refusal MOST_FILE_BYTES FILE_TOO_LONG)
long_refused bytes long =
    let is_long : nat_lt MOST_FILE_BYTES (length bytes) ≡ true = lt-ltb MOST_FILE_BYTES (length bytes) long in
    rw is_long refl

-- there are bytes of each length
zeros : (n : ℕ) → (bytes : List ℕ) × (length bytes ≡ n)
zeros zero = ([], refl)
zeros (suc n) = (0 ∷ (zeros n).0, rw ((zeros n).1) refl)

more_than : (n : ℕ) → (bytes : List ℕ) × (n < length bytes)
more_than n =
    let more = zeros (n + 1) in
    let long = more.1 in
    (more.0, omega arith)

long_file : (file : Option (List ℕ)) → Exceeds file MOST_FILE_BYTES → (bytes : List ℕ) × (IsAllOf file bytes × (MOST_FILE_BYTES < length bytes))
long_file None long = let more = more_than MOST_FILE_BYTES in (more.0, (tt, more.1))
long_file (Some standing) long = (standing, (refl, long))

-- a file that is too long is refused
pub too_long : (file : Option (List ℕ)) → Exceeds file MOST_FILE_BYTES → IsNoImage file MOST_FILE_BYTES FILE_TOO_LONG
too_long file long =
    let found = long_file file long in
    record { bytes = found.0; standing = found.1.0; refused = long_refused found.0 found.1.1 }
