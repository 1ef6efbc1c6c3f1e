-- What calls of sources, sinks and files move. The bytes of an object are an Option: None where it does not
-- tell them.
use Rattle.std.specs.Prelude.{◌≡◌, ℕ, ◌<◌, ◌≤◌, List, [], ◌++◌, length, take, Option, Some, None, option_map}

-- a call took these bytes off the front of what was left, and the rest is left, where that is told
abbrev pub Took : Option (List ℕ) → List ℕ → Option (List ℕ) → Type 0
Took before taken after = before ≡ option_map (λ rest. taken ++ rest) after

-- nothing is left, where that is told
abbrev pub IsAtEnd : Option (List ℕ) → Type 0
IsAtEnd None = Unit {0}
IsAtEnd (Some bytes) = bytes ≡ []

-- a call took these bytes, and they are all that was left
pub record TookAll (before : Option (List ℕ)) (bytes : List ℕ) (after : Option (List ℕ)) : Type 0 where
  pub taken : Took before bytes after
  pub ended : IsAtEnd after

-- a call took some bytes, exactly this many
pub record TookExactly (before : Option (List ℕ)) (count : ℕ) (after : Option (List ℕ)) : Type 0 where
  pub bytes : List ℕ
  pub counted : length bytes ≡ count
  pub taken : Took before bytes after

-- a call took some bytes, at most this many
pub record TookAtMost (before : Option (List ℕ)) (most : ℕ) (after : Option (List ℕ)) : Type 0 where
  pub bytes : List ℕ
  pub within : length bytes ≤ most
  pub taken : Took before bytes after

-- what was written, where that is told, with these bytes at its end
abbrev pub appended : Option (List ℕ) → List ℕ → Option (List ℕ)
appended before bytes = option_map (λ written. written ++ bytes) before

-- a call wrote some front of these bytes
abbrev pub WroteFront : Option (List ℕ) → List ℕ → Option (List ℕ) → Type 0
WroteFront before bytes after = (n : ℕ) × (n ≤ length bytes) × (after ≡ appended before (take n bytes))

-- the bytes that stand somewhere, where that is told, are these
abbrev pub IsAllOf : Option (List ℕ) → List ℕ → Type 0
IsAllOf None bytes = Unit {0}
IsAllOf (Some standing) bytes = bytes ≡ standing

-- more than this many bytes stand somewhere, where that is told
abbrev pub Exceeds : Option (List ℕ) → ℕ → Type 0
Exceeds None most = Unit {0}
Exceeds (Some standing) most = most < length standing
