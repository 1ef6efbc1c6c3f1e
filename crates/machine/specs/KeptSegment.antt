use Rattle.std.specs.Prelude.{ℕ, Bool, List, Option}

-- What is kept of one segment: for each page whether it is held, until it is given back; the stamp; the known use; the
-- bytes, until it is purged or given back; and whether it is gone and given back.
pub record KeptSegment : Type 0 where
  pub held : List Bool
  pub stamp : ℕ
  pub known : Option ℕ
  pub bytes : List ℕ
  pub gone : Bool
  pub ended : Bool
