-- What contracts see of the objects in memory.
use Rattle.std.specs.Prelude.{ℕ, List, Contains}
use Rattle.units.specs.Count.{next_count}

-- the calls of an object: the numbers of those that fail, counted from 1, how many were made, and how often it failed
pub record Tally : Type 0 where
  pub failing : List ℕ
  pub made : ℕ
  pub faults : ℕ

-- no call was made yet
abbrev pub no_calls : List ℕ → Tally
no_calls failing = record { failing = failing; made = 0; faults = 0 }

-- the number of the next call is among those that fail
abbrev pub NextFails : Tally → Type 0
NextFails calls = Contains calls.failing (next_count calls.made)

-- one more call was made, and did not fail
abbrev pub one_more : Tally → Tally
one_more calls = record calls { made = next_count calls.made }

-- one more call was made, and failed
abbrev pub one_more_failed : Tally → Tally
one_more_failed calls = record calls { made = next_count calls.made; faults = next_count calls.faults }

-- a source in memory that never fails: the bytes left, and how many reads were made
pub record Supply : Type 0 where
  pub left : List ℕ
  pub reads : ℕ

-- a source in memory: the bytes left, the most that one call moves, and its calls
pub record Reading : Type 0 where
  pub left : List ℕ
  pub most : ℕ
  pub calls : Tally

-- a sink in memory: the bytes that it got, the most that it takes, the most that one call moves, and its calls
pub record Writing : Type 0 where
  pub written : List ℕ
  pub room : ℕ
  pub most : ℕ
  pub calls : Tally
