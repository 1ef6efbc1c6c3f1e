-- What is seen of places, and of the frame that they are cut from.
use Rattle.std.specs.Prelude.{◌≡◌, ℕ, ◌-◌, List, [], ◌++◌, length, replicate, Option, Some, None}
use denote.RawPtr.{Ptr}
use Rattle.reply_places.specs.declared.block.Filled.{Filled}

-- memory for places: where it begins, how long each place is, and how many there are
pub record Roomy : Type 0 where
  pub base : Ptr
  pub size : ℕ
  pub count : ℕ

-- a place: its number, counted from 0, and the bytes that were appended to it
pub record Placed : Type 0 where
  pub number : ℕ
  pub bytes : List ℕ

-- A frame: how many places were handed out, the first that is joined to those behind it, and the bytes from this place on.
pub record Framed : Type 0 where
  pub given : ℕ
  pub from : ℕ
  pub bytes : List ℕ

-- these bytes, with zeros behind them up to a length
abbrev pub filled_up : ℕ → List ℕ → List ℕ
filled_up size xs = xs ++ replicate (size - length xs) 0

-- the bytes that were joined so far
abbrev pub bytes_of : Option Filled → List ℕ
bytes_of (Some filled) = filled.items
bytes_of None = []
