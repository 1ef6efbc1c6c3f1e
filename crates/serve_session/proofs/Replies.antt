-- How long replies are, and what one more request adds.
use Rattle.std.proofs.Common.{◌≡◌, ℕ, ◌+◌, ◌*◌, ◌<◌, ◌≤◌, List, [], ◌++◌, length, inl, inr, sym, ◌∙◌, arith, length-append}
use Rattle.std.specs.Prelude.{decimal}
use Rattle.std.proofs.lemmas.Fmt.{length-decimal-le}
use Rattle.tile_source.specs.declared.tile.Tile.{Tile}
use Rattle.tile_source.specs.Length.{length-tile}
use Rattle.tile_source.specs.Pgm.{head}
use Rattle.serve_texts.specs.Config.{IsSide}
use Rattle.serve_session.specs.Tiling.{TilingValue, HoldReplies, bytes_of, reply_of, size_of}

-- a reply is a head and the bytes of a tile
pub length_reply : (t : TilingValue) (asked : Tile) → length (reply_of t asked) ≡ length (head t.side t.side t.image.maxval) + size_of t
length_reply t asked = length-append (head t.side t.side t.image.maxval) (bytes_of t asked) ∙ omega (arith, length-tile t.image asked.z asked.x asked.y t.side)

-- a side has at most 256 pixels
pub side_low : (side : ℕ) → IsSide side → side ≤ 256
side_low side (inl h) = omega arith
side_low side (inr (inl h)) = omega arith
side_low side (inr (inr h)) = omega arith

-- a tile has at most 65,536 bytes
pub square_low : (side : ℕ) → IsSide side → side * side ≤ 65536
square_low side (inl h) = rw h (omega arith)
square_low side (inr (inl h)) = rw h (omega arith)
square_low side (inr (inr h)) = rw h (omega arith)

-- and at least one
pub square_some : (side : ℕ) → IsSide side → 1 ≤ side * side
square_some side (inl h) = rw h (omega arith)
square_some side (inr (inl h)) = rw h (omega arith)
square_some side (inr (inr h)) = rw h (omega arith)

three_digits : (n : ℕ) → n < 1000 → length (decimal n) ≤ 3
three_digits n low = length-decimal-le 3 n (omega arith) low (omega arith)

-- a head has at most 15 bytes
pub head_short : (side maxval : ℕ) → side < 1000 → maxval < 1000 → length (head side side maxval) ≤ 15
head_short side maxval wide deep =
    simp length-append (omega (arith, three_digits side wide, three_digits maxval deep))

-- where a reply has room, its head has, and then its tile
pub reply_fits : (t : TilingValue) (asked : Tile) (size : ℕ) → HoldReplies t size → length (head t.side t.side t.image.maxval) + length (bytes_of t asked) ≡ size
reply_fits t asked size hold = sym (length-append (head t.side t.side t.image.maxval) (bytes_of t asked)) ∙ hold asked

-- a head that was written where nothing was, and a tile behind it
pub reply_written : (t : TilingValue) (asked : Tile) (old between new front back : List ℕ) → old ≡ [] → between ≡ old ++ front → new ≡ between ++ back
    → front ≡ head t.side t.side t.image.maxval → back ≡ bytes_of t asked → new ≡ reply_of t asked
reply_written t asked old between new front back none first second head_is tile_is = cc
